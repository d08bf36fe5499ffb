use Rattle.lvm_volume.proofs.tables.NamedLemmas.{origin_named, plain_named, store_named}
use Rattle.lvm_volume.proofs.tables.devices.add_devices.Goals as goal

pub own_device-requires-clause-name : goal.own_device-requires-clause-name
own_device-requires-clause-name c = plain_named c.args.group.now.name.now c.args.role c.args.volume.now c.requires.names c.in-Plain.is

pub own_device-requires-in-Origin-clause-name : goal.own_device-requires-in-Origin-clause-name
own_device-requires-in-Origin-clause-name c = (origin_named c.args.group.now.name.now c.args.role c.args.volume.now c.requires.names c.in-Origin.is).0

pub origin_device-requires-clause-layer : goal.origin_device-requires-clause-layer
origin_device-requires-clause-layer c = (origin_named c.args.group.now.name.now c.args.role c.args.volume.now c.requires.names c.in-Origin.is).0

pub origin_device-requires-clause-name : goal.origin_device-requires-clause-name
origin_device-requires-clause-name c = (origin_named c.args.group.now.name.now c.args.role c.args.volume.now c.requires.names c.in-Origin.is).1

pub own_device-requires-in-Store-clause-name : goal.own_device-requires-in-Store-clause-name
own_device-requires-in-Store-clause-name c = (store_named c.args.group.now.name.now c.args.role c.args.volume.now c.in-Store.snapshot c.requires.names c.in-Store.is).0

pub snapshot_device-requires-clause-layer : goal.snapshot_device-requires-clause-layer
snapshot_device-requires-clause-layer c = (store_named c.args.group.now.name.now c.args.role c.args.volume.now c.in-Store.snapshot c.requires.names c.in-Store.is).0

pub snapshot_device-requires-clause-name : goal.snapshot_device-requires-clause-name
snapshot_device-requires-clause-name c = (store_named c.args.group.now.name.now c.args.role c.args.volume.now c.in-Store.snapshot c.requires.names c.in-Store.is).1
