use Rattle.dm_stack.proofs.Prelude.{ap, ◌∙◌, Device, Disk}
use Rattle.dm_stack.proofs.names.NameLemmas.{place_of_name}
use Rattle.dm_stack.proofs.names.indexed.Indexed.lower_of.Goals as goal

pub returns-in-Device : goal.returns-in-Device
returns-in-Device c =
    rw (← c.self.view_is, c.in-Device.is, ← c.as_str.ensures.text)
    (ap Device (c.new.ensures ∙ c.unwrap_or.ensures ∙ place_of_name (λ device. device.name) c.as_str.result.now c.self.inside.devices.now c.self.inside.device_names.now c.find-index.result c.self.invariant.device_names c.find-index.ensures))

pub returns-in-Disk : goal.returns-in-Disk
returns-in-Disk c =
    rw (← c.self.view_is, c.in-Disk.is, ← c.as_str-in-Disk.ensures.text)
    (ap Disk (c.new-in-Disk.ensures ∙ c.unwrap_or-in-Disk.ensures ∙ place_of_name (λ disk. disk.name) c.as_str-in-Disk.result.now c.self.inside.disks.now c.self.inside.disk_names.now c.find-index-in-Disk.result c.self.invariant.disk_names c.find-index-in-Disk.ensures))
