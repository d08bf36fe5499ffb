use Rattle.dm_stack.proofs.Prelude.{get_or}
use Rattle.dm_stack.proofs.checks.LoadLemmas.{no_ring, ring_fault}
use Rattle.dm_stack.proofs.checks.load.check_cycles.Goals as goal

pub returns-in-Some-clause-fault : goal.returns-in-Some-clause-fault
returns-in-Some-clause-fault c =
    let ring = rw c.in-Some.is at c.requires in
    ring_fault c.args.stack.now c.in-Some.device (get_or c.devices.result.now c.in-Some.device c.index-devices-device.result) c.index-devices-device.result ring
    (cc)

pub returns-in-None-clause-passed : goal.returns-in-None-clause-passed
returns-in-None-clause-passed c = no_ring c.args.stack.now (rw c.in-None.is at c.requires)
