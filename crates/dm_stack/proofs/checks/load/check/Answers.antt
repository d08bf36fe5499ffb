-- A fault of a check is returned, and the values made along the way are what the stack keeps.
use Rattle.dm_stack.proofs.Prelude.{[], ap, ◌∙◌, map, inr, take, first_fault-none, Description, resolved_device, stack_depth, snapshots, checks_before}
use Rattle.dm_stack.proofs.checks.HandedOn.{ends_within}
use Rattle.dm_stack.proofs.checks.LoadLemmas.{handed, made_ok}
use Rattle.dm_stack.proofs.checks.load.check.Goals as goal
use Rattle.dm_stack.proofs.checks.load.check.Goals.{In_ok-found}
use Rattle.std.specs.Prelude.{◌≡◌}

pub returns-in_err-names-clause-fault : goal.returns-in_err-names-clause-fault
returns-in_err-names-clause-fault c = handed _ _ _ c.from_residual.ensures.1 c.in_err-names.ensures.fault

pub new-indexed-requires-clause-small : goal.new-indexed-requires-clause-small
new-indexed-requires-clause-small c =
    let stack : Description = record { devices = c.args.devices.now; disks = c.args.disks.now } in
    ends_within stack (first_fault-none (take 3 (checks_before stack)) c.in_ok-names.ensures.passed).1.0

-- the devices with ids are those of the lists
by_ids : (c : In_ok-found) → c.in_ok-found.found.items ≡ map (resolved_device (record { devices = c.args.devices.now; disks = c.args.disks.now })) c.args.devices.now
by_ids c =
    made_ok c.resolved_devices.result c.in_ok-found.found (λ found. found.items ≡ map (resolved_device c.new-indexed.result) c.new-indexed.result.devices) c.in_ok-found.ensures.made c.resolved_devices.ensures
    ∙ ap (λ (stack : Description). map (resolved_device stack) stack.devices) c.new-indexed.ensures

pub returns-in_err-found-clause-fault : goal.returns-in_err-found-clause-fault
returns-in_err-found-clause-fault c = handed _ _ _ c.from_residual-in_err-found.ensures.1 (inr c.in_err-found.ensures.memory)

pub new-stack-requires : goal.new-stack-requires
new-stack-requires c = c.deref.ensures.value ∙ by_ids (goal.at.new-stack-requires c).In_ok-found

pub check_ids-requires : goal.check_ids-requires
check_ids-requires c = rw (c.new-stack.ensures) c.in_ok-names.ensures.passed

pub returns-in_err-depth-clause-fault : goal.returns-in_err-depth-clause-fault
returns-in_err-depth-clause-fault c = handed _ _ _ c.from_residual-in_err-depth.ensures.1 (rw (c.new-stack.ensures) at c.in_err-depth.ensures.fault)

pub returns-in_err-snapshots-clause-fault : goal.returns-in_err-snapshots-clause-fault
returns-in_err-snapshots-clause-fault c = handed _ _ _ c.from_residual-in_err-snapshots.ensures.1 (inr c.in_err-snapshots.ensures.memory)

pub returns-clause-loaded : goal.returns-clause-loaded
returns-clause-loaded c = record {
  sound = rw (c.new-stack.ensures) at c.in_ok-depth.ensures.sound;
  device_names = c.in_ok-names.ensures.devices;
  disk_names = c.in_ok-names.ensures.disks;
  found = by_ids (goal.at.returns-clause-loaded c).In_ok-found;
  depth = c.in_ok-depth.ensures.depth ∙ ap stack_depth c.new-stack.ensures;
  snapshots = made_ok c.snapshots.result c.in_ok-snapshots.snapshots (λ ids. ids.items ≡ snapshots (record { devices = c.args.devices.now; disks = [] })) c.in_ok-snapshots.ensures.made c.snapshots.ensures;
}
