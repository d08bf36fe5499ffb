use Rattle.dm_stack.proofs.Prelude.{length, Some, refl, slice_get, slice_get_read}
use Rattle.dm_stack.proofs.SoundLines.{disk_some, disk_small}
use Rattle.dm_stack.proofs.stack.Stack.disk_len.Goals as goal
use Rattle.std.specs.Prelude.{◌≡◌, ◌<◌}

-- the disk read is the one with this id
disk_read : (c : goal.After-index-as_slice-index) → slice_get c.self.inside.disks c.args.disk ≡ Some c.index-as_slice-index.result
disk_read c =
    let disks = c.self.inside.disks in
    let disk = c.index-as_slice-index.result in
    let within : c.args.disk < length disks = rw (← c.self.view_is) at c.requires in
    let there = rw c.as_slice.ensures at c.index-as_slice-index.is in
    let is = rw c.index.ensures at there in
    slice_get_read disks (length disks) c.args.disk disk refl within is

-- a disk of a sound stack has at least one sector
pub returns-clause-size : goal.returns-clause-size
returns-clause-size c =
    let disk = c.index-as_slice-index.result in
    let is = disk_read c in
    rw (← c.index-as_slice-index.is) (record { some = disk_some _ c.args.disk disk c.self.invariant.sound is; small = disk_small _ c.args.disk disk c.self.invariant.sound is })
