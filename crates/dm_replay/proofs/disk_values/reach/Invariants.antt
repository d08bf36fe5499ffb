-- what is stored on the disks is unchanged so far
use Rattle.dm_replay.proofs.Prelude.{ℕ, length, values_of}
use Rattle.dm_replay.proofs.disk_values.reach.Given as goal
use Rattle.std.specs.Prelude.{◌≡◌, ◌-◌, ◌+◌}

abbrev pub invariant-loop-alloc : goal.invariant-loop-alloc
invariant-loop-alloc l = (disk sector : ℕ) → values_of l.disks.items disk sector ≡ values_of l.initial.disks.items disk sector

abbrev pub decreases-loop-alloc : goal.decreases-loop-alloc
decreases-loop-alloc l = l.index + 1 - length l.disks.items
