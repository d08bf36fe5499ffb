-- `over` has those of the snapshots so far that have this origin
use Rattle.dm_stack.proofs.Prelude.{take, filter, is_same_lower}
use Rattle.dm_stack.proofs.lines.over.snapshots_over.Given as goal
use Rattle.std.specs.Prelude.{◌≡◌}

abbrev pub invariant-loop-one : goal.invariant-loop-one
invariant-loop-one l = l.over.items ≡ filter (λ one. is_same_lower one.snapshot.origin l.to) (take l.one-index l.all)
