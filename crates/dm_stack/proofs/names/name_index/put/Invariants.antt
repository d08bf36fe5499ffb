use Rattle.dm_stack.proofs.Prelude.{length}
use Rattle.dm_stack.proofs.names.name_index.put.Given as goal
use Rattle.std.specs.Prelude.{◌≡◌, ◌≤◌, ◌-◌}

abbrev pub invariant-tries : goal.invariant-tries
invariant-tries l = (l.places.items ≡ l.fn.places.items) × (l.end ≤ length l.places.items)

abbrev pub decreases-tries : goal.decreases-tries
decreases-tries l = l.end - l.at
