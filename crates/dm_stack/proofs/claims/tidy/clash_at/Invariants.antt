-- none of the claims so far clashes with the later one
use Rattle.dm_stack.proofs.Prelude.{drop, clash_with}
use Rattle.dm_stack.proofs.claims.tidy.clash_at.Given as goal
use Rattle.std.specs.Prelude.{◌≡◌}

abbrev pub invariant-loop-earlier : goal.invariant-loop-earlier
invariant-loop-earlier l = clash_with (drop l.earlier-index l.earlier-items) l.later ≡ clash_with l.earlier-items l.later
