-- the claims so far are those of the lines so far
use Rattle.dm_stack.proofs.Prelude.{take, flat_map, line_claims}
use Rattle.dm_stack.proofs.claims.claim.add_lines.Given as goal
use Rattle.std.specs.Prelude.{◌≡◌, ◌++◌}

abbrev pub invariant-loop-line : goal.invariant-loop-line
invariant-loop-line l = l.claims.items ≡ l.fn.claims.items ++ flat_map (line_claims l.stack l.device) (take l.line-index l.lines)
