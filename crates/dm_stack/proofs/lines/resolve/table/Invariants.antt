use Rattle.dm_stack.proofs.Prelude.{map, take, resolved_line}
use Rattle.dm_stack.proofs.lines.resolve.table.Given as goal
use Rattle.std.specs.Prelude.{◌≡◌}

abbrev pub invariant-loop-line : goal.invariant-loop-line
invariant-loop-line l = l.by_ids.items ≡ map (resolved_line l.stack) (take l.line-index l.lines)
