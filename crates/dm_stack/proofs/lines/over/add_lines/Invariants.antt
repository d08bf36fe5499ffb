-- the snapshots so far are those of the lines so far
use Rattle.dm_stack.proofs.Prelude.{take, flat_map, over_of}
use Rattle.dm_stack.proofs.lines.over.add_lines.Given as goal
use Rattle.std.specs.Prelude.{◌≡◌, ◌++◌}

abbrev pub invariant-loop-line : goal.invariant-loop-line
invariant-loop-line l = l.over.items ≡ l.fn.over.items ++ flat_map (λ line. over_of l.stack l.device line.target) (take l.line-index l.lines)
