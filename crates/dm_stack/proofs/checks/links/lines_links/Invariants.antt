use Rattle.dm_stack.proofs.Prelude.{take, flat_map}
use Rattle.dm_stack.specs.lines.Span.{line_links}
use Rattle.dm_stack.proofs.checks.links.lines_links.Given as goal
use Rattle.std.specs.Prelude.{◌≡◌}

abbrev pub invariant-loop-line : goal.invariant-loop-line
invariant-loop-line l = l.links.items ≡ flat_map line_links (take l.line-index l.lines)
