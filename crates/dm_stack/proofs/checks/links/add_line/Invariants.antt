-- the links so far, with those of the spans left, are all links of the line
use Rattle.dm_stack.proofs.Prelude.{flat_map, lower_link}
use Rattle.dm_stack.specs.lines.Span.{line_links}
use Rattle.dm_stack.proofs.lines.SpanLemmas.{spans_left}
use Rattle.dm_stack.proofs.checks.links.add_line.Given as goal
use Rattle.std.specs.Prelude.{◌≡◌, ◌++◌}

abbrev pub invariant-loop-span : goal.invariant-loop-span
invariant-loop-span l = l.links.items ++ flat_map (λ span. lower_link span.to) (spans_left l.span-iterator) ≡ l.fn.links.items ++ line_links l.line
