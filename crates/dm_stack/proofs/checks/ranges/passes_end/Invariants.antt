-- one of the spans left passes an end exactly if one of the line does
use Rattle.dm_stack.proofs.Prelude.{list_any, is_past}
use Rattle.dm_stack.specs.lines.Span.{passes_end}
use Rattle.dm_stack.proofs.lines.SpanLemmas.{spans_left}
use Rattle.dm_stack.proofs.checks.ranges.passes_end.Given as goal
use Rattle.std.specs.Prelude.{◌≡◌}

abbrev pub invariant-loop-span : goal.invariant-loop-span
invariant-loop-span l = list_any (is_past l.stack) (spans_left l.span-iterator) ≡ passes_end l.stack l.line
