-- one of the spans left names an unknown device or disk exactly if one of the line does
use Rattle.dm_stack.proofs.Prelude.{list_any, is_missing, names_missing}
use Rattle.dm_stack.proofs.lines.SpanLemmas.{spans_left}
use Rattle.dm_stack.proofs.checks.ranges.names_missing.Given as goal
use Rattle.std.specs.Prelude.{◌≡◌}

abbrev pub invariant-loop-span : goal.invariant-loop-span
invariant-loop-span l = list_any (λ span. is_missing l.stack span.to) (spans_left l.span-iterator) ≡ names_missing l.stack l.line
