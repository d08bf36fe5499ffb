-- the claims so far, with those of the spans left, are all claims of the line
use Rattle.dm_stack.proofs.Prelude.{false, map, list_any, is_past, line_claims}
use Rattle.dm_stack.specs.lines.Span.{span_claim}
use Rattle.dm_stack.proofs.lines.SpanLemmas.{spans_left}
use Rattle.dm_stack.proofs.claims.claim.add_line.Given as goal
use Rattle.std.specs.Prelude.{◌≡◌, ◌++◌}

abbrev pub invariant-loop-span : goal.invariant-loop-span
invariant-loop-span l = record {
  left : l.claims.items ++ map (span_claim l.stack l.device) (spans_left l.span-iterator) ≡ l.fn.claims.items ++ line_claims l.stack l.device l.line;
  inside : list_any (is_past l.stack) (spans_left l.span-iterator) ≡ false;
}
