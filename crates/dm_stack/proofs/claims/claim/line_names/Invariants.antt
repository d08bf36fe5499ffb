-- one of the spans left names the device exactly if one of the line does
use Rattle.dm_stack.proofs.Prelude.{list_any, is_device, line_names}
use Rattle.dm_stack.proofs.lines.SpanLemmas.{spans_left}
use Rattle.dm_stack.proofs.claims.claim.line_names.Given as goal
use Rattle.std.specs.Prelude.{◌≡◌}

abbrev pub invariant-loop-span : goal.invariant-loop-span
invariant-loop-span l = list_any (λ span. is_device l.device span.to) (spans_left l.span-iterator) ≡ line_names l.device l.line
