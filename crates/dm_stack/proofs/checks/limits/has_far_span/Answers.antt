use Rattle.dm_stack.proofs.Prelude.{ap, ◌∙◌, list_any}
use Rattle.dm_stack.proofs.lines.SpanLemmas.{any_map}
use Rattle.dm_stack.proofs.checks.limits.has_far_span.Goals as goal

pub returns-in-Striped : goal.returns-in-Striped
returns-in-Striped c = rw (c.in-Striped.is, any_map) (c.has_far_column.ensures ∙ ap (list_any _) c.as_slice.ensures)
