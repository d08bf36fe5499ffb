use Rattle.dm_table.proofs.Prelude.{nat_lt, length, drop, list_all, texts}
use Rattle.dm_table.proofs.tables.line_body.are_filled.Given as goal
use Rattle.std.specs.Prelude.{◌≡◌}

abbrev pub invariant-loop-field : goal.invariant-loop-field
invariant-loop-field l = list_all (λ field. nat_lt 0 (length field)) (texts (drop l.field-index l.fields)) ≡ list_all (λ field. nat_lt 0 (length field)) (texts l.fields)
