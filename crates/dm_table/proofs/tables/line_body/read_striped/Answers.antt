use Rattle.dm_table.proofs.Prelude.{ℕ, List, length, take, drop, refl, sym, ◌∙◌, rules, Column, Striped, then_in, columns_in, has_target_names, has_column_names, number_of, texts}
use Rattle.dm_table.proofs.tables.TargetRows.{striped_said, made_reading}
use Rattle.dm_table.proofs.tables.line_body.read_striped.Goals as goal
use Rattle.std.specs.Prelude.{◌-◌}

pub returns : goal.returns
returns c =
    let fs = c.args.arguments.now in
    rw (striped_said fs _ c.in-len1-up.len_at_least (sym c.is_count.ensures ∙ c.if-not-is_count.false), made_reading {X = ℕ × List Column} (λ said. has_column_names said.1) has_target_names (λ said. Striped said.0 said.1) (λ said. refl) (then_in number_of columns_in (texts (take (length fs - 1) (drop 1 fs)))))
    (search rules)
