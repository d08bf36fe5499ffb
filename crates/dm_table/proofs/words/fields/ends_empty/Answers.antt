use Rattle.dm_table.proofs.Prelude.{◌∙◌}
use Rattle.dm_table.proofs.tables.TableFields.{ends_empty_by_place}
use Rattle.dm_table.proofs.words.fields.ends_empty.Goals as goal

pub returns-in-len1-up : goal.returns-in-len1-up
returns-in-len1-up c = c.is_empty.ensures ∙ ends_empty_by_place c.args.fields.now _ c.in-len1-up.len_at_least
