use Rattle.dmremap.proofs.Prelude.{None, ◌∙◌, ap, ap₂, list_any, fits, is_explained, table_of}
use Rattle.dmremap.proofs.explanation.is_explained.Goals as goal

pub returns : goal.returns
unfolding is_explained
returns c = c.has_entry.ensures ∙ ap₂ (λ word entries. list_any (fits None word) entries) c.word_in-word.ensures (c.table_of.ensures ∙ ap table_of c.word_in-word.ensures)
