use Rattle.dm_stack.proofs.Prelude.{ap, ◌∙◌, from_le_bytes, w64, le_bytes_8}
use Rattle.dm_stack.proofs.names.name_key.word_of.Goals as goal

pub returns : goal.returns
returns c = le_bytes_8 c.args.bytes.now _ c.requires (λ i. (c.type_inv.bytes i).fits) (c.from_le_bytes.ensures ∙ ap (from_le_bytes w64) c.as_array.ensures)
