use Rattle.lvm_text.proofs.Prelude.{◌∙◌, sym}
use Rattle.lvm_text.proofs.KeyPositions.{position_many}
use Rattle.lvm_text.proofs.index.position_of.Goals as goal

pub returns-in-None : goal.returns-in-None
returns-in-None c =
    c.copied.ensures ∙ c.get.ensures.value ∙ c.requires c.args.key.now
    ∙ sym (position_many c.args.entries.now c.args.key.now c.min.result c.min.ensures (sym c.in-None.is ∙ c.position_among.ensures))
