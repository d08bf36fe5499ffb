use Rattle.lvm_volume.proofs.Prelude.{◌∙◌, sym, arith}
use Rattle.lvm_volume.proofs.group.OwnersLemmas.{letter_next, letters_end}
use Rattle.lvm_volume.proofs.group.owners.has_letters.Goals as goal

pub returns-in-None : goal.returns-in-None
returns-in-None c = sym (c.loop-letter.invariant ∙ letter_next c.loop-letter.rest.now c.as_bytes-letter-items.result.now c.loop-letter.letter-index c.loop-letter-test.true ∙ c.in-None.ensures _)

pub loop-letter-preserved : goal.loop-letter-preserved
loop-letter-preserved c = c.loop-letter.invariant ∙ letter_next c.loop-letter.rest.now c.as_bytes-letter-items.result.now c.loop-letter.letter-index c.loop-letter-test.true ∙ c.in-Some.ensures _

pub returns : goal.returns
returns c = letters_end c.loop-letter.rest.now c.as_bytes-letter-items.result.now c.loop-letter.letter-index (omega (arith, c.loop-letter-test.false)) ∙ sym c.loop-letter.invariant
