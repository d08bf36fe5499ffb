use Rattle.dmremap.proofs.Prelude.{None, Some, refl}
use Rattle.dmremap.proofs.MessageWords.{cut}
use Rattle.dmremap.proofs.explanation.after.Goals as goal

pub returns-in-Some : goal.returns-in-Some
returns-in-Some c = rw (← cut c.args.mark.now c.args.text.now (Some (c.in-Some.field-0-0, c.in-Some.rest)) c.requires c.in-Some.ensures.cases) refl

pub returns-in-None : goal.returns-in-None
returns-in-None c = rw (← cut c.args.mark.now c.args.text.now None c.requires c.in-None.ensures.cases) refl
