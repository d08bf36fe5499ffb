use Rattle.dmremap.proofs.Prelude.{None, Some, refl}
use Rattle.dmremap.proofs.MessageWords.{cut}
use Rattle.dmremap.proofs.explanation.before.Goals as goal

pub returns-in-Some : goal.returns-in-Some
returns-in-Some c = rw (← cut c.args.mark.now c.args.text.now (Some (c.in-Some.front, c.in-Some.field-0-1)) c.requires c.in-Some.ensures.cases) refl

pub returns-in-None : goal.returns-in-None
returns-in-None c = rw (← cut c.args.mark.now c.args.text.now None c.requires c.in-None.ensures.cases) refl
