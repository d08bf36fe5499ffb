use Rattle.dmremap.proofs.Prelude.{refl, ◌∙◌}
use Rattle.dmremap.proofs.PartsLemmas.{parts_begun, parts_read, refused_more}
use Rattle.dmremap.proofs.parts.PartsOpens.begin.Goals as goal

pub returns-clause-opened : goal.returns-clause-opened
returns-clause-opened g c = λ first has held seen. has.opened

pub returns-clause-begun : goal.returns-clause-begun
returns-clause-begun g c = λ first has held seen. parts_begun g.P.Input.past c.args.stack.now held first.paths _ _ c.begin_by.result has.paths (c.begin_by.ensures.begun held seen)

pub returns-clause-read : goal.returns-clause-read
returns-clause-read g c = λ first has. parts_read g.S.Input.past g.D.Input.past g.P.Input.past g.I.Images.IsSeen c.args.stack.now first c.args.self.now _ has refl refl c.begin_by.ensures.read_on c.begin_by.ensures.asked c.begin_by.ensures.images

pub returns-clause-left : goal.returns-clause-left
returns-clause-left g c = refused_more c.begin_by.result (λ refusal same memory first has. same memory ∙ has.images) c.begin_by.ensures.memory
