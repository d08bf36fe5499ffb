use Rattle.dmremap.proofs.Prelude.{None, inr, subst, delivery, IsBegunAt, Start}
use Rattle.dmremap.proofs.ImagesLemmas.{listed_start}
use Rattle.dmremap.proofs.PartsLemmas.{refused_any}
use Rattle.dmremap.proofs.group_images.GroupImagesOpens.begin.Goals as goal

pub returns-clause-opened : goal.returns-clause-opened
returns-clause-opened g c = λ first has held seen. has.opened held (c.begin_in.ensures.images held seen)

pub returns-clause-begun : goal.returns-clause-begun
returns-clause-begun g c = λ first has held seen.
    subst (λ (start : Start). IsBegunAt c.args.stack.now None start c.begin_in.result) (listed_start (delivery (g.P.Input.past first.list) (g.P.Input.past c.args.self.now.list)) held c.args.stack.now _ has.listed) (c.begin_in.ensures.begun held seen)

pub returns-clause-read : goal.returns-clause-read
returns-clause-read g c = λ first has. record { list = has.list; images = inr (_, has.listed) }

pub returns-clause-left : goal.returns-clause-left
returns-clause-left g c = refused_any c.begin_in.result (λ refusal memory first has. tt)
