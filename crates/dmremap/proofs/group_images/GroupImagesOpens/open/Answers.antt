use Rattle.dmremap.proofs.Prelude.{inl, inr, refl, delivery}
use Rattle.dmremap.proofs.ImagesLemmas.{list_opened, list_refused, listed_again}
use Rattle.dmremap.proofs.OneImages.{one_images}
use Rattle.dmremap.proofs.PartsLemmas.{refused_any}
use Rattle.dmremap.proofs.group_images.GroupImagesOpens.open.Goals as goal

-- ---- the list was read

pub returns-in-Ok-clause-opened : goal.returns-in-Ok-clause-opened
returns-in-Ok-clause-opened g c = λ held seen. c.load_images.ensures.opened (delivery (g.P.Input.past c.args.self.now.list) (g.P.Input.past c.read_list.new.paths)) held c.in-Ok.ensures.given seen

pub returns-in-Ok-clause-open : goal.returns-in-Ok-clause-open
returns-in-Ok-clause-open g c =
    list_opened g.P.Input.past g.I.Images.IsSeen c.args.self.now _ c.load_images.result (listed_again _ _ _ c.in-Ok.ensures.given c.load_images.ensures.paths) (λ held seen. c.load_images.ensures.opened (delivery (g.P.Input.past c.args.self.now.list) (g.P.Input.past c.read_list.new.paths)) held c.in-Ok.ensures.given seen) c.read_list.ensures.read_on

pub returns-in-Ok-clause-read : goal.returns-in-Ok-clause-read
returns-in-Ok-clause-read g c = record { list = c.read_list.ensures.read_on; images = inr (_, c.in-Ok.ensures.given) }

pub returns-in-Ok-clause-left : goal.returns-in-Ok-clause-left
returns-in-Ok-clause-left g c = refused_any c.load_images.result (λ refusal memory. tt)

-- ---- the list was refused

pub returns-in-Err-clause-opened : goal.returns-in-Err-clause-opened
returns-in-Err-clause-opened g c = λ held seen. list_refused (delivery (g.P.Input.past c.args.self.now.list) (g.P.Input.past c.read_list.new.paths)) held c.in-Err.fault c.in-Err.ensures.refused

pub returns-in-Err-clause-read : goal.returns-in-Err-clause-read
returns-in-Err-clause-read g c = record { list = c.read_list.ensures.read_on; images = inl refl }

-- ---- at most one opening, a law of the definitions

pub returns-in-Ok-clause-one : goal.returns-in-Ok-clause-one
returns-in-Ok-clause-one g c = λ old new. one_images (delivery (g.P.Input.past old.list) (g.P.Input.past new.list))

pub returns-in-Err-clause-one : goal.returns-in-Err-clause-one
returns-in-Err-clause-one g c = λ old new. one_images (delivery (g.P.Input.past old.list) (g.P.Input.past new.list))
