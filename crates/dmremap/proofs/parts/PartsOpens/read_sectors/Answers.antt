use Rattle.dmremap.proofs.Prelude.{refl, ◌∙◌}
use Rattle.dmremap.proofs.PartsLemmas.{parts_places, parts_read}
use Rattle.dmremap.proofs.ReadLemmas.{asked_by}
use Rattle.dmremap.proofs.parts.PartsOpens.read_sectors.Goals as goal

pub returns-clause-did : goal.returns-clause-did
returns-clause-did g c = λ first has held seen.
    c.read_range.ensures.did held _ (parts_places g.P.Input.past c.args.stack.now first.paths _ _ c.load_images_if-places.result has.paths c.load_images_if-places.ensures.settled) seen

pub returns-clause-opened : goal.returns-clause-opened
returns-clause-opened g c = λ first has held seen. has.opened

pub returns-clause-read : goal.returns-clause-read
returns-clause-read g c = λ first has.
    let asked = asked_by g.P.Input.past c.args.stack.now _ _ c.load_images_if-places.result _ _ c.load_images_if-places.ensures.settled c.read_range.ensures.used in
    parts_read g.S.Input.past g.D.Input.past g.P.Input.past g.I.Images.IsSeen c.args.stack.now first c.args.self.now _ has refl refl c.load_images_if-places.ensures.read_on asked c.read_range.ensures.images

pub returns-clause-left : goal.returns-clause-left
returns-clause-left g c = λ memory first has. c.read_range.ensures.memory memory ∙ has.images
