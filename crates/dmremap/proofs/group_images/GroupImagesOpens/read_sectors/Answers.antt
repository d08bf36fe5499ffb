use Rattle.dmremap.proofs.Prelude.{inr, delivery}
use Rattle.dmremap.proofs.ReadLemmas.{listed_places}
use Rattle.dmremap.proofs.group_images.GroupImagesOpens.read_sectors.Goals as goal

pub returns-clause-did : goal.returns-clause-did
returns-clause-did g c = λ first has held seen.
    let listed = rw c.deref.ensures.value at c.listed_images-places.ensures.listed in
    let refused = rw c.deref.ensures.value at c.listed_images-places.ensures.refused in
    c.read_range.ensures.did held _ (listed_places (delivery (g.P.Input.past first.list) (g.P.Input.past c.args.self.now.list)) c.args.stack.now _ c.listed_images-places.result has.listed listed refused) seen

pub returns-clause-opened : goal.returns-clause-opened
returns-clause-opened g c = λ first has held seen. has.opened held (c.read_range.ensures.images held seen)

pub returns-clause-read : goal.returns-clause-read
returns-clause-read g c = λ first has. record { list = has.list; images = inr (_, has.listed) }

pub returns-clause-left : goal.returns-clause-left
returns-clause-left g c = λ memory first has. tt
