use Rattle.dmremap.proofs.images_load.listed_heads.Goals as goal

pub returns-clause-given : goal.returns-clause-given
returns-clause-given g c = λ held seen. rw c.deref-listed.ensures.value at (c.read_heads.ensures.given held seen)

pub returns-clause-refused : goal.returns-clause-refused
returns-clause-refused g c = λ held seen. rw c.deref-listed.ensures.value at (c.read_heads.ensures.refused held seen)
