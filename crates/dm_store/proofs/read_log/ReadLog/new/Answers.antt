use Rattle.dm_store.proofs.Prelude.{refl, Agrees, given_total, path_total}
use Rattle.dm_store.proofs.read_log.ReadLog.new.Goals as goal

pub invariant_of-result : goal.invariant_of-result
unfolding given_total path_total
invariant_of-result c = (rw (c.new.ensures, c.new-2.ensures) refl, rw (c.new.ensures, c.new-3.ensures) refl)

pub returns-clause-all : goal.returns-clause-all
unfolding Agrees
returns-clause-all c = λ held. rw c.new.ensures tt
