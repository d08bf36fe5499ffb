use Rattle.dm_store.proofs.ListedLemmas.{listed_more, said}
use Rattle.dm_store.proofs.RestartLemmas.{found_exact, listed_back, restart_found}
use Rattle.dm_store.proofs.laws.restarts.Goals as goal

pub returns-clause-back : goal.returns-clause-back
returns-clause-back c = λ disks state listed. listed_back c.args.stack.now disks state listed

pub returns-clause-said : goal.returns-clause-said
returns-clause-said c = λ disks left found is kept. said c.args.stack.now disks left found is kept

pub returns-clause-enough : goal.returns-clause-enough
returns-clause-enough c = λ disks others state more listed. listed_more c.args.stack.now disks others state more listed

pub returns-clause-found : goal.returns-clause-found
returns-clause-found c = λ zeros old new tidy keep own restart. restart_found zeros c.args.stack.now old new c.depth.ensures.sound tidy keep own restart

pub returns-clause-exact : goal.returns-clause-exact
returns-clause-exact c = λ zeros moment ample found none. found_exact zeros c.args.stack.now moment c.depth.ensures.sound ample found none
