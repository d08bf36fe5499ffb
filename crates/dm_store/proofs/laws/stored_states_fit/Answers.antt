use Rattle.dm_store.proofs.StateLemmas.{stored_exact, stored_fits, stored_own}
use Rattle.dm_store.proofs.laws.stored_states_fit.Goals as goal

pub returns-clause-start : goal.returns-clause-start
returns-clause-start g c = λ disks state is. stored_fits c.args.stack.now disks state c.depth.ensures.sound is

pub returns-clause-rows : goal.returns-clause-rows
returns-clause-rows g c =
    let stack = c.args.stack.now in let sound = c.depth.ensures.sound in
    record {
      own = λ zeros values disks state is. stored_own zeros stack disks state values sound is;
      exact = λ zeros values disks state ample none is. stored_exact zeros stack disks state values sound ample none is;
    }
