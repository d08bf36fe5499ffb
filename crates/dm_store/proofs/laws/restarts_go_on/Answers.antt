use Rattle.dm_store.proofs.RestartLemmas.{restarts_found}
use Rattle.dm_store.proofs.laws.restarts_go_on.Goals as goal

pub returns : goal.returns
returns c = λ zeros first later tidy keep own each. restarts_found zeros c.args.stack.now first later c.depth.ensures.sound tidy keep own each
