use Rattle.dm_store.proofs.SpeltLemmas.{is_spelled}
use Rattle.dm_store.proofs.laws.is_spelled.Goals as goal

pub returns : goal.returns
returns c = is_spelled c.args.store.now
