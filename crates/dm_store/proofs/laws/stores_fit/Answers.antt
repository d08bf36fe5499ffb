use Rattle.dm_store.proofs.FittingLemmas.{always_fits}
use Rattle.dm_store.proofs.laws.stores_fit.Goals as goal

pub returns : goal.returns
returns c = always_fits c.args.store.now
