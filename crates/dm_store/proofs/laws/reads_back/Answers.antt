use Rattle.dm_store.proofs.SpellingLemmas.{reads_back}
use Rattle.dm_store.proofs.laws.reads_back.Goals as goal

pub returns : goal.returns
returns c = reads_back c.args.store.now
