use Rattle.dm_stream.proofs.pieces.FewestLemmas.{fewest_is}
use Rattle.dm_stream.proofs.pieces.join.Join.finish.Goals as goal

pub returns-clause-fewest : goal.returns-clause-fewest
returns-clause-fewest g c = fewest_is
