use Rattle.dm_replay.proofs.PlayedLemmas.{fill_played}
use Rattle.dm_replay.proofs.playing.Playing.fill.Goals as goal

pub returns : goal.returns
returns c = fill_played c.args.self.now c.store.new.self c.args.disk c.args.start c.args.len c.in_ok-store.ensures
