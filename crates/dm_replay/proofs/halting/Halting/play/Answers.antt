use Rattle.dm_replay.proofs.Prelude.{refl, ap, arith}
use Rattle.dm_replay.proofs.HaltedPlays.{taken_piece}
use Rattle.dm_replay.proofs.halting.Halting.play.Goals as goal

pub returns-clause-took : goal.returns-clause-took
returns-clause-took c = taken_piece c.args.self.now _ c.args.piece c.requires.lies c.in-Ok.ensures.played (omega (arith, c.len-2.ensures, c.len.ensures)) (ap (λ s. s.now) c.play.ensures.stack) refl
