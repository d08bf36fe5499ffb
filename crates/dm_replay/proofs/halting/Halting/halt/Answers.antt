use Rattle.dm_replay.proofs.Prelude.{refl, ap, arith}
use Rattle.dm_replay.proofs.HaltedPlays.{cut_lies, halted_none, halted_piece}
use Rattle.dm_replay.proofs.halting.Halting.halt.Goals as goal

pub play-requires-clause-lies : goal.play-requires-clause-lies
play-requires-clause-lies c = cut_lies c.args.self.now.player.stack.now c.args.piece c.with_len-front.result c.with_len-front.ensures.first (omega (arith, c.with_len-front.ensures.len, c.requires.more)) c.requires.lies

pub returns-then-self-eq0-clause-halted : goal.returns-then-self-eq0-clause-halted
returns-then-self-eq0-clause-halted c = λ going halted. halted_none c.args.self.now _ c.args.piece c.if-self-eq0.true (omega (arith, c.requires.more)) refl

pub returns-in-Ok-clause-halted : goal.returns-in-Ok-clause-halted
returns-in-Ok-clause-halted c =
    let cut = c.with_len-front in
    λ going halted. halted_piece c.args.self.now _ c.args.piece cut.result c.requires.lies cut.ensures.first cut.ensures.len c.requires.more c.in-Ok.ensures.played (ap (λ s. s.now) c.play.ensures.stack)
