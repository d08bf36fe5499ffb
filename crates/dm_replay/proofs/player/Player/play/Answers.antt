use Rattle.dm_replay.proofs.Prelude.{refl, Gives, Failed}
use Rattle.dm_replay.specs.declared.value.Value.TheVariants as value
use Rattle.dm_replay.specs.declared.value_run.ValueRun.TheVariants as runs
use Rattle.dm_replay.proofs.PlayedLemmas.{drop_played, error_played, run_answered, zero_played}
use Rattle.dm_replay.proofs.player.Player.play.Goals as goal

pub returns-in_ok-answer-in-Zero-clause-played : goal.returns-in_ok-answer-in-Zero-clause-played
returns-in_ok-answer-in-Zero-clause-played c =
    let old = c.args.self.now.playing in let new = c.answer.new.self in let said = c.in_ok-answer-in-Zero.ensures in let n = c.in-Zero.len in
    rw c.in-Zero.is (zero_played old new n (run_answered old new (runs.Zero n) (Gives value.Zero) n refl refl said.values said.runs said.next said.number))

pub returns-in_ok-answer-in-Drop-clause-played : goal.returns-in_ok-answer-in-Drop-clause-played
returns-in_ok-answer-in-Drop-clause-played c =
    let old = c.args.self.now.playing in let new = c.answer-in-Drop.new.self in let said = c.in_ok-answer-in-Drop.ensures in let n = c.in-Drop.len in
    rw c.in-Drop.is (drop_played old new n (run_answered old new (runs.Zero n) (Gives value.Zero) n refl refl said.values said.runs said.next said.number))

pub returns-in_ok-answer-in-Error-clause-played : goal.returns-in_ok-answer-in-Error-clause-played
returns-in_ok-answer-in-Error-clause-played c =
    let old = c.args.self.now.playing in let new = c.answer-in-Error.new.self in let said = c.in_ok-answer-in-Error.ensures in let n = c.in-Error.len in
    rw c.in-Error.is (error_played old new n (run_answered old new (runs.Error n) Failed n refl refl said.values said.runs said.next said.number))
