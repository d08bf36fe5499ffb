use Rattle.dm_replay.proofs.Prelude.{refl, Gives}
use Rattle.dm_replay.specs.declared.value.Value.TheVariants as value
use Rattle.dm_replay.specs.declared.value_run.ValueRun.TheVariants as runs
use Rattle.dm_replay.proofs.PlayedLemmas.{run_answered, write_played}
use Rattle.dm_replay.proofs.playing.Playing.write.Goals as goal

pub returns : goal.returns
returns c =
    let a = c.args in let old = a.self.now in let said = c.in_ok-answer.ensures in
    write_played old c.answer.new.self c.store.new.self a.disk a.start a.len
    (run_answered old c.answer.new.self (runs.Wrote old.number old.next a.len) (Gives (value.Wrote old.number old.next)) a.len refl refl said.values said.runs said.next said.number)
    c.in_ok-store.ensures
