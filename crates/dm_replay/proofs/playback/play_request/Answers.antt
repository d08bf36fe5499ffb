use Rattle.dm_replay.proofs.Prelude.{length, sym, ◌∙◌, values_of, played}
use Rattle.dm_replay.proofs.OfDiskLemmas.{played_of, runs_played_of, same_of}
use Rattle.dm_replay.proofs.OneRuns.{one_runs}
use Rattle.dm_replay.proofs.Playbacks.{playback_answers, playback_values, units_asked}
use Rattle.dm_replay.proofs.playback.play_request.Goals as goal

pub returns-in-Ok-clause-played : goal.returns-in-Ok-clause-played
returns-in-Ok-clause-played g c =
    let a = c.args in let r = a.request.now in let units = units_asked a.mapper.now.stack r a.device a.mapper.now.state in let disks = length a.mapper.now.stack.disks in
    let first = c.min-first.ensures ∙ rw (c.len.ensures.len, c.requires.stack) in
    let on = rw (c.begin.ensures.stack, c.requires.stack) at c.in-Ok.ensures.took.1 in
    let held = values_of a.player.now.playing.values.disks.items in
    let values = playback_values a.player.now.playing c.begin.new.self.playing c.request.new.sink.playing c.take_runs.new.self.playing a.mapper.now.stack r a.device c.min-first.result a.mapper.now.state
    first c.begin.ensures.playing c.take_runs.ensures.values c.in-Ok.ensures.took.0 in
    record {
      stack = rw (c.take_runs.ensures.stack, c.in-Ok.ensures.took.2, c.begin.ensures.stack);
      values = values;
      disks = same_of disks (played r.number r.start units held) (values_of c.take_runs.new.self.playing.values.disks.items) values (played_of disks r.number r.start units held on c.requires.disks);
    }

pub returns-in-Ok-clause-answers : goal.returns-in-Ok-clause-answers
returns-in-Ok-clause-answers g c =
    let a = c.args in let r = a.request.now in let units = units_asked a.mapper.now.stack r a.device a.mapper.now.state in let disks = length a.mapper.now.stack.disks in
    let first = c.min-first.ensures ∙ rw (c.len.ensures.len, c.requires.stack) in
    let on = rw (c.begin.ensures.stack, c.requires.stack) at c.in-Ok.ensures.took.1 in
    let runs = c.take_runs.result.items in
    let are = playback_answers a.player.now.playing c.begin.new.self.playing c.request.new.sink.playing runs a.mapper.now.stack r a.device c.min-first.result a.mapper.now.state
    first c.begin.ensures.playing c.take_runs.ensures.runs c.in-Ok.ensures.took.0 in
    record {
      are = are;
      maximal = c.take_runs.ensures.maximal;
      one = λ others maximal same. one_runs others runs maximal c.take_runs.ensures.maximal (same ∙ sym are);
      on = runs_played_of disks r.number r.start units (values_of a.player.now.playing.values.disks.items) runs are c.take_runs.ensures.maximal.some on c.requires.disks;
    }
