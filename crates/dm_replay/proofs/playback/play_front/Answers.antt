use Rattle.dm_replay.proofs.Prelude.{sym, ◌∙◌}
use Rattle.dm_replay.proofs.HaltedPlays.{front_all, front_halted}
use Rattle.dm_replay.proofs.Playbacks.{front_played, units_asked}
use Rattle.dm_replay.proofs.playback.play_front.Goals as goal

pub returns-in-Ok : goal.returns-in-Ok
returns-in-Ok g c =
    let mapper = c.args.mapper in let request = c.args.request.now in let device = c.args.device in let before = c.new-halting.result in let after = c.request.new.sink in
    let first = c.min-first.ensures ∙ rw (c.len.ensures.len, c.requires.stack) in
    let f = front_played mapper.stack request device c.args.units c.min-first.result mapper.state c.args.player.playing c.begin.new.self c.into_player.result before after first c.begin.ensures.playing
    (rw c.begin.ensures.stack c.requires.stack) c.new-halting.ensures.player c.new-halting.ensures.left c.requires.disks
    (front_all before after (units_asked mapper.stack request device mapper.state) c.in-Ok.ensures.took) c.into_player.ensures in
    record { next = f.next; played = record { stack = f.stack_is ∙ sym c.requires.stack; values = f.values; disks = f.disks } }

pub returns-in-Err-Sink : goal.returns-in-Err-Sink
returns-in-Err-Sink g c =
    let mapper = c.args.mapper in let request = c.args.request.now in let device = c.args.device in let before = c.new-halting.result in let after = c.request.new.sink in
    let first = c.min-first.ensures ∙ rw (c.len.ensures.len, c.requires.stack) in
    let f = front_played mapper.stack request device c.args.units c.min-first.result mapper.state c.args.player.playing c.begin.new.self c.into_player-in-Err-Sink.result before after first c.begin.ensures.playing
    (rw c.begin.ensures.stack c.requires.stack) c.new-halting.ensures.player c.new-halting.ensures.left c.requires.disks
    (front_halted before after (units_asked mapper.stack request device mapper.state) (rw c.in-Err-Sink.field-0-is at c.in-Err-Sink.ensures.failed).left c.new-halting.ensures.going c.if-halting.true) c.into_player-in-Err-Sink.ensures in
    record { next = f.next; played = record { stack = f.stack_is ∙ sym c.requires.stack; values = f.values; disks = f.disks } }
