use Rattle.dm_replay.proofs.Prelude.{rules, ap}
use Rattle.dm_replay.proofs.OfDiskLemmas.{piece_of}
use Rattle.dm_replay.proofs.player.PlayerSink.piece.Goals as goal

pub returns-in-Ok : goal.returns-in-Ok
returns-in-Ok c =
    let of = piece_of c.args.self.now.stack.now c.args.piece c.requires.lies in
    let stack = ap (λ s. s.now) c.play.ensures.stack in
    search rules
