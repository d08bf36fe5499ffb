use Rattle.dm_replay.proofs.Prelude.{sym}
use Rattle.dm_replay.proofs.WorldLemmas.{going_first}
use Rattle.dm_replay.proofs.replay.Replay.go_on.Goals as goal

pub invariant_of-result : goal.invariant_of-result
invariant_of-result g c =
    let stack = c.args.stack.now in let player = c.new in let needs = c.requires in
    record {
      tidy = c.in_ok-refuse_clash.ensures.tidy;
      tops_are = rw c.from_vec.ensures.items c.in-Ok.ensures;
      fits = rw c.of-start.ensures needs.fits;
      going = λ _. rw (c.new-2.ensures, c.new-3.ensures.items) (going_first stack player.result.stack.now c.of-start.result c.args.mapper player.result.playing.values.disks.items needs.going needs.stack (sym c.of-start.ensures) player.ensures.stack player.ensures.ranges);
    }
