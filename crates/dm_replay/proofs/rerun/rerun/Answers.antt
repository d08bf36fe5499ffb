use Rattle.dm_replay.proofs.Prelude.{refl, ap, ◌∙◌, slice_get_read, start_state, IsKept, at_index}
use Rattle.dm_replay.proofs.RerunLemmas.{rerun_first, rerun_next}
use Rattle.dm_replay.proofs.rerun.rerun.Goals as goal

pub map_again-requires-clause-kept : goal.map_again-requires-clause-kept
map_again-requires-clause-kept g c =
    let stack = c.args.stack.now in
    rw c.loop-kept.invariant.of (at_index (IsKept stack) c.args.writes.now c.loop-kept.kept-index c.kept-item.result c.requires (slice_get_read c.args.writes.now _ c.loop-kept.kept-index c.kept-item.result refl c.loop-kept-test.true c.kept-item.is))

pub loop-kept-init : goal.loop-kept-init
loop-kept-init g c =
    let stack = c.args.stack.now in let made = c.in_ok-mapper.ensures in let looked = c.looker.ensures.stack in
    rerun_first stack stack _ c.args.writes.now made.going (made.stack ∙ looked) refl (made.state ∙ ap start_state looked)

pub loop-kept-preserved : goal.loop-kept-preserved
loop-kept-preserved g c =
    let l = c.loop-kept in let did = c.map_again.ensures in
    rerun_next c.args.stack.now l.discard.stack.now c.map_again.new.discard.stack.now l.mapper c.map_again.new.mapper c.args.writes.now l.kept-index c.kept-item.result c.loop-kept-test.true c.kept-item.is l.invariant
    did.going did.stack did.discard did.state
