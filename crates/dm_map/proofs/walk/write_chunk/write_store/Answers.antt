use Rattle.dm_map.proofs.Prelude.{ℕ, ap, ◌∙◌, arith, Lower, home, store_writes, write_to, keep, BlockUnit, WriteOf, units_in, StackState, WalkerView, lower_small}
use Rattle.dm_map.proofs.walk.ChunkCopies.{next_writes}
use Rattle.dm_map.proofs.walk.Rows.{added_then, walked_cut}
use Rattle.dm_map.proofs.walk.UnitRows.{left_row, took_row}
use Rattle.dm_map.proofs.walk.write_chunk.write_store.Goals as goal
use Rattle.std.specs.Prelude.{◌≡◌, ◌+◌, ◌-◌}

abbrev writes_to : WalkerView → Lower → ℕ → BlockUnit
writes_to walk store s = write_to (home walk.stack store s)

pub returns-in_err-piece : goal.returns-in_err-piece
returns-in_err-piece g c =
    let a = c.args in let w = a.walker.now in let l = c.loop-left in let h = c.first_homes-home in let n = h.result.len in let done = a.len - l.left in
    let next = next_writes w l.walker a.store.now a.sector a.len l.at l.left h.result l.invariant.going_on.same l.invariant.within l.invariant.position h.ensures.is in
    walked_cut g.S.Sink.past c.from_residual.result a.sink.now c.piece.new.self w h.new.walker (keep (store_writes w.stack a.store.now a.sector a.len) w.state) 0 c.from_residual.ensures.0
    (left_row g.met.S.Sink.lawful a.sink.now l.sink c.piece.new.self (writes_to w a.store.now) a.sector done n a.len (units_in (WriteOf h.result.disk h.result.start) n)
    (omega (arith, h.ensures.is.most, l.invariant.within)) next l.invariant.taken c.in_err-piece.ensures.left)
    (omega (arith, c.in_err-piece.ensures.faults, l.invariant.going_on.faults)) (ap (λ (v : StackState). v.stack) (h.ensures.same ∙ l.invariant.going_on.same))
    (added_then w.looked l.walker.looked h.new.walker.looked l.invariant.going_on.looked h.ensures.looked)

pub overflow_add-at : goal.overflow_add-at
overflow_add-at g c =
    let small = lower_small c.args.walker.now.stack c.args.store.now c.recall_soundness.ensures in
    omega (arith, small, c.requires.inside, c.loop-left.invariant.position, c.first_homes-home.ensures.is.most)

pub loop-left-preserved : goal.loop-left-preserved
loop-left-preserved g c =
    let a = c.args in let w = a.walker.now in let l = c.loop-left in let h = c.first_homes-home in let n = h.result.len in let done = a.len - l.left in
    let next = next_writes w l.walker a.store.now a.sector a.len l.at l.left h.result l.invariant.going_on.same l.invariant.within l.invariant.position h.ensures.is in
    let on : done + n ≡ a.len - (l.left - n) = omega (arith, h.ensures.is.most, l.invariant.within) in
    let taken = took_row g.met.S.Sink.lawful a.sink.now l.sink c.piece.new.self (writes_to w a.store.now) a.sector done n (units_in (WriteOf h.result.disk h.result.start) n) next l.invariant.taken c.in_ok-piece.ensures.took in
    record {
      taken = rw on at taken;
      within = omega (arith, l.invariant.within);
      position = omega (arith, l.invariant.position, h.ensures.is.most);
      going_on = record {
        same = h.ensures.same ∙ l.invariant.going_on.same;
        looked = added_then w.looked l.walker.looked h.new.walker.looked l.invariant.going_on.looked h.ensures.looked;
        stack = c.in_ok-piece.ensures.stack ∙ l.invariant.going_on.stack;
        room = omega (arith, c.in_ok-piece.ensures.room, l.invariant.going_on.room);
        faults = omega (arith, c.in_ok-piece.ensures.faults, l.invariant.going_on.faults);
      };
    }
