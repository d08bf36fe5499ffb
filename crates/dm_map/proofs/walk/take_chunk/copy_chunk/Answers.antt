use Rattle.dm_map.proofs.Prelude.{ℕ, true, refl, sym, ap, subst, ◌∙◌, arith, both_ways, leb-true, Lower, place, Stretch, IsFirstHomes, copies, reads_all, keep, IsFirstOf, units_of, StackState, WalkerView, lower_small, MOST_DEPTH}
use Rattle.dm_map.specs.declared.walk.stretch.Ground.TheVariants.{Fails}
use Rattle.dm_map.proofs.walk.ChunkCopies.{copy_next, copy_of, fails_on, first_seen, reads_on}
use Rattle.dm_map.proofs.walk.Rows.{added_then, walked_cut}
use Rattle.dm_map.proofs.walk.UnitRows.{left_row, took_row}
use Rattle.dm_map.proofs.walk.take_chunk.copy_chunk.Goals as goal
use Rattle.std.specs.Prelude.{◌≡◌, ◌+◌, ◌-◌, ◌*◌, ◌≤◌}

pub store_start-to-requires : goal.store_start-to-requires
store_start-to-requires g c =
    let a = c.args in
    let small = lower_small a.walker.now.stack a.snapshot.now.store c.recall_soundness.ensures in let fits = leb-true _ _ c.requires.place in
    omega (arith, small, fits)

next_place : (place chunk : ℕ) → (place + 1) * chunk ≡ place * chunk + chunk
next_place place chunk = omega arith

-- the first stretch of sectors that can all be read doesn't fail
doesnt_fail : (walk : WalkerView) (lower : Lower) (sector len : ℕ) (stretch : Stretch) → IsFirstOf walk walk MOST_DEPTH lower sector len stretch → reads_all walk.stack walk.state lower sector len ≡ true → stretch.ground ≡ Fails → ⊥
doesnt_fail walk lower sector len stretch first reads fails = both_ways _ (fails_on walk lower sector len stretch first fails) reads

-- the place in the store begins where the chunk's first sector goes
begins_at : (at rest : ℕ) → {start : ℕ} → start ≡ at → rest ≡ 0 → start ≡ at + rest
begins_at at rest start begins = omega (arith, start, begins)

pub copies-init : goal.copies-init
copies-init g c =
    let a = c.args in let h = c.first_homes-home.ensures in
    let none : a.len - a.len ≡ 0 = omega arith in
    record {
      taken = rw none (g.met.S.Sink.lawful.nothing a.sink.now);
      within = omega arith;
      from = refl;
      to = ap (λ (s : ℕ). s + a.len) (begins_at _ _ c.store_start-to.ensures c.requires.begins);
      reads = c.requires.reads;
      source = c.requires.first;
      target = h.is;
      going_on = record {
        same = h.same;
        looked = h.looked;
        stack = refl;
        room = omega arith;
        faults = refl;
      };
    }

pub copy_piece-requires : goal.copy_piece-requires
copy_piece-requires g c fails =
    let l = c.copies in
    doesnt_fail c.args.walker.now c.args.snapshot.now.origin l.from l.left l.source l.invariant.source l.invariant.reads fails

pub returns-in_err-piece-clause-walked : goal.returns-in_err-piece-clause-walked
returns-in_err-piece-clause-walked g c =
    let a = c.args in let w = a.walker.now in let l = c.copies in let n = c.min-part.result in let done = a.len - l.left in
    let few_read : n ≤ l.source.len = omega (arith, c.min-part.ensures) in let few_home : n ≤ l.target.len = omega (arith, c.min-part.ensures) in
    let next = copy_next w a.snapshot.now a.number a.sector a.len l.left l.from l.to n l.source l.target (omega (arith, c.requires.some, c.requires.part)) c.requires.part l.invariant.within l.invariant.from l.invariant.to l.invariant.source l.invariant.target few_read few_home in
    walked_cut g.S.Sink.past c.from_residual.result a.sink.now c.piece.new.self w l.walker (keep (copies w.stack w.state a.snapshot.now a.number a.sector a.len) w.state) 0 c.from_residual.ensures.0
    (left_row g.met.S.Sink.lawful a.sink.now l.sink c.piece.new.self (copy_of w a.snapshot.now a.number) a.sector done n a.len (units_of c.copy_piece.result)
    (omega (arith, few_home, l.invariant.target.most, l.invariant.within)) (next ∙ sym c.copy_piece.ensures.units) l.invariant.taken c.in_err-piece.ensures.left)
    (omega (arith, c.in_err-piece.ensures.faults, l.invariant.going_on.faults)) (ap (λ (v : StackState). v.stack) l.invariant.going_on.same) l.invariant.going_on.looked

pub returns-then-left-eq0-clause-walked : goal.returns-then-left-eq0-clause-walked
returns-then-left-eq0-clause-walked g c =
    let a = c.args in let w = a.walker.now in let l = c.copies in let n = c.min-part.result in let done = a.len - l.left in
    let few_read : n ≤ l.source.len = omega (arith, c.min-part.ensures) in let few_home : n ≤ l.target.len = omega (arith, c.min-part.ensures) in
    let next = copy_next w a.snapshot.now a.number a.sector a.len l.left l.from l.to n l.source l.target (omega (arith, c.requires.some, c.requires.part)) c.requires.part l.invariant.within l.invariant.from l.invariant.to l.invariant.source l.invariant.target few_read few_home in
    let all : done + n ≡ a.len = omega (arith, few_home, l.invariant.target.most, l.invariant.within, c.if-left-eq0.true) in
    let taken = took_row g.met.S.Sink.lawful a.sink.now l.sink c.piece.new.self (copy_of w a.snapshot.now a.number) a.sector done n (units_of c.copy_piece.result) (next ∙ sym c.copy_piece.ensures.units) l.invariant.taken c.in_ok-piece.ensures.took in
    let same = l.invariant.going_on.same in
    record {
      took = rw all at taken;
      state = ap (λ (v : StackState). v.state) same;
      kept = c.in_ok-piece.ensures.stack ∙ l.invariant.going_on.stack;
      room = omega (arith, c.in_ok-piece.ensures.room, l.invariant.going_on.room, c.copy_piece.ensures.diskless);
      left = tt;
      faults = omega (arith, c.in_ok-piece.ensures.faults, l.invariant.going_on.faults);
      stack = ap (λ (v : StackState). v.stack) same;
      looked = l.invariant.going_on.looked;
    }

pub returns-then-left-eq0-clause-home : goal.returns-then-left-eq0-clause-home
returns-then-left-eq0-clause-home g c =
    let a = c.args in subst (λ (at : ℕ). IsFirstHomes a.walker.now.stack a.snapshot.now.store at a.len c.first_homes-home.result) (begins_at _ _ c.store_start-to.ensures c.requires.begins) c.first_homes-home.ensures.is

pub overflow_add-from : goal.overflow_add-from
overflow_add-from g c =
    let a = c.args in let l = c.copies in
    let small = lower_small a.walker.now.stack a.snapshot.now.origin c.recall_soundness.ensures in
    omega (arith, small, c.requires.origin, l.invariant.from, l.invariant.source.most, c.min-part.ensures)

pub overflow_add-to : goal.overflow_add-to
overflow_add-to g c =
    let a = c.args in let l = c.copies in
    let small = lower_small a.walker.now.stack a.snapshot.now.store c.recall_soundness.ensures in let fits = leb-true _ _ c.requires.place in
    let sum = next_place (place a.snapshot.now.kind a.snapshot.now.chunk a.number) a.snapshot.now.chunk in
    omega (arith, small, fits, sum, c.requires.part, l.invariant.to, l.invariant.target.most, c.min-part.ensures)

pub copies-preserved : goal.copies-preserved
copies-preserved g c =
    let a = c.args in let w = a.walker.now in let l = c.copies in let n = c.min-part.result in let done = a.len - l.left in
    let few_read : n ≤ l.source.len = omega (arith, c.min-part.ensures) in let few_home : n ≤ l.target.len = omega (arith, c.min-part.ensures) in
    let next = copy_next w a.snapshot.now a.number a.sector a.len l.left l.from l.to n l.source l.target (omega (arith, c.requires.some, c.requires.part)) c.requires.part l.invariant.within l.invariant.from l.invariant.to l.invariant.source l.invariant.target few_read few_home in
    let s = c.first_stretch-source in let h = c.first_homes-target in
    let on : done + n ≡ a.len - (l.left - n) = omega (arith, few_home, l.invariant.target.most, l.invariant.within) in
    let taken = took_row g.met.S.Sink.lawful a.sink.now l.sink c.piece.new.self (copy_of w a.snapshot.now a.number) a.sector done n (units_of c.copy_piece.result) (next ∙ sym c.copy_piece.ensures.units) l.invariant.taken c.in_ok-piece.ensures.took in
    let same = l.invariant.going_on.same in let some : 1 ≤ n = omega (arith, c.min-part.ensures, l.invariant.source.some, l.invariant.target.some) in
    let seen = s.ensures.same ∙ same in
    record {
      taken = rw on at taken;
      within = omega (arith, l.invariant.within);
      from = omega (arith, l.invariant.from, few_read, l.invariant.source.most);
      to = omega (arith, l.invariant.to, few_home, l.invariant.target.most);
      reads = sym (reads_on w a.snapshot.now.origin l.from n l.left l.source l.invariant.source (doesnt_fail w a.snapshot.now.origin l.from l.left l.source l.invariant.source l.invariant.reads) some few_read) ∙ l.invariant.reads;
      source = first_seen w l.walker s.new.walker a.snapshot.now.origin (l.from + n) (l.left - n) s.result same s.ensures;
      target = subst (λ (v : StackState). IsFirstHomes v.stack a.snapshot.now.store (l.to + n) (l.left - n) h.result) seen h.ensures.is;
      going_on = record {
        same = h.ensures.same ∙ seen;
        looked = added_then w.looked l.walker.looked h.new.walker.looked l.invariant.going_on.looked (added_then l.walker.looked s.new.walker.looked h.new.walker.looked s.ensures.looked h.ensures.looked);
        stack = c.in_ok-piece.ensures.stack ∙ l.invariant.going_on.stack;
        room = omega (arith, c.in_ok-piece.ensures.room, l.invariant.going_on.room, c.copy_piece.ensures.diskless);
        faults = omega (arith, c.in_ok-piece.ensures.faults, l.invariant.going_on.faults);
      };
    }
