use Rattle.dm_map.proofs.Prelude.{ℕ, Bool, false, true, List, Option, Some, None, length, refl, sym, ap, ◌∙◌, arith, not, IfNone, Result, Ok, leb-true, ResolvedSnapshot, Disk, Description, has_place, number_in, State, Taken, taken_at, WalkerView, AreInChunk, IsWalked, is_keeping, is_refused, take_chunk, row, store_writes, unit_in_store, write_snapshot, keep, steps, IsLawful, SinkPast, BlockUnit, lower_small}
use Rattle.dm_map.proofs.walk.Chunks.{chunk_refused, chunk_written, first_there, left_taking, row_lost, row_numbered, row_taken, snapshot_device}
use Rattle.dm_map.proofs.walk.ChunkTaking.{not_settled, refused_as}
use Rattle.dm_map.proofs.walk.Rows.{walked_as, walked_cut, walked_piece, walked_then}
use Rattle.dm_map.proofs.walk.write_chunk.write_new_chunk.Goals as goal
use Rattle.std.specs.Prelude.{◌≡◌, ◌/◌, ◌<◌, ◌≤◌, ◌&&◌}

-- a chunk that isn't taken is not refused if the store isn't keeping, or has room for one more
passing : (stack : Description) (snapshot : ResolvedSnapshot) (taken : Taken) (chunk : ℕ) (refused : Bool) → taken.valid ≡ true → number_in chunk taken.chunks ≡ None → refused ≡ (is_keeping snapshot.kind && not (has_place stack snapshot (length taken.chunks))) → is_refused stack snapshot taken chunk ≡ refused
passing stack snapshot taken chunk refused valid fresh is = refused_as stack snapshot taken chunk (not_settled taken chunk valid fresh) ∙ sym is

-- after the chunk is taken, its sectors are written
taken_then : {S R F : Type 0} {past : SinkPast S} {result : Result (Unit {0}) F} {made : R} {old middle new : S} {walk after last : WalkerView} → IsLawful past → (snapshot : ResolvedSnapshot) (device sector len m : ℕ) (units : List BlockUnit) → AreInChunk walk.stack device snapshot sector len → 1 ≤ len → length walk.state ≡ length walk.stack.devices
    → is_refused walk.stack snapshot (taken_at walk.state device) (sector / snapshot.chunk) ≡ false → IsWalked {F = F} past (Ok made) old middle walk after (take_chunk walk.stack snapshot device (sector / snapshot.chunk) walk.state) 0
    → row (unit_in_store walk.stack snapshot device after.state) sector len ≡ units → m ≤ len → IsWalked past result middle new after last (keep units after.state) m → IsWalked past result old new walk last (steps (write_snapshot walk.stack snapshot device) walk.state sector len) len
taken_then {walk} {after} lawful snapshot device sector len m units chunk some count passes made is few next =
    let there : device < length walk.state = omega (arith, snapshot_device chunk.whole some, count) in
    walked_as (chunk_written walk.stack snapshot device sector len walk.state chunk some there passes)
    (walked_then lawful (λ state. keep (row (unit_in_store walk.stack snapshot device state) sector len) state)
    (ap (λ (s : State). keep (row (unit_in_store walk.stack snapshot device s) sector len) s) (sym made.state) ∙ ap (λ (us : List BlockUnit). keep us after.state) is) few made next)

pub is_refused-requires : goal.is_refused-requires
is_refused-requires g c =
    let chunk = c.requires.asked.chunk.whole in
    record { device = snapshot_device chunk c.requires.asked.some; is = chunk.is }

pub returns-then-is_refused : goal.returns-then-is_refused
returns-then-is_refused g c =
    let a = c.args in let w = a.walker.now in let p = c.piece.ensures in let refused = passing w.stack a.snapshot.now (taken_at w.state a.device) (a.sector / a.snapshot.now.chunk) c.is_refused.result c.requires.valid c.requires.fresh c.is_refused.ensures ∙ c.if-is_refused.true in
    walked_piece (chunk_refused w.stack a.snapshot.now a.device a.sector a.len w.state c.requires.asked.chunk refused) (omega arith) p

pub count-number-requires : goal.count-number-requires
count-number-requires g c = snapshot_device c.requires.asked.chunk.whole c.requires.asked.some

pub take_new_chunk-requires : goal.take_new_chunk-requires
take_new_chunk-requires g c =
    let a = c.args in let w = a.walker.now in let asked = c.requires.asked in
    rw c.chunk_of-chunk.ensures (record {
      inside = first_there w.stack a.device a.sector a.len a.snapshot.now asked.chunk.whole asked.some;
      fresh = not_settled (taken_at w.state a.device) (a.sector / a.snapshot.now.chunk) c.requires.valid c.requires.fresh;
      number = c.count-number.ensures.count;
      sink = record { stack = asked.sink.stack; room = omega arith };
    })

pub returns-in_err-home : goal.returns-in_err-home
returns-in_err-home g c =
    let a = c.args in let w = a.walker.now in let walk = rw c.chunk_of-chunk.ensures at c.in_err-home.ensures.walked in let passes = passing w.stack a.snapshot.now (taken_at w.state a.device) (a.sector / a.snapshot.now.chunk) c.is_refused.result c.requires.valid c.requires.fresh c.is_refused.ensures ∙ c.if-is_refused.false in
    walked_cut g.S.Sink.past c.from_residual.result a.sink.now c.take_new_chunk.new.sink w c.take_new_chunk.new.walker (steps (write_snapshot w.stack a.snapshot.now a.device) w.state a.sector a.len) a.len c.from_residual.ensures.0
    (left_taking g.S.Sink.past.left a.sink.now c.take_new_chunk.new.sink w.stack a.snapshot.now a.device a.sector a.len w.state c.requires.asked.some passes walk.left) walk.faults walk.stack walk.looked

none_then : {X : Type 0} (o : Option X) (P : Type 0) → ((x : X) → o ≡ Some x → ⊥) → IfNone o P → P
none_then None P none p = p
none_then (Some x) P none p = absurd (none x refl)

pub returns-in_default : goal.returns-in_default
returns-in_default g c =
    let a = c.args in let w = a.walker.now in let after = c.take_new_chunk.new.walker in let p = c.piece-in_default.ensures in let passes = passing w.stack a.snapshot.now (taken_at w.state a.device) (a.sector / a.snapshot.now.chunk) c.is_refused.result c.requires.valid c.requires.fresh c.is_refused.ensures ∙ c.if-is_refused.false in
    let units = row_lost w.stack a.snapshot.now a.device a.sector a.len after.state (none_then c.in_ok-home.field-0 _ c.in_default.not-Some c.in_ok-home.ensures.lost) in
    taken_then g.met.S.Sink.lawful a.snapshot.now a.device a.sector a.len a.len _ c.requires.asked.chunk c.requires.asked.some c.recall_tables.ensures passes (rw c.chunk_of-chunk.ensures at c.in_ok-home.ensures.walked) units (omega arith)
    (walked_piece refl (omega arith) p)

pub overflow_add-home : goal.overflow_add-home
overflow_add-home g c =
    let taken = rw c.in-Some.is at c.in_ok-home.ensures.taken in
    let small = lower_small c.args.walker.now.stack (Disk c.in-Some.home.disk) c.recall_soundness.ensures in
    omega (arith, small, taken.homes.lies.inside, c.if-distance-len.true)

pub returns-then-distance-len : goal.returns-then-distance-len
returns-then-distance-len g c =
    let a = c.args in let w = a.walker.now in let after = c.take_new_chunk.new.walker in let p = rw c.distance_in-distance.ensures.is at c.piece-then-distance-len.ensures in let passes = passing w.stack a.snapshot.now (taken_at w.state a.device) (a.sector / a.snapshot.now.chunk) c.is_refused.result c.requires.valid c.requires.fresh c.is_refused.ensures ∙ c.if-is_refused.false in
    let taken = rw (c.in-Some.is, c.chunk_of-chunk.ensures) at c.in_ok-home.ensures.taken in
    let units = row_taken w.stack a.snapshot.now a.device a.sector a.len c.count-number.result after.state c.in-Some.home c.requires.asked.chunk taken (rw c.distance_in-distance.ensures.is at c.if-distance-len.true) in
    taken_then g.met.S.Sink.lawful a.snapshot.now a.device a.sector a.len 0 _ c.requires.asked.chunk c.requires.asked.some c.recall_tables.ensures passes (rw c.chunk_of-chunk.ensures at c.in_ok-home.ensures.walked) units (omega arith)
    (walked_piece refl (omega arith) p)

pub store_sector-at-requires : goal.store_sector-at-requires
store_sector-at-requires g c =
    let taken = rw c.in-Some.is at c.in_ok-home.ensures.taken in
    let small = lower_small c.args.walker.now.stack c.args.snapshot.now.store c.recall_soundness.ensures in let fits = leb-true _ _ taken.place in
    omega (arith, small, fits)

pub returns : goal.returns
returns g c =
    let a = c.args in let w = a.walker.now in let snapshot = a.snapshot.now in let after = c.take_new_chunk.new.walker in let passes = passing w.stack a.snapshot.now (taken_at w.state a.device) (a.sector / a.snapshot.now.chunk) c.is_refused.result c.requires.valid c.requires.fresh c.is_refused.ensures ∙ c.if-is_refused.false in
    let taken = rw (c.in-Some.is, c.chunk_of-chunk.ensures) at c.in_ok-home.ensures.taken in
    let units : row (unit_in_store w.stack snapshot a.device after.state) a.sector a.len ≡ store_writes after.stack snapshot.store c.store_sector-at.result a.len =
    row_numbered w.stack snapshot a.device a.sector a.len c.count-number.result after.state c.requires.asked.chunk taken.valid taken.is
    ∙ ap (λ (at : ℕ). store_writes w.stack snapshot.store at a.len) (sym c.store_sector-at.ensures) ∙ ap (λ (s : Description). store_writes s snapshot.store c.store_sector-at.result a.len) (sym c.in_ok-home.ensures.walked.stack) in
    taken_then g.met.S.Sink.lawful snapshot a.device a.sector a.len 0 _ c.requires.asked.chunk c.requires.asked.some c.recall_tables.ensures passes (rw c.chunk_of-chunk.ensures at c.in_ok-home.ensures.walked) units (omega arith) c.write_store.ensures
