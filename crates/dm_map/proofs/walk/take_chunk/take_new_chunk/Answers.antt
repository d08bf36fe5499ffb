use Rattle.dm_map.proofs.Prelude.{ℕ, true, Some, length, sym, ap, subst, ◌∙◌, arith, is_some, min, and_parts, Description, has_place, store_sector, State, put, taken_at, with_chunk, StackState, IsFirstHomes, count_of}
use Rattle.dm_map.proofs.walk.Chunks.{chunk_begins, snapshot_device}
use Rattle.dm_map.proofs.walk.ChunkTaking.{numbered_next}
use Rattle.dm_map.proofs.walk.take_chunk.take_new_chunk.Goals as goal
use Rattle.std.specs.Prelude.{◌≡◌, ◌-◌, ◌*◌, ◌<◌}

pub len-end-requires : goal.len-end-requires
len-end-requires g c = snapshot_device c.requires.inside (omega arith)

pub overflow_mul-first : goal.overflow_mul-first
overflow_mul-first g c = rw c.sectors-chunk_size.ensures.is (omega (arith, c.requires.inside.inside, c.len-end.ensures.len, c.len-end.ensures.small))

pub first_source-requires-clause-inside : goal.first_source-requires-clause-inside
first_source-requires-clause-inside g c =
    let whole = c.requires.inside in let count = rw c.sectors-chunk_size.ensures.is at c.min-count.ensures in
    rw c.sectors-chunk_size.ensures.is (record { is = whole.is; sound = whole.sound; inside = omega (arith, whole.inside, count, c.len-end.ensures.len) })

pub invalidate-requires : goal.invalidate-requires
invalidate-requires g c =
    record { device = subst (λ (w : StackState). c.args.device < length w.stack.devices) (sym c.first_source.ensures.same) (snapshot_device c.requires.inside (omega arith)) }

pub copy_chunk-requires-clause-begins : goal.copy_chunk-requires-clause-begins
copy_chunk-requires-clause-begins g c = rw c.sectors-chunk_size.ensures.is (chunk_begins c.args.chunk c.args.snapshot.now.chunk c.requires.inside.sound.chunk_some)

pub copy_chunk-requires-clause-part : goal.copy_chunk-requires-clause-part
copy_chunk-requires-clause-part g c =
    let begins = chunk_begins c.args.chunk c.args.snapshot.now.chunk c.requires.inside.sound.chunk_some in
    rw c.sectors-chunk_size.ensures.is (omega (arith, begins, c.min-count.ensures))

pub take-requires-clause-device : goal.take-requires-clause-device
take-requires-clause-device g c =
    subst (λ (s : Description). c.args.device < length s.devices) (sym (c.in_ok-home.ensures.walked.stack ∙ ap (λ (w : StackState). w.stack) c.first_source.ensures.same)) (snapshot_device c.requires.inside (omega arith))

pub returns-clause-taken : goal.returns-clause-taken
returns-clause-taken g c =
    let a = c.args in let w = a.walker.now in let snapshot = a.snapshot.now in let home = c.in_ok-home.home in let chunk_size = snapshot.chunk in let made = c.in_ok-home.ensures in
    let there : a.device < length w.state = omega (arith, snapshot_device c.requires.inside (omega arith), c.recall_tables.ensures) in
    let same : c.copy_chunk.new.walker.state ≡ w.state = made.walked.state ∙ ap (λ (v : StackState). v.state) c.first_source.ensures.same in
    let numbered = numbered_next w.state c.take.new.self.state a.device a.chunk there c.requires.fresh (c.take.ensures.state ∙ ap (λ (s : State). put s a.device (with_chunk (taken_at s a.device) a.chunk)) same) in
    let place : has_place w.stack snapshot (length (taken_at w.state a.device).chunks) ≡ true = (and_parts _ _ (sym c.first_source.ensures.can_take ∙ ap is_some c.in-Some.is)).0 in let size = c.sectors-chunk_size.ensures.is in
    let count : c.min-count.result ≡ count_of w.stack snapshot a.device a.chunk = rw size at c.min-count.ensures ∙ ap (λ (end : ℕ). min chunk_size (end - a.chunk * chunk_size)) c.len-end.ensures.len in
    record {
      valid = numbered.0;
      is = numbered.1 ∙ ap Some (sym c.requires.number);
      place = ap (has_place w.stack snapshot) c.requires.number ∙ place;
      homes = subst (λ (n : ℕ). IsFirstHomes w.stack snapshot.store (store_sector snapshot a.number (a.chunk * chunk_size)) n home) count
          (subst (λ (v : StackState). IsFirstHomes v.stack snapshot.store (store_sector snapshot a.number (a.chunk * chunk_size)) c.min-count.result home) c.first_source.ensures.same (rw size at made.home));
    }
