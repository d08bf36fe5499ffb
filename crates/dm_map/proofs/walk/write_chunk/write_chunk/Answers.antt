use Rattle.dm_map.proofs.Prelude.{List, true, refl, sym, ap, ◌∙◌, arith, or_right, is_some, not, is_settled, store_writes, taken_at, keep, BlockUnit, lower_small}
use Rattle.dm_map.proofs.walk.Chunks.{place_inside, row_lost, row_numbered, settled_written, snapshot_device}
use Rattle.dm_map.proofs.walk.Rows.{walked_as, walked_piece, walked_within}
use Rattle.dm_map.proofs.state.TableLemmas.{room_place}
use Rattle.dm_map.proofs.walk.write_chunk.write_chunk.Goals as goal
use Rattle.std.specs.Prelude.{◌≡◌, ◌/◌}

pub is_valid-requires : goal.is_valid-requires
is_valid-requires g c = snapshot_device c.requires.chunk.whole c.requires.some

pub returns-then-not-is_valid : goal.returns-then-not-is_valid
returns-then-not-is_valid g c =
    let a = c.args in let w = a.walker.now in let p = c.piece in
    let lost = sym c.is_valid.ensures.valid ∙ c.if-not-is_valid.true in
    let settled : is_settled (taken_at w.state a.device) (a.sector / a.snapshot.now.chunk) ≡ true = rw lost refl in
    walked_piece (ap (λ (us : List BlockUnit). keep us w.state) (sym (row_lost w.stack a.snapshot.now a.device a.sector a.len w.state lost)) ∙ settled_written w.stack a.snapshot.now a.device a.sector a.len w.state c.requires.chunk settled)
    (omega arith) p.ensures

pub store_sector-at-requires : goal.store_sector-at-requires
store_sector-at-requires g c =
    let w = c.args.walker.now in let snapshot = c.args.snapshot.now in
    let fits = room_place w.stack c.args.device c.in-Some.number snapshot c.requires.chunk.whole.is c.in-Some.ensures.room in
    let small = lower_small w.stack snapshot.store c.recall_soundness.ensures in
    omega (arith, fits, small)

pub write_store-requires : goal.write_store-requires
write_store-requires g c =
    let a = c.args in let w = a.walker.now in let snapshot = a.snapshot.now in
    let fits = room_place w.stack a.device c.in-Some.number snapshot c.requires.chunk.whole.is c.in-Some.ensures.room in
    let inside = place_inside snapshot c.in-Some.number a.sector a.len _ fits c.requires.chunk.part in
    record {
      inside = omega (arith, inside, c.store_sector-at.ensures);
      store = c.requires.chunk.whole.sound.store;
      sink = record { stack = c.requires.sink.stack; room = omega arith };
    }

pub returns-in-Some : goal.returns-in-Some
returns-in-Some g c =
    let a = c.args in let w = a.walker.now in let snapshot = a.snapshot.now in
    let valid = sym c.is_valid.ensures.valid ∙ c.if-not-is_valid.false in
    let number = rw c.chunk_of.ensures at (sym c.find.ensures.number ∙ c.in-Some.is) in
    let settled : is_settled (taken_at w.state a.device) (a.sector / snapshot.chunk) ≡ true = or_right (not (taken_at w.state a.device).valid) _ (ap is_some number) in
    walked_as (ap (λ (us : List BlockUnit). keep us w.state) (ap (λ at. store_writes w.stack snapshot.store at a.len) c.store_sector-at.ensures ∙ sym (row_numbered w.stack snapshot a.device a.sector a.len c.in-Some.number w.state c.requires.chunk valid number))
    ∙ settled_written w.stack snapshot a.device a.sector a.len w.state c.requires.chunk settled)
    (walked_within (omega arith) c.write_store.ensures)
