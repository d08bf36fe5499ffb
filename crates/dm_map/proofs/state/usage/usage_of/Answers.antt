use Rattle.dm_map.proofs.Prelude.{ℕ, true, Some, sym, refl, subst, arith, IsSnapshotSound, lower_len, place, found_of, device_some, allocated_small, has_room, snapshot_at, StackState, lower_small}
use Rattle.dm_map.proofs.state.TableLemmas.{room_place, store_some}
use Rattle.dm_map.proofs.state.usage.usage_of.Goals as goal
use Rattle.std.specs.Prelude.{◌≡◌, ◌+◌, ◌*◌, ◌<◌, ◌≤◌}

pub look-line-requires-clause-sector : goal.look-line-requires-clause-sector
look-line-requires-clause-sector g c = device_some c.args.walker.now.stack c.args.device c.recall_soundness.ensures c.requires.there

pub lower_len-total-requires : goal.lower_len-total-requires
lower_len-total-requires g c =
    let w = c.args.walker.now in let snapshot = c.in-Snapshot.snapshot in
    subst (λ (v : StackState). 0 < lower_len v.stack snapshot.store) (sym c.look-line.ensures.same)
    (store_some w.stack c.args.device 0 c.look-line.result.now snapshot c.recall_soundness.ensures (found_of w.stack c.args.device 0 c.look-line.result.now c.look-line.ensures.line) c.in-Snapshot.is)

pub usage_with-requires : goal.usage_with-requires
usage_with-requires g c =
    let w = c.args.walker.now in let line = c.look-line.result.now in let snapshot = c.in-Snapshot.snapshot in
    let sound : IsSnapshotSound w.stack c.args.device line.start line.len snapshot = rw c.in-Snapshot.is at c.look-line.ensures.line.is.target in
    let is : snapshot_at w.stack c.args.device ≡ Some snapshot = rw (found_of w.stack c.args.device 0 line c.look-line.ensures.line, c.in-Snapshot.is) refl in
    let small = lower_small w.stack snapshot.store c.recall_soundness.ensures in
    let fits : (number : ℕ) → number < c.count.result → (place snapshot.kind snapshot.chunk number + 1) * snapshot.chunk ≤ lower_len w.stack snapshot.store = λ number less.
    room_place w.stack c.args.device number snapshot is (subst (λ (v : StackState). has_room v.stack c.args.device number ≡ true) c.look-line.ensures.same (c.count.ensures.room number less)) in
    let most = allocated_small snapshot.kind snapshot.chunk c.count.result (lower_len w.stack snapshot.store) sound.chunk_some fits in
    omega (arith, most, small, sound.chunk_small)
