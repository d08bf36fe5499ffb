use Rattle.dm_map.proofs.Prelude.{ℕ, List, get_or, length, refl, ◌∙◌, arith, length-set, nat_lt, Description, snapshots, has_room}
use Rattle.dm_map.proofs.state.TableLemmas.{first_rooms, next_rooms, snapshot_there, state_new}
use Rattle.dm_map.proofs.state.tables.empty_tables.Goals as goal
use Rattle.std.specs.Prelude.{◌≡◌, ◌<◌}

pub loop-next-init : goal.loop-next-init
loop-next-init g c =
    let stack = c.args.looker.now.stack in let made = c.in_ok-tables.ensures in
    let count : length c.in_ok-tables.tables.items ≡ length stack.devices = made.count ∙ c.device_count.ensures in
    record {
      count = count;
      room = first_rooms g.T.Taken.places stack c.in_ok-tables.tables.items count made.places;
      state = made.state ∙ rw c.device_count.ensures;
      same = refl;
      looked = omega arith;
    }

-- the snapshot whose table is made next
record IsNext (stack : Description) (next device : ℕ) : Type 0 where
  within : next < length (snapshots stack)
  is : device ≡ get_or (snapshots stack) next device
  there : device < length stack.devices

next_snapshot : (stack seen : Description) (ids counted : List ℕ) (next device : ℕ) → seen ≡ stack → ids ≡ snapshots seen → counted ≡ snapshots stack → next < length counted → device ≡ get_or ids next device → IsNext stack next device
next_snapshot stack seen ids counted next device same ids_are counted_are before is_in =
    let within : next < length (snapshots stack) = rw counted_are at before in
    let is : device ≡ get_or (snapshots stack) next device = is_in ∙ rw (ids_are, same) in
    record { within = within; is = is; there = rw is (snapshot_there stack next device within) }

pub room_of-places-requires : goal.room_of-places-requires
room_of-places-requires g c =
    let l = c.loop-next in
    let it = next_snapshot c.args.looker.now.stack l.looker.stack c.snapshots.result.now c.snapshots-count.result.now l.next c.index-snapshots-next.result l.invariant.same c.snapshots.ensures.ids c.snapshots-count.ensures.ids c.loop-next-test.true c.index-snapshots-next.is in
    rw l.invariant.same it.there

pub index_mut-requires : goal.index_mut-requires
index_mut-requires g c =
    let l = c.loop-next in
    let it = next_snapshot c.args.looker.now.stack l.looker.stack c.snapshots.result.now c.snapshots-count.result.now l.next c.index-snapshots-next.result l.invariant.same c.snapshots.ensures.ids c.snapshots-count.ensures.ids c.loop-next-test.true c.index-snapshots-next.is in
    omega (arith, it.there, l.invariant.count, c.index.ensures)

pub loop-next-preserved : goal.loop-next-preserved
loop-next-preserved g c =
    let stack = c.args.looker.now.stack in let l = c.loop-next in let d = c.index-snapshots-next.result in let table = c.in_ok-table.table in let made = c.in_ok-table.ensures in
    let it = next_snapshot stack l.looker.stack c.snapshots.result.now c.snapshots-count.result.now l.next d l.invariant.same c.snapshots.ensures.ids c.snapshots-count.ensures.ids c.loop-next-test.true c.index-snapshots-next.is in
    let room : (number : ℕ) → nat_lt number (g.T.Taken.places table) ≡ has_room stack d number = λ number.
    rw (made.places, c.room_of-places.ensures.places number, l.invariant.same) in
    record {
      count = length-set l.tables.items c.index.result table ∙ l.invariant.count;
      room = next_rooms g.T.Taken.places stack l.tables.items l.next d c.index.result table it.within it.is c.index.ensures room l.invariant.room;
      state = state_new g.T.Taken.chunks g.T.Taken.valid l.tables.items c.index.result (length stack.devices) table (omega (arith, it.there, c.index.ensures)) l.invariant.state made.chunks made.valid;
      same = c.room_of-places.ensures.stack ∙ l.invariant.same;
      looked = omega (arith, c.room_of-places.ensures.one, l.invariant.looked);
    }
