-- A mapper's tables hold no more chunks than the stores of their snapshots have room for.
use Rattle.dm_map.proofs.Prelude.{ℕ, zero, suc, Bool, true, List, Some, length, sym, ◌∙◌, arith, slice_get, lt-ltb, length-map, ResolvedSnapshot, Description, lower_len, place_count, IsSound, there, IsFitting, IsWithinPlaces, AreTables, has_room, snapshot_at, state_of}
use Rattle.dm_stack.proofs.StoreLayoutLemmas.{has_place}
use Rattle.dm_map.proofs.state.TableLemmas.{room_place, state_at}
use Rattle.dm_map.proofs.state.ResolvedLines.{snapshot_sound}
use Rattle.std.specs.Prelude.{◌≡◌, ◌<◌, ◌≤◌}

-- a count is at most another if every number below it is below the other
most_within : (count most : ℕ) → ((number : ℕ) → number < count → number < most) → count ≤ most
most_within zero most each = omega arith
most_within (suc count) most each = let last = each count (omega arith) in omega (arith, last)

-- a number with a place in a table has a place in the snapshot's store
within_store : {T : Type 0} (places_of : T → ℕ) (stack : Description) (tables : List T) (device number : ℕ) (table : T) (snapshot : ResolvedSnapshot) → IsSound stack → AreTables places_of stack tables → snapshot_at stack device ≡ Some snapshot
    → slice_get tables device ≡ Some table → number < places_of table → number < place_count snapshot.kind snapshot.chunk (lower_len stack snapshot.store)
within_store places_of stack tables device number table snapshot sound are is got less =
    let over = snapshot_sound stack device snapshot sound is in
    let room = sym (are.room device number table got) ∙ lt-ltb number (places_of table) less in
    (has_place snapshot.kind snapshot.chunk (lower_len stack snapshot.store) number over.soundly.chunk_some).1 (room_place stack device number snapshot is room)

pub within_places : {T : Type 0} (chunks : T → List ℕ) (valid : T → Bool) (places_of : T → ℕ) (stack : Description) (tables : List T) → IsSound stack → AreTables places_of stack tables → ((table : T) → length (chunks table) ≤ places_of table)
    → IsWithinPlaces stack (state_of chunks valid tables)
within_places chunks valid places_of stack tables sound are fits device snapshot is =
    let over = snapshot_sound stack device snapshot sound is in
    let table = there tables device (omega (arith, are.count, over.there)) in
    let kept = state_at chunks valid tables device table.it table.at in
    let few = most_within (length (chunks table.it)) (place_count snapshot.kind snapshot.chunk (lower_len stack snapshot.store)) (λ number less.
    within_store places_of stack tables device number table.it snapshot sound are is table.at (let fit = fits table.it in omega (arith, less, fit))) in
    rw kept few

-- the stack can be in the state that its tables hold
pub fitting_tables : {T : Type 0} (chunks : T → List ℕ) (valid : T → Bool) (places_of : T → ℕ) (stack : Description) (tables : List T) → IsSound stack → AreTables places_of stack tables → ((table : T) → length (chunks table) ≤ places_of table)
    → IsFitting stack (state_of chunks valid tables)
fitting_tables chunks valid places_of stack tables sound are fits = record {
  count = length-map tables (λ table. record { chunks = chunks table; valid = valid table }) ∙ are.count;
  places = λ device number snapshot is less.
      let over = snapshot_sound stack device snapshot sound is in
      let table = there tables device (omega (arith, are.count, over.there)) in
      let kept = state_at chunks valid tables device table.it table.at in
      let few = fits table.it in
      let taken : number < length (chunks table.it) = rw kept at less in
      let room : has_room stack device number ≡ true = sym (are.room device number table.it table.at) ∙ lt-ltb number (places_of table.it) (omega (arith, taken, few)) in
      rw is at room;
}
