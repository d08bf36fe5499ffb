-- An example of a restart that checks the definitions, worked out by hand.
use Rattle.dm_store.proofs.Prelude.{ℕ, zero, suc, true, false, [], Option, Some, Ok, refl, sym, ap, subst, ◌∙◌, arith, All-from_recursion, Persistent, Device, Disk, ResolvedSnapshot, IsTop, claims, Description, found_at, Moment, content, played, sector_past, HaveSameData, IsSpareSector, first_rows, State, start_state, taken_at, home_to, write_step, read_unit, Store, DiskContents, count_of, each, old_chunks, AreListed, Event, Held, IsRestart, Lists, Plays, Spelled, after_events, kept, kept_first, snapshot_store, store_at, store_sectors, stored_state, Holds, is_any_again, stored}
use Rattle.dm_table.specs.declared.requests.request.Op.TheVariants.{Write}
use Rattle.dm_table.specs.declared.tables.table.DevRef.TheVariants as refs
use Rattle.dm_table.specs.declared.tables.table.Target.TheVariants as targets
use Rattle.dm_map.proofs.WorkedErrors.{device, disk, line}
use Rattle.dm_store.proofs.ListedLemmas.{store_there}
use Rattle.dm_store.proofs.RestartLemmas.{listed_back}
use Rattle.dm_store.proofs.SpeltLemmas.{is_spelled}
use Rattle.dm_store.proofs.WorkedStore.{entry, header}
use Rattle.dm_table.specs.io.LittleEndian.{eight_at, four_at}
use Rattle.std.specs.Prelude.{◌≡◌, ◌∷◌, ◌++◌}

-- s: a snapshot of disk 0 with chunks of one sector. Its store is disk 1, with room for two areas: the header, area 0, 32 places, area 1, and 29 places
abbrev sample : Description
sample = record {
  devices = device 115 false (line 0 40 (targets.Snapshot (refs.Disk (48 ∷ [])) (refs.Disk (49 ∷ [])) Persistent 1) ∷ []) ∷ [];
  disks = disk 48 40 ∷ disk 49 64 ∷ [];
}

abbrev over : ResolvedSnapshot
over = record { origin = Disk 0; store = Disk 1; kind = Persistent; chunk = 1 }

abbrev store : Store
store = snapshot_store sample 0 over

-- disks on which every sector holds its number
abbrev numbered : DiskContents
numbered disk sector = Ok (sector ∷ [])

abbrev zeros : Held
zeros = Ok []

abbrev first : Moment Held
first = record { values = numbered; state = start_state sample; rows = first_rows zeros sample numbered }

-- a write of the value 100 to sectors 7 to 9. Each sector takes a chunk, which is copied and then written. The power is cut before the last one is written
abbrev cut : Event
cut = Plays (record { op = Write; device = 0; start = 7; len = 3; written = λ sector. Ok (100 ∷ []); halted_after = Some 5 })

abbrev left : Moment Held
left = after_events zeros sample first (cut ∷ [])

-- the state at the cut: chunks 7 and 8 are taken
abbrev taken : State
taken = record { chunks = 7 ∷ 8 ∷ []; valid = true } ∷ []

left_is : left.state ≡ taken
unfolding after_events sector_past write_step read_unit home_to lib.Count.ones
left_is = refl

-- disks on which the store lists both chunks: in its header, and in the first sector of area 0
abbrev listed : DiskContents → DiskContents
listed disks (suc zero) zero = Ok (header 1)
listed disks (suc zero) (suc zero) = Ok (entry 7 2 ++ entry 8 3 ++ entry 0 0)
listed disks disk sector = disks disk sector

abbrev new : Moment Held
new = record { values = listed left.values; state = taken; rows = left.rows }

says : (disks : DiskContents) → stored (store_sectors sample (listed disks) store) store ≡ Holds (7 ∷ 8 ∷ [])
unfolding count_of each eight_at four_at is_any_again old_chunks home_to
says disks = refl

only : store_at sample 0 ≡ Some store
unfolding lib.Count.ones
only = refl

some_is : (one other : Store) → (let o : Option Store = Some one in o) ≡ Some other → one ≡ other
some_is one other e = cc

lists : (disks : DiskContents) → AreListed sample (listed disks) taken
lists disks = λ device other of. by_device device other of
  where
    by_device : (device : ℕ) (other : Store) → store_at sample device ≡ Some other → Lists (store_sectors sample (listed disks) other) other (taken_at taken device)
    by_device zero other of =
        subst (λ (s : Store). Lists (store_sectors sample (listed disks) s) s (taken_at taken 0)) (some_is store other (sym only ∙ of))
        (Spelled refl (is_spelled store (store_sectors sample (listed disks) store) (7 ∷ 8 ∷ []) (says disks)))
    by_device (suc device) other of = absurd (let there = store_there sample (suc device) other (found_at sample (suc device) 0) refl of in omega (arith, there))

-- sectors without data
spare_header : IsSpareSector sample taken 1 0
unfolding home_to lib.Count.ones
spare_header = record { device = 0; snapshot = over; over = refl; at = 0; inside = omega arith; free = λ number less same. omega (arith, same); home = refl }

spare_area : IsSpareSector sample taken 1 1
unfolding home_to lib.Count.ones
spare_area = record { device = 0; snapshot = over; over = refl; at = 1; inside = omega arith; free = λ number less same. omega (arith, same); home = refl }

same_data : (disks : DiskContents) → HaveSameData sample taken disks (listed disks)
same_data disks = λ disk sector full. by_place disk sector full
  where
    by_place : (disk sector : ℕ) → (IsSpareSector sample taken disk sector → ⊥) → listed disks disk sector ≡ disks disk sector
    by_place zero sector full = refl
    by_place (suc zero) zero full = absurd (full spare_header)
    by_place (suc zero) (suc zero) full = absurd (full spare_area)
    by_place (suc zero) (suc (suc sector)) full = refl
    by_place (suc (suc disk)) sector full = refl

top : IsTop sample 0
top = All-from_recursion (λ claim. claim.to ≡ Device 0 → ⊥) (claims sample) (λ e. cc, (λ e. cc, tt))

kept_taken : kept sample taken ≡ taken
unfolding kept_first lib.Count.ones
kept_taken = refl

restart : IsRestart zeros sample first new
restart = record {
  events = cut ∷ [];
  tops = (top, tt);
  data_kept = same_data left.values;
  lists = subst (λ (s : State). AreListed sample (listed left.values) s) (sym left_is) (lists left.values);
  state = sym kept_taken ∙ ap (kept sample) (sym left_is);
  rows = refl;
}

-- reading the store gives the state at the cut
found : stored_state sample new.values ≡ Ok taken
found = listed_back sample new.values taken (lists left.values) ∙ ap (λ (s : State). Ok s) kept_taken

-- the written sector reads as 100, and a sector that was only copied reads as before
read_written : content zeros sample new.state new.values (Device 0) 8 ≡ Some (Ok (100 ∷ []))
unfolding after_events played sector_past write_step read_unit home_to lib.Count.ones
read_written = refl

read_copied : content zeros sample new.state new.values (Device 0) 9 ≡ Some (Ok (9 ∷ []))
unfolding after_events played sector_past write_step read_unit home_to lib.Count.ones
read_copied = refl
