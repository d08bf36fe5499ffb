-- A restart finds the state that the stores' lists keep, and each sector of a top device then reads as its row says, or as an error.
use Rattle.dm_store.proofs.Prelude.{inl, inr, ℕ, zero, suc, true, false, List, [], Option, Some, None, Result, Ok, length, refl, sym, ap, subst, ◌∙◌, arith, AllByRecursion, cases_Bool, eq-eqb, get_or_append_left, length-append, le-suc_iff, get_or-append_seam, StoreKind, Transient, Device, Disk, ResolvedLine, ResolvedSnapshot, ResolvedTarget, IsSound, IsTidy, IsTop, Description, Below, Lies, IsError, below_line, below_target, found_at, AreExact, IsAmple, IsOwnAt, Moment, after_played, Stays, value_read, AreOwn, Rows, BlockUnit, Zeros, Fails, IsFitting, read_over, State, Taken, lost, none_taken, taken_at, snapshot_at, by_below, read_below, read_unit, exact, line_snapshot, line_there, snapshot_sound, StoreFault, Store, IsLostInStore, DiskContents, Sectors, Ahead, AllKeepLists, AreListed, AreRestarts, Event, Gone, Held, IsFound, IsOfTop, IsRestart, Lists, Loses, Plays, Spelled, Unused, after_event, after_events, kept, kept_first, kept_in, if_listing, snapshot_store, start_of, state_of_first, store_at, store_if, store_sectors, stored_state, taken_if, taken_in, Fresh, Lost, listed, stored, Snapshot}
use Rattle.dm_stack.specs.declared.id.Lower.{Lower}
use Rattle.dm_stack.specs.declared.checks.graph.TheConstants.{MOST_DEPTH}
use Rattle.dm_map.specs.Prelude.{Asked}
use Rattle.dm_map.proofs.CutLemmas.{ahead_own, spare_own}
use Rattle.dm_map.proofs.ChunkOutcomes.{fits_put}
use Rattle.dm_map.proofs.HaltedRequests.{halted_own}
use Rattle.dm_map.proofs.Losses.{lost_stays, stays_on}
use Rattle.dm_map.proofs.OwnRequests.{request_own}
use Rattle.dm_store.proofs.SpellingLemmas.{reads_back}
use Rattle.dm_store.proofs.StateLemmas.{stored_fits}
use Rattle.dm_store.proofs.StoreLemmas.{taken_valid}
use Rattle.std.specs.Prelude.{◌≡◌, ◌≢◌, ◌-◌, ◌<◌, ◌∷◌, ◌++◌}

-- ---- what lists say is what is read

pub valid_kept : (store : Store) (taken : Taken) → taken.valid ≡ true → kept_in (Some store) taken ≡ taken
valid_kept store taken valid = rw valid refl

pub gone_kept : (store : Store) (taken : Taken) → taken.valid ≡ false → kept_in (Some store) taken ≡ lost none_taken
gone_kept store taken gone = rw gone refl

list_back : (sectors : Sectors) (store : Store) (taken : Taken) → Lists sectors store taken → taken_in (stored sectors store) ≡ Ok (kept_in (Some store) taken)
list_back sectors store taken (Spelled valid spells) =
    ap taken_in (reads_back store sectors taken.chunks spells) ∙ sym (taken_valid taken valid) ∙ ap (λ (t : Taken). let r : Result Taken StoreFault = Ok t in r) (sym (valid_kept store taken valid))
list_back sectors store taken (Unused header begins magic none) =
    let fresh : stored sectors store ≡ Fresh = rw (begins, magic) refl in
    let same : kept_in (Some store) taken ≡ none_taken = rw none refl in
    ap taken_in fresh ∙ ap (λ (t : Taken). let r : Result Taken StoreFault = Ok t in r) (sym same)
list_back sectors store taken (Gone header begins gone lost_is) =
    let says : stored sectors store ≡ Lost = rw (begins, gone.magic, gone.version, gone.chunk_len, eq-eqb store.chunk store.chunk refl, gone.valid) refl in
    ap taken_in says ∙ ap (λ (t : Taken). let r : Result Taken StoreFault = Ok t in r) (sym (gone_kept store taken lost_is))

device_back : (stack : Description) (disks : DiskContents) (device : ℕ) (taken : Taken) (store : Option Store) → store_at stack device ≡ store → ((one : Store) → store_at stack device ≡ Some one → Lists (store_sectors stack disks one) one taken)
    → taken_if stack disks store ≡ Ok (kept_in store taken)
device_back stack disks device taken None is lists = refl
device_back stack disks device taken (Some store) is lists = list_back (store_sectors stack disks store) store taken (lists store is)

first_back : (stack : Description) (disks : DiskContents) (state : State) (count : ℕ) → AreListed stack disks state → state_of_first (start_of stack disks) count ≡ Ok (kept_first stack state count)
unfolding state_of_first kept_first
first_back stack disks state zero listed = refl
first_back stack disks state (suc device) listed =
    rw (first_back stack disks state device listed, device_back stack disks device (taken_at state device) (store_at stack device) refl (listed device)) refl

pub listed_back : (stack : Description) (disks : DiskContents) (state : State) → AreListed stack disks state → stored_state stack disks ≡ Ok (kept stack state)
listed_back stack disks state listed = first_back stack disks state (length stack.devices) listed

-- ---- what a restart reads back of a device

kept_count : (stack : Description) (state : State) (count : ℕ) → length (kept_first stack state count) ≡ count
unfolding kept_first
kept_count stack state zero = refl
kept_count stack state (suc n) =
    let e = length-append (kept_first stack state n) (kept_in (store_at stack n) (taken_at state n) ∷ []) in
    let before = kept_count stack state n in
    omega (arith, e, before)

kept_at : (stack : Description) (state : State) (count device : ℕ) → device < count → taken_at (kept_first stack state count) device ≡ kept_in (store_at stack device) (taken_at state device)
unfolding kept_first
kept_at stack state zero device less = absurd (omega (arith, less))
kept_at stack state (suc n) device less =
    let before = kept_first stack state n in
    let next = kept_in (store_at stack n) (taken_at state n) in
    let count : length before ≡ n = kept_count stack state n in
    elim (le-suc_iff.0 less) as (λ _. taken_at (before ++ next ∷ []) device ≡ kept_in (store_at stack device) (taken_at state device)) [
      | inl inside ↦ get_or_append_left before (next ∷ []) none_taken device (omega (arith, inside, count)) ∙ kept_at stack state n device inside
      | inr same ↦
          let is : device ≡ n = omega (arith, same) in
          rw is (ap (λ (m : ℕ). taken_at (before ++ next ∷ []) m) (sym count) ∙ get_or-append_seam before next [] none_taken)
    ]

keeps : (kind : StoreKind) (store : Store) → kind ≢ Transient → if_listing kind store ≡ Some store
keeps Transient store other = absurd (other refl)
keeps kind store other = refl

snapshot_keeps : (stack : Description) (device : ℕ) (snapshot : ResolvedSnapshot) → AllKeepLists stack → snapshot_at stack device ≡ Some snapshot → store_at stack device ≡ Some (snapshot_store stack device snapshot)
snapshot_keeps stack device snapshot keep over =
    ap (λ (s : Option ResolvedSnapshot). store_if stack device s) over ∙ keeps snapshot.kind (snapshot_store stack device snapshot) (keep device snapshot over)

-- ---- reads of sectors after a restart

over_kept : (taken : Taken) (store : Store) (snapshot : ResolvedSnapshot) (sector : ℕ) → read_over (kept_in (Some store) taken) snapshot sector ≡ read_over taken snapshot sector
over_kept taken store snapshot sector = elim (cases_Bool taken.valid) [
  | inl valid ↦ ap (λ (t : Taken). read_over t snapshot sector) (valid_kept store taken valid)
  | inr gone ↦
      let error : read_over taken snapshot sector ≡ IsError = rw gone refl in
      ap (λ (t : Taken). read_over t snapshot sector) (gone_kept store taken gone) ∙ sym error
]

target_same : (taken other : Taken) (target : ResolvedTarget) (distance : ℕ) → ((snapshot : ResolvedSnapshot) → target ≡ Snapshot snapshot → read_over taken snapshot distance ≡ read_over other snapshot distance)
    → below_target (read_over taken) target distance ≡ below_target (read_over other) target distance
target_same taken other (Snapshot snapshot) distance same = same snapshot refl
target_same taken other target distance same = refl

line_same : (taken other : Taken) (line : Option ResolvedLine) (sector : ℕ) → ((it : ResolvedLine) (snapshot : ResolvedSnapshot) → line ≡ Some it → it.target ≡ Snapshot snapshot → read_over taken snapshot (sector - it.start) ≡ read_over other snapshot (sector - it.start))
    → below_line (read_over taken) line sector ≡ below_line (read_over other) line sector
line_same taken other None sector same = refl
line_same taken other (Some line) sector same = target_same taken other line.target (sector - line.start) (λ snapshot is. same line snapshot refl is)

below_kept : (stack : Description) (state : State) (device sector : ℕ) → IsSound stack → AllKeepLists stack → read_below stack (kept stack state) device sector ≡ read_below stack state device sector
below_kept stack state device sector sound keep =
    line_same (taken_at (kept stack state) device) (taken_at state device) (found_at stack device sector) sector (λ line snapshot is target.
    let there = line_there stack device sector line is in
    let over = line_snapshot stack device sector line snapshot sound is target in
    ap (λ (t : Taken). read_over t snapshot (sector - line.start)) (kept_at stack state (length stack.devices) device there ∙ ap (λ (s : Option Store). kept_in s (taken_at state device)) (snapshot_keeps stack device snapshot keep over.1))
    ∙ over_kept (taken_at state device) (snapshot_store stack device snapshot) snapshot (sector - line.start))

below_same : (b : Below) (f g : Lower → ℕ → BlockUnit) → ((to : Lower) (at : ℕ) → f to at ≡ g to at) → by_below b Zeros Fails f ≡ by_below b Zeros Fails g
below_same (Lies to at) f g same = same to at
below_same b f g same = refl

reads_same : (stack : Description) (a b : State) (levels : ℕ) (lower : Lower) (sector : ℕ) → ((device at : ℕ) → read_below stack a device at ≡ read_below stack b device at) → read_unit stack a levels lower sector ≡ read_unit stack b levels lower sector
unfolding read_unit
reads_same stack a b levels (Disk disk) sector same = refl
reads_same stack a b zero (Device device) sector same = refl
reads_same stack a b (suc levels) (Device device) sector same =
    ap (λ (x : Below). by_below x Zeros Fails (λ to at. read_unit stack a levels to at)) (same device sector)
    ∙ below_same (read_below stack b device sector) (λ to at. read_unit stack a levels to at) (λ to at. read_unit stack b levels to at) (λ to at. reads_same stack a b levels to at same)

-- ---- what devices read as after a restart

kept_fits : (stack : Description) (state : State) → IsSound stack → AllKeepLists stack → IsFitting stack state → IsFitting stack (kept stack state)
kept_fits stack state sound keep fits = record {
  count = kept_count stack state (length stack.devices);
  places = λ device number snapshot over less. elim (cases_Bool (taken_at state device).valid) [
    | inl valid ↦ fits.places device number snapshot over (subst (λ (t : Taken). number < length t.chunks) (is device snapshot over ∙ valid_kept (snapshot_store stack device snapshot) (taken_at state device) valid) less)
    | inr gone ↦ absurd (let none = subst (λ (t : Taken). number < length t.chunks) (is device snapshot over ∙ gone_kept (snapshot_store stack device snapshot) (taken_at state device) gone) less in omega (arith, none))
  ];
}
  where
    is : (device : ℕ) (snapshot : ResolvedSnapshot) → snapshot_at stack device ≡ Some snapshot → taken_at (kept stack state) device ≡ kept_in (Some (snapshot_store stack device snapshot)) (taken_at state device)
    is device snapshot over =
        kept_at stack state (length stack.devices) device (snapshot_sound stack device snapshot sound over).there ∙ ap (λ (s : Option Store). kept_in s (taken_at state device)) (snapshot_keeps stack device snapshot keep over)

kept_own : (zeros : Held) (stack : Description) (state : State) (disks : DiskContents) (rows : Rows Held) → IsSound stack → AllKeepLists stack → AreOwn zeros stack state disks rows → AreOwn zeros stack (kept stack state) disks rows
kept_own zeros stack state disks rows sound keep own = record {
  fits = kept_fits stack state sound keep own.fits;
  tops = λ top sector is_top. subst (λ (u : BlockUnit). Stays (rows top sector) (value_read zeros disks u))
      (sym (reads_same stack (kept stack state) state MOST_DEPTH (Device top) sector (λ device at. below_kept stack state device at sound keep)))
      (own.tops top sector is_top);
}

-- ---- the moment of a power cut

played_own : (zeros : Held) (stack : Description) (moment : Moment Held) (asked : Asked Held) (stop : Option ℕ) → IsSound stack → IsTidy stack → IsTop stack asked.device → IsOwnAt zeros stack moment → IsOwnAt zeros stack (after_played zeros stack stop asked moment)
played_own zeros stack moment asked None sound tidy top own =
    request_own zeros asked.written stack asked.op moment.state asked.device asked.start asked.len moment.values moment.rows sound tidy top own
played_own zeros stack moment asked (Some units) sound tidy top own =
    halted_own zeros asked.written stack asked.op moment.state asked.device asked.start asked.len units moment.values moment.rows sound tidy top own

event_own : (zeros : Held) (stack : Description) (moment : Moment Held) (event : Event) → IsSound stack → IsTidy stack → IsOfTop stack event → IsOwnAt zeros stack moment → IsOwnAt zeros stack (after_event zeros stack moment event)
event_own zeros stack moment (Plays asked) sound tidy top own = played_own zeros stack moment asked asked.halted_after sound tidy top own
event_own zeros stack moment (Ahead chunks) sound tidy each own = ahead_own zeros (λ sector. zeros) stack moment.state 0 chunks moment.values moment.rows sound tidy each own
event_own zeros stack moment (Loses device) sound tidy there own =
    let inside : device < length moment.state = (let count = own.fits.count in omega (arith, there, count)) in
    record {
      fits = fits_put stack moment.state device (lost (taken_at moment.state device)) own.fits inside (λ number other over below. own.fits.places device number other over below);
      tops = λ top at is_top. stays_on _ _ _ (own.tops top at is_top) (lost_stays zeros stack moment.state moment.values device (Device top) at sound inside);
    }

events_own : (zeros : Held) (stack : Description) (moment : Moment Held) (events : List Event) → IsSound stack → IsTidy stack → AllByRecursion (IsOfTop stack) events → IsOwnAt zeros stack moment → IsOwnAt zeros stack (after_events zeros stack moment events)
unfolding after_events
events_own zeros stack moment [] sound tidy tops own = own
events_own zeros stack moment (event ∷ later) sound tidy tops own =
    events_own zeros stack (after_event zeros stack moment event) later sound tidy tops.1 (event_own zeros stack moment event sound tidy tops.0 own)

-- ---- restarts

pub restart_found : (zeros : Held) (stack : Description) (old new : Moment Held) → IsSound stack → IsTidy stack → AllKeepLists stack → IsOwnAt zeros stack old → IsRestart zeros stack old new → IsFound zeros stack new
restart_found zeros stack old new sound tidy keep own restart =
    let left = after_events zeros stack old restart.events in
    let kept_there : AreOwn zeros stack new.state left.values left.rows = rw restart.state (kept_own zeros stack left.state left.values left.rows sound keep (events_own zeros stack old restart.events sound tidy restart.tops own)) in
    record {
      found = rw restart.state (listed_back stack new.values left.state restart.lists);
      own = rw restart.rows (spare_own zeros stack new.state left.values new.values left.rows sound tidy kept_there restart.data_kept);
    }

pub found_exact : (zeros : Held) (stack : Description) (moment : Moment Held) → IsSound stack → IsAmple stack → IsFound zeros stack moment → ((device : ℕ) → IsLostInStore stack moment.values device → ⊥) → AreExact zeros stack moment.state moment.values moment.rows
found_exact zeros stack moment sound ample found none =
    exact zeros stack moment.state moment.values moment.rows sound ample found.own ((stored_fits stack moment.values moment.state sound found.found).intact none)

pub restarts_found : (zeros : Held) (stack : Description) (old : Moment Held) (later : List (Moment Held)) → IsSound stack → IsTidy stack → AllKeepLists stack → IsOwnAt zeros stack old → AreRestarts zeros stack old later → AllByRecursion (IsFound zeros stack) later
unfolding AreRestarts
restarts_found zeros stack old [] sound tidy keep own each = tt
restarts_found zeros stack old (new ∷ later) sound tidy keep own each =
    let found = restart_found zeros stack old new sound tidy keep own each.0 in
    (found, restarts_found zeros stack new later sound tidy keep found.own each.1)
