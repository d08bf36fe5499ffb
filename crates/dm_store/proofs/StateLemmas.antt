-- The stack can be in the state that its stores hold.
use Rattle.dm_store.proofs.Prelude.{inl, inr, ℕ, zero, suc, true, false, List, [], Option, Some, None, Result, Ok, get_or, length, refl, sym, ap, subst, ◌∙◌, arith, slice_index, AllByRecursion, IsDistinct, cases_Bool, cases_lt, le-leb, get_or_append_left, get_or_past, length-append, le-div_iff_mul-le, le-suc_iff, get_or-append_seam, true≢false, none-some, StoreKind, Transient, ResolvedSnapshot, IsSound, Description, device_len, lower_len, found_at, AreExact, AreOwnChunks, IsAmple, chunk_count, Values, AreOwn, IsFitting, State, Taken, none_taken, taken_at, snapshot_at, rows_in, line_there, snapshot_sound, chunk_inside, exact, StoreFault, StoreRefusal, Store, Fit, IsLostInStore, IsStart, DiskContents, Sectors, if_listing, snapshot_store, start_of, state_of_first, store_at, store_if, store_sectors, stored_state, taken_if, taken_in, with_next, Stored, Fresh, Lost, Holds, Refused, stored}
use Rattle.dm_stack.proofs.StoreLayoutLemmas.{has_place}
use Rattle.dm_store.proofs.SpeltLemmas.{is_spelled}
use Rattle.dm_store.proofs.StartLemmas.{no_snapshot_in}
use Rattle.std.specs.Prelude.{◌≡◌, ◌+◌, ◌-◌, ◌*◌, ◌/◌, ◌<◌, ◌≤◌, ◌∷◌, ◌++◌, ◌⊎◌, ◌↔◌}

-- ---- the state of the first devices

-- the state of the first devices is that of those before the last, and the entry of the last
record IsLonger (before : Result State StoreRefusal) (next : Result Taken StoreFault) (state : State) : Type 0 where
  earlier : State
  taken : Taken
  before_is : before ≡ Ok earlier
  next_is : next ≡ Ok taken
  is : state ≡ earlier ++ taken ∷ []

is_longer : (before : Result State StoreRefusal) (device : ℕ) (next : Result Taken StoreFault) (state : State) → with_next before device next ≡ Ok state → IsLonger before next state
is_longer (Ok earlier) device (Ok taken) state e = record { earlier = earlier; taken = taken; before_is = refl; next_is = refl; is = cc }
is_longer before device next state e = absurd cc

-- each of the first devices took what its store holds
pub record AreFirst (starts : ℕ → Result Taken StoreFault) (count : ℕ) (state : State) : Type 0 where
  pub all : length state ≡ count
  pub each : (device : ℕ) → device < count → starts device ≡ Ok (taken_at state device)

pub are_first : (starts : ℕ → Result Taken StoreFault) (count : ℕ) (state : State) → state_of_first starts count ≡ Ok state → AreFirst starts count state
unfolding state_of_first
are_first starts zero state e = let none : state ≡ [] = cc in record { all = ap (λ (s : State). length s) none; each = λ device less. absurd (omega (arith, less)) }
are_first starts (suc last) state e =
    let longer = is_longer (state_of_first starts last) last (starts last) state e in
    let before = are_first starts last longer.earlier longer.before_is in
    let count : length longer.earlier ≡ last = before.all in
    let at : (device : ℕ) → taken_at state device ≡ taken_at (longer.earlier ++ longer.taken ∷ []) device = λ device. ap (λ (s : State). taken_at s device) longer.is in
    record {
      all = let whole : length (longer.earlier ++ longer.taken ∷ []) ≡ length longer.earlier + 1 = length-append longer.earlier (longer.taken ∷ []) in ap (λ (s : State). length s) longer.is ∙ omega (arith, whole, count);
      each = λ device less. elim (le-suc_iff.0 less) as (λ _. starts device ≡ Ok (taken_at state device)) [
        | inl inside ↦
            before.each device inside
            ∙ ap (λ (t : Taken). let r : Result Taken StoreFault = Ok t in r) (sym (at device ∙ get_or_append_left longer.earlier (longer.taken ∷ []) none_taken device (omega (arith, inside, count))))
        | inr same ↦
            let is : device ≡ last = omega (arith, same) in
            let here : taken_at state last ≡ longer.taken = at last ∙ ap (λ (n : ℕ). taken_at (longer.earlier ++ longer.taken ∷ []) n) (sym count) ∙ get_or-append_seam longer.earlier longer.taken [] none_taken in
            rw is (longer.next_is ∙ ap (λ (t : Taken). let r : Result Taken StoreFault = Ok t in r) (sym here))
      ];
    }

-- ---- what a store says

pub ok_is : (a b : Taken) → (let r : Result Taken StoreFault = Ok a in r) ≡ Ok b → a ≡ b
ok_is a b e = cc

-- the chunks fit the store and are chunks of the snapshot's device
record AreHeld (store : Store) (chunks : List ℕ) : Type 0 where
  fit : Fit store chunks
  near : (number : ℕ) → number < length chunks → slice_index chunks number ≤ store.last

none_held : (store : Store) → AreHeld store []
unfolding IsDistinct
none_held store = record { fit = record { places = omega arith; once = tt }; near = λ number less. absurd (omega (arith, less)) }

-- a snapshot's entry is what its store holds
record IsTakenIn (sectors : Sectors) (store : Store) (taken : Taken) : Type 0 where
  held : AreHeld store taken.chunks
  lost : (taken.valid ≡ false) ↔ (stored sectors store ≡ Lost)

by_store : (sectors : Sectors) (store : Store) (says : Stored) (taken : Taken) → stored sectors store ≡ says → taken_in says ≡ Ok taken → IsTakenIn sectors store taken
by_store sectors store Fresh taken is e =
    let same = ok_is none_taken taken e in
    rw (← same) (record { held = none_held store; lost = (λ gone. absurd (true≢false gone), λ lost. absurd (let differ : Fresh ≡ Lost = sym is ∙ lost in cc)) })
by_store sectors store Lost taken is e =
    let same = ok_is (record { chunks = []; valid = false }) taken e in
    rw (← same) (record { held = none_held store; lost = (λ gone. is, λ lost. refl) })
by_store sectors store (Holds chunks) taken is e =
    let same = ok_is (record { chunks = chunks; valid = true }) taken e in
    let spelled = is_spelled store sectors chunks is in
    rw (← same) (record { held = record { fit = spelled.fit; near = spelled.near }; lost = (λ gone. absurd (true≢false gone), λ lost. absurd (let differ : Holds chunks ≡ Lost = sym is ∙ lost in cc)) })
by_store sectors store (Refused fault) taken is e = absurd cc

-- a device's entry is what its store holds, or nothing if there is no store to read
record IsTakenBy (stack : Description) (disks : DiskContents) (device : ℕ) (taken : Taken) : Type 0 where
  none : store_at stack device ≡ None → taken.chunks ≡ []
  some : (store : Store) → store_at stack device ≡ Some store → AreHeld store taken.chunks
  lost : (taken.valid ≡ false) ↔ IsLostInStore stack disks device

taken_by : (stack : Description) (disks : DiskContents) (device : ℕ) (kept : Option Store) (taken : Taken) → store_at stack device ≡ kept → taken_if stack disks kept ≡ Ok taken → IsTakenBy stack disks device taken
taken_by stack disks device None taken is e =
    let same = ok_is none_taken taken e in
    rw (← same) (record {
      none = λ no. refl;
      some = λ store of. absurd (none-some store (sym is ∙ of));
      lost = (λ gone. absurd (true≢false gone), λ lost. absurd (none-some lost.store (sym is ∙ lost.of)));
    })
taken_by stack disks device (Some store) taken is e =
    let by = by_store (store_sectors stack disks store) store (stored (store_sectors stack disks store) store) taken refl e in
    let only : (other : Store) → store_at stack device ≡ Some other → other ≡ store = λ other of. cc in
    record {
      none = λ no. absurd (none-some store (sym no ∙ is));
      some = λ other of. rw (only other of) by.held;
      lost = (
        λ gone. record { store = store; of = is; says = by.lost.0 gone },
        λ lost. by.lost.1 (subst (λ (s : Store). stored (store_sectors stack disks s) s ≡ Lost) (only lost.store lost.of) lost.says),
      );
    }

-- ---- the stack can be in the state

listing : (kind : StoreKind) (store : Store) → (if_listing kind store ≡ None) ⊎ (if_listing kind store ≡ Some store)
listing Transient store = inl refl
listing kind store = inr refl

held_by : (stack : Description) (disks : DiskContents) (device : ℕ) (snapshot : ResolvedSnapshot) (taken : Taken) → snapshot_at stack device ≡ Some snapshot → IsTakenBy stack disks device taken → AreHeld (snapshot_store stack device snapshot) taken.chunks
held_by stack disks device snapshot taken over by =
    let kept : store_at stack device ≡ if_listing snapshot.kind (snapshot_store stack device snapshot) = ap (λ (s : Option ResolvedSnapshot). store_if stack device s) over in
    elim (listing snapshot.kind (snapshot_store stack device snapshot)) [
      | inl none ↦ rw (by.none (kept ∙ none)) (none_held (snapshot_store stack device snapshot))
      | inr some ↦ by.some (snapshot_store stack device snapshot) (kept ∙ some)
    ]

all_from : (P : ℕ → Type 0) (xs : List ℕ) → ((i : ℕ) → i < length xs → P (get_or xs i 0)) → AllByRecursion P xs
all_from P [] each = tt
all_from P (x ∷ xs) each = (each 0 (omega arith), all_from P xs (λ i less. each (suc i) (omega (arith, less))))

-- a chunk up to the last one of a device is one of its chunks
near_inside : (chunk len taken : ℕ) → 0 < chunk → 0 < len → taken ≤ (len - 1) / chunk → taken < chunk_count chunk len
near_inside chunk len taken some long near =
    let first : taken * chunk ≤ len - 1 = (le-div_iff_mul-le {x = taken} {y = len - 1} some).0 near in
    chunk_inside chunk len taken some (omega (arith, first, long))

pub stored_fits : (stack : Description) (disks : DiskContents) (state : State) → IsSound stack → stored_state stack disks ≡ Ok state → IsStart stack disks state
stored_fits stack disks state sound e =
    let first = are_first (start_of stack disks) (length stack.devices) state e in
    let starts : (device : ℕ) → start_of stack disks device ≡ Ok (taken_at state device) = λ device. elim (cases_lt device (length stack.devices)) [
      | inl there ↦ first.each device there
      | inr past ↦
          let count = first.all in
          let none : taken_at state device ≡ none_taken = get_or_past state device none_taken (omega (arith, past, count)) in
          no_snapshot_in stack disks device (found_at stack device 0) (λ line snapshot is target. let there = line_there stack device 0 line is in omega (arith, there, past))
          ∙ ap (λ (t : Taken). let r : Result Taken StoreFault = Ok t in r) (sym none)
    ] in
    let by : (device : ℕ) → IsTakenBy stack disks device (taken_at state device) = λ device. taken_by stack disks device (store_at stack device) (taken_at state device) refl (starts device) in
    let held : (device : ℕ) (snapshot : ResolvedSnapshot) → snapshot_at stack device ≡ Some snapshot → AreHeld (snapshot_store stack device snapshot) (taken_at state device).chunks =
    λ device snapshot over. held_by stack disks device snapshot (taken_at state device) over (by device) in
    let fits : IsFitting stack state = record {
      count = first.all;
      places = λ device number snapshot over less.
          let few = (held device snapshot over).fit.places in
          let some = (snapshot_sound stack device snapshot sound over).soundly.chunk_some in
          le-leb _ _ ((has_place snapshot.kind snapshot.chunk (lower_len stack snapshot.store) number some).0 (omega (arith, less, few)));
    } in
    let chunks : (device : ℕ) (snapshot : ResolvedSnapshot) → snapshot_at stack device ≡ Some snapshot → AreOwnChunks snapshot.chunk (device_len stack device) (taken_at state device).chunks =
    λ device snapshot over.
    let of = snapshot_sound stack device snapshot sound over in
    let here = held device snapshot over in
    record {
      once = here.fit.once;
      own = all_from (λ taken. taken < chunk_count snapshot.chunk (device_len stack device)) (taken_at state device).chunks (λ number less.
          near_inside snapshot.chunk (device_len stack device) (slice_index (taken_at state device).chunks number) of.soundly.chunk_some of.some (here.near number less));
    } in
    record {
      fits = fits;
      chunks = chunks;
      lost = λ device. (by device).lost;
      intact = λ none. record {
        fits = fits;
        valid = λ device. elim (cases_Bool (taken_at state device).valid) [
          | inl valid ↦ valid
          | inr gone ↦ absurd (none device ((by device).lost.0 gone))
        ];
        chunks = chunks;
      };
    }

-- ---- what devices read as from then on

pub stored_own : {V : Type 0} (zeros : V) (stack : Description) (disks : DiskContents) (state : State) (values : Values V) → IsSound stack → stored_state stack disks ≡ Ok state → AreOwn zeros stack state values (rows_in zeros stack state values)
stored_own zeros stack disks state values sound e = record { fits = (stored_fits stack disks state sound e).fits; tops = λ top sector is_top. inl refl }

pub stored_exact : {V : Type 0} (zeros : V) (stack : Description) (disks : DiskContents) (state : State) (values : Values V) → IsSound stack → IsAmple stack → ((device : ℕ) → IsLostInStore stack disks device → ⊥) → stored_state stack disks ≡ Ok state
    → AreExact zeros stack state values (rows_in zeros stack state values)
stored_exact zeros stack disks state values sound ample none e =
    exact zeros stack state values (rows_in zeros stack state values) sound ample (stored_own zeros stack disks state values sound e) ((stored_fits stack disks state sound e).intact none)
