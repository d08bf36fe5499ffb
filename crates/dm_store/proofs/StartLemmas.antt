-- The state of all devices from the entry of each, and which devices are snapshots.
use Rattle.dm_store.proofs.Prelude.{inl, inr, ℕ, zero, suc, Bool, true, false, cond, List, Option, Some, None, Result, Ok, Err, filter, get_or, length, take, refl, sym, ap, subst, ◌∙◌, arith, option_and_then, Contains, range_with_len, cases_lt, cases_order, get_or-set_other, get_or_default, get_or_past, All-get_or, le-suc_iff, take-suc, ResolvedLine, ResolvedSnapshot, ResolvedTarget, Description, lines_at, AreSnapshots, IsSnapshot, has_snapshot, snapshots, found_at, State, Taken, none_taken, put, taken_at, snapshot_of, StoreFault, DiskContents, start_of, state_of_first, store_if, taken_if, with_next, Snapshot}
use Rattle.std.specs.Prelude.{◌≡◌, ◌+◌, ◌<◌, ◌≤◌, ◌∷◌}

-- ---- the state of the first devices

pub all_started : (starts : ℕ → Result Taken StoreFault) (state : State) (n : ℕ) → n ≤ length state → ((i : ℕ) → i < n → starts i ≡ Ok (taken_at state i)) → state_of_first starts n ≡ Ok (take n state)
unfolding state_of_first
all_started starts state zero within each = refl
all_started starts state (suc n) within each =
    rw (all_started starts state n (omega (arith, within)) (λ i less. each i (omega (arith, less))), each n (omega arith))
    (ap (λ (xs : State). Ok xs) (sym (take-suc state n none_taken (omega (arith, within)))))

pub first_refused : (starts : ℕ → Result Taken StoreFault) (state : State) (d n : ℕ) (fault : StoreFault) → d < n → d ≤ length state → ((i : ℕ) → i < d → starts i ≡ Ok (taken_at state i)) → starts d ≡ Err fault
    → state_of_first starts n ≡ Err (record { snapshot = d; fault = fault })
unfolding state_of_first
first_refused starts state d zero fault less within each refused = absurd (omega (arith, less))
first_refused starts state d (suc n) fault less within each refused = elim (le-suc_iff.0 less) as (λ _. with_next (state_of_first starts n) n (starts n) ≡ Err (record { snapshot = d; fault = fault })) [
  | inl before ↦ rw (first_refused starts state d n fault before within each refused) refl
  | inr last ↦ let k : n ≡ d = omega (arith, last) in rw (k, all_started starts state d within each, refused) refl
]

-- ---- the ids of snapshots are in rising order

after_by : (b : Bool) (a : ℕ) (rest : List ℕ) → ((k : ℕ) → k < length rest → a + 1 ≤ get_or rest k 0) → (i : ℕ) → i < length (cond b (a ∷ rest) rest) → a ≤ get_or (cond b (a ∷ rest) rest) i 0
after_by true a rest all zero less = omega arith
after_by true a rest all (suc i) less = let more = all i (omega (arith, less)) in omega (arith, more)
after_by false a rest all i less = let more = all i less in omega (arith, more)

picked_from : (f : ℕ → Bool) (a n i : ℕ) → i < length (filter f (range_with_len a n)) → a ≤ get_or (filter f (range_with_len a n)) i 0
picked_from f a zero i less = absurd (omega (arith, less))
picked_from f a (suc n) i less = after_by (f a) a (filter f (range_with_len (a + 1) n)) (picked_from f (a + 1) n) i less

rising_by : (b : Bool) (a : ℕ) (rest : List ℕ) → ((k : ℕ) → k < length rest → a + 1 ≤ get_or rest k 0) → ((k j : ℕ) → k < j → j < length rest → get_or rest k 0 < get_or rest j 0)
    → (i j : ℕ) → i < j → j < length (cond b (a ∷ rest) rest) → get_or (cond b (a ∷ rest) rest) i 0 < get_or (cond b (a ∷ rest) rest) j 0
rising_by true a rest from rising i zero less within = absurd (omega (arith, less))
rising_by true a rest from rising zero (suc j) less within = let more = from j (omega (arith, within)) in omega (arith, more)
rising_by true a rest from rising (suc i) (suc j) less within = rising i j (omega (arith, less)) (omega (arith, within))
rising_by false a rest from rising i j less within = rising i j less within

pub picked_rising : (f : ℕ → Bool) (a n i j : ℕ) → i < j → j < length (filter f (range_with_len a n)) → get_or (filter f (range_with_len a n)) i 0 < get_or (filter f (range_with_len a n)) j 0
picked_rising f a zero i j less within = absurd (omega (arith, within))
picked_rising f a (suc n) i j less within =
    rising_by (f a) a (filter f (range_with_len (a + 1) n)) (picked_from f (a + 1) n) (λ k l. picked_rising f (a + 1) n k l) i j less within

-- a device between two neighbours of a rising list, or after its last, isn't in the list
pub gap : (xs : List ℕ) (most next i : ℕ) → ((k j : ℕ) → k < j → j < length xs → get_or xs k 0 < get_or xs j 0) → ((k : ℕ) → k < next → k < length xs → get_or xs k 0 < i) → i < get_or xs next most → Contains xs i → ⊥
gap xs most next i rising before below there =
    let k : ℕ = there.0 in
    let within : k < length xs = there.1 in
    let at : get_or xs k 0 ≡ i = get_or_default xs k 0 i within ∙ there.2 in
    elim (cases_order k next) [
      | inl same ↦ let next_at : get_or xs next most ≡ i = rw (← same) (get_or_default xs k most 0 within ∙ at) in omega (arith, below, next_at)
      | inr (inl less) ↦ let under = before k less within in omega (arith, under, at)
      | inr (inr more) ↦
          let up = rising next k more within in
          let next_at : get_or xs next most ≡ get_or xs next 0 = get_or_default xs next most 0 (omega (arith, more, within)) in
          omega (arith, up, next_at, below, at)
    ]

-- ---- a device that isn't a snapshot took nothing

pub no_snapshot_in : (stack : Description) (disks : DiskContents) (device : ℕ) (line : Option ResolvedLine)
    → ((there : ResolvedLine) (snapshot : ResolvedSnapshot) → line ≡ Some there → there.target ≡ Snapshot snapshot → ⊥) → taken_if stack disks (store_if stack device (option_and_then (λ (l : ResolvedLine). snapshot_of l.target) line)) ≡ Ok none_taken
no_snapshot_in stack disks device None none = refl
no_snapshot_in stack disks device (Some line) none = by_target line.target refl
  where
    by_target : (target : ResolvedTarget) → line.target ≡ target → taken_if stack disks (store_if stack device (snapshot_of line.target)) ≡ Ok none_taken
    by_target (Snapshot snapshot) is = absurd (none line snapshot refl is)
    by_target _ is = rw is refl

pub no_snapshot : (stack : Description) (disks : DiskContents) (devices : List ℕ) (device : ℕ) → AreSnapshots stack devices → (Contains devices device → ⊥) → start_of stack disks device ≡ Ok none_taken
no_snapshot stack disks devices device are none = no_snapshot_in stack disks device (found_at stack device 0) (λ line snapshot is target. none (are.among device line snapshot is target))

-- ---- snapshots, in the order of their ids

-- these devices are the snapshots of the stack, in rising order
pub record InOrder (stack : Description) (devices : List ℕ) : Type 0 where
  pub are : AreSnapshots stack devices
  pub rising : (k j : ℕ) → k < j → j < length devices → get_or devices k 0 < get_or devices j 0

pub in_order : (stack : Description) (devices : List ℕ) → devices ≡ snapshots stack → AreSnapshots stack devices → InOrder stack devices
in_order stack devices is are = record {
  are = are;
  rising = subst (λ (xs : List ℕ). (k j : ℕ) → k < j → j < length xs → get_or xs k 0 < get_or xs j 0) (sym is)
      (picked_rising (λ device. has_snapshot (lines_at stack device)) 0 (length stack.devices));
}

-- a device before the first snapshot took nothing
pub none_before : (stack : Description) (disks : DiskContents) (devices : List ℕ) → InOrder stack devices → (i : ℕ) → i < get_or devices 0 (length stack.devices) → start_of stack disks i ≡ Ok none_taken
none_before stack disks devices order i below =
    no_snapshot stack disks devices i order.are (gap devices (length stack.devices) 0 i order.rising (λ k less within. absurd (omega (arith, less))) below)

pub snapshot_there : (stack : Description) (devices : List ℕ) (next : ℕ) → InOrder stack devices → next < length devices → get_or devices next 0 < length stack.devices
snapshot_there stack devices next order within = (All-get_or (IsSnapshot stack) devices next 0 within order.are.each).there

-- the next snapshot comes after this one
pub next_after : (stack : Description) (devices : List ℕ) (next : ℕ) → InOrder stack devices → next < length devices → get_or devices next 0 < get_or devices (next + 1) (length stack.devices)
next_after stack devices next order within = elim (cases_lt (next + 1) (length devices)) [
  | inl more ↦
      let up = order.rising next (next + 1) (omega arith) more in
      let same = get_or_default devices (next + 1) (length stack.devices) 0 more in
      omega (arith, up, same)
  | inr last ↦
      let there = snapshot_there stack devices next order within in
      let end = get_or_past devices (next + 1) (length stack.devices) (omega (arith, last)) in
      omega (arith, there, end)
]

-- the state once the next snapshot's store is read
pub next_started : (stack : Description) (disks : DiskContents) (devices : List ℕ) (next snapshot : ℕ) (state new : State) → InOrder stack devices → next < length devices → get_or devices next 0 ≡ snapshot
    → ((i : ℕ) → i < get_or devices next (length stack.devices) → start_of stack disks i ≡ Ok (taken_at state i))
    → ((i : ℕ) → get_or devices next (length stack.devices) ≤ i → taken_at state i ≡ none_taken)
    → new ≡ put state snapshot (taken_at new snapshot) → start_of stack disks snapshot ≡ Ok (taken_at new snapshot)
    → (i : ℕ) → i < get_or devices (next + 1) (length stack.devices) → start_of stack disks i ≡ Ok (taken_at new i)
next_started stack disks devices next snapshot state new order within is before later put_there here i below =
    let edge : get_or devices next (length stack.devices) ≡ snapshot = get_or_default devices next (length stack.devices) 0 within ∙ is in
    let kept : (i ≡ snapshot → ⊥) → taken_at new i ≡ taken_at state i = λ other. ap (λ (s : State). taken_at s i) put_there ∙ get_or-set_other state snapshot i (taken_at new snapshot) none_taken other in
    elim (cases_order i snapshot) [
      | inl same ↦ subst (λ (x : ℕ). start_of stack disks x ≡ Ok (taken_at new x)) (sym same) here
      | inr (inl less) ↦ before i (omega (arith, less, edge)) ∙ ap (λ (t : Taken). let r : Result Taken StoreFault = Ok t in r) (sym (kept (λ same. omega (arith, less, same))))
      | inr (inr more) ↦
          let none : Contains devices i → ⊥ = gap devices (length stack.devices) (next + 1) i order.rising (λ k less inside. below_next stack devices next snapshot i k order within is more less inside) below in
          no_snapshot stack disks devices i order.are none ∙ ap (λ (t : Taken). let r : Result Taken StoreFault = Ok t in r) (sym (kept (λ same. omega (arith, more, same)) ∙ later i (omega (arith, more, edge))))
    ]
  where
    below_next : (stack : Description) (devices : List ℕ) (next snapshot i k : ℕ) → InOrder stack devices → next < length devices → get_or devices next 0 ≡ snapshot → snapshot < i → k < next + 1 → k < length devices → get_or devices k 0 < i
    below_next stack devices next snapshot i k order within is more less inside = elim (cases_lt k next) [
      | inl before ↦ let up = order.rising k next before within in omega (arith, up, is, more)
      | inr last ↦ let k_next : k ≡ next = omega (arith, last, less) in rw k_next (omega (arith, is, more))
    ]

pub next_later : (stack : Description) (devices : List ℕ) (next snapshot : ℕ) (state new : State) → InOrder stack devices → next < length devices → get_or devices next 0 ≡ snapshot
    → ((i : ℕ) → get_or devices next (length stack.devices) ≤ i → taken_at state i ≡ none_taken)
    → new ≡ put state snapshot (taken_at new snapshot)
    → (i : ℕ) → get_or devices (next + 1) (length stack.devices) ≤ i → taken_at new i ≡ none_taken
next_later stack devices next snapshot state new order within is later put_there i from =
    let after = next_after stack devices next order within in
    let edge : get_or devices next (length stack.devices) ≡ snapshot = get_or_default devices next (length stack.devices) 0 within ∙ is in
    let other : i ≡ snapshot → ⊥ = λ same. omega (arith, after, from, is, same) in
    ap (λ (s : State). taken_at s i) put_there ∙ get_or-set_other state snapshot i (taken_at new snapshot) none_taken other ∙ later i (omega (arith, after, from, is, edge))
