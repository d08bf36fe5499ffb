-- The three outcomes of taking a chunk, with the facts of each: nothing is done, the chunk is taken, or the snapshot is lost. The state still fits the stack.
use Rattle.dm_map.proofs.Prelude.{inl, inr, ℕ, zero, suc, Bool, true, false, cond, not, [], length-append, Some, length, refl, sym, ap, ◌∙◌, arith, is_some, and_parts, cases_eq, cases_lt, le-leb, leb-true, not-false, not-true, or_parts, length-set, ResolvedSnapshot, Lower, Device, Disk, Below, Lies, IsZero, IsError, Description, IsFitting, by_below, read_below, read_unit, number_in, has_place, any_error, can_take, count_of, first_of, is_error, is_settled, read, reads_all, take_chunk, row, lost, put, with_chunk, State, Taken, taken_at, Step, keep, snapshot_at, BlockUnit, ReadOf, Zeros, Fails, MOST_DEPTH}
use Rattle.dm_map.proofs.own.Plays.{IsReadable, Reads, AreZeros}
use Rattle.dm_map.proofs.walk.ChunkTaking.{none_of, taken_other, taken_same}
use Rattle.dm_map.proofs.own.Takes.{IsTake, chunk_copies, new_number, taken_state}
use Rattle.std.specs.Prelude.{◌≡◌, ◌+◌, ◌<◌, ◌≤◌, ◌∷◌}

-- The unit of a read is a disk's read, zeros, or an error

pub data IsRead (unit : BlockUnit) : Type 0 where
  Sector : (disk sector : ℕ) → unit ≡ ReadOf disk sector → IsRead unit
  Nothing : unit ≡ Zeros → IsRead unit
  Fault : unit ≡ Fails → IsRead unit

is_read_below : (b : Below) (f : Lower → ℕ → BlockUnit) → ((to : Lower) (at : ℕ) → IsRead (f to at)) → IsRead (by_below b Zeros Fails f)
is_read_below (Lies to at) f each = each to at
is_read_below IsZero f each = Nothing refl
is_read_below IsError f each = Fault refl

pub is_read : (stack : Description) (state : State) (levels : ℕ) (lower : Lower) (sector : ℕ) → IsRead (read_unit stack state levels lower sector)
unfolding read_unit
is_read stack state levels (Disk disk) sector = Sector disk sector refl
is_read stack state zero (Device device) sector = Fault refl
is_read stack state (suc levels) (Device device) sector = is_read_below (read_below stack state device sector) (λ to at. read_unit stack state levels to at) (λ to at. is_read stack state levels to at)

readable_of : (unit : BlockUnit) → IsRead unit → is_error unit ≡ false → IsReadable unit
readable_of unit (Sector disk sector is) e = Reads disk sector is
readable_of unit (Nothing is) e = AreZeros is
readable_of unit (Fault is) e = absurd (cc)

no_errors : (f : ℕ → BlockUnit) (s n u : ℕ) → any_error (row f s n) ≡ false → s ≤ u → u < s + n → is_error (f u) ≡ false
no_errors f s zero u e low high = absurd (omega (arith, low, high))
no_errors f s (suc n) u e low high =
    let parts = or_parts (is_error (f s)) (any_error (row f (suc s) n)) e in
    elim (cases_eq s u) [
      | inl same ↦ rw same at parts.0
      | inr differ ↦ no_errors f (suc s) n u parts.1 (omega (arith, low, differ)) (omega (arith, high))
    ]

-- The three outcomes of taking a chunk

pub data FullOutcome (stack : Description) (state : State) (device chunk : ℕ) (snapshot : ResolvedSnapshot) (step : Step) : Type 0 where
  Done : step ≡ keep [] state → FullOutcome stack state device chunk snapshot step
  Taking : IsTake stack state device chunk snapshot → step ≡ keep (chunk_copies stack state device chunk snapshot) (taken_state state device chunk) → FullOutcome stack state device chunk snapshot step
  Losing : step ≡ keep [] (put state device (lost (taken_at state device))) → FullOutcome stack state device chunk snapshot step

full_outcome_by : (stack : Description) (state : State) (device chunk : ℕ) (snapshot : ResolvedSnapshot) (settled can : Bool) → snapshot_at stack device ≡ Some snapshot → device < length state → is_settled (taken_at state device) chunk ≡ settled
    → can_take stack state snapshot device (first_of snapshot chunk) (count_of stack snapshot device chunk) ≡ can
    → FullOutcome stack state device chunk snapshot (cond settled (keep [] state) (cond can (keep (chunk_copies stack state device chunk snapshot) (taken_state state device chunk)) (keep [] (put state device (lost (taken_at state device))))))
full_outcome_by stack state device chunk snapshot true can over there settled_is can_is = Done refl
full_outcome_by stack state device chunk snapshot false true over there settled_is can_is =
    let parts = or_parts (not (taken_at state device).valid) (is_some (number_in chunk (taken_at state device).chunks)) settled_is in
    let able = and_parts (has_place stack snapshot (new_number state device)) (reads_all stack state snapshot.origin (first_of snapshot chunk) (count_of stack snapshot device chunk)) can_is in
    Taking (record {
      over = over;
      there = there;
      valid = not-false (taken_at state device).valid parts.0;
      fresh = none_of (number_in chunk (taken_at state device).chunks) parts.1;
      place_there = leb-true _ _ able.0;
      readable = λ u low high. readable_of (read stack state snapshot.origin u) (is_read stack state MOST_DEPTH snapshot.origin u)
          (no_errors (read stack state snapshot.origin) (first_of snapshot chunk) (count_of stack snapshot device chunk) u (not-true _ able.1) low high);
    }) refl
full_outcome_by stack state device chunk snapshot false false over there settled_is can_is = Losing refl

pub full_outcome : (stack : Description) (state : State) (device chunk : ℕ) (snapshot : ResolvedSnapshot) → snapshot_at stack device ≡ Some snapshot → device < length state → FullOutcome stack state device chunk snapshot (take_chunk stack snapshot device chunk state)
full_outcome stack state device chunk snapshot over there =
    full_outcome_by stack state device chunk snapshot (is_settled (taken_at state device) chunk) (can_take stack state snapshot device (first_of snapshot chunk) (count_of stack snapshot device chunk)) over there refl refl

-- The state still fits the stack after a chunk is taken

pub fits_put : (stack : Description) (state : State) (device : ℕ) (taken : Taken) → IsFitting stack state → device < length state
    → ((number : ℕ) (snapshot : ResolvedSnapshot) → snapshot_at stack device ≡ Some snapshot → number < length taken.chunks → has_place stack snapshot number ≡ true) → IsFitting stack (put state device taken)
fits_put stack state device taken fitting there each = record {
  count = length-set state device taken ∙ fitting.count;
  places = λ e number snapshot over below. elim (cases_eq e device) [
    | inl same ↦
        let here : taken_at (put state device taken) e ≡ taken = ap (taken_at (put state device taken)) same ∙ taken_same state device taken there in
        each number snapshot (rw same at over) (rw here at below)
    | inr differ ↦ fitting.places e number snapshot over (rw (← taken_other state device e taken differ) below)
  ];
}

pub full_outcome_fits : (stack : Description) (state : State) (device chunk : ℕ) (snapshot : ResolvedSnapshot) (step : Step) → IsFitting stack state → device < length state → FullOutcome stack state device chunk snapshot step → IsFitting stack step.state
full_outcome_fits stack state device chunk snapshot step fitting there (Done is) = rw is fitting
full_outcome_fits stack state device chunk snapshot step fitting there (Taking take is) =
    rw is (fits_put stack state device (with_chunk (taken_at state device) chunk) fitting there (λ number other over below.
    elim (cases_lt number (length (taken_at state device).chunks)) [
      | inl old ↦ fitting.places device number other over old
      | inr past ↦
          let new : number ≡ length (taken_at state device).chunks = omega (arith, below, past, length-append (taken_at state device).chunks (chunk ∷ [])) in
          let same : snapshot ≡ other = cc (sym take.over ∙ over) in
          let room : has_place stack snapshot (new_number state device) ≡ true = le-leb _ _ take.place_there in
          rw new (rw same at room)
    ]))
full_outcome_fits stack state device chunk snapshot step fitting there (Losing is) =
    rw is (fits_put stack state device (lost (taken_at state device)) fitting there (λ number other over below. fitting.places device number other over below))
