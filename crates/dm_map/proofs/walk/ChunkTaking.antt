-- After a chunk was to be taken, it is settled and stays so; so the sectors of one chunk are written in one step, or all of them fail.
use Rattle.dm_map.proofs.Prelude.{replicate, ℕ, zero, suc, Bool, true, false, cond, not, List, [], Option, Some, None, length, refl, ap, ◌∙◌, arith, is_some, or_parts, or_right, not-false, get_or-set_same, get_or-set_other, ResolvedSnapshot, Description, number_in, has_place, put, with_chunk, lost, Taken, State, none_taken, taken_at, is_keeping, is_refused, is_settled, take_chunk, row, unit_in_store, write_snapshot, copies, first_of, count_of, can_take, Step, keep, and_then, steps, BlockUnit, Fails, units_in}
use Rattle.dm_map.proofs.state.Numbers.{number_new}
use Rattle.dm_map.proofs.walk.Rows.{and_then_at, step_assoc, steps_still}
use Rattle.std.specs.Prelude.{◌≡◌, ◌+◌, ◌/◌, ◌<◌, ◌∷◌, ◌&&◌}

pub none_at : (count device : ℕ) → taken_at (replicate count none_taken) device ≡ none_taken
none_at zero device = refl
none_at (suc count) zero = refl
none_at (suc count) (suc device) = none_at count device

pub taken_same : (state : State) (device : ℕ) (taken : Taken) → device < length state → taken_at (put state device taken) device ≡ taken
taken_same state device taken there = get_or-set_same state device taken none_taken there

pub taken_other : (state : State) (device other : ℕ) (taken : Taken) → (other ≡ device → ⊥) → taken_at (put state device taken) other ≡ taken_at state other
taken_other state device other taken differ = get_or-set_other state device other taken none_taken differ

-- The outcomes of taking a chunk: nothing if it is settled, else it is taken, or its snapshot becomes lost

pub data ChunkOutcome (state : State) (device chunk : ℕ) (step : Step) : Type 0 where
  Settled : is_settled (taken_at state device) chunk ≡ true → step ≡ keep [] state → ChunkOutcome state device chunk step
  Took : (taken_at state device).valid ≡ true → number_in chunk (taken_at state device).chunks ≡ None → (units : List BlockUnit) → step ≡ keep units (put state device (with_chunk (taken_at state device) chunk)) → ChunkOutcome state device chunk step
  Lost : step ≡ keep [] (put state device (lost (taken_at state device))) → ChunkOutcome state device chunk step

pub none_of : (o : Option ℕ) → is_some o ≡ false → o ≡ None
none_of None e = refl
none_of (Some i) e = absurd cc

chunk_outcome_by : (state : State) (device chunk : ℕ) (settled can : Bool) (units : List BlockUnit) → is_settled (taken_at state device) chunk ≡ settled
    → ChunkOutcome state device chunk (cond settled (keep [] state) (cond can (keep units (put state device (with_chunk (taken_at state device) chunk))) (keep [] (put state device (lost (taken_at state device))))))
chunk_outcome_by state device chunk true can units is = Settled is refl
chunk_outcome_by state device chunk false true units is =
    let parts = or_parts (not (taken_at state device).valid) (is_some (number_in chunk (taken_at state device).chunks)) is in
    Took (not-false (taken_at state device).valid parts.0) (none_of _ parts.1) units refl
chunk_outcome_by state device chunk false false units is = Lost refl

pub chunk_outcome : (stack : Description) (snapshot : ResolvedSnapshot) (device chunk : ℕ) (state : State) → ChunkOutcome state device chunk (take_chunk stack snapshot device chunk state)
chunk_outcome stack snapshot device chunk state =
    let number = length (taken_at state device).chunks in let first = first_of snapshot chunk in let count = count_of stack snapshot device chunk in
    chunk_outcome_by state device chunk (is_settled (taken_at state device) chunk) (can_take stack state snapshot device first count) (copies stack state snapshot number first count) refl

pub not_settled : (taken : Taken) (chunk : ℕ) → taken.valid ≡ true → number_in chunk taken.chunks ≡ None → is_settled taken chunk ≡ false
not_settled taken chunk valid fresh = rw (valid, fresh) refl

pub take_chunk_again : (stack : Description) (snapshot : ResolvedSnapshot) (device chunk : ℕ) (state : State) → is_settled (taken_at state device) chunk ≡ true → take_chunk stack snapshot device chunk state ≡ keep [] state
take_chunk_again stack snapshot device chunk state settled = rw settled refl

-- After a chunk was to be taken, it is settled

new_settled : (taken : Taken) (chunk : ℕ) → number_in chunk taken.chunks ≡ None → is_settled (with_chunk taken chunk) chunk ≡ true
new_settled taken chunk fresh = or_right (not taken.valid) _ (rw (number_new chunk taken.chunks fresh) refl)

pub take_chunk_settles : (state : State) (device chunk : ℕ) (step : Step) → device < length state → ChunkOutcome state device chunk step → is_settled (taken_at step.state device) chunk ≡ true
take_chunk_settles state device chunk step there (Settled done is) = rw is done
take_chunk_settles state device chunk step there (Took valid fresh units is) = rw (is, taken_same state device (with_chunk (taken_at state device) chunk) there) (new_settled (taken_at state device) chunk fresh)
take_chunk_settles state device chunk step there (Lost is) = rw (is, taken_same state device (lost (taken_at state device)) there) refl

-- a chunk that was just taken has the next number
pub numbered_next : (state after : State) (device chunk : ℕ) → device < length state → is_settled (taken_at state device) chunk ≡ false → after ≡ put state device (with_chunk (taken_at state device) chunk)
    → ((taken_at after device).valid ≡ true) × (number_in chunk (taken_at after device).chunks ≡ Some (length (taken_at state device).chunks))
numbered_next state after device chunk there fresh is =
    let taken = taken_at state device in let parts = or_parts (not taken.valid) (is_some (number_in chunk taken.chunks)) fresh in
    let now : taken_at after device ≡ with_chunk taken chunk = cc (taken_same state device (with_chunk taken chunk) there) in (
      cc (not-false taken.valid parts.0),
      cc (number_new chunk taken.chunks (none_of _ parts.1)),
    )

-- The write of one sector of a snapshot

-- the write of a sector, by its chunk and whether it is refused
abbrev write_by : Bool → Description → ResolvedSnapshot → (device chunk : ℕ) → State → (sector : ℕ) → Step
write_by refused stack snapshot device chunk state sector = cond refused (keep (Fails ∷ []) state) (and_then (take_chunk stack snapshot device chunk state) (λ after. keep (unit_in_store stack snapshot device after sector ∷ []) after))

pub write_is : (refused : Bool) (stack : Description) (snapshot : ResolvedSnapshot) (device chunk : ℕ) (state : State) (sector : ℕ) → sector / snapshot.chunk ≡ chunk → is_refused stack snapshot (taken_at state device) chunk ≡ refused
    → write_snapshot stack snapshot device state sector ≡ write_by refused stack snapshot device chunk state sector
write_is refused stack snapshot device chunk state sector here is =
    cc

passes : (keeping placed settled : Bool) → settled ≡ true → (keeping && (not placed && not settled)) ≡ false
passes true true settled is = refl
passes true false settled is = rw is refl
passes false placed settled is = refl

-- a write to a settled chunk is never refused
pub settled_passes : (stack : Description) (snapshot : ResolvedSnapshot) (taken : Taken) (chunk : ℕ) → is_settled taken chunk ≡ true → is_refused stack snapshot taken chunk ≡ false
settled_passes stack snapshot taken chunk settled = passes (is_keeping snapshot.kind) (has_place stack snapshot (length taken.chunks)) (is_settled taken chunk) settled

-- a write to a chunk that isn't settled is refused exactly if its store is keeping and full
fresh_refused : (keeping placed settled : Bool) → settled ≡ false → (keeping && (not placed && not settled)) ≡ (keeping && not placed)
fresh_refused true true settled is = refl
fresh_refused true false settled is = rw is refl
fresh_refused false placed settled is = refl

pub refused_as : (stack : Description) (snapshot : ResolvedSnapshot) (taken : Taken) (chunk : ℕ) → is_settled taken chunk ≡ false → is_refused stack snapshot taken chunk ≡ (is_keeping snapshot.kind && not (has_place stack snapshot (length taken.chunks)))
refused_as stack snapshot taken chunk fresh = fresh_refused (is_keeping snapshot.kind) (has_place stack snapshot (length taken.chunks)) (is_settled taken chunk) fresh

-- Writes to the sectors of one chunk: the chunk is taken once, or every sector fails

pub settled_part : (stack : Description) (snapshot : ResolvedSnapshot) (device chunk sector n : ℕ) (state : State) → is_settled (taken_at state device) chunk ≡ true → ((i : ℕ) → i < n → (sector + i) / snapshot.chunk ≡ chunk)
    → steps (write_snapshot stack snapshot device) state sector n ≡ keep (row (unit_in_store stack snapshot device state) sector n) state
settled_part stack snapshot device chunk sector zero state settled each = refl
settled_part stack snapshot device chunk sector (suc n) state settled each =
    let here : sector / snapshot.chunk ≡ chunk = rw (let e : sector ≡ sector + 0 = omega arith in e) (each 0 (omega arith)) in
    let first : write_snapshot stack snapshot device state sector ≡ keep (unit_in_store stack snapshot device state sector ∷ []) state =
    cc (write_is false stack snapshot device chunk state sector here (settled_passes stack snapshot (taken_at state device) chunk settled), take_chunk_again stack snapshot device chunk state settled) in
    rw (first, settled_part stack snapshot device chunk (suc sector) n state settled (λ i within. rw (let e : suc sector + i ≡ sector + suc i = omega arith in e) (each (suc i) (omega (arith, within)))))

pub chunk_part : (stack : Description) (snapshot : ResolvedSnapshot) (device chunk sector n : ℕ) (state : State) → is_refused stack snapshot (taken_at state device) chunk ≡ false → device < length state → ((i : ℕ) → i < suc n → (sector + i) / snapshot.chunk ≡ chunk)
    → steps (write_snapshot stack snapshot device) state sector (suc n) ≡ and_then (take_chunk stack snapshot device chunk state) (λ after. keep (row (unit_in_store stack snapshot device after) sector (suc n)) after)
chunk_part stack snapshot device chunk sector n state passes there each =
    let here : sector / snapshot.chunk ≡ chunk = rw (let e : sector ≡ sector + 0 = omega arith in e) (each 0 (omega arith)) in
    let made = take_chunk stack snapshot device chunk state in
    let settled = take_chunk_settles state device chunk made there (chunk_outcome stack snapshot device chunk state) in
    cc (write_is false stack snapshot device chunk state sector here passes, step_assoc made (λ after. keep (unit_in_store stack snapshot device after sector ∷ []) after) (λ after. steps (write_snapshot stack snapshot device) after (suc sector) n), and_then_at made (λ after. and_then (keep (unit_in_store stack snapshot device after sector ∷ []) after) (λ later. steps (write_snapshot stack snapshot device) later (suc sector) n)) (λ after. keep (row (unit_in_store stack snapshot device after) sector (suc n)) after) (rw (settled_part stack snapshot device chunk (suc sector) n made.state settled (λ i within. ap (λ (s : ℕ). s / snapshot.chunk) (let e : suc sector + i ≡ sector + suc i = omega arith in e) ∙ each (suc i) (omega (arith, within))))))

-- a refused write changes nothing, so the next sector of the chunk is refused, too
pub refused_part : (stack : Description) (snapshot : ResolvedSnapshot) (device chunk sector n : ℕ) (state : State) → is_refused stack snapshot (taken_at state device) chunk ≡ true → ((i : ℕ) → i < n → (sector + i) / snapshot.chunk ≡ chunk)
    → steps (write_snapshot stack snapshot device) state sector n ≡ keep (units_in Fails n) state
refused_part stack snapshot device chunk sector n state refused each =
    steps_still (write_snapshot stack snapshot device) state sector n Fails refl (λ i within. write_is true stack snapshot device chunk state (sector + i) (each i within) refused)
