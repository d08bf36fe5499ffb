-- Serving the snapshots of an origin: which chunks are settled afterwards, and how many sectors then need nothing more. Holds even if claims clash.
use Rattle.dm_map.proofs.Prelude.{inl, inr, ℕ, zero, suc, true, List, [], length, get_or, take, drop, refl, sym, ap, ◌∙◌, arith, All, AllByRecursion, Result, Err, IsErr, cases_lt, append-nil, take-append-drop, take_more, All-get_or, ResolvedSnapshot, ResolvedOver, IsSnapshotSound, Description, device_len, IsSound, AreSettled, IsOver, serve, served_step, first_of, is_settled, take_chunk, State, Taken, taken_at, Step, keep, and_then, steps, IsLawful, SinkPast, WalkerView, IsWalked, AreInSnapshot, device_there}
use Rattle.dm_map.proofs.walk.Chunks.{first_there, same_chunk}
use Rattle.dm_map.proofs.state.ResolvedLines.{snapshot_sound}
use Rattle.dm_map.proofs.walk.ChunkTaking.{chunk_outcome, take_chunk_again, take_chunk_settles}
use Rattle.dm_map.proofs.walk.Rows.{and_then_at, left_more, step_assoc, walked_as, walked_cut, walked_then}
use Rattle.dm_map.proofs.walk.Settled.{KeepsSettled, take_chunk_keeps, serve_keeps}
use Rattle.dm_map.proofs.walk.WalkedOn.{going_on}
use Rattle.std.specs.Prelude.{◌≡◌, ◌+◌, ◌-◌, ◌/◌, ◌%◌, ◌<◌, ◌∷◌, ◌++◌, ◌≤◌}

abbrev take_chunk_one : Description → ResolvedOver → (sector : ℕ) → State → Step
take_chunk_one stack one sector state = take_chunk stack one.snapshot one.device (sector / one.snapshot.chunk) state

-- Serving one snapshot after another

pub serve_append : (stack : Description) (over more : List ResolvedOver) (sector : ℕ) (state : State) → serve stack (over ++ more) sector state ≡ and_then (serve stack over sector state) (λ after. serve stack more sector after)
unfolding serve
serve_append stack [] more sector state = refl
serve_append stack (one ∷ over) more sector state =
    let first = take_chunk_one stack one sector state in
    and_then_at first (λ after. serve stack (over ++ more) sector after) (λ after. and_then (serve stack over sector after) (λ later. serve stack more sector later)) (serve_append stack over more sector first.state)
    ∙ sym (step_assoc first (λ after. serve stack over sector after) (λ after. serve stack more sector after))

then_nothing : (step : Step) → and_then step (λ after. keep [] after) ≡ step
then_nothing step = rw (append-nil step.units)

-- serving one more snapshot
pub serve_more : (stack : Description) (over : List ResolvedOver) (one : ResolvedOver) (sector : ℕ) (state : State) → serve stack (over ++ one ∷ []) sector state ≡ and_then (serve stack over sector state) (λ after. take_chunk_one stack one sector after)
unfolding serve
serve_more stack over one sector state =
    let first = serve stack over sector state in
    serve_append stack over (one ∷ []) sector state
    ∙ and_then_at first (λ after. serve stack (one ∷ []) sector after) (λ after. take_chunk_one stack one sector after) (then_nothing (take_chunk_one stack one sector first.state))

-- What is settled by serving

pub settled_on : (old new : State) (over : List ResolvedOver) (sector : ℕ) → KeepsSettled old new → AreSettled old over sector → AreSettled new over sector
settled_on old new [] sector keeps settled = tt
settled_on old new (one ∷ over) sector keeps settled = (keeps.settled one.device (sector / one.snapshot.chunk) settled.0, settled_on old new over sector keeps settled.1)

pub settled_more : (state : State) (over : List ResolvedOver) (one : ResolvedOver) (sector : ℕ) → AreSettled state over sector → is_settled (taken_at state one.device) (sector / one.snapshot.chunk) ≡ true → AreSettled state (over ++ one ∷ []) sector
settled_more state [] one sector settled last = (last, tt)
settled_more state (first ∷ over) one sector settled last = (settled.0, settled_more state over one sector settled.1 last)

pub settled_parts : (state : State) (over : List ResolvedOver) (one : ResolvedOver) (sector : ℕ) → AreSettled state (over ++ one ∷ []) sector → AreSettled state over sector × (is_settled (taken_at state one.device) (sector / one.snapshot.chunk) ≡ true)
settled_parts state [] one sector settled = (tt, settled.0)
settled_parts state (first ∷ over) one sector settled = let rest = settled_parts state over one sector settled.1 in ((settled.0, rest.0), rest.1)

-- after serving, every snapshot has settled the sector's chunk
pub serve_settled : (stack : Description) (over : List ResolvedOver) (sector : ℕ) (state : State) → AllByRecursion (λ one. one.device < length state) over → AreSettled (serve stack over sector state).state over sector
unfolding serve
serve_settled stack [] sector state there = tt
serve_settled stack (one ∷ over) sector state there =
    let first = take_chunk_one stack one sector state in
    let chunk = sector / one.snapshot.chunk in
    let settled = take_chunk_settles state one.device chunk first there.0 (chunk_outcome stack one.snapshot one.device chunk state) in
    let count = (take_chunk_keeps stack one.snapshot one.device chunk state).count in (
      (serve_keeps stack over sector first.state).settled one.device chunk settled,
      serve_settled stack over sector first.state (rw count there.1),
    )

-- serving does nothing if every snapshot has settled the chunk
pub served_done : (stack : Description) (over : List ResolvedOver) (sector : ℕ) (state : State) → AreSettled state over sector → serve stack over sector state ≡ keep [] state
unfolding serve
served_done stack [] sector state settled = refl
served_done stack (one ∷ over) sector state settled =
    cc (take_chunk_again stack one.snapshot one.device (sector / one.snapshot.chunk) state settled.0, served_done stack over sector state settled.1)

-- A range of sectors of an origin's device

-- the step of a sector leaves settled chunks settled
abbrev pub StepsKeep : (State → ℕ → Step) → Type 0
StepsKeep plain = (state : State) (sector : ℕ) → KeepsSettled state (plain state sector).state

-- if all chunks are settled, sectors of an origin's device are handled like those of the origin
pub quiet : (stack : Description) (over : List ResolvedOver) (plain : State → ℕ → Step) (state : State) (sector n : ℕ) → StepsKeep plain → ((i : ℕ) → i < n → AreSettled state over (sector + i)) → steps (served_step stack over plain) state sector n ≡ steps plain state sector n
quiet stack over plain state sector zero keeps each = refl
quiet stack over plain state sector (suc n) keeps each =
    let here : served_step stack over plain state sector ≡ plain state sector =
    cc (served_done stack over sector state (rw (let e : sector + 0 ≡ sector = omega arith in e) at (each 0 (omega arith)))) in
    let first = plain state sector in
    cc (and_then_at first (λ after. steps (served_step stack over plain) after (suc sector) n) (λ after. steps plain after (suc sector) n) (quiet stack over plain first.state (suc sector) n keeps (λ i within. settled_on state first.state over (suc sector + i) (keeps state sector) (rw (let e : sector + suc i ≡ suc sector + i = omega arith in e) at (each (suc i) (omega (arith, within)))))))

-- if serving the first sector settles the chunks of all these sectors, they are handled like those of the origin afterwards
pub part : (stack : Description) (over : List ResolvedOver) (plain : State → ℕ → Step) (state : State) (sector n : ℕ) → StepsKeep plain → ((i : ℕ) → i < suc n → AreSettled (serve stack over sector state).state over (sector + i))
    → steps (served_step stack over plain) state sector (suc n) ≡ and_then (serve stack over sector state) (λ after. steps plain after sector (suc n))
part stack over plain state sector n keeps each =
    let served = serve stack over sector state in let first = plain served.state sector in
    step_assoc served (λ after. plain after sector) (λ after. steps (served_step stack over plain) after (suc sector) n)
    ∙ and_then_at served (λ after. and_then (plain after sector) (λ later. steps (served_step stack over plain) later (suc sector) n)) (λ after. steps plain after sector (suc n))
    (and_then_at first (λ later. steps (served_step stack over plain) later (suc sector) n) (λ later. steps plain later (suc sector) n)
    (quiet stack over plain first.state (suc sector) n keeps (λ i within.
    settled_on served.state first.state over (suc sector + i) (keeps served.state sector) (rw (let e : sector + suc i ≡ suc sector + i = omega arith in e) at (each (suc i) (omega (arith, within)))))))

-- The sectors of one chunk are settled if its first one is

pub chunk_settled : (taken : Taken) (snapshot : ResolvedSnapshot) (sector n i : ℕ) → 0 < snapshot.chunk → n ≤ snapshot.chunk - sector % snapshot.chunk → i < n → is_settled taken (sector / snapshot.chunk) ≡ true → is_settled taken ((sector + i) / snapshot.chunk) ≡ true
chunk_settled taken snapshot sector n i some most within settled =
    rw (same_chunk snapshot sector i some (omega (arith, most, within, some))) settled

pub chunk_more : (taken : Taken) (snapshot : ResolvedSnapshot) (sector part n : ℕ) → 0 < snapshot.chunk → n ≤ snapshot.chunk - (sector + part) % snapshot.chunk → is_settled taken ((sector + part) / snapshot.chunk) ≡ true
    → ((i : ℕ) → i < part → is_settled taken ((sector + i) / snapshot.chunk) ≡ true) → (i : ℕ) → i < part + n → is_settled taken ((sector + i) / snapshot.chunk) ≡ true
chunk_more taken snapshot sector part n some most next each i within = elim (cases_lt i part) [
  | inl before ↦ each i before
  | inr after ↦
      let on : sector + part + (i - part) ≡ sector + i = omega (arith, after) in
      rw on at (chunk_settled taken snapshot (sector + part) n (i - part) some most (omega (arith, after, within)) next)
]

-- The snapshots in an origin's list are devices of the stack

pub over_at : (stack : Description) (len : ℕ) (over : List ResolvedOver) (i : ℕ) (one : ResolvedOver) → All (IsOver stack len) over → i < length over → one ≡ get_or over i one → IsOver stack len one
over_at stack len over i one all within is = rw is (All-get_or (IsOver stack len) over i one within all)

pub over_sound : (stack : Description) (len : ℕ) (one : ResolvedOver) → IsSound stack → IsOver stack len one → IsSnapshotSound stack one.device 0 (device_len stack one.device) one.snapshot
over_sound stack len one sound it = (snapshot_sound stack one.device one.snapshot sound it.is).soundly

-- if a snapshot has a sector, it has the first one of the sector's chunk
pub chunk_there : (stack before : Description) (sector : ℕ) (one : ResolvedOver) → IsSound stack → before ≡ stack → IsOver stack (sector + 1) one → AreInSnapshot before one.device one.snapshot (first_of one.snapshot (sector / one.snapshot.chunk)) 1
chunk_there stack before sector one sound same it =
    let here : AreInSnapshot stack one.device one.snapshot sector 1 = record { is = it.is; sound = over_sound stack (sector + 1) one sound it; inside = it.long } in
    rw same (first_there stack one.device sector 1 one.snapshot here (omega arith))

-- a state with a table for each device has one for each snapshot of an origin
pub over_there : (stack : Description) (state : State) (len : ℕ) (over : List ResolvedOver) → length state ≡ length stack.devices → 0 < len → AllByRecursion (IsOver stack len) over → AllByRecursion (λ one. one.device < length state) over
over_there stack state len [] count some all = tt
over_there stack state len (one ∷ over) count some all =
    let long = all.0.long in
    let there = device_there stack one.device 0 (omega (arith, long, some)) in
    (omega (arith, there, count), over_there stack state len over count some all.1)

-- The loop over an origin's list of snapshots

-- the earlier snapshots were served, and one more is
pub served_on : {S F : Type 0} {past : SinkPast S} → IsLawful past → (result : Result (Unit {0}) F) (old middle new : S) (before between after : WalkerView) (over : List ResolvedOver) (i sector : ℕ) (one : ResolvedOver) → i < length over → one ≡ get_or over i one
    → IsWalked past going_on old middle before between (serve before.stack (take i over) sector before.state) 0 → IsWalked past result middle new between after (take_chunk_one between.stack one sector between.state) 0
    → IsWalked past result old new before after (serve before.stack (take (i + 1) over) sector before.state) 0
served_on lawful result old middle new before between after over i sector one within is so_far next =
    let first = serve before.stack (take i over) sector before.state in
    let second = take_chunk_one between.stack one sector between.state in
    let list : take (i + 1) over ≡ take i over ++ one ∷ [] = cc (take_more over i one within) in
    let here : take_chunk_one before.stack one sector first.state ≡ second = cc in
    walked_as (cc (serve_more before.stack (take i over) one sector before.state))
    (walked_then lawful (λ later. take_chunk_one before.stack one sector later) here (let e : 0 ≤ 0 = omega arith in e) so_far next)

-- the sink failed while this snapshot was served
pub served_cut : {S F : Type 0} (past : SinkPast S) (fault : F) (result : Result (Unit {0}) F) (old new : S) (before after : WalkerView) (over : List ResolvedOver) (i sector : ℕ) → IsErr result
    → IsWalked {R = Unit {0}} past (Err fault) old new before after (serve before.stack (take i over) sector before.state) 0 → IsWalked past result old new before after (serve before.stack over sector before.state) 0
served_cut past fault result old new before after over i sector is_err walk =
    let first = serve before.stack (take i over) sector before.state in
    walked_cut past result old new before after (serve before.stack over sector before.state) 0 is_err
    (left_more past.left old new first.units (serve before.stack (drop i over) sector first.state).units (serve before.stack over sector before.state).units
    (ap (λ (step : Step). step.units) (sym (serve_append before.stack (take i over) (drop i over) sector before.state)) ∙ rw (take-append-drop i over)) walk.left)
    walk.faults walk.stack walk.looked
