-- A snapshot becomes lost exactly by a due chunk that can't be taken, and stays lost.
use Rattle.dm_map.proofs.Prelude.{inl, inr, ℕ, zero, suc, Bool, true, false, cond, not, List, [], None, length, nat_lt, replicate, refl, sym, ap, ◌∙◌, arith, is_some, AllByRecursion, cases_Bool, cases_eq, cases_lt, le-ltb, ltb-false, not-false, or_parts, set_past, true≢false, Op, Lower, Device, Description, device_len, IsSound, state_past, AreLosing, Due, HasError, IsLosing, IsLostIn, due, write, has_place, number_in, State, Taken, lost, put, taken_at, with_chunk, request_step, sector_step, any_error, can_take, copies, count_of, first_of, is_error, is_settled, read, row, take_chunk, Step, keep, steps, BlockUnit, Fails, MOST_DEPTH, Read, Write}
use Rattle.dm_map.proofs.own.DueChunks.{IsDue, all_due, all_taken, due_taken, write_leaves}
use Rattle.dm_map.proofs.state.ResolvedLines.{snapshot_sound}
use Rattle.dm_map.proofs.walk.ChunkTaking.{Settled, Took, Lost, ChunkOutcome, chunk_outcome, none_of, not_settled, taken_other, taken_same}
use Rattle.dm_map.proofs.walk.Settled.{take_chunk_keeps}
use Rattle.std.specs.Prelude.{◌≡◌, ◌⊎◌, ◌+◌, ◌<◌, ◌≤◌, ◌∷◌, ◌↔◌, ◌&&◌, ◌||◌}

-- A sector that reads as an error, among consecutive ones

is_failing : (unit : BlockUnit) → is_error unit ≡ true → unit ≡ Fails
is_failing Fails e = refl
is_failing unit e = absurd cc

record IsErrorIn (f : ℕ → BlockUnit) (sector len : ℕ) : Type 0 where
  at : ℕ
  from : sector ≤ at
  before : at < sector + len
  fails : f at ≡ Fails

error_by : (f : ℕ → BlockUnit) (sector len : ℕ) (first : Bool) → is_error (f sector) ≡ first → (any_error (row f (suc sector) len) ≡ true → IsErrorIn f (suc sector) len) → (first || any_error (row f (suc sector) len)) ≡ true → IsErrorIn f sector (suc len)
error_by f sector len true is later e = record { at = sector; from = omega arith; before = omega arith; fails = is_failing (f sector) is }
error_by f sector len false is later e =
    let rest = later e in
    let from = rest.from in let before = rest.before in
    record { at = rest.at; from = omega (arith, from); before = omega (arith, before); fails = rest.fails }

error_in : (f : ℕ → BlockUnit) (sector len : ℕ) → any_error (row f sector len) ≡ true → IsErrorIn f sector len
error_in f sector zero e = absurd cc
error_in f sector (suc len) e = error_by f sector len (is_error (f sector)) refl (error_in f (suc sector) len) e

error_here : (f : ℕ → BlockUnit) (sector len at : ℕ) → sector ≤ at → at < sector + len → f at ≡ Fails → any_error (row f sector len) ≡ true
error_here f sector zero at from before fails = absurd (omega (arith, from, before))
error_here f sector (suc len) at from before fails = elim (cases_eq sector at) [
  | inl same ↦ rw (same, fails) refl
  | inr differ ↦ either (is_error (f sector)) (any_error (row f (suc sector) len)) (error_here f (suc sector) len at (omega (arith, from, differ)) (omega (arith, before)) fails)
]
  where
    either : (a b : Bool) → b ≡ true → (a || b) ≡ true
    either true b e = refl
    either false b e = e

-- A chunk can't be taken exactly if the store is full or one of its sectors reads as an error

cant : (placed : Bool) (errors : Bool) → (placed && not errors) ≡ false → (placed ≡ false) ⊎ (errors ≡ true)
cant false errors e = inl refl
cant true true e = inr refl
cant true false e = absurd (true≢false e)

cant_back : (placed : Bool) (errors : Bool) → (placed ≡ false) ⊎ (errors ≡ true) → (placed && not errors) ≡ false
cant_back placed errors (inl none) = rw none refl
cant_back true errors (inr some) = rw some refl
cant_back false errors (inr some) = refl

abbrev errors_of : Description → State → Due → Bool
errors_of stack state one = any_error (row (read stack state one.snapshot.origin) (first_of one.snapshot one.chunk) (count_of stack one.snapshot one.device one.chunk))

why_not : (stack : Description) (state : State) (one : Due) → can_take stack state one.snapshot one.device (first_of one.snapshot one.chunk) (count_of stack one.snapshot one.device one.chunk) ≡ false
    → (has_place stack one.snapshot (length (taken_at state one.device).chunks) ≡ false) ⊎ HasError stack state one
why_not stack state one e = elim (cant (has_place stack one.snapshot (length (taken_at state one.device).chunks)) (errors_of stack state one) e) [
  | inl none ↦ inl none
  | inr some ↦ inr (let error = error_in (read stack state one.snapshot.origin) (first_of one.snapshot one.chunk) (count_of stack one.snapshot one.device one.chunk) some in record { sector = error.at; from = error.from; before = error.before; fails = error.fails })
]

not_why : (stack : Description) (state : State) (one : Due) → (has_place stack one.snapshot (length (taken_at state one.device).chunks) ≡ false) ⊎ HasError stack state one
    → can_take stack state one.snapshot one.device (first_of one.snapshot one.chunk) (count_of stack one.snapshot one.device one.chunk) ≡ false
not_why stack state one why = cant_back (has_place stack one.snapshot (length (taken_at state one.device).chunks)) (errors_of stack state one) (elim why [
  | inl none ↦ inl none
  | inr error ↦ inr (error_here (read stack state one.snapshot.origin) (first_of one.snapshot one.chunk) (count_of stack one.snapshot one.device one.chunk) error.sector error.from error.before error.fails)
])

-- A snapshot becomes lost by one chunk

valid_put : (state : State) (device other : ℕ) (taken : Taken) → device < length state → taken.valid ≡ true → (taken_at state other).valid ≡ true → (taken_at (put state device taken) other).valid ≡ true
valid_put state device other taken there valid was = elim (cases_eq other device) [
  | inl same ↦ ap (λ (t : Taken). t.valid) (ap (taken_at (put state device taken)) same ∙ taken_same state device taken there) ∙ valid
  | inr differ ↦ ap (λ (t : Taken). t.valid) (taken_other state device other taken differ) ∙ was
]

losing_by : (stack : Description) (state : State) (device : ℕ) (one : Due) (settled can : Bool) (units : List BlockUnit) → one.device < length state → (taken_at state device).valid ≡ true
    → is_settled (taken_at state one.device) one.chunk ≡ settled
    → can_take stack state one.snapshot one.device (first_of one.snapshot one.chunk) (count_of stack one.snapshot one.device one.chunk) ≡ can
    → (taken_at (cond settled (keep [] state) (cond can (keep units (put state one.device (with_chunk (taken_at state one.device) one.chunk))) (keep [] (put state one.device (lost (taken_at state one.device)))))).state device).valid ≡ false
    → IsLosing stack state device one
losing_by stack state device one true can units there valid settled_is can_is gone = absurd (true≢false (sym valid ∙ gone))
losing_by stack state device one false true units there valid settled_is can_is gone =
    let parts = or_parts (not (taken_at state one.device).valid) (is_some (number_in one.chunk (taken_at state one.device).chunks)) settled_is in
    absurd (true≢false (sym (valid_put state one.device device (with_chunk (taken_at state one.device) one.chunk) there (not-false (taken_at state one.device).valid parts.0) valid) ∙ gone))
losing_by stack state device one false false units there valid settled_is can_is gone = elim (cases_eq device one.device) [
  | inl same ↦
      let parts = or_parts (not (taken_at state one.device).valid) (is_some (number_in one.chunk (taken_at state one.device).chunks)) settled_is in
      rw same (record {
        of = refl;
        valid = not-false (taken_at state one.device).valid parts.0;
        fresh = none_of (number_in one.chunk (taken_at state one.device).chunks) parts.1;
        why = why_not stack state one can_is;
      })
  | inr differ ↦ absurd (true≢false (sym (ap (λ (t : Taken). t.valid) (taken_other state one.device device (lost (taken_at state one.device)) differ) ∙ valid) ∙ gone))
]

pub losing : (stack : Description) (state : State) (device : ℕ) (one : Due) → one.device < length state → (taken_at state device).valid ≡ true → (taken_at (due_taken stack state one) device).valid ≡ false → IsLosing stack state device one
losing stack state device one there valid gone =
    losing_by stack state device one (is_settled (taken_at state one.device) one.chunk) (can_take stack state one.snapshot one.device (first_of one.snapshot one.chunk) (count_of stack one.snapshot one.device one.chunk))
    (copies stack state one.snapshot (length (taken_at state one.device).chunks) (first_of one.snapshot one.chunk) (count_of stack one.snapshot one.device one.chunk)) there valid refl refl gone

loses_by : (state : State) (one : Due) (settled can : Bool) (units : List BlockUnit) → one.device < length state → settled ≡ false → can ≡ false
    → (taken_at (cond settled (keep [] state) (cond can (keep units (put state one.device (with_chunk (taken_at state one.device) one.chunk))) (keep [] (put state one.device (lost (taken_at state one.device)))))).state one.device).valid ≡ false
loses_by state one true can units there fresh cant = absurd (true≢false fresh)
loses_by state one false true units there fresh cant = absurd (true≢false cant)
loses_by state one false false units there fresh cant = ap (λ (t : Taken). t.valid) (taken_same state one.device (lost (taken_at state one.device)) there)

loses : (stack : Description) (state : State) (device : ℕ) (one : Due) → one.device < length state → IsLosing stack state device one → (taken_at (due_taken stack state one) device).valid ≡ false
loses stack state device one there is =
    let valid : (taken_at state one.device).valid ≡ true = rw is.of is.valid in
    let fresh : number_in one.chunk (taken_at state one.device).chunks ≡ None = rw is.of is.fresh in
    let why : (has_place stack one.snapshot (length (taken_at state one.device).chunks) ≡ false) ⊎ HasError stack state one = elim is.why [ inl none ↦ inl (rw is.of none) | inr error ↦ inr error ] in
    rw (← is.of) (loses_by state one (is_settled (taken_at state one.device) one.chunk) (can_take stack state one.snapshot one.device (first_of one.snapshot one.chunk) (count_of stack one.snapshot one.device one.chunk))
    (copies stack state one.snapshot (length (taken_at state one.device).chunks) (first_of one.snapshot one.chunk) (count_of stack one.snapshot one.device one.chunk)) there
    (not_settled (taken_at state one.device) one.chunk valid fresh) (not_why stack state one why))

-- A lost snapshot stays lost

gone_put : (state : State) (device other : ℕ) (taken : Taken) → (other ≡ device → taken.valid ≡ false) → (taken_at state other).valid ≡ false → (taken_at (put state device taken) other).valid ≡ false
gone_put state device other taken gone was = elim (cases_eq other device) [
  | inl same ↦ elim (cases_lt device (length state)) [
    | inl there ↦ ap (λ (t : Taken). t.valid) (ap (taken_at (put state device taken)) same ∙ taken_same state device taken there) ∙ gone same
    | inr past ↦ rw (set_past state device taken past) was
  ]
  | inr differ ↦ ap (λ (t : Taken). t.valid) (taken_other state device other taken differ) ∙ was
]

outcome_gone : (state : State) (device chunk other : ℕ) (step : Step) → ChunkOutcome state device chunk step → (taken_at state other).valid ≡ false → (taken_at step.state other).valid ≡ false
outcome_gone state device chunk other step (Settled settled is) gone = rw is gone
outcome_gone state device chunk other step (Took valid fresh units is) gone =
    rw is (gone_put state device other (with_chunk (taken_at state device) chunk) (λ same. rw same at gone) gone)
outcome_gone state device chunk other step (Lost is) gone = rw is (gone_put state device other (lost (taken_at state device)) (λ same. refl) gone)

gone_one : (stack : Description) (state : State) (device : ℕ) (one : Due) → (taken_at state device).valid ≡ false → (taken_at (due_taken stack state one) device).valid ≡ false
gone_one stack state device one gone = outcome_gone state one.device one.chunk device (take_chunk stack one.snapshot one.device one.chunk state) (chunk_outcome stack one.snapshot one.device one.chunk state) gone

gone_all : (stack : Description) (state : State) (device : ℕ) (dues : List Due) → (taken_at state device).valid ≡ false → (taken_at (all_taken stack state dues) device).valid ≡ false
gone_all stack state device [] gone = gone
gone_all stack state device (one ∷ later) gone = gone_all stack (due_taken stack state one) device later (gone_one stack state device one gone)

-- A snapshot becomes lost by one of several chunks, taken in order

pub due_there : (stack : Description) (state : State) (one : Due) → IsSound stack → length state ≡ length stack.devices → IsDue stack one → one.device < length state
due_there stack state one sound count is = let there = (snapshot_sound stack one.device one.snapshot sound is.is).there in omega (arith, there, count)

pub count_kept : (stack : Description) (state : State) (one : Due) → length (due_taken stack state one) ≡ length state
count_kept stack state one = (take_chunk_keeps stack one.snapshot one.device one.chunk state).count

all_losing : (stack : Description) (state : State) (device : ℕ) (dues : List Due) → IsSound stack → length state ≡ length stack.devices → AllByRecursion (IsDue stack) dues → (taken_at state device).valid ≡ true
    → (taken_at (all_taken stack state dues) device).valid ≡ false → AreLosing stack state device dues
all_losing stack state device [] sound count each valid gone = true≢false (sym valid ∙ gone)
all_losing stack state device (one ∷ later) sound count each valid gone = elim (cases_Bool (taken_at (due_taken stack state one) device).valid) [
  | inl still ↦ inr (all_losing stack (due_taken stack state one) device later sound (count_kept stack state one ∙ count) each.1 still gone)
  | inr now ↦ inl (losing stack state device one (due_there stack state one sound count each.0) valid now)
]

all_lose : (stack : Description) (state : State) (device : ℕ) (dues : List Due) → IsSound stack → length state ≡ length stack.devices → AllByRecursion (IsDue stack) dues → AreLosing stack state device dues → (taken_at (all_taken stack state dues) device).valid ≡ false
all_lose stack state device [] sound count each losing = absurd losing
all_lose stack state device (one ∷ later) sound count each (inl first) = gone_all stack (due_taken stack state one) device later (loses stack state device one (due_there stack state one sound count each.0) first)
all_lose stack state device (one ∷ later) sound count each (inr rest) = all_lose stack (due_taken stack state one) device later sound (count_kept stack state one ∙ count) each.1 rest

-- A snapshot becomes lost by the write of a sector

pub write_loses : (stack : Description) (state : State) (lower : Lower) (sector device : ℕ) → IsSound stack → length state ≡ length stack.devices → (taken_at state device).valid ≡ true
    → ((taken_at (write stack state lower sector).state device).valid ≡ false) ↔ AreLosing stack state device (due stack state lower sector)
write_loses stack state lower sector device sound count valid =
    let each = all_due stack MOST_DEPTH lower state sector sound in
    rw (write_leaves stack MOST_DEPTH lower state sector) (
      all_losing stack state device (due stack state lower sector) sound count each valid,
      all_lose stack state device (due stack state lower sector) sound count each,
    )

write_gone : (stack : Description) (state : State) (lower : Lower) (sector device : ℕ) → (taken_at state device).valid ≡ false → (taken_at (write stack state lower sector).state device).valid ≡ false
write_gone stack state lower sector device gone = rw (write_leaves stack MOST_DEPTH lower state sector) (gone_all stack state device (due stack state lower sector) gone)

all_count : (stack : Description) (state : State) (dues : List Due) → length (all_taken stack state dues) ≡ length state
all_count stack state [] = refl
all_count stack state (one ∷ later) = all_count stack (due_taken stack state one) later ∙ count_kept stack state one

-- A snapshot becomes lost by one of a request's sectors

-- the state after the first sectors of a request that doesn't pass the end of its device
abbrev pub state_at : Description → Op → (asked start sectors : ℕ) → State → State
state_at stack op asked start sectors state = (steps (sector_step stack op MOST_DEPTH (Device asked)) state start sectors).state

step_gone : (stack : Description) (op : Op) (state : State) (asked sector device : ℕ) → (taken_at state device).valid ≡ false → (taken_at (sector_step stack op MOST_DEPTH (Device asked) state sector).state device).valid ≡ false
step_gone stack Read state asked sector device gone = gone
step_gone stack Write state asked sector device gone = write_gone stack state (Device asked) sector device gone

sectors_gone : (stack : Description) (state : State) (op : Op) (asked start sectors device : ℕ) → (taken_at state device).valid ≡ false → (taken_at (state_at stack op asked start sectors state) device).valid ≡ false
sectors_gone stack state op asked start zero device gone = gone
sectors_gone stack state op asked start (suc sectors) device gone = sectors_gone stack (sector_step stack op MOST_DEPTH (Device asked) state start).state op asked (suc start) sectors device (step_gone stack op state asked start device gone)

step_count : (stack : Description) (op : Op) (state : State) (asked sector : ℕ) → length (sector_step stack op MOST_DEPTH (Device asked) state sector).state ≡ length state
step_count stack Read state asked sector = refl
step_count stack Write state asked sector = ap length (write_leaves stack MOST_DEPTH (Device asked) state sector) ∙ all_count stack state (due stack state (Device asked) sector)

step_loses : (stack : Description) (op : Op) (state : State) (asked sector device : ℕ) → IsSound stack → length state ≡ length stack.devices → (taken_at state device).valid ≡ true → (taken_at (sector_step stack op MOST_DEPTH (Device asked) state sector).state device).valid ≡ false
    → (op ≡ Write) × AreLosing stack state device (due stack state (Device asked) sector)
step_loses stack Read state asked sector device sound count valid gone = absurd (true≢false (sym valid ∙ gone))
step_loses stack Write state asked sector device sound count valid gone = (refl, (write_loses stack state (Device asked) sector device sound count valid).0 gone)

-- the write of one of these sectors makes the snapshot lost
record IsLostAt (stack : Description) (state : State) (device : ℕ) (op : Op) (asked start sectors : ℕ) : Type 0 where
  at : ℕ
  within : at < sectors
  writes : op ≡ Write
  loses : AreLosing stack (state_at stack op asked start at state) device (due stack (state_at stack op asked start at state) (Device asked) (start + at))

later_lost : (stack : Description) (state : State) (device : ℕ) (op : Op) (asked start sectors : ℕ) → IsLostAt stack (sector_step stack op MOST_DEPTH (Device asked) state start).state device op asked (suc start) sectors → IsLostAt stack state device op asked start (suc sectors)
later_lost stack state device op asked start sectors is =
    let within = is.within in
    let at : suc start + is.at ≡ start + suc is.at = omega arith in
    record { at = suc is.at; within = omega (arith, within); writes = is.writes; loses = rw at at is.loses }

sectors_lose : (stack : Description) (state : State) (op : Op) (asked start sectors device : ℕ) → IsSound stack → length state ≡ length stack.devices → (taken_at state device).valid ≡ true
    → (taken_at (state_at stack op asked start sectors state) device).valid ≡ false → IsLostAt stack state device op asked start sectors
sectors_lose stack state op asked start zero device sound count valid gone = absurd (true≢false (sym valid ∙ gone))
sectors_lose stack state op asked start (suc sectors) device sound count valid gone =
    let after = (sector_step stack op MOST_DEPTH (Device asked) state start).state in
    elim (cases_Bool (taken_at after device).valid) [
      | inl still ↦ later_lost stack state device op asked start sectors (sectors_lose stack after op asked (suc start) sectors device sound (step_count stack op state asked start ∙ count) still gone)
      | inr now ↦
          let first = step_loses stack op state asked start device sound count valid now in
          let at : start ≡ start + 0 = omega arith in
          record { at = 0; within = omega arith; writes = first.0; loses = rw at at first.1 }
    ]

lost_first : (stack : Description) (state : State) (op : Op) (asked start device : ℕ) → IsSound stack → length state ≡ length stack.devices → op ≡ Write → AreLosing stack state device (due stack state (Device asked) start)
    → (taken_at (sector_step stack op MOST_DEPTH (Device asked) state start).state device).valid ≡ false
lost_first stack state op asked start device sound count writes losing =
    rw (writes, write_leaves stack MOST_DEPTH (Device asked) state start) (all_lose stack state device (due stack state (Device asked) start) sound count (all_due stack MOST_DEPTH (Device asked) state start sound) losing)

sectors_lost : (stack : Description) (state : State) (op : Op) (asked start sectors device at : ℕ) → IsSound stack → length state ≡ length stack.devices → at < sectors → op ≡ Write
    → AreLosing stack (state_at stack op asked start at state) device (due stack (state_at stack op asked start at state) (Device asked) (start + at))
    → (taken_at (state_at stack op asked start sectors state) device).valid ≡ false
sectors_lost stack state op asked start zero device at sound count within writes losing = absurd (omega (arith, within))
sectors_lost stack state op asked start (suc sectors) device zero sound count within writes losing =
    let after = (sector_step stack op MOST_DEPTH (Device asked) state start).state in
    let at : start + 0 ≡ start = omega arith in
    sectors_gone stack after op asked (suc start) sectors device (lost_first stack state op asked start device sound count writes (rw at at losing))
sectors_lost stack state op asked start (suc sectors) device (suc at) sound count within writes losing =
    let after = (sector_step stack op MOST_DEPTH (Device asked) state start).state in
    let same : start + suc at ≡ suc start + at = omega arith in
    sectors_lost stack after op asked (suc start) sectors device at sound (step_count stack op state asked start ∙ count) (omega (arith, within)) writes (rw same at losing)

-- Requests that may pass the end of their device, and then change nothing

abbrev pub past_by : Bool → Description → Op → (asked start sectors : ℕ) → State → State
past_by past stack op asked start sectors state = cond past state (state_at stack op asked start sectors state)

pub request_gone : (stack : Description) (state : State) (op : Op) (asked start len sectors device : ℕ) → (taken_at state device).valid ≡ false → (taken_at (state_past stack op asked start len sectors state) device).valid ≡ false
request_gone stack state op asked start len sectors device gone = by_end (nat_lt (device_len stack asked) (start + len))
  where
    by_end : (past : Bool) → (taken_at (past_by past stack op asked start sectors state) device).valid ≡ false
    by_end true = gone
    by_end false = sectors_gone stack state op asked start sectors device gone

pub request_whole : (stack : Description) (state : State) (op : Op) (asked start len : ℕ) → (request_step stack op asked start len state).state ≡ state_past stack op asked start len len state
request_whole stack state op asked start len = by_end (nat_lt (device_len stack asked) (start + len))
  where
    by_end : (past : Bool) → (cond past (keep (replicate len Fails) state) (steps (sector_step stack op MOST_DEPTH (Device asked)) state start len)).state ≡ past_by past stack op asked start len state
    by_end true = refl
    by_end false = refl

past_false : (stack : Description) (op : Op) (asked start len sectors : ℕ) (state : State) → nat_lt (device_len stack asked) (start + len) ≡ false → state_past stack op asked start len sectors state ≡ state_at stack op asked start sectors state
past_false stack op asked start len sectors state is = rw is refl

pub request_loses : (stack : Description) (state : State) (op : Op) (asked start len sectors device : ℕ) → IsSound stack → length state ≡ length stack.devices → (taken_at state device).valid ≡ true
    → (taken_at (state_past stack op asked start len sectors state) device).valid ≡ false → IsLostIn stack state device op asked start len sectors
request_loses stack state op asked start len sectors device sound count valid gone = by_end (nat_lt (device_len stack asked) (start + len)) refl gone
  where
    by_end : (past : Bool) → nat_lt (device_len stack asked) (start + len) ≡ past → (taken_at (past_by past stack op asked start sectors state) device).valid ≡ false → IsLostIn stack state device op asked start len sectors
    by_end true is gone = absurd (true≢false (sym valid ∙ gone))
    by_end false is gone =
        let found = sectors_lose stack state op asked start sectors device sound count valid gone in
        let end = ltb-false _ _ is in
        record { inside = omega (arith, end); at = found.at; within = found.within; writes = found.writes; loses = rw (past_false stack op asked start len found.at state is) found.loses }

pub request_lost : (stack : Description) (state : State) (op : Op) (asked start len sectors device : ℕ) → IsSound stack → length state ≡ length stack.devices → IsLostIn stack state device op asked start len sectors → (taken_at (state_past stack op asked start len sectors state) device).valid ≡ false
request_lost stack state op asked start len sectors device sound count lost =
    let inside = lost.inside in
    let is : nat_lt (device_len stack asked) (start + len) ≡ false = le-ltb (device_len stack asked) (start + len) inside in
    rw (past_false stack op asked start len sectors state is) (sectors_lost stack state op asked start sectors device lost.at sound count lost.within lost.writes (rw (past_false stack op asked start len lost.at state is) at lost.loses))
