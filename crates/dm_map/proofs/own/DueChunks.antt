-- The chunks due for a write: the write leaves the state that taking them leaves, and each is a chunk of a snapshot of the stack.
use Rattle.dm_map.proofs.Prelude.{ℕ, zero, suc, Bool, true, false, cond, List, [], Option, Some, None, refl, sym, ap, ◌∙◌, arith, AllByRecursion, div-mul-le_self, Lower, Device, Disk, ResolvedLine, ResolvedOver, ResolvedTarget, Below, Lies, below_plain, found_at, Description, device_len, is_ro_at, lower_len, IsSound, Due, due_at_line, due_at_target, due_in, due_over, State, taken_at, snapshot_at, write_line, write_step, write_target, by_below, IsOver, serve, is_refused, take_chunk, unit_in_store, Step, keep, and_then, Drops, Fails, all_append, Origin, Snapshot}
use Rattle.dm_map.proofs.state.ResolvedLines.{line_origin, line_snapshot, line_sound, origin_sound}
use Rattle.dm_map.proofs.walk.Overs.{overs}
use Rattle.std.specs.Prelude.{◌≡◌, ◌-◌, ◌*◌, ◌/◌, ◌<◌, ◌∷◌, ◌++◌}

-- the state after one due chunk is taken
abbrev pub due_taken : Description → State → Due → State
due_taken stack state one = (take_chunk stack one.snapshot one.device one.chunk state).state

-- the state after these due chunks are taken in order
abbrev pub all_taken : Description → State → List Due → State
all_taken stack state [] = state
all_taken stack state (one ∷ later) = all_taken stack (due_taken stack state one) later

taken_append : (stack : Description) (state : State) (some more : List Due) → all_taken stack state (some ++ more) ≡ all_taken stack (all_taken stack state some) more
taken_append stack state [] more = refl
taken_append stack state (one ∷ some) more = taken_append stack (due_taken stack state one) some more

serve_taken : (stack : Description) (over : List ResolvedOver) (sector : ℕ) (state : State) → (serve stack over sector state).state ≡ all_taken stack state (due_over over sector)
unfolding serve
serve_taken stack [] sector state = refl
serve_taken stack (one ∷ over) sector state = serve_taken stack over sector (take_chunk stack one.snapshot one.device (sector / one.snapshot.chunk) state).state

-- A write leaves the state that taking its due chunks leaves

Leaves : Description → (Lower → State → ℕ → Step) → (Lower → State → ℕ → List Due) → Type 0
Leaves stack next due = (to : Lower) (state : State) (sector : ℕ) → (next to state sector).state ≡ all_taken stack state (due to state sector)

below_leaves : (stack : Description) (b : Below) (state : State) (next : Lower → State → ℕ → Step) (due : Lower → State → ℕ → List Due) → Leaves stack next due
    → (by_below b (keep (Drops ∷ []) state) (keep (Fails ∷ []) state) (λ to sector. next to state sector)).state ≡ all_taken stack state (by_below b [] [] (λ to sector. due to state sector))
unfolding Leaves
below_leaves stack (Lies to sector) state next due leaves = leaves to state sector
below_leaves stack b state next due leaves = refl

unless_leaves : (stack : Description) (not_done : Bool) (state : State) (step : Step) (dues : List Due) → step.state ≡ all_taken stack state dues → (cond not_done (keep (Fails ∷ []) state) step).state ≡ all_taken stack state (cond not_done [] dues)
unless_leaves stack true state step dues leaves = refl
unless_leaves stack false state step dues leaves = leaves

target_leaves : (stack : Description) (state : State) (device : ℕ) (target : ResolvedTarget) (distance : ℕ) (next : Lower → State → ℕ → Step) (due : Lower → State → ℕ → List Due) → Leaves stack next due
    → (write_target stack state device target distance next).state ≡ all_taken stack state (due_at_target stack state device target distance due)
unfolding Leaves
target_leaves stack state device (Snapshot snapshot) distance next due leaves =
    let made = take_chunk stack snapshot device (distance / snapshot.chunk) state in
    unless_leaves stack (is_refused stack snapshot (taken_at state device) (distance / snapshot.chunk)) state (and_then made (λ after. keep (unit_in_store stack snapshot device after distance ∷ []) after)) (record { device = device; snapshot = snapshot; chunk = distance / snapshot.chunk } ∷ []) refl
target_leaves stack state device (Origin origin) distance next due leaves =
    let served = (serve stack origin.over distance state).state in
    leaves origin.to served distance
    ∙ ap (λ (after : State). all_taken stack after (due origin.to served distance)) (serve_taken stack origin.over distance state)
    ∙ sym (taken_append stack state (due_over origin.over distance) (due origin.to served distance))
target_leaves stack state device target distance next due leaves = below_leaves stack (below_plain target distance) state next due leaves

line_leaves : (stack : Description) (state : State) (device : ℕ) (line : Option ResolvedLine) (sector : ℕ) (next : Lower → State → ℕ → Step) (due : Lower → State → ℕ → List Due) → Leaves stack next due
    → (write_line stack state device line sector next).state ≡ all_taken stack state (due_at_line stack state device line sector due)
line_leaves stack state device None sector next due leaves = refl
line_leaves stack state device (Some line) sector next due leaves = target_leaves stack state device line.target (sector - line.start) next due leaves

pub write_leaves : (stack : Description) (levels : ℕ) (lower : Lower) (state : State) (sector : ℕ) → (write_step stack levels lower state sector).state ≡ all_taken stack state (due_in stack levels lower state sector)
unfolding write_step due_in Leaves
write_leaves stack levels (Disk disk) state sector = refl
write_leaves stack zero (Device device) state sector = refl
write_leaves stack (suc levels) (Device device) state sector =
    unless_leaves stack (is_ro_at stack device) state (write_line stack state device (found_at stack device sector) sector (λ to after at. write_step stack levels to after at))
    (due_at_line stack state device (found_at stack device sector) sector (λ to after at. due_in stack levels to after at))
    (line_leaves stack state device (found_at stack device sector) sector (λ to after at. write_step stack levels to after at) (λ to after at. due_in stack levels to after at) (λ to after at. write_leaves stack levels to after at))

-- Each due chunk belongs to a snapshot of the stack

pub record IsDue (stack : Description) (one : Due) : Type 0 where
  pub is : snapshot_at stack one.device ≡ Some one.snapshot
  pub inside : one.chunk * one.snapshot.chunk < device_len stack one.device

AreAllDue : Description → (Lower → State → ℕ → List Due) → Type 0
AreAllDue stack due = (to : Lower) (state : State) (sector : ℕ) → AllByRecursion (IsDue stack) (due to state sector)

over_due : (stack : Description) (len sector : ℕ) (over : List ResolvedOver) → sector < len → AllByRecursion (IsOver stack len) over → AllByRecursion (IsDue stack) (due_over over sector)
over_due stack len sector [] inside all = tt
over_due stack len sector (one ∷ over) inside all =
    let first = div-mul-le_self sector one.snapshot.chunk in let long = all.0.long in
    (record { is = all.0.is; inside = omega (arith, first, long, inside) }, over_due stack len sector over inside all.1)

below_due : (stack : Description) (b : Below) (state : State) (due : Lower → State → ℕ → List Due) → AreAllDue stack due → AllByRecursion (IsDue stack) (by_below b [] [] (λ to sector. due to state sector))
unfolding AreAllDue
below_due stack (Lies to sector) state due each = each to state sector
below_due stack b state due each = tt

unless_due : (stack : Description) (not_done : Bool) (dues : List Due) → AllByRecursion (IsDue stack) dues → AllByRecursion (IsDue stack) (cond not_done [] dues)
unless_due stack true dues all = tt
unless_due stack false dues all = all

target_due : (stack : Description) (state : State) (device sector : ℕ) (line : ResolvedLine) (target : ResolvedTarget) (due : Lower → State → ℕ → List Due) → IsSound stack → AreAllDue stack due → found_at stack device sector ≡ Some line → line.target ≡ target
    → AllByRecursion (IsDue stack) (due_at_target stack state device target (sector - line.start) due)
unfolding AreAllDue
target_due stack state device sector line (Snapshot snapshot) due sound each is target =
    let over = line_snapshot stack device sector line snapshot sound is target in
    let inside = (line_sound stack device sector line sound is).inside in
    let first = div-mul-le_self (sector - line.start) snapshot.chunk in
    unless_due stack (is_refused stack snapshot (taken_at state device) ((sector - line.start) / snapshot.chunk)) (record { device = device; snapshot = snapshot; chunk = (sector - line.start) / snapshot.chunk } ∷ [])
    (record { is = over.1; inside = omega (arith, first, inside) }, tt)
target_due stack state device sector line (Origin origin) due sound each is target =
    let over = line_origin stack device sector line origin sound is target in
    let soundly = (origin_sound stack device origin sound over.1).soundly in
    let inside = (line_sound stack device sector line sound is).inside in
    let same = soundly.same in
    let len = lower_len stack origin.to in
    let at = sector - line.start in
    all_append (IsDue stack) (due_over origin.over at) (due origin.to (serve stack origin.over at state).state at)
    (over_due stack len at origin.over (omega (arith, inside, same)) (rw soundly.over (overs stack origin.to len sound (omega arith))))
    (each origin.to (serve stack origin.over at state).state at)
target_due stack state device sector line target due sound each is t = below_due stack (below_plain target (sector - line.start)) state due each

line_due : (stack : Description) (state : State) (device sector : ℕ) (line : Option ResolvedLine) (due : Lower → State → ℕ → List Due) → IsSound stack → AreAllDue stack due → found_at stack device sector ≡ line
    → AllByRecursion (IsDue stack) (due_at_line stack state device line sector due)
line_due stack state device sector None due sound each is = tt
line_due stack state device sector (Some line) due sound each is = target_due stack state device sector line line.target due sound each is refl

pub all_due : (stack : Description) (levels : ℕ) (lower : Lower) (state : State) (sector : ℕ) → IsSound stack → AllByRecursion (IsDue stack) (due_in stack levels lower state sector)
unfolding due_in AreAllDue
all_due stack levels (Disk disk) state sector sound = tt
all_due stack zero (Device device) state sector sound = tt
all_due stack (suc levels) (Device device) state sector sound =
    unless_due stack (is_ro_at stack device) (due_at_line stack state device (found_at stack device sector) sector (λ to after at. due_in stack levels to after at))
    (line_due stack state device sector (found_at stack device sector) (λ to after at. due_in stack levels to after at) sound (λ to after at. all_due stack levels to after at sound) refl)
