-- Settled chunks stay settled, whatever is written.
use Rattle.dm_map.proofs.Prelude.{inl, inr, ℕ, zero, suc, Bool, true, false, cond, not, List, [], Option, Some, None, length, refl, ap, ◌∙◌, is_some, cases_eq, cases_lt, length-set, set_past, Lower, Device, Disk, ResolvedLine, ResolvedOver, ResolvedSnapshot, ResolvedTarget, Below, Lies, below_plain, found_at, Description, is_ro_at, write_line, write_step, write_target, by_below, serve, number_in, is_refused, is_settled, take_chunk, unit_in_store, lost, put, with_chunk, State, Taken, taken_at, Step, keep, and_then, Drops, Fails, Origin, Snapshot}
use Rattle.dm_map.proofs.state.Numbers.{number_kept}
use Rattle.dm_map.proofs.walk.ChunkTaking.{ChunkOutcome, Settled, Took, Lost, chunk_outcome, taken_other, taken_same}
use Rattle.std.specs.Prelude.{◌≡◌, ◌-◌, ◌/◌, ◌∷◌, ◌++◌, ◌||◌}

-- the new state has as many entries as the old, and every chunk settled in the old is settled in the new
pub record KeepsSettled (old new : State) : Type 0 where
  pub count : length new ≡ length old
  pub settled : (device chunk : ℕ) → is_settled (taken_at old device) chunk ≡ true → is_settled (taken_at new device) chunk ≡ true

pub keeps_same : (state : State) → KeepsSettled state state
keeps_same state = record { count = refl; settled = λ device chunk is. is }

pub keeps_then : (first second third : State) → KeepsSettled first second → KeepsSettled second third → KeepsSettled first third
keeps_then first second third one two = record { count = two.count ∙ one.count; settled = λ device chunk is. two.settled device chunk (one.settled device chunk is) }

-- Taking a chunk keeps chunks settled

keeps_put : (state : State) (device : ℕ) (taken : Taken) → ((chunk : ℕ) → is_settled (taken_at state device) chunk ≡ true → is_settled taken chunk ≡ true) → KeepsSettled state (put state device taken)
keeps_put state device taken each = record {
  count = length-set state device taken;
  settled = λ other chunk is. elim (cases_lt device (length state)) [
    | inl there ↦ elim (cases_eq other device) [
      | inl same ↦
          let here : taken_at (put state device taken) other ≡ taken = ap (taken_at (put state device taken)) same ∙ taken_same state device taken there in
          rw here (each chunk (rw same at is))
      | inr differ ↦ rw (taken_other state device other taken differ) is
    ]
    | inr past ↦ rw (set_past state device taken past) is
  ];
}

settled_more : (valid : Bool) (number : Option ℕ) (chunk new : ℕ) (chunks : List ℕ) → number_in chunk chunks ≡ number → (not valid || is_some number) ≡ true → (not valid || is_some (number_in chunk (chunks ++ new ∷ []))) ≡ true
settled_more false number chunk new chunks is settled = refl
settled_more true None chunk new chunks is settled = absurd cc
settled_more true (Some i) chunk new chunks is settled = rw (number_kept chunk chunks (new ∷ []) i is) refl

keeps_outcome : (state : State) (device chunk : ℕ) (step : Step) → ChunkOutcome state device chunk step → KeepsSettled state step.state
keeps_outcome state device chunk step (Settled settled is) = rw is (keeps_same state)
keeps_outcome state device chunk step (Took valid fresh units is) =
    let taken = taken_at state device in
    rw is (keeps_put state device (with_chunk taken chunk) (λ other settled. settled_more taken.valid (number_in other taken.chunks) other chunk taken.chunks refl settled))
keeps_outcome state device chunk step (Lost is) = rw is (keeps_put state device (lost (taken_at state device)) (λ other settled. refl))

pub take_chunk_keeps : (stack : Description) (snapshot : ResolvedSnapshot) (device chunk : ℕ) (state : State) → KeepsSettled state (take_chunk stack snapshot device chunk state).state
take_chunk_keeps stack snapshot device chunk state = keeps_outcome state device chunk (take_chunk stack snapshot device chunk state) (chunk_outcome stack snapshot device chunk state)

-- serving snapshots keeps chunks settled
pub serve_keeps : (stack : Description) (over : List ResolvedOver) (sector : ℕ) (state : State) → KeepsSettled state (serve stack over sector state).state
unfolding serve
serve_keeps stack [] sector state = keeps_same state
serve_keeps stack (one ∷ over) sector state =
    let first = take_chunk stack one.snapshot one.device (sector / one.snapshot.chunk) state in
    keeps_then state first.state (serve stack over sector first.state).state (take_chunk_keeps stack one.snapshot one.device (sector / one.snapshot.chunk) state) (serve_keeps stack over sector first.state)

-- A write keeps chunks settled

Appends : (Lower → State → ℕ → Step) → Type 0
Appends next = (to : Lower) (state : State) (sector : ℕ) → KeepsSettled state (next to state sector).state

below_keeps : (b : Below) (state : State) (next : Lower → State → ℕ → Step) → Appends next → KeepsSettled state (by_below b (keep (Drops ∷ []) state) (keep (Fails ∷ []) state) (λ to sector. next to state sector)).state
unfolding Appends
below_keeps (Lies to sector) state next keeps = keeps to state sector
below_keeps b state next keeps = keeps_same state

-- a step that may fail before it does anything
fails_or_keeps : (failing : Bool) (state : State) (step : Step) → KeepsSettled state step.state → KeepsSettled state (cond failing (keep (Fails ∷ []) state) step).state
fails_or_keeps true state step keeps = keeps_same state
fails_or_keeps false state step keeps = keeps

target_keeps : (stack : Description) (state : State) (device : ℕ) (target : ResolvedTarget) (distance : ℕ) (next : Lower → State → ℕ → Step) → Appends next → KeepsSettled state (write_target stack state device target distance next).state
unfolding Appends
target_keeps stack state device (Snapshot snapshot) distance next keeps =
    let made = take_chunk stack snapshot device (distance / snapshot.chunk) state in
    fails_or_keeps (is_refused stack snapshot (taken_at state device) (distance / snapshot.chunk)) state (and_then made (λ after. keep (unit_in_store stack snapshot device after distance ∷ []) after)) (take_chunk_keeps stack snapshot device (distance / snapshot.chunk) state)
target_keeps stack state device (Origin origin) distance next keeps =
    let served = serve stack origin.over distance state in
    keeps_then state served.state (next origin.to served.state distance).state (serve_keeps stack origin.over distance state) (keeps origin.to served.state distance)
target_keeps stack state device target distance next keeps = below_keeps (below_plain target distance) state next keeps

line_keeps : (stack : Description) (state : State) (device : ℕ) (line : Option ResolvedLine) (sector : ℕ) (next : Lower → State → ℕ → Step) → Appends next → KeepsSettled state (write_line stack state device line sector next).state
line_keeps stack state device None sector next keeps = keeps_same state
line_keeps stack state device (Some line) sector next keeps = target_keeps stack state device line.target (sector - line.start) next keeps

-- a write through any number of levels keeps chunks settled
pub write_keeps_settled : (stack : Description) (levels : ℕ) (lower : Lower) (state : State) (sector : ℕ) → KeepsSettled state (write_step stack levels lower state sector).state
unfolding write_step Appends
write_keeps_settled stack levels (Disk disk) state sector = keeps_same state
write_keeps_settled stack zero (Device device) state sector = keeps_same state
write_keeps_settled stack (suc levels) (Device device) state sector =
    fails_or_keeps (is_ro_at stack device) state (write_line stack state device (found_at stack device sector) sector (λ to after at. write_step stack levels to after at))
    (line_keeps stack state device (found_at stack device sector) sector (λ to after at. write_step stack levels to after at) (λ to after at. write_keeps_settled stack levels to after at))
