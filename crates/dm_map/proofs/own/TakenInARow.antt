-- Taking chunks one after the other: what roots read stays or becomes an error, and the copies write only what no root reads in the state before.
use Rattle.dm_map.proofs.Prelude.{inl, inr, ℕ, zero, suc, false, List, [], length-append, Some, length, refl, ap, ◌∙◌, arith, AllByRecursion, cases_eq, ResolvedSnapshot, Lower, Disk, IsTidy, Description, lower_len, IsSound, IsOfSnapshot, take_chunks, Due, Values, Stays, answers, content, played, played_unit, sector_after, value_read, IsFitting, Home, store_sector, copy_to, count_of, first_of, home_in_store, read, take_chunk, row, lost, put, with_chunk, State, Taken, taken_at, Step, BlockUnit, ReadOf, Node, node, Touches, all_append}
use Rattle.dm_map.proofs.own.UniqueSteps.{IsRoot}
use Rattle.dm_map.proofs.state.ResolvedLines.{snapshot_sound}
use Rattle.dm_map.proofs.own.HomeLemmas.{fresh_apart, home_node}
use Rattle.dm_map.proofs.own.Losses.{lost_stays, stays_as, stays_on}
use Rattle.dm_map.proofs.own.ChunkOutcomes.{FullOutcome, Done, Taking, Losing, full_outcome, full_outcome_fits}
use Rattle.dm_map.proofs.state.Numbers.{store_sector_inside, store_sector_parts}
use Rattle.dm_map.proofs.own.Plays.{home_at, played_on, stored_other}
use Rattle.dm_map.proofs.walk.ChunkTaking.{taken_other, taken_same}
use Rattle.dm_map.proofs.state.TableLemmas.{number_within}
use Rattle.dm_map.proofs.own.Takes.{IsTake, chunk_copies, new_number, take_keeps}
use Rattle.dm_map.proofs.own.WayLemmas.{read_touches}
use Rattle.std.specs.Prelude.{◌≡◌, ◌+◌, ◌/◌, ◌<◌, ◌≤◌, ◌∷◌, ◌++◌}

-- Copies and fills answer no sector

copy_moves : (from : BlockUnit) (to : Home) → answers (copy_to from to) ≡ false
copy_moves (ReadOf disk sector) to = refl
copy_moves unit to = refl

pub copy_only : {V : Type 0} (zeros written : V) (from : BlockUnit) (to : Home) (values : Values V) (disk sector : ℕ) → (to ≡ home_at disk sector → ⊥) → played_unit zeros written (copy_to from to) values disk sector ≡ values disk sector
copy_only zeros written (ReadOf k x) to values disk sector differ = stored_other values to.disk to.sector disk sector (values k x) differ
copy_only zeros written unit to values disk sector differ = stored_other values to.disk to.sector disk sector zeros differ

-- a unit that writes only a sector that no root reads in this state
pub record IsFresh (stack : Description) (state : State) (unit : BlockUnit) : Type 0 where
  pub from : BlockUnit
  pub to : Home
  pub is : unit ≡ copy_to from to
  pub apart : (a : Node) → IsRoot stack a.lower → Touches stack state a (home_node to) → ⊥

fresh_moves : (stack : Description) (state : State) (unit : BlockUnit) → IsFresh stack state unit → answers unit ≡ false
fresh_moves stack state unit fresh = ap answers fresh.is ∙ copy_moves fresh.from fresh.to

pub all_moves : (stack : Description) (state : State) (us : List BlockUnit) → AllByRecursion (IsFresh stack state) us → AllByRecursion (λ unit. answers unit ≡ false) us
all_moves stack state [] each = tt
all_moves stack state (u ∷ us) each = (fresh_moves stack state u each.0, all_moves stack state us each.1)

pub all_row : (P : BlockUnit → Type 0) (f : ℕ → BlockUnit) (s n : ℕ) → ((u : ℕ) → s ≤ u → u < s + n → P (f u)) → AllByRecursion P (row f s n)
all_row P f s zero each = tt
all_row P f s (suc n) each = (each s (omega arith) (omega arith), all_row P f (suc s) n (λ u low high. each u (omega (arith, low)) (omega (arith, high))))

-- any number of units that write only what no root reads change nothing that roots read

fresh_keep : {V : Type 0} (zeros : V) (written : ℕ → V) (at : ℕ) (stack : Description) (state : State) (a : Node) (us : List BlockUnit) (values : Values V) (disk sector : ℕ) → IsRoot stack a.lower → AllByRecursion (IsFresh stack state) us → Touches stack state a (node (Disk disk) sector)
    → played zeros written at us values disk sector ≡ values disk sector
unfolding played
fresh_keep zeros written at stack state a [] values disk sector root each touches = refl
fresh_keep {V = V} zeros written at stack state a (u ∷ us) values disk sector root each touches =
    cc (fresh_keep zeros written (sector_after u at) stack state a us (played_unit zeros (written at) u values) disk sector root each.1 touches, copy_only zeros (written at) each.0.from each.0.to values disk sector (λ e. each.0.apart a root (rw e touches)))

pub value_kept : {V : Type 0} (zeros : V) (values later : Values V) (unit : BlockUnit) → ((disk sector : ℕ) → unit ≡ ReadOf disk sector → later disk sector ≡ values disk sector) → value_read zeros later unit ≡ value_read zeros values unit
value_kept zeros values later (ReadOf disk sector) same = ap Some (same disk sector refl)
value_kept zeros values later unit same = refl

pub fresh_stays : {V : Type 0} (zeros : V) (written : ℕ → V) (at : ℕ) (stack : Description) (state : State) (lower : Lower) (sector : ℕ) (us : List BlockUnit) (values : Values V) → IsSound stack → IsRoot stack lower → AllByRecursion (IsFresh stack state) us
    → content zeros stack state (played zeros written at us values) lower sector ≡ content zeros stack state values lower sector
fresh_stays zeros written at stack state lower sector us values sound root each =
    value_kept zeros values (played zeros written at us values) (read stack state lower sector)
    (λ disk x is. fresh_keep zeros written at stack state (node lower sector) us values disk x root each (read_touches stack state lower sector disk x sound is))

-- Taking several chunks

-- every snapshot has at least as many chunks as in the old state
pub record IsGrown (old state : State) : Type 0 where
  pub lists : (device : ℕ) → length (taken_at old device).chunks ≤ length (taken_at state device).chunks

pub grown_same : (state : State) → IsGrown state state
grown_same state = record { lists = λ device. omega arith }

grown_put : (old state : State) (device : ℕ) (taken : Taken) → device < length state → IsGrown old state → length (taken_at state device).chunks ≤ length taken.chunks → IsGrown old (put state device taken)
grown_put old state device taken there grown more = record {
  lists = λ e. elim (cases_eq e device) [
    | inl same ↦ rw (same, taken_same state device taken there) (let before = grown.lists device in omega (arith, before, more))
    | inr differ ↦ rw (taken_other state device e taken differ) (grown.lists e)
  ];
}

outcome_grown : (stack : Description) (old state : State) (device chunk : ℕ) (snapshot : ResolvedSnapshot) (step : Step) → device < length state → IsGrown old state → FullOutcome stack state device chunk snapshot step → IsGrown old step.state
outcome_grown stack old state device chunk snapshot step there grown (Done is) = rw is grown
outcome_grown stack old state device chunk snapshot step there grown (Taking take is) =
    let e : length ((taken_at state device).chunks ++ chunk ∷ []) ≡ length (taken_at state device).chunks + 1 = length-append (taken_at state device).chunks (chunk ∷ []) in
    rw is (grown_put old state device (with_chunk (taken_at state device) chunk) there grown (omega (arith, e)))
outcome_grown stack old state device chunk snapshot step there grown (Losing is) = rw is (grown_put old state device (lost (taken_at state device)) there grown (omega arith))

-- The copies for a chunk write only what no root reads in an earlier state

copies_fresh : (stack : Description) (old state : State) (device chunk : ℕ) (snapshot : ResolvedSnapshot) → IsSound stack → IsFitting stack old → IsTidy stack → IsGrown old state → IsTake stack state device chunk snapshot
    → AllByRecursion (IsFresh stack old) (chunk_copies stack state device chunk snapshot)
copies_fresh stack old state device chunk snapshot sound fitting tidy grown take =
    let some = (snapshot_sound stack device snapshot sound take.over).soundly.chunk_some in
    let n = new_number state device in
    all_row (IsFresh stack old) (λ u. copy_to (read stack state snapshot.origin u) (home_in_store stack snapshot n u)) (first_of snapshot chunk) (count_of stack snapshot device chunk) (λ u low high. record {
      from = read stack state snapshot.origin u;
      to = home_in_store stack snapshot n u;
      is = refl;
      apart = λ a root touches. fresh_apart stack old a device snapshot (store_sector snapshot n u) sound fitting tidy take.over root (store_sector_inside snapshot n u (lower_len stack snapshot.store) some take.place_there)
          (λ t i is e.
          let below = number_within (t / snapshot.chunk) (taken_at old device).chunks i is in let more = grown.lists device in let parts = store_sector_parts snapshot n i u t some e in
          omega (arith, below, more, parts.0)) touches;
    })

outcome_fresh : (stack : Description) (old state : State) (device chunk : ℕ) (snapshot : ResolvedSnapshot) (step : Step) → IsSound stack → IsFitting stack old → IsTidy stack → IsGrown old state → FullOutcome stack state device chunk snapshot step
    → AllByRecursion (IsFresh stack old) step.units
outcome_fresh stack old state device chunk snapshot step sound fitting tidy grown (Done is) = rw is tt
outcome_fresh stack old state device chunk snapshot step sound fitting tidy grown (Taking take is) = rw is (copies_fresh stack old state device chunk snapshot sound fitting tidy grown take)
outcome_fresh stack old state device chunk snapshot step sound fitting tidy grown (Losing is) = rw is tt

outcome_stays : {V : Type 0} (zeros : V) (written : ℕ → V) (at : ℕ) (stack : Description) (state : State) (values : Values V) (device chunk : ℕ) (snapshot : ResolvedSnapshot) (lower : Lower) (sector : ℕ) (step : Step) → IsSound stack → IsFitting stack state → IsTidy stack → device < length state
    → IsRoot stack lower → FullOutcome stack state device chunk snapshot step → Stays (content zeros stack state values lower sector) (content zeros stack step.state (played zeros written at step.units values) lower sector)
unfolding played
outcome_stays zeros written at stack state values device chunk snapshot lower sector step sound fitting tidy there root (Done is) = rw is (inl refl)
outcome_stays zeros written at stack state values device chunk snapshot lower sector step sound fitting tidy there root (Taking take is) =
    rw is (inl (take_keeps zeros written at stack state values device chunk snapshot lower sector sound fitting tidy take root))
outcome_stays zeros written at stack state values device chunk snapshot lower sector step sound fitting tidy there root (Losing is) = rw is (lost_stays zeros stack state values device lower sector sound there)

pub snapshot_there : (stack : Description) (state : State) (one : Due) → IsSound stack → IsFitting stack state → IsOfSnapshot stack one → one.device < length state
snapshot_there stack state one sound fitting is = let there = (snapshot_sound stack one.device one.snapshot sound is).there in let count = fitting.count in omega (arith, there, count)

-- what taking chunks does, as seen from an earlier state
pub record IsRun (stack : Description) (old state : State) (step : Step) : Type 0 where
  pub fits : IsFitting stack step.state
  pub grown : IsGrown old step.state
  pub fresh : AllByRecursion (IsFresh stack old) step.units

pub ran : (stack : Description) (old state : State) (dues : List Due) → IsSound stack → IsFitting stack old → IsFitting stack state → IsTidy stack → IsGrown old state → AllByRecursion (IsOfSnapshot stack) dues → IsRun stack old state (take_chunks stack dues state)
unfolding take_chunks
ran stack old state [] sound fit_old fitting tidy grown each = record { fits = fitting; grown = grown; fresh = tt }
ran stack old state (e ∷ es) sound fit_old fitting tidy grown each =
    let there = snapshot_there stack state e sound fitting each.0 in
    let step = take_chunk stack e.snapshot e.device e.chunk state in
    let outcome : FullOutcome stack state e.device e.chunk e.snapshot step = full_outcome stack state e.device e.chunk e.snapshot each.0 there in
    let fits = full_outcome_fits stack state e.device e.chunk e.snapshot step fitting there outcome in
    let more = outcome_grown stack old state e.device e.chunk e.snapshot step there grown outcome in
    let fresh = outcome_fresh stack old state e.device e.chunk e.snapshot step sound fit_old tidy grown outcome in
    let later = ran stack old step.state es sound fit_old fits tidy more each.1 in
    record { fits = later.fits; grown = later.grown; fresh = all_append (IsFresh stack old) step.units (take_chunks stack es step.state).units fresh later.fresh }

-- after taking chunks, what a root reads is unchanged or an error
pub run_stays : {V : Type 0} (zeros : V) (written : ℕ → V) (at : ℕ) (stack : Description) (state : State) (dues : List Due) (values : Values V) (lower : Lower) (sector : ℕ) → IsSound stack → IsFitting stack state → IsTidy stack → AllByRecursion (IsOfSnapshot stack) dues → IsRoot stack lower
    → Stays (content zeros stack state values lower sector) (content zeros stack (take_chunks stack dues state).state (played zeros written at (take_chunks stack dues state).units values) lower sector)
unfolding take_chunks played
run_stays zeros written at stack state [] values lower sector sound fitting tidy each root = inl refl
run_stays {V = V} zeros written at stack state (e ∷ es) values lower sector sound fitting tidy each root =
    let there = snapshot_there stack state e sound fitting each.0 in
    let step = take_chunk stack e.snapshot e.device e.chunk state in
    let outcome : FullOutcome stack state e.device e.chunk e.snapshot step = full_outcome stack state e.device e.chunk e.snapshot each.0 there in
    let fits = full_outcome_fits stack state e.device e.chunk e.snapshot step fitting there outcome in
    let moves = all_moves stack state step.units (outcome_fresh stack state state e.device e.chunk e.snapshot step sound fitting tidy (grown_same state) outcome) in
    stays_as _ _ _ _ refl (cc (played_on zeros written at step.units (take_chunks stack es step.state).units values moves))
    (stays_on _ _ _ (outcome_stays zeros written at stack state values e.device e.chunk e.snapshot lower sector step sound fitting tidy there root outcome)
    (run_stays zeros written at stack step.state es (played zeros written at step.units values) lower sector sound fits tidy each.1 root))
