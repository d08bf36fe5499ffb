-- If no line is an `error` line and each store has room for all chunks of its snapshot, no snapshot is ever lost and no read fails.
use Rattle.dm_map.proofs.Prelude.{inl, inr, ℕ, Bool, true, false, List, [], Option, Some, None, length, nat_eq, refl, sym, ap, subst, ◌∙◌, arith, AllByRecursion, IsDistinct, list_any, le-div_iff_mul-le, cases_eq, eqb-true, le-leb, true_from_ne_false, length-append, length-le_from_distinct_below, true≢false, none-some, Op, Line, Target, Lower, Device, ResolvedLine, ResolvedSnapshot, ResolvedTarget, all_append, IsSnapshotSound, found_at, resolved_target, holds, line_of, place_count, IsTidy, IsTop, Description, device_len, lines_at, lower_len, HasGoodChunk, IsSound, device_sound, found, lines_there, of_device, there, AreOwnChunks, AreExact, IsAmple, IsAmpleTarget, IsIntact, TookOwn, chunk_count, Stays, Values, content, played, sector_past, value_read, AtError, AtLost, EndsHere, halted_state, halted_units, state_past, Due, HasError, IsLosing, AreOwn, Rows, first_rows, rows_played, number_in, State, Taken, lost, put, start_state, taken_at, with_chunk, snapshot_at, request_step, read, take_chunk, Step, BlockUnit, Fails, MOST_DEPTH, Error, Snapshot}
use Rattle.dm_table.specs.declared.tables.table.Target.TheVariants as targets
use Rattle.dm_stack.proofs.ChunkLemmas.{good_lines}
use Rattle.dm_stack.proofs.StoreLayoutLemmas.{has_place}
use Rattle.dm_map.specs.state.Snapshots as snapshots
use Rattle.dm_map.proofs.own.ChunkOutcomes.{IsRead, Sector, Nothing, Fault, is_read}
use Rattle.dm_map.proofs.own.DueChunks.{IsDue, due_taken}
use Rattle.dm_map.proofs.own.ErrorReads.{meets_error}
use Rattle.dm_map.proofs.own.KeptRequests.{due_fits, past_keeps}
use Rattle.dm_map.proofs.own.LostSnapshots.{due_there, losing, request_whole}
use Rattle.dm_map.proofs.own.OwnRequests.{first_own, request_own}
use Rattle.dm_map.proofs.own.HaltedRequests.{halted_own}
use Rattle.dm_map.proofs.own.OwnWrites.{start_fits}
use Rattle.dm_map.proofs.state.ResolvedLines.{first_line, line_sound, snapshot_sound, some_line}
use Rattle.dm_map.proofs.state.Numbers.{distinct_more}
use Rattle.dm_map.proofs.walk.ChunkTaking.{Settled, Took, Lost, ChunkOutcome, chunk_outcome, taken_other, taken_same, none_at}
use Rattle.std.specs.Prelude.{◌≡◌, ◌+◌, ◌-◌, ◌*◌, ◌/◌, ◌<◌, ◌≤◌, ◌∷◌, ◌++◌, ◌||◌}

-- What an ample stack says about the line of a sector

abbrev IsAmpleFound : Description → (len : ℕ) → ResolvedTarget → Type 0
IsAmpleFound stack len Error = ⊥
IsAmpleFound stack len (Snapshot snapshot) = chunk_count snapshot.chunk len ≤ place_count snapshot.kind snapshot.chunk (lower_len stack snapshot.store)
IsAmpleFound stack len _ = Unit {0}

ample_target : (stack : Description) (len : ℕ) (target : Target) → HasGoodChunk target → IsAmpleTarget stack len target → IsAmpleFound stack len (resolved_target stack target)
ample_target stack len targets.Error good ample = ample
ample_target stack len (targets.Snapshot origin store kind chunk) good ample = rw good ample
ample_target stack len _ good ample = tt

ample_line : (stack : Description) (device sector : ℕ) (line : ResolvedLine) → IsSound stack → IsAmple stack → found_at stack device sector ≡ Some line → IsAmpleFound stack line.len line.target
ample_line stack device sector line sound ample is =
    let d = there stack.devices device (line_sound stack device sector line sound is).there in
    let raw = some_line stack (line_of (lines_at stack device) sector) line is in
    let lines = lines_there stack device d.it d.at in
    let P : Line → Type 0 = λ it. IsAmpleTarget stack it.len it.target in
    let held : line_of d.it.lines sector ≡ Some raw.0 = rw (← lines) raw.1 in
    let each = of_device P stack.devices device d.it ample d.at in
    let fitting = good_lines stack (length d.it.lines) d.it.lines (device_sound stack device d.it sound d.at).fitting in
    let good : HasGoodChunk raw.0.target = (found (λ it. HasGoodChunk it.target) (holds sector) d.it.lines raw.0 fitting held).1 in
    subst (λ (l : ResolvedLine). IsAmpleFound stack l.len l.target) raw.2 (ample_target stack raw.0.len raw.0.target good (found P (holds sector) d.it.lines raw.0 each held).1)

ample_error : (stack : Description) (device sector : ℕ) (line : ResolvedLine) → IsSound stack → IsAmple stack → found_at stack device sector ≡ Some line → line.target ≡ Error → ⊥
ample_error stack device sector line sound ample is target = subst (IsAmpleFound stack line.len) target (ample_line stack device sector line sound ample is)

ample_room : (stack : Description) (device : ℕ) (snapshot : ResolvedSnapshot) → IsSound stack → IsAmple stack → snapshot_at stack device ≡ Some snapshot → chunk_count snapshot.chunk (device_len stack device) ≤ place_count snapshot.kind snapshot.chunk (lower_len stack snapshot.store)
ample_room stack device snapshot sound ample over =
    let first = first_line stack device snapshot (found_at stack device 0) refl over in
    let whole : IsSnapshotSound stack device first.0.start first.0.len snapshot = rw first.2 at (line_sound stack device 0 first.0 sound first.1).soundly.target in
    let len = whole.whole in
    rw len at (subst (IsAmpleFound stack first.0.len) first.2 (ample_line stack device 0 first.0 sound ample first.1))

-- In an ample stack no read fails

ends_never : (stack : Description) (state : State) (device sector : ℕ) → IsSound stack → IsAmple stack → IsIntact stack state → EndsHere stack state device sector → ⊥
ends_never stack state device sector sound ample intact (AtError line is target) = ample_error stack device sector line sound ample is target
ends_never stack state device sector sound ample intact (AtLost snapshot over off) = true≢false (sym (intact.valid device) ∙ off)

pub never_fails : (stack : Description) (state : State) (lower : Lower) (sector : ℕ) → IsSound stack → IsAmple stack → IsIntact stack state → sector < lower_len stack lower → read stack state lower sector ≡ Fails → ⊥
never_fails stack state lower sector sound ample intact inside fails =
    let meets = meets_error stack state lower sector sound intact.fits inside fails in
    ends_never stack state meets.device meets.sector sound ample intact meets.ends

-- In an ample stack the store has room for a chunk that isn't taken yet

listed_by : (x count chunk : ℕ) (here later : Bool) → x < count → nat_eq chunk x ≡ here → (later ≡ true → chunk < count) → (here || later) ≡ true → chunk < count
listed_by x count chunk true later first is rest e = let same = eqb-true chunk x is in omega (arith, same, first)
listed_by x count chunk false later first is rest e = rest e

listed : (xs : List ℕ) (count chunk : ℕ) → AllByRecursion (λ taken. taken < count) xs → list_any (nat_eq chunk) xs ≡ true → chunk < count
listed [] count chunk each e = absurd cc
listed (x ∷ xs) count chunk each e = listed_by x count chunk (nat_eq chunk x) (list_any (nat_eq chunk) xs) each.0 refl (listed xs count chunk each.1) e

one_more : (chunk len taken : ℕ) (chunks : List ℕ) → AreOwnChunks chunk len chunks → number_in taken chunks ≡ None → taken < chunk_count chunk len → AreOwnChunks chunk len (chunks ++ taken ∷ [])
one_more chunk len taken chunks are fresh inside = record {
  once = distinct_more taken chunks are.once fresh;
  own = all_append (λ other. other < chunk_count chunk len) chunks (taken ∷ []) are.own (inside, tt);
}

few : (chunk len : ℕ) (chunks : List ℕ) → AreOwnChunks chunk len chunks → length chunks ≤ chunk_count chunk len
few chunk len chunks are = length-le_from_distinct_below chunks (chunk_count chunk len) are.once (λ taken is. listed chunks (chunk_count chunk len) taken are.own is)

-- a chunk that starts inside a device is one of the device's chunks
pub chunk_inside : (chunk len taken : ℕ) → 0 < chunk → taken * chunk < len → taken < chunk_count chunk len
chunk_inside chunk len taken some inside =
    let whole : taken + 1 ≤ (len + (chunk - 1)) / chunk = (le-div_iff_mul-le {x = taken + 1} {y = len + (chunk - 1)} some).1 (omega (arith, inside, some)) in
    omega (arith, whole)

due_inside : (stack : Description) (one : Due) → IsSound stack → IsDue stack one → one.chunk < chunk_count one.snapshot.chunk (device_len stack one.device)
due_inside stack one sound is = chunk_inside one.snapshot.chunk (device_len stack one.device) one.chunk (snapshot_sound stack one.device one.snapshot sound is.is).soundly.chunk_some is.inside

placed : (stack : Description) (state : State) (one : Due) → IsSound stack → IsAmple stack → IsIntact stack state → IsDue stack one → number_in one.chunk (taken_at state one.device).chunks ≡ None
    → snapshots.has_place stack one.snapshot (length (taken_at state one.device).chunks) ≡ true
placed stack state one sound ample intact is fresh =
    let chunks = (taken_at state one.device).chunks in
    let some = (snapshot_sound stack one.device one.snapshot sound is.is).soundly.chunk_some in
    let more = few one.snapshot.chunk (device_len stack one.device) (chunks ++ one.chunk ∷ []) (one_more one.snapshot.chunk (device_len stack one.device) one.chunk chunks (intact.chunks one.device one.snapshot is.is) fresh (due_inside stack one sound is)) in
    let room = ample_room stack one.device one.snapshot sound ample is.is in
    let longer : length (chunks ++ one.chunk ∷ []) ≡ length chunks + 1 = length-append chunks (one.chunk ∷ []) in
    let below : length chunks < place_count one.snapshot.kind one.snapshot.chunk (lower_len stack one.snapshot.store) = omega (arith, more, room, longer) in
    le-leb _ _ ((has_place one.snapshot.kind one.snapshot.chunk (lower_len stack one.snapshot.store) (length chunks) some).0 below)

-- In an ample stack no due chunk makes a snapshot lost

error_never : (stack : Description) (state : State) (one : Due) → IsSound stack → IsAmple stack → IsIntact stack state → IsDue stack one → HasError stack state one → ⊥
error_never stack state one sound ample intact is error =
    let origin = (snapshot_sound stack one.device one.snapshot sound is.is).soundly.origin in
    let before = error.before in let inside = is.inside in
    never_fails stack state one.snapshot.origin error.sector sound ample intact (omega (arith, before, inside, origin)) error.fails

never_losing : (stack : Description) (state : State) (device : ℕ) (one : Due) → IsSound stack → IsAmple stack → IsIntact stack state → IsDue stack one → IsLosing stack state device one → ⊥
never_losing stack state device one sound ample intact is losing = elim losing.why [
  | inl full ↦
      let fresh : number_in one.chunk (taken_at state one.device).chunks ≡ None = rw losing.of losing.fresh in
      let full : snapshots.has_place stack one.snapshot (length (taken_at state one.device).chunks) ≡ false = rw losing.of full in
      true≢false (sym (placed stack state one sound ample intact is fresh) ∙ full)
  | inr error ↦ error_never stack state one sound ample intact is error
]

-- In any stack, after a due chunk every snapshot still has only chunks of its own, none twice

put_own : (stack : Description) (state : State) (device : ℕ) (taken : Taken) → device < length state → TookOwn stack state
    → ((over : ResolvedSnapshot) → snapshot_at stack device ≡ Some over → AreOwnChunks over.chunk (device_len stack device) taken.chunks) → TookOwn stack (put state device taken)
put_own stack state device taken there own new = λ other snapshot over. elim (cases_eq other device) [
  | inl same ↦
      let here : taken_at (put state device taken) other ≡ taken = ap (taken_at (put state device taken)) same ∙ taken_same state device taken there in
      rw (here, same) (new snapshot (rw same at over))
  | inr differ ↦ rw (taken_other state device other taken differ) (own other snapshot over)
]

outcome_own : (stack : Description) (state : State) (one : Due) (step : Step) → IsSound stack → IsDue stack one → TookOwn stack state → one.device < length state → ChunkOutcome state one.device one.chunk step → TookOwn stack step.state
outcome_own stack state one step sound is own there (Settled settled step_is) = rw step_is own
outcome_own stack state one step sound is own there (Took valid fresh units step_is) =
    rw step_is (put_own stack state one.device (with_chunk (taken_at state one.device) one.chunk) there own (λ held held_at.
    one_more held.chunk (device_len stack one.device) one.chunk (taken_at state one.device).chunks (own one.device held held_at) fresh
    (chunk_inside held.chunk (device_len stack one.device) one.chunk (snapshot_sound stack one.device held sound held_at).soundly.chunk_some (inside held held_at))))
  where
    inside : (held : ResolvedSnapshot) → snapshot_at stack one.device ≡ Some held → one.chunk * held.chunk < device_len stack one.device
    inside held held_at = let same : one.snapshot ≡ held = cc in rw (← same) is.inside
outcome_own stack state one step sound is own there (Lost step_is) =
    rw step_is (put_own stack state one.device (lost (taken_at state one.device)) there own (λ held held_at. own one.device held held_at))

due_own : (stack : Description) (state : State) (one : Due) → IsSound stack → IsDue stack one → TookOwn stack state → one.device < length state → TookOwn stack (due_taken stack state one)
due_own stack state one sound is own there =
    outcome_own stack state one (take_chunk stack one.snapshot one.device one.chunk state) sound is own there (chunk_outcome stack one.snapshot one.device one.chunk state)

-- In an ample stack, no snapshot is lost after a due chunk

due_intact : (stack : Description) (state : State) (one : Due) → IsSound stack → IsAmple stack → IsDue stack one → IsIntact stack state → IsIntact stack (due_taken stack state one)
due_intact stack state one sound ample is intact =
    let there = due_there stack state one sound intact.fits.count is in
    let step = take_chunk stack one.snapshot one.device one.chunk state in
    record {
      fits = due_fits stack state one sound is intact.fits;
      valid = λ device. true_from_ne_false (taken_at step.state device).valid (λ gone. never_losing stack state device one sound ample intact is (losing stack state device one there (intact.valid device) gone));
      chunks = due_own stack state one sound is intact.chunks there;
    }

-- Requests preserve the chunks that snapshots have, and, in an ample stack, that none is lost

pub past_intact : (stack : Description) (op : Op) (state : State) (asked start len sectors : ℕ) → IsSound stack → IsAmple stack → IsIntact stack state → IsIntact stack (state_past stack op asked start len sectors state)
past_intact stack op state asked start len sectors sound ample intact =
    past_keeps stack (IsIntact stack) op state asked start len sectors sound (λ before one is so. due_intact stack before one sound ample is so) intact

request_intact : (stack : Description) (op : Op) (state : State) (asked start len : ℕ) → IsSound stack → IsAmple stack → IsIntact stack state → IsIntact stack (request_step stack op asked start len state).state
request_intact stack op state asked start len sound ample intact = rw (request_whole stack state op asked start len) (past_intact stack op state asked start len len sound ample intact)

halted_intact : (stack : Description) (op : Op) (state : State) (asked start len count : ℕ) → IsSound stack → IsAmple stack → IsIntact stack state → IsIntact stack (halted_state stack op asked start len count state)
halted_intact stack op state asked start len count sound ample intact = past_intact stack op state asked start len (sector_past (halted_units stack op asked start len count state) 0) sound ample intact

distinct_none : IsDistinct nat_eq []
unfolding IsDistinct
distinct_none = tt

pub start_intact : (stack : Description) → IsIntact stack (start_state stack)
start_intact stack = record {
  fits = start_fits stack;
  valid = λ device. ap (λ (t : Taken). t.valid) (none_at (length stack.devices) device);
  chunks = λ device snapshot over. rw (none_at (length stack.devices) device) (record { once = distinct_none; own = tt });
}

-- In an ample stack, each sector of a top device reads as its row says

record HasValue {V : Type 0} (given : Option V) : Type 0 where
  value : V
  is : given ≡ Some value

value_by : {V : Type 0} (zeros : V) (values : Values V) (unit : BlockUnit) → IsRead unit → (unit ≡ Fails → ⊥) → HasValue (value_read zeros values unit)
value_by zeros values unit (Sector disk sector is) never = record { value = values disk sector; is = rw is refl }
value_by zeros values unit (Nothing is) never = record { value = zeros; is = rw is refl }
value_by zeros values unit (Fault is) never = absurd (never is)

of_row : {V : Type 0} (row given : Option V) → HasValue given → Stays row given → (value : V) × (given ≡ Some value) × (row ≡ Some value)
of_row row given has (inl same) = (has.value, has.is, sym same ∙ has.is)
of_row row given has (inr none) = absurd (none-some has.value (sym none ∙ has.is))

pub exact : {V : Type 0} (zeros : V) (stack : Description) (state : State) (values : Values V) (rows : Rows V) → IsSound stack → IsAmple stack → AreOwn zeros stack state values rows → IsIntact stack state → AreExact zeros stack state values rows
exact zeros stack state values rows sound ample own intact = record {
  own = own;
  intact = intact;
  tops = λ top sector is_top inside.
      of_row (rows top sector) (content zeros stack state values (Device top) sector)
      (value_by zeros values (read stack state (Device top) sector) (is_read stack state MOST_DEPTH (Device top) sector) (never_fails stack state (Device top) sector sound ample intact inside))
      (own.tops top sector is_top);
}

pub start_exact : {V : Type 0} (zeros : V) (stack : Description) (values : Values V) → IsSound stack → IsAmple stack → AreExact zeros stack (start_state stack) values (first_rows zeros stack values)
start_exact zeros stack values sound ample = exact zeros stack (start_state stack) values (first_rows zeros stack values) sound ample (first_own zeros stack values) (start_intact stack)

pub request_exact : {V : Type 0} (zeros : V) (written : ℕ → V) (stack : Description) (op : Op) (state : State) (top start len : ℕ) (values : Values V) (rows : Rows V) → IsSound stack → IsAmple stack → IsTidy stack → IsTop stack top → AreExact zeros stack state values rows
    → AreExact zeros stack (request_step stack op top start len state).state (played zeros written start (request_step stack op top start len state).units values) (rows_played written top start (request_step stack op top start len state).units rows)
request_exact zeros written stack op state top start len values rows sound ample tidy is_top was =
    exact zeros stack (request_step stack op top start len state).state _ _ sound ample (request_own zeros written stack op state top start len values rows sound tidy is_top was.own) (request_intact stack op state top start len sound ample was.intact)

pub halted_exact : {V : Type 0} (zeros : V) (written : ℕ → V) (stack : Description) (op : Op) (state : State) (top start len count : ℕ) (values : Values V) (rows : Rows V) → IsSound stack → IsAmple stack → IsTidy stack → IsTop stack top → AreExact zeros stack state values rows
    → AreExact zeros stack (halted_state stack op top start len count state) (played zeros written start (halted_units stack op top start len count state) values) (rows_played written top start (halted_units stack op top start len count state) rows)
halted_exact zeros written stack op state top start len count values rows sound ample tidy is_top was =
    exact zeros stack (halted_state stack op top start len count state) _ _ sound ample (halted_own zeros written stack op state top start len count values rows sound tidy is_top was.own) (halted_intact stack op state top start len count sound ample was.intact)
