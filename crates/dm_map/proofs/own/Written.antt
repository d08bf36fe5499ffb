-- The write of a sector: it takes chunks and then has one more unit; what is read afterwards, and by which devices.
use Rattle.dm_map.proofs.Prelude.{inl, inr, ℕ, Bool, true, false, cond, List, [], Option, Some, None, length, refl, sym, ap, ◌∙◌, arith, AllByRecursion, append-nil, same_Some, ResolvedLine, ResolvedOrigin, ResolvedSnapshot, ResolvedTarget, Lower, Device, Disk, Below, Lies, IsZero, IsError, below, below_plain, found_at, has_state, IsTidy, Description, is_ro_at, lower_len, lower_depth, IsSound, answers, IsOfSnapshot, take_chunks, Due, due_over, IsFitting, write_line, write_step, write_target, by_below, read_below, IsOver, serve, served_step, store_sector, number_in, read_over, home_in_store, is_refused, read, take_chunk, unit_in_store, write_numbered, State, Taken, taken_at, Step, keep, and_then, origin_at, snapshot_at, BlockUnit, ReadOf, WriteOf, Drops, Fails, Node, node, Touches, all_append, MOST_DEPTH, Origin, Snapshot}
use Rattle.dm_map.proofs.own.UniqueSteps.{IsRoot, IsUnserved, only_by_origin, only_by_store, fits, goes_on_inside}
use Rattle.dm_map.proofs.state.ResolvedLines.{line_origin, line_snapshot, line_sound, origin_sound, snapshot_sound}
use Rattle.dm_map.proofs.own.HomeLemmas.{home_node, home_touched, node_is, touch_up}
use Rattle.dm_map.proofs.walk.ReadSteps.{read_step, line_step}
use Rattle.dm_map.proofs.walk.Spans.{below_is}
use Rattle.dm_map.proofs.own.ChunkOutcomes.{full_outcome, full_outcome_fits}
use Rattle.dm_map.proofs.state.Numbers.{same_sector}
use Rattle.dm_map.proofs.walk.OneLevel.{by_depth, next_depth, read_disk, read_down, write_down}
use Rattle.dm_map.proofs.walk.Overs.{overs}
use Rattle.dm_map.proofs.walk.Rows.{and_then_at, step_assoc}
use Rattle.dm_map.proofs.own.TakenInARow.{grown_same, ran}
use Rattle.dm_map.proofs.walk.Served.{over_there, serve_settled, settled_on}
use Rattle.dm_map.proofs.own.ServedRuns.{each_served, serve_takes, takes_append}
use Rattle.dm_map.proofs.walk.Settled.{write_keeps_settled}
use Rattle.dm_map.proofs.walk.Stores.{store_read}
use Rattle.dm_map.proofs.own.Takes.{snapshot_next}
use Rattle.dm_map.proofs.own.WayLemmas.{Here, Before, back}
use Rattle.std.specs.Prelude.{◌≡◌, ◌⊎◌, ◌-◌, ◌/◌, ◌<◌, ◌∷◌, ◌++◌}

pub record Written (stack : Description) (state : State) (lower : Lower) (sector : ℕ) (step : Step) : Type 0 where
  pub dues : List Due
  pub last : BlockUnit
  pub is : step ≡ and_then (take_chunks stack dues state) (λ after. keep (last ∷ []) after)
  pub each : AllByRecursion (IsOfSnapshot stack) dues
  pub answered : answers last ≡ true
  -- the written sector is then read from the disk sector that was written
  pub reads : (disk x : ℕ) → last ≡ WriteOf disk x → read stack step.state lower sector ≡ ReadOf disk x
  -- a root that isn't served reads that disk sector only by way of the written sector
  pub alone : (disk x : ℕ) (a : Node) → last ≡ WriteOf disk x → IsRoot stack a.lower → IsUnserved stack a.lower → Touches stack step.state a (node (Disk disk) x) → Touches stack step.state a (node lower sector)

Writes : Description → Lower → Type 0
Writes stack lower = (sector : ℕ) (state : State) → IsFitting stack state → Written stack state lower sector (write_step stack MOST_DEPTH lower state sector)

-- The last unit of a write may write nothing

no_write : (unit : BlockUnit) (disk x : ℕ) → (unit ≡ Fails) ⊎ (unit ≡ Drops) → unit ≡ WriteOf disk x → ⊥
no_write unit disk x (inl e) f = cc
  where
    differ : Fails ≡ WriteOf disk x → ⊥
    differ e = cc
no_write unit disk x (inr e) f = cc
  where
    differ : Drops ≡ WriteOf disk x → ⊥
    differ e = cc

written_none : (stack : Description) (state : State) (lower : Lower) (sector : ℕ) (step : Step) (unit : BlockUnit) → (unit ≡ Fails) ⊎ (unit ≡ Drops) → step ≡ keep (unit ∷ []) state → Written stack state lower sector step
unfolding take_chunks
written_none stack state lower sector step unit which is = record {
  dues = [];
  last = unit;
  is = is;
  each = tt;
  answered = elim which [ inl e ↦ ap answers e | inr e ↦ ap answers e ];
  reads = λ disk x e. absurd (no_write unit disk x which e);
  alone = λ disk x a e root unserved touches. absurd (no_write unit disk x which e);
}

-- Writes to a line without state, which continue below it

read_next : (stack : Description) (state : State) (device sector : ℕ) (to : Lower) (at : ℕ) → IsSound stack → read_below stack state device sector ≡ Lies to at → read stack state (Device device) sector ≡ read stack state to at
read_next stack state device sector to at sound e = cc (read_down stack state device sector sound)

step_state : (a b : Step) → a ≡ b → a.state ≡ b.state
step_state a b e = cc

line_written : (stack : Description) (state : State) (device sector : ℕ) (to : Lower) (at : ℕ) (step : Step) → IsSound stack → IsFitting stack state → IsTidy stack → ((held : ResolvedLine) → found_at stack device sector ≡ Some held → has_state held.target ≡ false) → ((over : ResolvedSnapshot → ℕ → Below) → below over stack device sector ≡ Lies to at)
    → Writes stack to → step ≡ write_step stack MOST_DEPTH to state at → Written stack state (Device device) sector step
unfolding Writes
line_written stack state device sector to at step sound fitting tidy has goes lower_writes step_is =
    let w : Written stack state to at step = rw step_is (lower_writes at state fitting) in
    let first = ran stack state state w.dues sound fitting fitting tidy (grown_same state) w.each in
    let fits_after : IsFitting stack step.state = rw (step_state step _ w.is) first.fits in
    record {
      dues = w.dues;
      last = w.last;
      is = w.is;
      each = w.each;
      answered = w.answered;
      reads = λ disk x e. read_next stack step.state device sector to at sound (goes (read_over (taken_at step.state device))) ∙ w.reads disk x e;
      alone = λ disk x a e root unserved touches.
          touch_up stack step.state a device sector to at sound fits_after tidy root.lines (line_step stack device sector to at has (goes (λ snapshot sector. IsError))) (w.alone disk x a e root unserved touches);
    }

-- The write to a snapshot itself

record IsStoredUnit (stack : Description) (snapshot : ResolvedSnapshot) (taken : Taken) (sector disk x : ℕ) : Type 0 where
  valid : taken.valid ≡ true
  number : ℕ
  is : number_in (sector / snapshot.chunk) taken.chunks ≡ Some number
  home : WriteOf (home_in_store stack snapshot number sector).disk (home_in_store stack snapshot number sector).sector ≡ WriteOf disk x

stored_unit : (stack : Description) (snapshot : ResolvedSnapshot) (taken : Taken) (sector disk x : ℕ) (valid : Bool) (number : Option ℕ) → taken.valid ≡ valid → number_in (sector / snapshot.chunk) taken.chunks ≡ number → cond valid (write_numbered stack snapshot number sector) Fails ≡ WriteOf disk x
    → IsStoredUnit stack snapshot taken sector disk x
stored_unit stack snapshot taken sector disk x true (Some i) v n e = record { valid = v; number = i; is = n; home = e }
stored_unit stack snapshot taken sector disk x valid number v n e = absurd (no_write Fails disk x (inl refl) e)

unit_answers : (stack : Description) (snapshot : ResolvedSnapshot) (sector : ℕ) (valid : Bool) (number : Option ℕ) → answers (cond valid (write_numbered stack snapshot number sector) Fails) ≡ true
unit_answers stack snapshot sector true None = refl
unit_answers stack snapshot sector valid number = refl

node_of_unit : (disk sector k x : ℕ) → WriteOf disk sector ≡ WriteOf k x → node (Disk disk) sector ≡ node (Disk k) x
node_of_unit disk sector k x e = cc

read_of_unit : (disk sector k x : ℕ) → WriteOf disk sector ≡ WriteOf k x → ReadOf disk sector ≡ ReadOf k x
read_of_unit disk sector k x e = cc

kept_next : (stack : Description) (state : State) (device sector number : ℕ) (line : ResolvedLine) (snapshot : ResolvedSnapshot) → IsSound stack → snapshot_at stack device ≡ Some snapshot → found_at stack device sector ≡ Some line → (taken_at state device).valid ≡ true
    → number_in (sector / snapshot.chunk) (taken_at state device).chunks ≡ Some number → read_below stack state device sector ≡ Lies snapshot.store (store_sector snapshot number sector)
kept_next stack state device sector number line snapshot sound over is valid n =
    snapshot_next stack state device sector snapshot line (taken_at state device) sound over is refl ∙ (rw (valid, n) refl)

-- only the snapshot's sector leads to the home of its taken chunk's sector
kept_alone : (stack : Description) (state : State) (device sector number : ℕ) (snapshot : ResolvedSnapshot) (a : Node) → IsSound stack → IsFitting stack state → IsTidy stack → snapshot_at stack device ≡ Some snapshot → number_in (sector / snapshot.chunk) (taken_at state device).chunks ≡ Some number → IsRoot stack a.lower
    → Touches stack state a (home_node (home_in_store stack snapshot number sector)) → Touches stack state a (node (Device device) sector)
kept_alone stack state device sector number snapshot a sound fitting tidy over n root touches =
    let soundly = (snapshot_sound stack device snapshot sound over).soundly in
    let inside = fits stack state device sector number snapshot sound fitting over n in
    let up = home_touched stack state a MOST_DEPTH snapshot.store (store_sector snapshot number sector) sound fitting tidy root.lines soundly.store inside touches in
    elim (back stack state a (node snapshot.store (store_sector snapshot number sector)) up) [
      | Here e ↦ absurd (root.stores.none device snapshot over cc)
      | Before c before leads ↦
          let kept = only_by_store stack state device leads.device c.sector (store_sector snapshot number sector) snapshot sound fitting tidy (goes_on_inside stack state leads.device c.sector snapshot.store (store_sector snapshot number sector) sound leads.below) over inside
          (read_step stack state leads.device c.sector snapshot.store (store_sector snapshot number sector) sound leads.below) in
          let same = same_sector snapshot (taken_at state device).chunks number kept.number sector c.sector soundly.chunk_some n kept.is kept.sector in
          rw (← node_is c leads.device device c.sector sector leads.on kept.same refl same) before
    ]

snapshot_written : (stack : Description) (state : State) (device sector : ℕ) (line : ResolvedLine) (snapshot : ResolvedSnapshot) (step : Step) → IsSound stack → IsFitting stack state → IsTidy stack → snapshot_at stack device ≡ Some snapshot → found_at stack device sector ≡ Some line
    → step ≡ and_then (take_chunk stack snapshot device (sector / snapshot.chunk) state) (λ after. keep (unit_in_store stack snapshot device after sector ∷ []) after) → Written stack state (Device device) sector step
unfolding take_chunks
snapshot_written stack state device sector line snapshot step sound fitting tidy over is step_is =
    let soundly = (snapshot_sound stack device snapshot sound over).soundly in
    let there : device < length state = let t = (line_sound stack device sector line sound is).there in let count = fitting.count in omega (arith, t, count) in
    let first = take_chunk stack snapshot device (sector / snapshot.chunk) state in
    let fits_after = full_outcome_fits stack state device (sector / snapshot.chunk) snapshot first fitting there (full_outcome stack state device (sector / snapshot.chunk) snapshot over there) in
    let last = unit_in_store stack snapshot device first.state sector in
    let state_is : step.state ≡ first.state = cc in
    let taken = taken_at first.state device in
    record {
      dues = record { device = device; chunk = sector / snapshot.chunk; snapshot = snapshot } ∷ [];
      last = last;
      is = cc (append-nil first.units);
      each = (over, tt);
      answered = unit_answers stack snapshot sector taken.valid (number_in (sector / snapshot.chunk) taken.chunks);
      reads = λ disk x e.
          let unit = stored_unit stack snapshot taken sector disk x taken.valid (number_in (sector / snapshot.chunk) taken.chunks) refl refl e in
          let inside = fits stack first.state device sector unit.number snapshot sound fits_after over unit.is in
          let home = home_in_store stack snapshot unit.number sector in
          rw state_is (read_next stack first.state device sector snapshot.store (store_sector snapshot unit.number sector) sound (kept_next stack first.state device sector unit.number line snapshot sound over is unit.valid unit.is) ∙ store_read stack first.state MOST_DEPTH snapshot.store (store_sector snapshot unit.number sector) sound soundly.store inside ∙ read_of_unit home.disk home.sector disk x unit.home);
      alone = λ disk x a e root unserved touches.
          let unit = stored_unit stack snapshot taken sector disk x taken.valid (number_in (sector / snapshot.chunk) taken.chunks) refl refl e in
          let home = home_in_store stack snapshot unit.number sector in
          rw state_is (kept_alone stack first.state device sector unit.number snapshot a sound fits_after tidy over unit.is root (rw (node_of_unit home.disk home.sector disk x unit.home, ← state_is) touches));
    }

-- a write to a chunk that is refused fails
chunk_by : (refused : Bool) (stack : Description) (state : State) (device sector : ℕ) (line : ResolvedLine) (snapshot : ResolvedSnapshot) (step : Step) → IsSound stack → IsFitting stack state → IsTidy stack → snapshot_at stack device ≡ Some snapshot → found_at stack device sector ≡ Some line
    → step ≡ cond refused (keep (Fails ∷ []) state) (and_then (take_chunk stack snapshot device (sector / snapshot.chunk) state) (λ after. keep (unit_in_store stack snapshot device after sector ∷ []) after)) → Written stack state (Device device) sector step
chunk_by true stack state device sector line snapshot step sound fitting tidy over is step_is = written_none stack state (Device device) sector step Fails (inl refl) step_is
chunk_by false stack state device sector line snapshot step sound fitting tidy over is step_is = snapshot_written stack state device sector line snapshot step sound fitting tidy over is step_is

-- Writes to an origin's device: its snapshots are served, and then the origin is written

origin_written : (stack : Description) (state : State) (device sector : ℕ) (line : ResolvedLine) (origin : ResolvedOrigin) (step : Step) → IsSound stack → IsFitting stack state → IsTidy stack → origin_at stack device ≡ Some origin → found_at stack device sector ≡ Some line
    → ((after : State) → read_below stack after device sector ≡ Lies origin.to sector) → Writes stack origin.to → step ≡ served_step stack origin.over (λ after at. write_step stack MOST_DEPTH origin.to after at) state sector → Written stack state (Device device) sector step
unfolding Writes
origin_written stack state device sector line origin step sound fitting tidy served is goes lower_writes step_is =
    let soundly = (origin_sound stack device origin sound served).soundly in
    let len = lower_len stack origin.to in
    let below : sector < len = let inside = (line_sound stack device sector line sound is).inside in let same = soundly.same in omega (arith, inside, same) in
    let members : AllByRecursion (IsOver stack len) origin.over = rw soundly.over (overs stack origin.to len sound (omega arith)) in
    let es = due_over origin.over sector in
    let each = each_served stack len sector origin.over members in
    let first = serve stack origin.over sector state in
    let first_is : first ≡ take_chunks stack es state = serve_takes stack origin.over sector state in
    let fits : IsFitting stack first.state = rw first_is (ran stack state state es sound fitting fitting tidy (grown_same state) each).fits in
    let after = write_step stack MOST_DEPTH origin.to first.state sector in
    let w : Written stack first.state origin.to sector after = lower_writes sector first.state fits in
    let last_step : State → Step = λ x. keep (w.last ∷ []) x in
    let settled = settled_on first.state after.state origin.over sector (write_keeps_settled stack MOST_DEPTH origin.to first.state sector) (serve_settled stack origin.over sector state (over_there stack state len origin.over fitting.count (omega (arith, below)) members)) in
    let state_is : step.state ≡ after.state = cc in
    record {
      dues = es ++ w.dues;
      last = w.last;
      is = cc (and_then_at first (λ x. write_step stack MOST_DEPTH origin.to x sector) (λ x. and_then (take_chunks stack w.dues x) last_step) w.is, step_assoc first (λ x. take_chunks stack w.dues x) last_step, takes_append stack es w.dues state);
      each = all_append (IsOfSnapshot stack) es w.dues each w.each;
      answered = w.answered;
      reads = λ disk x e. cc (read_next stack step.state device sector origin.to sector sound (goes step.state), w.reads disk x e);
      alone = λ disk x a e root unserved touches.
          let up = w.alone disk x a e root unserved (rw state_is at touches) in
          rw state_is (elim (back stack after.state a (node origin.to sector) up) [
            | Here here ↦ absurd (unserved.none device origin served cc)
            | Before c before leads ↦
                let at = only_by_origin stack after.state device leads.device c.sector sector origin sound tidy served below settled (read_step stack after.state leads.device c.sector origin.to sector sound leads.below) in
                rw (← node_is c leads.device device c.sector sector leads.on at.device refl at.sector) before
          ]);
    }

-- The write of any sector

held_is : (stack : Description) (device sector : ℕ) (line held : ResolvedLine) → found_at stack device sector ≡ Some line → has_state line.target ≡ false → found_at stack device sector ≡ Some held → has_state held.target ≡ false
held_is stack device sector line held is plain held_at = rw (← same_Some line held (sym is ∙ held_at)) plain

plain_written : (stack : Description) (state : State) (device sector : ℕ) (line : ResolvedLine) (b : Below) (step : Step) → IsSound stack → IsFitting stack state → IsTidy stack → found_at stack device sector ≡ Some line → has_state line.target ≡ false
    → below_plain line.target (sector - line.start) ≡ b → ((to : Lower) → lower_depth stack to < lower_depth stack (Device device) → Writes stack to)
    → step ≡ by_below b (keep (Drops ∷ []) state) (keep (Fails ∷ []) state) (λ to at. write_step stack MOST_DEPTH to state at) → Written stack state (Device device) sector step
plain_written stack state device sector line (Lies to at) step sound fitting tidy is plain b_is each step_is =
    let goes : (over : ResolvedSnapshot → ℕ → Below) → below over stack device sector ≡ Lies to at =
    λ over. cc (below_is over line.target (sector - line.start) plain) in
    line_written stack state device sector to at step sound fitting tidy (λ held held_at. held_is stack device sector line held is plain held_at) goes (each to (next_depth stack state device sector to at sound (goes (read_over (taken_at state device))))) step_is
plain_written stack state device sector line IsZero step sound fitting tidy is plain b_is each step_is = written_none stack state (Device device) sector step Drops (inr refl) step_is
plain_written stack state device sector line IsError step sound fitting tidy is plain b_is each step_is = written_none stack state (Device device) sector step Fails (inl refl) step_is

target_written : (stack : Description) (state : State) (device sector : ℕ) (line : ResolvedLine) (target : ResolvedTarget) (step : Step) → IsSound stack → IsFitting stack state → IsTidy stack → found_at stack device sector ≡ Some line → line.target ≡ target
    → ((to : Lower) → lower_depth stack to < lower_depth stack (Device device) → Writes stack to) → step ≡ write_target stack state device target (sector - line.start) (λ to after at. write_step stack MOST_DEPTH to after at) → Written stack state (Device device) sector step
target_written stack state device sector line (Snapshot snapshot) step sound fitting tidy is target each step_is =
    let over = line_snapshot stack device sector line snapshot sound is target in
    let first = over.0 in
    let same : sector - line.start ≡ sector = omega (arith, first) in
    chunk_by (is_refused stack snapshot (taken_at state device) (sector / snapshot.chunk)) stack state device sector line snapshot step sound fitting tidy over.1 is cc
target_written stack state device sector line (Origin origin) step sound fitting tidy is target each step_is =
    let over = line_origin stack device sector line origin sound is target in
    let first = over.0 in
    let same : sector - line.start ≡ sector = omega (arith, first) in
    let goes : (after : State) → read_below stack after device sector ≡ Lies origin.to sector = λ after. rw (is, target, same) refl in
    origin_written stack state device sector line origin step sound fitting tidy over.1 is goes (each origin.to (next_depth stack state device sector origin.to sector sound (goes state)))
    (cc)
target_written stack state device sector line target step sound fitting tidy is t each step_is =
    plain_written stack state device sector line (below_plain target (sector - line.start)) step sound fitting tidy is (ap has_state t) (cc) each step_is

found_written : (stack : Description) (state : State) (device sector : ℕ) (line : Option ResolvedLine) (step : Step) → IsSound stack → IsFitting stack state → IsTidy stack → found_at stack device sector ≡ line
    → ((to : Lower) → lower_depth stack to < lower_depth stack (Device device) → Writes stack to) → step ≡ write_line stack state device line sector (λ to after at. write_step stack MOST_DEPTH to after at) → Written stack state (Device device) sector step
found_written stack state device sector None step sound fitting tidy is each step_is = written_none stack state (Device device) sector step Fails (inl refl) step_is
found_written stack state device sector (Some line) step sound fitting tidy is each step_is = target_written stack state device sector line line.target step sound fitting tidy is refl each step_is

device_written : (stack : Description) (state : State) (device sector : ℕ) (ro : Bool) (step : Step) → IsSound stack → IsFitting stack state → IsTidy stack → ((to : Lower) → lower_depth stack to < lower_depth stack (Device device) → Writes stack to)
    → step ≡ cond ro (keep (Fails ∷ []) state) (write_line stack state device (found_at stack device sector) sector (λ to after at. write_step stack MOST_DEPTH to after at)) → Written stack state (Device device) sector step
device_written stack state device sector true step sound fitting tidy each step_is = written_none stack state (Device device) sector step Fails (inl refl) step_is
device_written stack state device sector false step sound fitting tidy each step_is = found_written stack state device sector (found_at stack device sector) step sound fitting tidy refl each step_is

write_disk : (stack : Description) (disk sector : ℕ) (state : State) → write_step stack MOST_DEPTH (Disk disk) state sector ≡ keep (WriteOf disk sector ∷ []) state
unfolding write_step
write_disk stack disk sector state = refl

writes_step : (stack : Description) → IsSound stack → IsTidy stack → (lower : Lower) → ((other : Lower) → lower_depth stack other < lower_depth stack lower → Writes stack other) → Writes stack lower
unfolding take_chunks Writes
writes_step stack sound tidy (Disk disk) each sector state fitting = record {
  dues = [];
  last = WriteOf disk sector;
  is = write_disk stack disk sector state;
  each = tt;
  answered = refl;
  reads = λ k x e. read_disk stack (write_step stack MOST_DEPTH (Disk disk) state sector).state disk sector ∙ read_of_unit disk sector k x e;
  alone = λ k x a e root unserved touches. rw (node_of_unit disk sector k x e) touches;
}
writes_step stack sound tidy (Device device) each sector state fitting =
    device_written stack state device sector (is_ro_at stack device) (write_step stack MOST_DEPTH (Device device) state sector) sound fitting tidy each (write_down stack device sector state sound)

pub written : (stack : Description) (lower : Lower) (sector : ℕ) (state : State) → IsSound stack → IsTidy stack → IsFitting stack state → Written stack state lower sector (write_step stack MOST_DEPTH lower state sector)
unfolding Writes
written stack lower sector state sound tidy fitting = by_depth stack (Writes stack) (λ low each. writes_step stack sound tidy low each) lower sector state fitting
