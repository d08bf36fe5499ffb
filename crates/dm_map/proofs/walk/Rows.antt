-- The steps of consecutive sectors, and which of their units a sink received or failed at.
use Rattle.dm_map.proofs.Prelude.{ℕ, zero, suc, List, [], append_assoc, refl, sym, ap, ◌∙◌, arith, append-nil, IsErr, nat_lt, true, replicate, Result, Ok, Err, on_err_weaker, on_ok_weaker, Op, on_ok, Description, device_len, AreAdded, Counts, BlockUnit, Fails, next_unit, units_in, IsHanded, IsLawful, OfBeginning, SinkPast, State, Step, keep, and_then, steps, request_step, WalkerView, IsWalked}
use Rattle.std.specs.Prelude.{◌≡◌, ◌+◌, ◌<◌, ◌∷◌, ◌++◌, ◌≤◌}

-- Counts that only grow by searches

pub none_added : (counts : Counts) → AreAdded counts counts
none_added counts = record { searches = omega arith; comparisons = omega arith; few = omega arith }

pub added_then : (first second third : Counts) → AreAdded first second → AreAdded second third → AreAdded first third
added_then first second third one two = record {
  searches = omega (arith, one.searches, two.searches);
  comparisons = omega (arith, one.comparisons, two.comparisons);
  few = omega (arith, one.searches, two.searches, one.few, two.few);
}

-- a walk by one step is a walk by an equal step
pub walked_as : {S R F : Type 0} {past : SinkPast S} {result : Result R F} {old new : S} {before after : WalkerView} {step other : Step} {len : ℕ} → step ≡ other
    → IsWalked past result old new before after step len → IsWalked past result old new before after other len
walked_as {past} {result} {old} {new} {before} {after} {len} same walked = rw same at walked

-- a walk that uses the sink's room for few sectors is one that uses it for len, if that is at least as many
pub walked_within : {S R F : Type 0} {past : SinkPast S} {result : Result R F} {old new : S} {before after : WalkerView} {step : Step} {few len : ℕ} → few ≤ len
    → IsWalked past result old new before after step few → IsWalked past result old new before after step len
walked_within {past} {result} {old} {new} {few} {len} within walked = record {
  took = walked.took;
  state = walked.state;
  kept = walked.kept;
  room = on_ok_weaker result (λ low. omega (arith, low, within)) walked.room;
  left = walked.left;
  faults = walked.faults;
  stack = walked.stack;
  looked = walked.looked;
}

-- handing over one piece is a walk
pub walked_piece : {S R F : Type 0} {past : SinkPast S} {result : Result R F} {old new : S} {walk : WalkerView} {units : List BlockUnit} {step : Step} {diskless len : ℕ}
    → keep units walk.state ≡ step → diskless ≤ len → IsHanded past result old new units diskless → IsWalked past result old new walk walk step len
walked_piece {past} {result} {old} {new} {walk} {units} {diskless} {len} same few piece =
    walked_as same (record {
      took = piece.took;
      state = on_ok result (walk.state ≡ walk.state) refl;
      kept = piece.stack;
      room = on_ok_weaker result (λ low. omega (arith, low, few)) piece.room;
      left = on_err_weaker result (λ failed. record { front = units; rest = []; whole = append-nil units; holds = failed }) piece.left;
      faults = piece.faults;
      stack = refl;
      looked = none_added walk.looked;
    })

-- a walk at which the sink failed
pub walked_cut : {S R F : Type 0} (past : SinkPast S) (result : Result R F) (old new : S) (before after : WalkerView) (step : Step) (len : ℕ)
    → IsErr result → OfBeginning past.left old step.units new → (past.view new).faults ≡ (past.view old).faults + 1 → after.stack ≡ before.stack → AreAdded before.looked after.looked → IsWalked past result old new before after step len
walked_cut past (Ok done) old new before after step len is_err cut one same looked = absurd cc
walked_cut past (Err fault) old new before after step len is_err cut one same looked = record { took = tt; state = tt; kept = tt; room = tt; left = cut; faults = one; stack = same; looked = looked }

-- a walk that follows one whose units were all received
pub walked_then : {S R F G : Type 0} {past : SinkPast S} {result : Result (Unit {0}) F} {fine : R} {old middle new : S} {before between after : WalkerView} {first second : Step} {m n : ℕ} → IsLawful past → (next : State → Step) → next first.state ≡ second → m ≤ n
    → IsWalked {F = G} past (Ok fine) old middle before between first 0 → IsWalked past result middle new between after second m → IsWalked past result old new before after (and_then first next) n
walked_then {result = Ok done} {old} {middle} {new} {before} {between} {after} {first} {second} lawful next same few one walk =
    rw same (record {
      took = lawful.took old middle new first.units second.units one.took walk.took;
      state = walk.state;
      kept = walk.kept ∙ one.kept;
      room = omega (arith, one.room, walk.room, few);
      left = tt;
      faults = omega (arith, walk.faults, one.faults);
      stack = walk.stack ∙ one.stack;
      looked = added_then before.looked between.looked after.looked one.looked walk.looked;
    })
walked_then {result = Err fault} {old} {middle} {new} {before} {between} {after} {first} lawful next same few one walk =
    rw same (record {
      took = tt;
      state = tt;
      kept = tt;
      room = tt;
      left = record {
        front = first.units ++ walk.left.front;
        rest = walk.left.rest;
        whole = cc (append_assoc first.units walk.left.front walk.left.rest);
        holds = lawful.left old middle new first.units walk.left.front one.took walk.left.holds;
      };
      faults = omega (arith, walk.faults, one.faults);
      stack = walk.stack ∙ one.stack;
      looked = added_then before.looked between.looked after.looked one.looked walk.looked;
    })

-- a prefix of some units is a prefix of more units
pub left_more : {S : Type 0} (left : S → List BlockUnit → S → Type 0) (old new : S) (units more all : List BlockUnit) → units ++ more ≡ all → OfBeginning left old units new → OfBeginning left old all new
left_more left old new units more all whole cut = record {
  front = cut.front;
  rest = cut.rest ++ more;
  whole = cc (append_assoc cut.front cut.rest more);
  holds = cut.holds;
}

-- the units of an error piece are errors
pub units_in_fails : (len : ℕ) → units_in Fails len ≡ replicate len Fails
units_in_fails zero = refl
units_in_fails (suc len) = cc (units_in_fails len)

-- the step of a request that passes its device's end
pub step_past_end : (stack : Description) (op : Op) (device start len : ℕ) (state : State) → nat_lt (device_len stack device) (start + len) ≡ true → keep (units_in Fails len) state ≡ request_step stack op device start len state
step_past_end stack op device start len state past = rw past (cc (units_in_fails len))

-- one step after another, when the later one is replaced by an equal one
pub and_then_at : (step : Step) (f h : State → Step) → f step.state ≡ h step.state → and_then step f ≡ and_then step h
and_then_at step f h same = cc

pub step_assoc : (step : Step) (f h : State → Step) → and_then (and_then step f) h ≡ and_then step (λ state. and_then (f state) h)
step_assoc step f h = cc (append_assoc step.units (f step.state).units (h (f step.state).state).units)

-- the steps of consecutive sectors in two parts
pub steps-append : (step : State → ℕ → Step) (state : State) (sector m n : ℕ) → steps step state sector (m + n) ≡ and_then (steps step state sector m) (λ after. steps step after (sector + m) n)
steps-append step state sector zero n = let e : 0 + n ≡ n = omega arith in let k : sector + 0 ≡ sector = omega arith in rw (e, k) refl
steps-append step state sector (suc m) n =
    let e : suc m + n ≡ suc (m + n) = omega arith in let k : sector + suc m ≡ suc sector + m = omega arith in
    rw (e, k) (and_then_at (step state sector) (λ after. steps step after (suc sector) (m + n)) (λ after. and_then (steps step after (suc sector) m) (λ later. steps step later (suc sector + m) n)) (steps-append step (step state sector).state (suc sector) m n)
    ∙ sym (step_assoc (step state sector) (λ after. steps step after (suc sector) m) (λ later. steps step later (suc sector + m) n)))

-- equal steps from every state give equal steps of consecutive sectors
pub steps_same : (step other : State → ℕ → Step) (state : State) (s t n : ℕ) → ((after : State) (i : ℕ) → i < n → step after (s + i) ≡ other after (t + i)) → steps step state s n ≡ steps other state t n
steps_same step other state s t zero each = refl
steps_same step other state s t (suc n) each =
    let here : step state s ≡ other state t = ap (step state) (let e : s ≡ s + 0 = omega arith in e) ∙ each state 0 (omega arith) ∙ ap (other state) (let e : t + 0 ≡ t = omega arith in e) in
    cc (and_then_at (other state t) (λ after. steps step after (suc s) n) (λ after. steps other after (suc t) n) (steps_same step other (other state t).state (suc s) (suc t) n (λ after i within. ap (step after) (let e : suc s + i ≡ s + suc i = omega arith in e) ∙ each after (suc i) (omega (arith, within)) ∙ ap (other after) (let e : t + suc i ≡ suc t + i = omega arith in e))))

-- steps that are equal in one state, and leave it, give equal steps of consecutive sectors
pub steps_read : (step other : State → ℕ → Step) (state : State) (s t n : ℕ) → ((i : ℕ) → i < n → step state (s + i) ≡ other state (t + i)) → ((i : ℕ) → i < n → (other state (t + i)).state ≡ state) → steps step state s n ≡ steps other state t n
steps_read step other state s t zero each kept = refl
steps_read step other state s t (suc n) each kept =
    let here : step state s ≡ other state t = ap (step state) (let e : s ≡ s + 0 = omega arith in e) ∙ each 0 (omega arith) ∙ ap (other state) (let e : t + 0 ≡ t = omega arith in e) in
    let same : (other state t).state ≡ state = rw (let e : t ≡ t + 0 = omega arith in e) (kept 0 (omega arith)) in
    let later : steps step state (suc s) n ≡ steps other state (suc t) n = steps_read step other state (suc s) (suc t) n
    (λ i within. ap (step state) (let e : suc s + i ≡ s + suc i = omega arith in e) ∙ each (suc i) (omega (arith, within)) ∙ ap (other state) (let e : t + suc i ≡ suc t + i = omega arith in e))
    (λ i within. rw (let e : suc t + i ≡ t + suc i = omega arith in e) (kept (suc i) (omega (arith, within)))) in
    cc (and_then_at (other state t) (λ after. steps step after (suc s) n) (λ after. steps other after (suc t) n) (rw same later))

-- steps of consecutive sectors with the same unit, which change nothing
pub steps_still : (step : State → ℕ → Step) (state : State) (sector n : ℕ) (unit : BlockUnit) → next_unit unit ≡ unit → ((i : ℕ) → i < n → step state (sector + i) ≡ keep (unit ∷ []) state) → steps step state sector n ≡ keep (units_in unit n) state
steps_still step state sector zero unit still each = refl
steps_still step state sector (suc n) unit still each =
    let here : step state sector ≡ keep (unit ∷ []) state = ap (step state) (let e : sector ≡ sector + 0 = omega arith in e) ∙ each 0 (omega arith) in
    let later : (i : ℕ) → i < n → step state (suc sector + i) ≡ keep (unit ∷ []) state = λ i within.
    ap (step state) (let e : suc sector + i ≡ sector + suc i = omega arith in e) ∙ each (suc i) (omega (arith, within)) in
    cc (steps_still step state (suc sector) n unit still later)
