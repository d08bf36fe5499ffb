-- Walks of consecutive sectors, part by part.
use Rattle.dm_map.proofs.Prelude.{ℕ, zero, suc, false, List, [], append_assoc, refl, sym, ap, subst, ◌∙◌, arith, IsErr, Result, Ok, Err, Op, Read, ResolvedTarget, Lower, Description, IsSound, AreAdded, IsHanded, IsLawful, OfBeginning, SinkPast, State, IsMapped, Mapping, range_mapping, target_mapping, is_same_path, stretches, Step, keep, steps, BlockUnit, StackState, WalkerView, stack_state, IsWalked}
use Rattle.dm_map.proofs.walk.Paths.{searches_more, searches_on}
use Rattle.dm_map.proofs.walk.Rows.{added_then, none_added, steps-append, walked_as, walked_piece}
use Rattle.std.specs.Prelude.{◌≡◌, ◌+◌, ◌-◌, ◌*◌, ◌<◌, ◌≤◌, ◌++◌}

-- the result of a walk so far, at which the sink hasn't failed
abbrev pub going_on : Result (Unit {0}) (Unit {0})
going_on = Ok tt

-- a walk before its first part
pub walked_none : {S : Type 0} {past : SinkPast S} {sink : S} {walk : WalkerView} → IsLawful past → IsWalked past going_on sink sink walk walk (keep [] walk.state) 0
walked_none {sink} {walk} lawful = record { took = lawful.nothing sink; state = refl; kept = refl; room = omega arith; left = tt; faults = omega arith; stack = refl; looked = none_added walk.looked }

-- the sink received the first part, and then the next one
took_on : {S : Type 0} (past : SinkPast S) → IsLawful past → (a b c : S) (step : State → ℕ → Step) (state after : State) (sector m n : ℕ) → after ≡ (steps step state sector m).state → past.took a (steps step state sector m).units b → past.took b (steps step after (sector + m) n).units c
    → past.took a (steps step state sector (m + n)).units c
took_on past lawful a b c step state after sector m n is first second =
    rw (steps-append step state sector m n) (lawful.took a b c _ _ first (rw is at second))

-- the state after both parts
state_on : (step : State → ℕ → Step) (state after last : State) (sector m n : ℕ) → after ≡ (steps step state sector m).state → last ≡ (steps step after (sector + m) n).state → last ≡ (steps step state sector (m + n)).state
state_on step state after last sector m n is second =
    cc (steps-append step state sector m n)

-- the sink failed during the next part
left_on : {S : Type 0} (past : SinkPast S) → IsLawful past → (a b c : S) (step : State → ℕ → Step) (state after : State) (sector m n len : ℕ) → m + n ≤ len → after ≡ (steps step state sector m).state → past.took a (steps step state sector m).units b
    → OfBeginning past.left b (steps step after (sector + m) n).units c → OfBeginning past.left a (steps step state sector len).units c
left_on past lawful a b c step state after sector m n len within is first second =
    let cut = rw is at second in
    let front = (steps step state sector m).units in let middle = (steps step (steps step state sector m).state (sector + m) n).units in
    let tail = (steps step (steps step state sector (m + n)).state (sector + (m + n)) (len - (m + n))).units in
    record {
      front = front ++ cut.front;
      rest = cut.rest ++ tail;
      whole = append_assoc front cut.front (cut.rest ++ tail) ∙ rw (← append_assoc cut.front cut.rest tail, cut.whole) (sym (append_assoc front middle tail) ∙ ap (λ (row : Step). row.units ++ tail) (sym (steps-append step state sector m n)) ∙ ap (λ (row : Step). row.units) (sym (steps-append step state sector (m + n) (len - (m + n)))) ∙ rw (let e : m + n + (len - (m + n)) ≡ len = omega arith in e));
      holds = lawful.left a b c _ _ first cut.holds;
    }

-- Reads leave the state as it is

steps_kept : (step : State → ℕ → Step) (state : State) (sector n : ℕ) → ((after : State) (i : ℕ) → (step after i).state ≡ after) → (steps step state sector n).state ≡ state
steps_kept step state sector zero each = refl
steps_kept step state sector (suc n) each = steps_kept step (step state sector).state (suc sector) n each ∙ each state sector

abbrev pub Keeps : Mapping → Type 0
Keeps mapping = mapping.op ≡ Read → (stack : Description) (state : State) (sector : ℕ) → (mapping.step stack state sector).state ≡ state

pub range_keeps : (op : Op) (levels : ℕ) (lower : Lower) → Keeps (range_mapping op levels lower)
range_keeps op levels lower is stack state sector = rw is refl

pub target_keeps : (op : Op) (levels device start : ℕ) (target : ResolvedTarget) → Keeps (target_mapping op levels device start target)
target_keeps op levels device start target is stack state distance = rw is refl

-- Sectors that are mapped part by part

-- the sector has another path than the one before it
abbrev pub Turns : Mapping → WalkerView → (at : ℕ) → Type 0
Turns mapping walk at = is_same_path (mapping.path walk.stack walk.state (at - 1)) (mapping.path walk.stack walk.state at) ≡ false

-- of len sectors from the first one on, rest are left, from this one on, and those before were mapped
pub record IsMappedTo {S : Type 0} (past : SinkPast S) (old new : S) (before after : WalkerView) (mapping : Mapping) (first len at rest : ℕ) : Type 0 where
  pub mapped : IsMapped past going_on old new before after mapping first (len - rest)
  pub within : rest ≤ len
  pub position : at + rest ≡ first + len
  pub turns : mapping.op ≡ Read → 0 < len - rest → 0 < rest → Turns mapping before at

-- before any sector is mapped
pub mapped_none : {S : Type 0} {past : SinkPast S} {sink : S} {walk : WalkerView} {mapping : Mapping} {first len : ℕ} → IsLawful past → mapping.found ≡ 0 → IsMappedTo past sink sink walk walk mapping first len first len
mapped_none {past} {sink} {walk} {mapping} {first} {len} lawful none =
    let nothing : IsMapped past going_on sink sink walk walk mapping first 0 = record { walked = walked_none lawful; bounded = λ is sound. omega (arith, none) } in
    record {
      mapped = rw (let e : 0 ≡ len - len = omega arith in e) at nothing;
      within = omega arith;
      position = refl;
      turns = λ is some more. absurd (omega (arith, some));
    }

-- mapping with one piece that touches no disk
pub mapped_handed : {S F : Type 0} {past : SinkPast S} {result : Result (Unit {0}) F} {old new : S} {walk : WalkerView} {units : List BlockUnit} {first len : ℕ} (mapping : Mapping) → mapping.found ≡ 0
    → keep units walk.state ≡ steps (mapping.step walk.stack) walk.state first len → IsHanded past result old new units len → IsMapped past result old new walk walk mapping first len
mapped_handed {walk} mapping none same p = record { walked = walked_piece same (omega arith) p; bounded = λ is sound. omega (arith, none) }

-- the step of the next sectors
next_step : {S : Type 0} {past : SinkPast S} {old middle : S} {before between : WalkerView} {mapping : Mapping} {first len at rest : ℕ} (n : ℕ) → IsMappedTo past old middle before between mapping first len at rest
    → steps (mapping.step between.stack) between.state at n ≡ steps (mapping.step before.stack) between.state (first + (len - rest)) n
next_step {before} {between} {mapping} {first} {len} {at} {rest} n one =
    cc (let e : at ≡ first + (len - rest) = omega (arith, one.position, one.within) in e)

-- reads so far changed nothing
pub mapped_still : {S : Type 0} {past : SinkPast S} {old middle : S} {before between : WalkerView} {mapping : Mapping} {first len at rest : ℕ} → Keeps mapping → IsMappedTo past old middle before between mapping first len at rest
    → mapping.op ≡ Read → stack_state between ≡ stack_state before
mapped_still {before} {between} {mapping} {first} {len} {at} {rest} keeps one is =
    let walked = one.mapped.walked in
    let state : between.state ≡ before.state = walked.state ∙ steps_kept (mapping.step before.stack) before.state first (len - rest) (keeps is before.stack) in
    ap (λ (s : Description). record { stack = s; state = between.state }) walked.stack ∙ ap (λ (s : State). record { stack = before.stack; state = s }) state

-- the searches of the sectors so far and of the next ones
searches_next : {S F : Type 0} {past : SinkPast S} {result : Result (Unit {0}) F} {old middle new : S} {before between after : WalkerView} {mapping : Mapping} {found first len at rest n : ℕ}
    → Keeps mapping → 1 ≤ n → n ≤ rest → IsMappedTo past old middle before between mapping first len at rest → IsMapped past result middle new between after (record mapping { found = found }) at n
    → mapping.op ≡ Read → IsSound before.stack → after.looked.searches + found ≤ before.looked.searches + mapping.depth before.stack * stretches (mapping.path before.stack before.state) first (len - rest + n)
searches_next {before} {between} {after} {mapping} {found} {first} {len} {at} {rest} {n} keeps some few one two is sound =
    let done = len - rest in let depth = mapping.depth before.stack in let paths = mapping.path before.stack before.state in let walked = one.mapped.walked in
    let position : at ≡ first + done = omega (arith, one.position, one.within) in
    let same = mapped_still keeps one is in
    let more : after.looked.searches + found ≤ between.looked.searches + depth * stretches paths at n =
    subst (λ (v : StackState). after.looked.searches + found ≤ between.looked.searches + mapping.depth v.stack * stretches (mapping.path v.stack v.state) at n) same (two.bounded is (subst IsSound (sym walked.stack) sound)) in
    let so_far = one.mapped.bounded is sound in
    searches_on paths depth first done n before.looked.searches between.looked.searches (after.looked.searches + found)
    (λ later. rw position at (one.turns is later (omega (arith, some, few)))) some (omega (arith, so_far))
    (rw position at more)

-- the next sectors are mapped, too
pub mapped_on : {S F : Type 0} {past : SinkPast S} {fine : Unit {0}} {old middle new : S} {before between after : WalkerView} {mapping : Mapping} {found first len at rest n : ℕ}
    → IsLawful past → Keeps mapping → IsMappedTo past old middle before between mapping first len at rest → IsMapped {F = F} past (Ok fine) middle new between after (record mapping { found = found }) at n → 1 ≤ n → n ≤ rest → (mapping.op ≡ Read → n < rest → Turns mapping before (at + n))
    → IsMappedTo past old new before after (record mapping { found = found }) first len (at + n) (rest - n)
mapped_on {past} {old} {middle} {new} {before} {between} {after} {mapping} {found} {first} {len} {at} {rest} {n} lawful keeps one two some few turns =
    let done = len - rest in let step = mapping.step before.stack in let first_walk = one.mapped.walked in let walk = walked_as (next_step n one) two.walked in
    let on : IsMapped past going_on old new before after (record mapping { found = found }) first (done + n) = record {
      walked = record {
        took = took_on past lawful old middle new step before.state between.state first done n first_walk.state first_walk.took walk.took;
        state = state_on step before.state between.state after.state first done n first_walk.state walk.state;
        kept = walk.kept ∙ first_walk.kept;
        room = omega (arith, first_walk.room, walk.room);
        left = tt;
        faults = omega (arith, first_walk.faults, walk.faults);
        stack = walk.stack ∙ first_walk.stack;
        looked = added_then before.looked between.looked after.looked first_walk.looked walk.looked;
      };
      bounded = searches_next keeps some few one two;
    } in
    record {
      mapped = rw (let e : done + n ≡ len - (rest - n) = omega (arith, few, one.within) in e) at on;
      within = omega (arith, one.within);
      position = omega (arith, one.position, few);
      turns = λ is later more. turns is (omega (arith, more));
    }

-- all sectors are mapped
pub mapped_whole : {S F : Type 0} {past : SinkPast S} {fine : Unit {0}} {old new : S} {before after : WalkerView} {mapping : Mapping} {first len at rest : ℕ} → IsMappedTo past old new before after mapping first len at rest → rest ≤ 0
    → IsMapped {F = F} past (Ok fine) old new before after mapping first len
mapped_whole {F} {past} {fine} {old} {new} {before} {after} {mapping} {first} {len} {rest} one none =
    let walk = one.mapped.walked in
    rw (← (let e : len - rest ≡ len = omega (arith, none) in e)) (record {
      walked = record {
        took = walk.took;
        state = walk.state;
        kept = walk.kept;
        room = walk.room;
        left = tt;
        faults = walk.faults;
        stack = walk.stack;
        looked = walk.looked;
      };
      bounded = one.mapped.bounded;
    })

-- the sink failed during the next sectors
pub mapped_cut : {S F : Type 0} {past : SinkPast S} {fault : F} {result : Result (Unit {0}) F} {old middle new : S} {before between after : WalkerView} {mapping : Mapping} {found first len at rest n : ℕ}
    → IsLawful past → Keeps mapping → IsErr result → IsMappedTo past old middle before between mapping first len at rest → IsMapped {R = Unit {0}} past (Err fault) middle new between after (record mapping { found = found }) at n → 1 ≤ n → n ≤ rest → IsMapped past result old new before after (record mapping { found = found }) first len
mapped_cut {result = Ok done} lawful keeps is_err one two some few = absurd cc
mapped_cut {past} {result = Err cause} {old} {middle} {new} {before} {between} {after} {mapping} {found} {first} {len} {at} {rest} {n} lawful keeps is_err one two some few =
    let done = len - rest in let first_walk = one.mapped.walked in let walk = walked_as (next_step n one) two.walked in
    record {
      walked = record {
        took = tt;
        state = tt;
        kept = tt;
        room = tt;
        left = left_on past lawful old middle new (mapping.step before.stack) before.state between.state first done n len (omega (arith, few, one.within)) first_walk.state first_walk.took walk.left;
        faults = omega (arith, first_walk.faults, walk.faults);
        stack = walk.stack ∙ first_walk.stack;
        looked = added_then before.looked between.looked after.looked first_walk.looked walk.looked;
      };
      bounded = λ is sound. searches_more (mapping.path before.stack before.state) (mapping.depth before.stack) first (done + n) len before.looked.searches (after.looked.searches + found) (omega (arith, few, one.within)) (searches_next keeps some few one two is sound);
    }

-- the last sectors are mapped, with whatever result
pub mapped_last : {S F : Type 0} {past : SinkPast S} {result : Result (Unit {0}) F} {old middle new : S} {before between after : WalkerView} {mapping : Mapping} {found first len at rest : ℕ}
    → IsLawful past → Keeps mapping → IsMappedTo past old middle before between mapping first len at rest → IsMapped past result middle new between after (record mapping { found = found }) at rest → 1 ≤ rest
    → IsMapped past result old new before after (record mapping { found = found }) first len
mapped_last {result = Ok done} lawful keeps one two some = mapped_whole (mapped_on lawful keeps one two some (omega arith) (λ is more. absurd (omega (arith, more)))) (omega arith)
mapped_last {result = Err fault} lawful keeps one two some = mapped_cut {fault = fault} lawful keeps refl one two some (omega arith)

-- A look-up changes only the counts, and is at most one search

pub mapped_after_look : {S R F : Type 0} {past : SinkPast S} {result : Result R F} {old new : S} {before looked after : WalkerView} {first len : ℕ} (mapping : Mapping) → mapping.found ≡ 0
    → stack_state looked ≡ stack_state before → AreAdded before.looked looked.looked → looked.looked.searches ≤ before.looked.searches + 1 → IsMapped past result old new looked after (record mapping { found = 1 }) first len → IsMapped past result old new before after mapping first len
mapped_after_look {before} {looked} {after} {first} {len} mapping none same added one mapped =
    let walk = walked_as (ap (λ (v : StackState). steps (mapping.step v.stack) v.state first len) same) mapped.walked in
    record {
      walked = record {
        took = walk.took;
        state = walk.state;
        kept = walk.kept;
        room = walk.room;
        left = walk.left;
        faults = walk.faults;
        stack = walk.stack ∙ ap (λ (v : StackState). v.stack) same;
        looked = added_then before.looked looked.looked after.looked added walk.looked;
      };
      bounded = λ is sound.
          let few = subst (λ (v : StackState). after.looked.searches + 1 ≤ looked.looked.searches + mapping.depth v.stack * stretches (mapping.path v.stack v.state) first len) same
          (mapped.bounded is (subst (λ (v : StackState). IsSound v.stack) (sym same) sound)) in
          omega (arith, few, one, none);
    }

pub mapped_before_look : {S : Type 0} {past : SinkPast S} {old new : S} {before after looked : WalkerView} {first len at rest : ℕ} (mapping : Mapping) → mapping.found ≡ 0
    → stack_state looked ≡ stack_state after → AreAdded after.looked looked.looked → looked.looked.searches ≤ after.looked.searches + 1 → IsMappedTo past old new before after (record mapping { found = 1 }) first len at rest → IsMappedTo past old new before looked mapping first len at rest
mapped_before_look {before} {after} {looked} mapping none same added one so_far =
    let walk = so_far.mapped.walked in
    record {
      mapped = record {
        walked = record {
          took = walk.took;
          state = ap (λ (v : StackState). v.state) same ∙ walk.state;
          kept = walk.kept;
          room = walk.room;
          left = walk.left;
          faults = walk.faults;
          stack = ap (λ (v : StackState). v.stack) same ∙ walk.stack;
          looked = added_then before.looked after.looked looked.looked walk.looked added;
        };
        bounded = λ is sound. let few = so_far.mapped.bounded is sound in omega (arith, few, one, none);
      };
      within = so_far.within;
      position = so_far.position;
      turns = so_far.turns;
    }
