-- If no claims clash, each sector of a top device reads as its row says, or as an error, after any request to a top device.
use Rattle.dm_map.proofs.Prelude.{inl, inr, ℕ, zero, suc, Bool, true, false, cond, List, [], append_assoc, length, take, drop, Some, nat_lt, replicate, refl, sym, ap, ◌∙◌, arith, AllByRecursion, cases_eq, append-nil, length-append, take-append-drop, take-append-le, Op, Device, IsTidy, IsTop, Description, device_len, IsSound, Values, answers, played, played_unit, sector_after, sector_past, stored, value_read, Home, request_step, sector_step, IsOwnWrite, write, AreOwn, Rows, first_rows, row_unit, rows_played, read, State, start_state, Step, keep, steps, BlockUnit, ReadOf, WriteOf, Fails, CopyOf, FillOf, past-append, all_front, MOST_DEPTH, Read, Write}
use Rattle.dm_map.proofs.own.Losses.{stays_as, stays_on}
use Rattle.dm_map.proofs.own.ChunkOutcomes.{IsRead, Sector, Nothing, Fault, is_read}
use Rattle.dm_map.proofs.own.OwnWrites.{own_write, start_fits}
use Rattle.dm_map.proofs.own.Plays.{after_false, played_on, stored_other, stored_same}
use Rattle.std.specs.Prelude.{◌≡◌, ◌⊎◌, ◌+◌, ◌<◌, ◌∷◌, ◌++◌}

-- The units before the one that answers

row_still : {V : Type 0} (written : V) (device sector : ℕ) (unit : BlockUnit) (rows : Rows V) → answers unit ≡ false → row_unit written device sector unit rows ≡ rows
row_still written device sector (WriteOf disk at) rows moves = absurd cc
row_still written device sector unit rows moves = refl

after_true : (unit : BlockUnit) (sector : ℕ) → answers unit ≡ true → sector_after unit sector ≡ suc sector
after_true unit sector answered = rw answered refl

rows_on : {V : Type 0} (written : ℕ → V) (device sector : ℕ) (us vs : List BlockUnit) (rows : Rows V) → AllByRecursion (λ unit. answers unit ≡ false) us → rows_played written device sector (us ++ vs) rows ≡ rows_played written device sector vs rows
unfolding rows_played
rows_on written device sector [] vs rows each = refl
rows_on {V = V} written device sector (u ∷ us) vs rows each =
    cc (after_false u sector each.0, row_still (written sector) device sector u rows each.0, rows_on written device sector us vs rows each.1)

rows_none : {V : Type 0} (written : ℕ → V) (device sector : ℕ) (rows : Rows V) → rows_played written device sector [] rows ≡ rows
unfolding rows_played
rows_none written device sector rows = refl

rows_moved : {V : Type 0} (written : ℕ → V) (device sector : ℕ) (us : List BlockUnit) (rows : Rows V) → AllByRecursion (λ unit. answers unit ≡ false) us → rows_played written device sector us rows ≡ rows
rows_moved written device sector us rows each =
    cc (append-nil us, rows_on written device sector us [] rows each, rows_none written device sector rows)

past_moved : (us : List BlockUnit) (at : ℕ) → AllByRecursion (λ unit. answers unit ≡ false) us → sector_past us at ≡ at
unfolding sector_past
past_moved [] at each = refl
past_moved (u ∷ us) at each = ap (sector_past us) (after_false u at each.0) ∙ past_moved us at each.1

past_on : (us vs : List BlockUnit) (at : ℕ) → AllByRecursion (λ unit. answers unit ≡ false) us → sector_past (us ++ vs) at ≡ sector_past vs at
past_on us vs at each = past-append us vs at ∙ ap (sector_past vs) (past_moved us at each)

-- the units of one sector, and then those of the sectors after it

past_first : (last : BlockUnit) (vs : List BlockUnit) (at : ℕ) → answers last ≡ true → sector_past (last ∷ vs) at ≡ sector_past vs (suc at)
unfolding sector_past
past_first last vs at answered = ap (sector_past vs) (after_true last at answered)

pub played_first : {V : Type 0} (zeros : V) (written : ℕ → V) (sector : ℕ) (last : BlockUnit) (vs : List BlockUnit) (values : Values V) → answers last ≡ true → played zeros written sector (last ∷ vs) values ≡ played zeros written (suc sector) vs (played_unit zeros (written sector) last values)
unfolding played
played_first zeros written sector last vs values answered = cc (after_true last sector answered)

pub rows_first : {V : Type 0} (written : ℕ → V) (device sector : ℕ) (last : BlockUnit) (vs : List BlockUnit) (rows : Rows V) → answers last ≡ true → rows_played written device sector (last ∷ vs) rows ≡ rows_played written device (suc sector) vs (row_unit (written sector) device sector last rows)
unfolding rows_played
rows_first written device sector last vs rows answered = cc (after_true last sector answered)

played_none : {V : Type 0} (zeros : V) (written : ℕ → V) (sector : ℕ) (values : Values V) → played zeros written sector [] values ≡ values
unfolding played
played_none zeros written sector values = refl

-- The unit that answers: a write to a disk, or one that changes nothing

data Answering (V : Type 0) (unit : BlockUnit) : Type 0 where
  WritesTo : (disk at : ℕ) → unit ≡ WriteOf disk at → Answering V unit
  Still : ((zeros written : V) (values : Values V) → played_unit zeros written unit values ≡ values) → ((written : V) (device sector : ℕ) (rows : Rows V) → row_unit written device sector unit rows ≡ rows) → Answering V unit

answering : (V : Type 0) (unit : BlockUnit) → answers unit ≡ true → Answering V unit
answering V (WriteOf disk at) answered = WritesTo disk at refl
answering V (CopyOf disk at to to_at) answered = absurd cc
answering V (FillOf disk at) answered = absurd cc
answering V unit answered = Still (λ zeros written values. refl) (λ written device sector rows. refl)

value_other : {V : Type 0} (zeros : V) (values : Values V) (disk at : ℕ) (value : V) (unit : BlockUnit) → (unit ≡ ReadOf disk at → ⊥) → value_read zeros (stored values disk at value) unit ≡ value_read zeros values unit
value_other zeros values disk at value (ReadOf k x) differ = ap Some (stored_other values disk at k x value (λ e. differ (sym (ap (λ (h : Home). ReadOf h.disk h.sector) e))))
value_other zeros values disk at value unit differ = refl

same_or_not : (a b c d : ℕ) → ((a ≡ c) × (b ≡ d)) ⊎ ((a ≡ c) × (b ≡ d) → ⊥)
same_or_not a b c d = elim (cases_eq a c) [
  | inr differ ↦ inr (λ same. differ same.0)
  | inl same ↦ elim (cases_eq b d) [
    | inl equal ↦ inl (same, equal)
    | inr differ ↦ inr (λ both. differ both.1)
  ]
]

-- The step of one sector

last_own : {V : Type 0} (zeros : V) (written : ℕ → V) (stack : Description) (state : State) (top sector : ℕ) (step : Step) (values : Values V) (rows : Rows V) (w : IsOwnWrite zeros written stack state top sector step) → AreOwn zeros stack step.state values rows → Answering V w.last
    → AreOwn zeros stack step.state (played_unit zeros (written sector) w.last values) (row_unit (written sector) top sector w.last rows)
last_own {V = V} zeros written stack state top sector step values rows w own (Still plays row) =
    rw (plays zeros (written sector) values, row (written sector) top sector rows) own
last_own {V = V} zeros written stack state top sector step values rows w own (WritesTo disk at is) =
    rw is (record {
      fits = own.fits;
      tops = λ other other_sector other_top. elim (same_or_not other other_sector top sector) [
        | inl same ↦ rw (same.0, same.1) (inl (ap (value_read zeros (stored values disk at (written sector))) (w.reads disk at is) ∙ ap Some (stored_same values disk at (written sector)) ∙ sym (stored_same rows top sector (Some (written sector)))))
        | inr differ ↦ stays_as _ _ _ _ (stored_other rows top sector other other_sector (Some (written sector)) (λ e. differ (sym (ap (λ (h : Home). h.disk) e), sym (ap (λ (h : Home). h.sector) e)))) (value_other zeros values disk at (written sector) (read stack step.state (Device other) other_sector) (λ e. differ (w.alone disk at other other_sector is other_top e))) (own.tops other other_sector other_top)
      ];
    })

-- what is known of a sector's step if each top device read as its row said, or as an error, before: about all of its units, with any units after them, and about its first units
pub record IsOwnStep {V : Type 0} (zeros : V) (written : ℕ → V) (stack : Description) (top : ℕ) (state : State) (sector : ℕ) (step : Step) (values : Values V) (rows : Rows V) : Type 0 where
  pub later : Values V
  pub after : Rows V
  pub whole : AreOwn zeros stack step.state later after
  pub played_is : (vs : List BlockUnit) → played zeros written sector (step.units ++ vs) values ≡ played zeros written (suc sector) vs later
  pub rows_are : (vs : List BlockUnit) → rows_played written top sector (step.units ++ vs) rows ≡ rows_played written top (suc sector) vs after
  pub past : (vs : List BlockUnit) (at : ℕ) → sector_past (step.units ++ vs) at ≡ sector_past vs (suc at)
  pub torn : (n : ℕ) → n < length step.units → AreOwn zeros stack state (played zeros written sector (take n step.units) values) (rows_played written top sector (take n step.units) rows)
  pub none : (n at : ℕ) → n < length step.units → sector_past (take n step.units) at ≡ at

pub both_own : {V : Type 0} (zeros : V) (stack : Description) (state : State) (values others : Values V) (rows more : Rows V) → values ≡ others → rows ≡ more → AreOwn zeros stack state others more → AreOwn zeros stack state values rows
both_own {V = V} zeros stack state values others rows more same equal own =
    rw (same, equal) own

-- before any unit is done
pub none_own : {V : Type 0} (zeros : V) (written : ℕ → V) (stack : Description) (state : State) (top sector : ℕ) (values : Values V) (rows : Rows V) → AreOwn zeros stack state values rows
    → AreOwn zeros stack state (played zeros written sector [] values) (rows_played written top sector [] rows)
none_own zeros written stack state top sector values rows own = both_own zeros stack state _ _ _ _ (played_none zeros written sector values) (rows_none written top sector rows) own

-- the first n units of a write, if not all, are the first n of its copies and fills
fewer : (front : List BlockUnit) (last : BlockUnit) (units : List BlockUnit) (n : ℕ) → units ≡ front ++ last ∷ [] → n < length units → take n units ≡ take n front
fewer front last units n is below =
    ap (take n) is ∙ take-append-le n front (last ∷ []) (omega (arith, below, ap length is, length-append front (last ∷ [])))

write_own : {V : Type 0} (zeros : V) (written : ℕ → V) (stack : Description) (state : State) (top sector : ℕ) (values : Values V) (rows : Rows V) → IsSound stack → IsTidy stack → IsTop stack top → AreOwn zeros stack state values rows
    → IsOwnStep zeros written stack top state sector (write stack state (Device top) sector) values rows
write_own {V = V} zeros written stack state top sector values rows sound tidy is_top own =
    let step = write stack state (Device top) sector in
    let w = own_write zeros written stack state top sector sound tidy own.fits is_top in
    let middle = played zeros written sector w.front values in
    let before : AreOwn zeros stack step.state middle rows = record {
      fits = w.fits;
      tops = λ other other_sector other_top. stays_on _ _ _ (own.tops other other_sector other_top) (w.kept values other other_sector other_top);
    } in
    let split : (vs : List BlockUnit) → step.units ++ vs ≡ w.front ++ w.last ∷ vs = λ vs. cc (append_assoc w.front (w.last ∷ []) vs) in
    let parts : (n : ℕ) → w.front ≡ take n w.front ++ drop n w.front = λ n. sym (take-append-drop n w.front) in
    let moves : (n : ℕ) → AllByRecursion (λ unit. answers unit ≡ false) (take n w.front) = λ n.
    all_front (λ unit. answers unit ≡ false) (take n w.front) (drop n w.front) (rw (← parts n) w.moves) in
    record {
      later = played_unit zeros (written sector) w.last middle;
      after = row_unit (written sector) top sector w.last rows;
      whole = last_own zeros written stack state top sector step middle rows w before (answering V w.last w.answered);
      played_is = λ vs. cc (split vs, played_on zeros written sector w.front (w.last ∷ vs) values w.moves, played_first zeros written sector w.last vs middle w.answered);
      rows_are = λ vs. cc (split vs, rows_on written top sector w.front (w.last ∷ vs) rows w.moves, rows_first written top sector w.last vs rows w.answered);
      past = λ vs at. cc (split vs, past_on w.front (w.last ∷ vs) at w.moves, past_first w.last vs at w.answered);
      torn = λ n below. rw (fewer w.front w.last step.units n w.units below) (record { fits = own.fits; tops = λ other other_sector other_top. stays_as _ _ _ _ (cc (rows_moved written top sector (take n w.front) rows (moves n))) (w.torn values (take n w.front) (drop n w.front) (parts n) other other_sector other_top) (own.tops other other_sector other_top) });
      none = λ n at below. cc (fewer w.front w.last step.units n w.units below, past_moved (take n w.front) at (moves n));
    }

-- the unit of a read answers its sector and changes nothing
read_still : {V : Type 0} (zeros written : V) (device sector : ℕ) (unit : BlockUnit) (values : Values V) (rows : Rows V) → IsRead unit → (answers unit ≡ true) × (played_unit zeros written unit values ≡ values) × (row_unit written device sector unit rows ≡ rows)
read_still zeros written device sector unit values rows (Sector disk at is) = rw is (refl, refl, refl)
read_still zeros written device sector unit values rows (Nothing is) = rw is (refl, refl, refl)
read_still zeros written device sector unit values rows (Fault is) = rw is (refl, refl, refl)

read_own : {V : Type 0} (zeros : V) (written : ℕ → V) (stack : Description) (state : State) (top sector : ℕ) (unit : BlockUnit) (values : Values V) (rows : Rows V) → IsRead unit → AreOwn zeros stack state values rows
    → IsOwnStep zeros written stack top state sector (keep (unit ∷ []) state) values rows
unfolding sector_past
read_own {V = V} zeros written stack state top sector unit values rows reads own =
    let still = read_still zeros (written sector) top sector unit values rows reads in
    record {
      later = values;
      after = rows;
      whole = own;
      played_is = λ vs. played_first zeros written sector unit vs values still.0 ∙ ap (λ (v : Values V). played zeros written (suc sector) vs v) still.1;
      rows_are = λ vs. rows_first written top sector unit vs rows still.0 ∙ rw still.2;
      past = λ vs at. past_first unit vs at still.0;
      torn = torn;
      none = none;
    }
  where
    torn : (n : ℕ) → n < length (unit ∷ []) → AreOwn zeros stack state (played zeros written sector (take n (unit ∷ [])) values) (rows_played written top sector (take n (unit ∷ [])) rows)
    torn zero below = none_own zeros written stack state top sector values rows own
    torn (suc n) below = absurd (omega (arith, below))

    none : (n at : ℕ) → n < length (unit ∷ []) → sector_past (take n (unit ∷ [])) at ≡ at
    none zero at below = refl
    none (suc n) at below = absurd (omega (arith, below))

pub step_own : {V : Type 0} (zeros : V) (written : ℕ → V) (stack : Description) (op : Op) (state : State) (top sector : ℕ) (values : Values V) (rows : Rows V) → IsSound stack → IsTidy stack → IsTop stack top → AreOwn zeros stack state values rows
    → IsOwnStep zeros written stack top state sector (sector_step stack op MOST_DEPTH (Device top) state sector) values rows
step_own zeros written stack Read state top sector values rows sound tidy is_top own =
    read_own zeros written stack state top sector (read stack state (Device top) sector) values rows (is_read stack state MOST_DEPTH (Device top) sector) own
step_own zeros written stack Write state top sector values rows sound tidy is_top own = write_own zeros written stack state top sector values rows sound tidy is_top own

-- The steps of a request

fails_own : {V : Type 0} (zeros : V) (written : ℕ → V) (stack : Description) (state : State) (top start len : ℕ) (values : Values V) (rows : Rows V) → AreOwn zeros stack state values rows
    → AreOwn zeros stack state (played zeros written start (replicate len Fails) values) (rows_played written top start (replicate len Fails) rows)
fails_own zeros written stack state top start zero values rows own = none_own zeros written stack state top start values rows own
fails_own zeros written stack state top start (suc len) values rows own =
    both_own zeros stack state _ _ _ _ (played_first zeros written start Fails (replicate len Fails) values refl) (rows_first written top start Fails (replicate len Fails) rows refl)
    (fails_own zeros written stack state top (suc start) len values rows own)

inside_own : {V : Type 0} (zeros : V) (written : ℕ → V) (stack : Description) (op : Op) (state : State) (top start len : ℕ) (values : Values V) (rows : Rows V) → IsSound stack → IsTidy stack → IsTop stack top → AreOwn zeros stack state values rows
    → AreOwn zeros stack (steps (sector_step stack op MOST_DEPTH (Device top)) state start len).state
    (played zeros written start (steps (sector_step stack op MOST_DEPTH (Device top)) state start len).units values)
    (rows_played written top start (steps (sector_step stack op MOST_DEPTH (Device top)) state start len).units rows)
inside_own zeros written stack op state top start zero values rows sound tidy is_top own = none_own zeros written stack state top start values rows own
inside_own zeros written stack op state top start (suc len) values rows sound tidy is_top own =
    let first = step_own zeros written stack op state top start values rows sound tidy is_top own in
    let after = (sector_step stack op MOST_DEPTH (Device top) state start).state in
    let rest = steps (sector_step stack op MOST_DEPTH (Device top)) after (suc start) len in
    both_own zeros stack rest.state _ _ _ _ (first.played_is rest.units) (first.rows_are rest.units) (inside_own zeros written stack op after top (suc start) len first.later first.after sound tidy is_top first.whole)

pub request_own : {V : Type 0} (zeros : V) (written : ℕ → V) (stack : Description) (op : Op) (state : State) (top start len : ℕ) (values : Values V) (rows : Rows V) → IsSound stack → IsTidy stack → IsTop stack top → AreOwn zeros stack state values rows
    → AreOwn zeros stack (request_step stack op top start len state).state (played zeros written start (request_step stack op top start len state).units values) (rows_played written top start (request_step stack op top start len state).units rows)
request_own {V = V} zeros written stack op state top start len values rows sound tidy is_top own = by_end (nat_lt (device_len stack top) (start + len))
  where
    by_end : (past : Bool) → AreOwn zeros stack (cond past (keep (replicate len Fails) state) (steps (sector_step stack op MOST_DEPTH (Device top)) state start len)).state
        (played zeros written start (cond past (keep (replicate len Fails) state) (steps (sector_step stack op MOST_DEPTH (Device top)) state start len)).units values)
        (rows_played written top start (cond past (keep (replicate len Fails) state) (steps (sector_step stack op MOST_DEPTH (Device top)) state start len)).units rows)
    by_end true = fails_own zeros written stack state top start len values rows own
    by_end false = inside_own zeros written stack op state top start len values rows sound tidy is_top own

pub first_own : {V : Type 0} (zeros : V) (stack : Description) (values : Values V) → AreOwn zeros stack (start_state stack) values (first_rows zeros stack values)
first_own zeros stack values = record { fits = start_fits stack; tops = λ top other_sector is_top. inl refl }
