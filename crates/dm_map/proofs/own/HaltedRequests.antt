-- If no claims clash, each sector of a top device reads as its row says, or as an error, after any number of the first units of a request to a top device.
use Rattle.dm_map.proofs.Prelude.{inl, inr, ℕ, zero, suc, Bool, true, false, cond, List, [], length, take, nat_lt, replicate, refl, ◌∙◌, arith, take-append-add, take-nil, cases_lt, take-append-le, Op, Device, IsTidy, IsTop, Description, device_len, IsSound, Values, played, sector_past, sector_step, AreOwn, Rows, rows_played, State, Step, keep, steps, halted_state, halted_units, BlockUnit, Fails, MOST_DEPTH}
use Rattle.dm_map.proofs.own.OwnRequests.{both_own, none_own, played_first, rows_first, step_own}
use Rattle.std.specs.Prelude.{◌≡◌, ◌+◌, ◌-◌, ◌≤◌, ◌++◌}

-- a request halted after these units: some number of its sectors is complete, the state is the one after those, and each top device reads as its row says, or as an error
record IsHalted {V : Type 0} (zeros : V) (written : ℕ → V) (stack : Description) (top : ℕ) (step : State → ℕ → Step) (state : State) (sector at len : ℕ) (units : List BlockUnit) (values : Values V) (rows : Rows V) : Type 0 where
  pub sectors : ℕ
  pub past : sector_past units at ≡ at + sectors
  pub few : sectors ≤ len
  pub own : AreOwn zeros stack (steps step state sector sectors).state (played zeros written sector units values) (rows_played written top sector units rows)

none_halted : {V : Type 0} (zeros : V) (written : ℕ → V) (stack : Description) (top : ℕ) (step : State → ℕ → Step) (state : State) (sector at len : ℕ) (values : Values V) (rows : Rows V) → AreOwn zeros stack state values rows
    → IsHalted zeros written stack top step state sector at len [] values rows
unfolding sector_past
none_halted zeros written stack top step state sector at len values rows own = record {
  sectors = 0;
  past = (let e : at ≡ at + 0 = omega arith in e);
  few = omega arith;
  own = none_own zeros written stack state top sector values rows own;
}

-- the steps of a request halted after count units: within the first sector's units, or within those of a later sector
steps_halted : {V : Type 0} (zeros : V) (written : ℕ → V) (stack : Description) (op : Op) (top count len : ℕ) (state : State) (sector at : ℕ) (values : Values V) (rows : Rows V) → IsSound stack → IsTidy stack → IsTop stack top → AreOwn zeros stack state values rows
    → IsHalted zeros written stack top (sector_step stack op MOST_DEPTH (Device top)) state sector at len (take count (steps (sector_step stack op MOST_DEPTH (Device top)) state sector len).units) values rows
steps_halted {V} zeros written stack op top count zero state sector at values rows sound tidy is_top own =
    rw (take-nil count) (none_halted zeros written stack top (sector_step stack op MOST_DEPTH (Device top)) state sector at zero values rows own)
steps_halted {V} zeros written stack op top count (suc len) state sector at values rows sound tidy is_top own =
    let step = sector_step stack op MOST_DEPTH (Device top) in
    let first = step_own zeros written stack op state top sector values rows sound tidy is_top own in
    let us = (step state sector).units in
    let rest = (steps step (step state sector).state (suc sector) len).units in
    elim (cases_lt count (length us)) [
      | inl below ↦
          rw (take-append-le count us rest (omega (arith, below))) (record {
            sectors = 0;
            past = first.none count at below ∙ (let e : at ≡ at + 0 = omega arith in e);
            few = omega arith;
            own = first.torn count below;
          })
      | inr past ↦
          let more = count - length us in
          let units_are : take count (us ++ rest) ≡ us ++ take more rest = cc ((let e : count ≡ length us + more = omega (arith, past) in e), take-append-add us rest more) in
          let later = steps_halted zeros written stack op top more len (step state sector).state (suc sector) (suc at) first.later first.after sound tidy is_top first.whole in
          rw units_are (record {
            sectors = suc later.sectors;
            past = first.past (take more rest) at ∙ later.past ∙ (let e : suc at + later.sectors ≡ at + suc later.sectors = omega arith in e);
            few = omega (arith, later.few);
            own = both_own zeros stack (steps step (step state sector).state (suc sector) later.sectors).state _ _ _ _ (first.played_is (take more rest)) (first.rows_are (take more rest)) later.own;
          })
    ]

-- a halted request that passes the device's end: only errors, which change nothing
fails_halted : {V : Type 0} (zeros : V) (written : ℕ → V) (stack : Description) (state : State) (top start count len : ℕ) (values : Values V) (rows : Rows V) → AreOwn zeros stack state values rows
    → AreOwn zeros stack state (played zeros written start (take count (replicate len Fails)) values) (rows_played written top start (take count (replicate len Fails)) rows)
fails_halted zeros written stack state top start zero len values rows own = none_own zeros written stack state top start values rows own
fails_halted zeros written stack state top start (suc count) zero values rows own = none_own zeros written stack state top start values rows own
fails_halted zeros written stack state top start (suc count) (suc len) values rows own =
    both_own zeros stack state _ _ _ _ (played_first zeros written start Fails (take count (replicate len Fails)) values refl) (rows_first written top start Fails (take count (replicate len Fails)) rows refl)
    (fails_halted zeros written stack state top (suc start) count len values rows own)

pub halted_own : {V : Type 0} (zeros : V) (written : ℕ → V) (stack : Description) (op : Op) (state : State) (top start len count : ℕ) (values : Values V) (rows : Rows V) → IsSound stack → IsTidy stack → IsTop stack top → AreOwn zeros stack state values rows
    → AreOwn zeros stack (halted_state stack op top start len count state) (played zeros written start (halted_units stack op top start len count state) values) (rows_played written top start (halted_units stack op top start len count state) rows)
halted_own {V} zeros written stack op state top start len count values rows sound tidy is_top own = by_end (nat_lt (device_len stack top) (start + len))
  where
    by_end : (past : Bool) → AreOwn zeros stack
        (cond past state (steps (sector_step stack op MOST_DEPTH (Device top)) state start (sector_past (take count (cond past (keep (replicate len Fails) state) (steps (sector_step stack op MOST_DEPTH (Device top)) state start len)).units) 0)).state)
        (played zeros written start (take count (cond past (keep (replicate len Fails) state) (steps (sector_step stack op MOST_DEPTH (Device top)) state start len)).units) values)
        (rows_played written top start (take count (cond past (keep (replicate len Fails) state) (steps (sector_step stack op MOST_DEPTH (Device top)) state start len)).units) rows)
    by_end true = fails_halted zeros written stack state top start count len values rows own
    by_end false =
        let step = sector_step stack op MOST_DEPTH (Device top) in
        let halted = steps_halted zeros written stack op top count len state start 0 values rows sound tidy is_top own in
        let units = take count (steps step state start len).units in
        rw (halted.past, (let e : 0 + halted.sectors ≡ halted.sectors = omega arith in e)) halted.own

-- A halted request completes no more sectors than it has

fails_few : (count len at : ℕ) → sector_past (take count (replicate len Fails)) at ≤ at + len
unfolding sector_past
fails_few zero len at = omega arith
fails_few (suc count) zero at = omega arith
fails_few (suc count) (suc len) at = omega (arith, fails_few count len (suc at))

pub few_own : {V : Type 0} (zeros : V) (stack : Description) (op : Op) (state : State) (top start len count : ℕ) (values : Values V) (rows : Rows V) → IsSound stack → IsTidy stack → IsTop stack top → AreOwn zeros stack state values rows
    → sector_past (halted_units stack op top start len count state) 0 ≤ len
few_own {V} zeros stack op state top start len count values rows sound tidy is_top own = by_end (nat_lt (device_len stack top) (start + len))
  where
    by_end : (past : Bool) → sector_past (take count (cond past (keep (replicate len Fails) state) (steps (sector_step stack op MOST_DEPTH (Device top)) state start len)).units) 0 ≤ len
    by_end true = let few : sector_past (take count (replicate len Fails)) 0 ≤ 0 + len = fails_few count len 0 in omega (arith, few)
    by_end false =
        let halted = steps_halted zeros (λ s. zeros) stack op top count len state start 0 values rows sound tidy is_top own in
        omega (arith, halted.past, halted.few)
