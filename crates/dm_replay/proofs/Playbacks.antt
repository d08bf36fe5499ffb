-- The playback of a request, played from its device's end if its first sector is beyond that.
use Rattle.dm_replay.proofs.Prelude.{inl, inr, ℕ, zero, suc, true, length, min, List, [], take, refl, sym, ap, ◌∙◌, arith, nat_lt, cases_lt, nat_tests, Op, Request, Description, device_len, sector_past, request_step, step_for, State, halted_units, BlockUnit, Fails, units_in, Halting, Playing, ValueRun, AreUnitsOf, AreValuesOf, values_of, HasPlayed, flat, Values, played, played_answers}
use Rattle.dm_map.proofs.Rows.{step_past_end}
use Rattle.dm_replay.specs.declared.player.Player.{Player}
use Rattle.dm_replay.proofs.HaltedPlays.{HasPlayedFront}
use Rattle.dm_replay.proofs.OfDiskLemmas.{played_of, same_of}
use Rattle.dm_replay.proofs.UnitPlays.{fails_answer, fails_played}
use Rattle.std.specs.Prelude.{◌≡◌, ◌+◌, ◌<◌, ◌≤◌}

-- units that all fail give the same result from any sector
fails_anywhere : (units : List BlockUnit) (n number first start : ℕ) (values : Values) → units_in Fails n ≡ units → (played number first units values ≡ played number start units values) × (played_answers number first units values ≡ played_answers number start units values)
fails_anywhere units n number first start values is = rw (← is) (
  fails_played number first n values ∙ sym (fails_played number start n values),
  fails_answer number first n values ∙ sym (fails_answer number start n values),
)

is_past : (end start len : ℕ) → 1 ≤ len → end < start → nat_lt end (start + len) ≡ true
is_past end start len some beyond = grind (arith, nat_tests)

-- a request that begins beyond its device's end fails as a whole, so it can be played from the device's end
pub played_from : (stack : Description) (op : Op) (device start len number : ℕ) (state : State) (values : Values) → 1 ≤ len
    → (played number (min start (device_len stack device)) (request_step stack op device start len state).units values ≡ played number start (request_step stack op device start len state).units values)
    × (played_answers number (min start (device_len stack device)) (request_step stack op device start len state).units values ≡ played_answers number start (request_step stack op device start len state).units values)
played_from stack op device start len number state values some = elim (cases_lt (device_len stack device) start) [
  | inl beyond ↦
      fails_anywhere (request_step stack op device start len state).units len number (min start (device_len stack device)) start values
      (cc (step_past_end stack op device start len state (is_past (device_len stack device) start len some beyond)))
  | inr within ↦
      let same : min start (device_len stack device) ≡ start = omega (arith, within) in rw same (refl, refl)
]

-- the first units of a request that begins beyond its device's end can be played from the device's end, too
front_fails : (count n : ℕ) → (k : ℕ) × (units_in Fails k ≡ take count (units_in Fails n))
front_fails zero n = (0, refl)
front_fails (suc count) zero = (0, refl)
front_fails (suc count) (suc n) =
    let rest = front_fails count n in
    (suc rest.0, cc)

front_from : (stack : Description) (op : Op) (device start len count number : ℕ) (state : State) (values : Values) → 1 ≤ len
    → played number (min start (device_len stack device)) (halted_units stack op device start len count state) values ≡ played number start (halted_units stack op device start len count state) values
front_from stack op device start len count number state values some = elim (cases_lt (device_len stack device) start) [
  | inl beyond ↦
      let front = front_fails count len in
      (fails_anywhere (halted_units stack op device start len count state) front.0 number (min start (device_len stack device)) start values
      (cc (step_past_end stack op device start len state (is_past (device_len stack device) start len some beyond)))).0
  | inr within ↦
      let same : min start (device_len stack device) ≡ start = omega (arith, within) in rw same
]

abbrev pub units_asked : Description → Request → (device : ℕ) → State → List BlockUnit
units_asked stack request device state = (step_for stack request device state).units

abbrev held : Playing → Values
held p = values_of p.values.disks.items

-- the values after units that were played from where a playback began
begun_values : (old begun ended : Playing) (number first : ℕ) (units : List BlockUnit) → begun ≡ record { values = old.values; number = number; next = first; runs = [] } → HasPlayed begun units ended
    → (disk sector : ℕ) → held ended disk sector ≡ played number first units (held old) disk sector
begun_values old begun ended number first units begun_is has disk sector =
    cc (has.values_are disk sector)

-- the values after a playback
pub playback_values : (old begun ended new : Playing) (stack : Description) (request : Request) (device first : ℕ) (state : State) → first ≡ min request.start (device_len stack device)
    → begun ≡ record { values = old.values; number = request.number; next = first; runs = [] } → new.values ≡ ended.values → HasPlayed begun (units_asked stack request device state) ended
    → (disk sector : ℕ) → values_of new.values.disks.items disk sector ≡ played request.number request.start (units_asked stack request device state) (values_of old.values.disks.items) disk sector
playback_values old begun ended new stack request device first state first_is begun_is new_is has disk sector =
    let units = units_asked stack request device state in
    cc (begun_values old begun ended request.number first units begun_is has disk sector, (played_from stack request.op device request.start request.len request.number state (held old) request.at_least).0)

-- the values after a playback that was halted
front_values : (old begun ended : Playing) (stack : Description) (request : Request) (device count first : ℕ) (state : State) → first ≡ min request.start (device_len stack device)
    → begun ≡ record { values = old.values; number = request.number; next = first; runs = [] } → HasPlayed begun (halted_units stack request.op device request.start request.len count state) ended
    → (disk sector : ℕ) → held ended disk sector ≡ played request.number request.start (halted_units stack request.op device request.start request.len count state) (held old) disk sector
front_values old begun ended stack request device count first state first_is begun_is has disk sector =
    let units = halted_units stack request.op device request.start request.len count state in
    rw (← front_from stack request.op device request.start request.len count request.number state (held old) request.at_least, ← first_is) (begun_values old begun ended request.number first units begun_is has disk sector)

-- the answers of a playback
pub playback_answers : (old begun ended : Playing) (runs : List ValueRun) (stack : Description) (request : Request) (device first : ℕ) (state : State) → first ≡ min request.start (device_len stack device)
    → begun ≡ record { values = old.values; number = request.number; next = first; runs = [] } → runs ≡ ended.runs → HasPlayed begun (units_asked stack request device state) ended
    → flat runs ≡ played_answers request.number request.start (units_asked stack request device state) (values_of old.values.disks.items)
playback_answers old begun ended runs stack request device first state first_is begun_is runs_is has =
    let units = units_asked stack request device state in
    cc (ap flat runs_is, has.answers_are, begun_is, first_is, (played_from stack request.op device request.start request.len request.number state (held old) request.at_least).1)

-- what is known of a player after the first units of a request, or all of them
pub record IsFrontPlayed (stack : Description) (request : Request) (device count : ℕ) (state : State) (old : Playing) (later : Player) : Type 0 where
  pub stack_is : later.stack.now ≡ stack
  pub next : later.playing.next ≡ sector_past (halted_units stack request.op device request.start request.len count state) (min request.start (device_len stack device))
  pub values : (disk sector : ℕ) → held later.playing disk sector ≡ played request.number request.start (halted_units stack request.op device request.start request.len count state) (held old) disk sector
  pub disks : AreValuesOf (length stack.disks) (held later.playing)

pub front_played : (stack : Description) (request : Request) (device count first : ℕ) (state : State) (old : Playing) (begun later : Player) (before after : Halting) → first ≡ min request.start (device_len stack device)
    → begun.playing ≡ record { values = old.values; number = request.number; next = first; runs = [] } → begun.stack.now ≡ stack → before.player ≡ begun → before.left ≡ count → AreValuesOf (length stack.disks) (held old)
    → HasPlayedFront before (units_asked stack request device state) after → later ≡ after.player → IsFrontPlayed stack request device count state old later
front_played stack request device count first state old begun later before after first_is begun_is stack_is before_is left_is were front later_is =
    let all = units_asked stack request device state in
    let units = halted_units stack request.op device request.start request.len count state in
    let playing_is : before.player.playing ≡ record { values = old.values; number = request.number; next = first; runs = [] } = rw before_is begun_is in
    let same : before.player.stack.now ≡ stack = rw before_is stack_is in
    let has : HasPlayed before.player.playing units after.player.playing = rw (← left_is) front.played in
    let of : AreUnitsOf (length stack.disks) units = rw left_is at (rw same at front.of) in
    let values = front_values old before.player.playing after.player.playing stack request device count first state first_is playing_is has in
    rw later_is (record {
      stack_is = front.stack ∙ same;
      next = cc;
      values = values;
      disks = same_of (length stack.disks) (played request.number request.start units (held old)) (held after.player.playing) values (played_of (length stack.disks) request.number request.start units (held old) of were);
    })
