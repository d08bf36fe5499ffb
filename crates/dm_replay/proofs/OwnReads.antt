-- What a read of a top device answers if no claims clash: what the device would hold alone, or an error; no error if the stack can't lose anything.
use Rattle.dm_replay.proofs.Prelude.{inl, inr, ℕ, zero, suc, Bool, true, false, cond, List, [], Option, Some, None, nat_lt, replicate, refl, ap, arith, le-ltb, Device, IsTidy, IsTop, Description, device_len, AreAlwaysExact, AreNeverLost, IsAmple, IsIntact, Stays, content, value_read, AreAlone, IsOwnAt, Rows, request_step, sector_step, read, IsFitting, State, keep, steps, BlockUnit, Fails, IsRead, Sector, Nothing, Fault, is_read, Value, Asked, World, asked_answers, world_after, AreOfTops, Answer, Gives, Failed, Values, played_answers, MOST_DEPTH, Read}
use Rattle.dm_replay.specs.Rows.{AreExactlyRow, AreOfRow, answer_of, rows_after}
use Rattle.dm_replay.specs.declared.value.Value.TheVariants as value
use Rattle.dm_replay.proofs.OwnWorlds.{IsExact, exact_after, own_after}
use Rattle.std.specs.Prelude.{◌≡◌, ◌⊎◌, ◌+◌, ◌<◌, ◌≤◌, ◌∷◌}

-- the answer of a read's unit
abbrev read_answer : BlockUnit → Values → Answer
read_answer unit values = answer_of (value_read value.Zero values unit)

-- the answer is that of a sector of a row, or an error
abbrev IsOfSector : Rows Value → (device sector : ℕ) → Answer → Type 0
IsOfSector rows device sector answer = (answer ≡ answer_of (rows device sector)) ⊎ (answer ≡ Failed)

-- each sector of a device reads as its row has it, or as an error
abbrev AreRead : Description → State → Values → Rows Value → (device : ℕ) → Type 0
AreRead stack state values rows device = (sector : ℕ) → IsOfSector rows device sector (read_answer (read stack state (Device device) sector) values)

read_of : (row given : Option Value) → Stays row given → (answer_of given ≡ answer_of row) ⊎ (answer_of given ≡ Failed)
read_of row given (inl same) = inl (ap answer_of same)
read_of row given (inr gone) = inr (ap answer_of gone)

are_read : (stack : Description) (world : World) (device : ℕ) → IsTop stack device → IsOwnAt value.Zero stack world → AreRead stack world.state world.values world.rows device
are_read stack world device top own sector =
    read_of (world.rows device sector) (content value.Zero stack world.state world.values (Device device) sector) (own.tops device sector top)

-- the first answer of a read is that of its first unit
first_read : (number sector : ℕ) (unit : BlockUnit) (units : List BlockUnit) (values : Values) → IsRead unit → played_answers number sector (unit ∷ units) values ≡ read_answer unit values ∷ played_answers number (suc sector) units values
unfolding played_answers
first_read number sector unit units values (Sector disk at is) = rw is refl
first_read number sector unit units values (Nothing is) = rw is refl
first_read number sector unit units values (Fault is) = rw is refl

first_of_row : (number device sector : ℕ) (unit : BlockUnit) (units : List BlockUnit) (values : Values) (rows : Rows Value) → IsRead unit → IsOfSector rows device sector (read_answer unit values)
    → AreOfRow rows device (suc sector) (played_answers number (suc sector) units values) → AreOfRow rows device sector (played_answers number sector (unit ∷ units) values)
first_of_row number device sector unit units values rows reads first later = rw (first_read number sector unit units values reads) (first, later)

reads_of_row : (stack : Description) (state : State) (number device start len : ℕ) (values : Values) (rows : Rows Value) → AreRead stack state values rows device
    → AreOfRow rows device start (played_answers number start (steps (sector_step stack Read MOST_DEPTH (Device device)) state start len).units values)
unfolding played_answers
reads_of_row stack state number device start zero values rows each = none_of_row
  where
    none_of_row : AreOfRow rows device start (played_answers number start [] values)
    none_of_row = tt
reads_of_row stack state number device start (suc len) values rows each =
    first_of_row number device start (read stack state (Device device) start) (steps (sector_step stack Read MOST_DEPTH (Device device)) state (suc start) len).units values rows
    (is_read stack state MOST_DEPTH (Device device) start) (each start) (reads_of_row stack state number device (suc start) len values rows each)

errors_of_row : (number device start len : ℕ) (values : Values) (rows : Rows Value) → AreOfRow rows device start (played_answers number start (replicate len Fails) values)
unfolding played_answers
errors_of_row number device start zero values rows = tt
errors_of_row number device start (suc len) values rows = (inr refl, errors_of_row number device (suc start) len values rows)

request_of_row : (stack : Description) (state : State) (number device start len : ℕ) (values : Values) (rows : Rows Value) → AreRead stack state values rows device
    → AreOfRow rows device start (played_answers number start (request_step stack Read device start len state).units values)
request_of_row stack state number device start len values rows each = by_end (nat_lt (device_len stack device) (start + len))
  where
    by_end : (past : Bool) → AreOfRow rows device start (played_answers number start (cond past (keep (replicate len Fails) state) (steps (sector_step stack Read MOST_DEPTH (Device device)) state start len)).units values)
    by_end true = errors_of_row number device start len values rows
    by_end false = reads_of_row stack state number device start len values rows each

pub own_answers : (stack : Description) (start : State) (all : List Asked) (asked : Asked) → AreAlone Value stack → IsTidy stack → IsFitting stack start → AreOfTops stack all → IsTop stack asked.device → asked.halted_after ≡ None → asked.op ≡ Read
    → AreOfRow (rows_after stack start all) asked.device asked.start (asked_answers stack (world_after stack start all) asked)
own_answers stack start all asked law tidy fits each top whole reads =
    let world = world_after stack start all in
    rw (whole, reads) (request_of_row stack world.state asked.number asked.device asked.start asked.len world.values world.rows (are_read stack world asked.device top (own_after stack start all law tidy fits each)))

-- Reads without errors, if the stack can't lose anything

-- the answer is the value of a sector of a row
abbrev IsExactlySector : Rows Value → (device sector : ℕ) → Answer → Type 0
IsExactlySector rows device sector answer = (given : Value) × (rows device sector ≡ Some given) × (answer ≡ Gives given)

-- each sector of a device, before the device's end, reads as its row has it
abbrev AreReadExactly : Description → State → Values → Rows Value → (device : ℕ) → Type 0
AreReadExactly stack state values rows device = (sector : ℕ) → sector < device_len stack device → IsExactlySector rows device sector (read_answer (read stack state (Device device) sector) values)

are_exact : (stack : Description) (world : World) (device : ℕ) → IsTop stack device → IsExact stack world → AreReadExactly stack world.state world.values world.rows device
are_exact stack world device top exact sector inside =
    let of = exact.tops device sector top inside in
    (of.0, of.2, ap answer_of of.1)

reads_exactly : (stack : Description) (state : State) (number device start len : ℕ) (values : Values) (rows : Rows Value) → start + len ≤ device_len stack device → AreReadExactly stack state values rows device
    → AreExactlyRow rows device start (played_answers number start (steps (sector_step stack Read MOST_DEPTH (Device device)) state start len).units values)
unfolding played_answers
reads_exactly stack state number device start zero values rows inside each = none_of_row
  where
    none_of_row : AreExactlyRow rows device start (played_answers number start [] values)
    none_of_row = tt
reads_exactly stack state number device start (suc len) values rows inside each =
    let unit = read stack state (Device device) start in
    let units = (steps (sector_step stack Read MOST_DEPTH (Device device)) state (suc start) len).units in
    rw (first_read number start unit units values (is_read stack state MOST_DEPTH (Device device) start)) (each start (omega (arith, inside)), reads_exactly stack state number device (suc start) len values rows (omega (arith, inside)) each)

request_exactly : (stack : Description) (state : State) (number device start len : ℕ) (values : Values) (rows : Rows Value) → start + len ≤ device_len stack device → AreReadExactly stack state values rows device
    → AreExactlyRow rows device start (played_answers number start (request_step stack Read device start len state).units values)
request_exactly stack state number device start len values rows inside each = rw (le-ltb (device_len stack device) (start + len) inside) (reads_exactly stack state number device start len values rows inside each)

pub exact_answers : (stack : Description) (start : State) (all : List Asked) (asked : Asked) → AreNeverLost stack → AreAlwaysExact Value stack → IsAmple stack → IsIntact stack start → IsTidy stack → AreOfTops stack all → IsTop stack asked.device → asked.halted_after ≡ None → asked.op ≡ Read → asked.start + asked.len ≤ device_len stack asked.device
    → AreExactlyRow (rows_after stack start all) asked.device asked.start (asked_answers stack (world_after stack start all) asked)
exact_answers stack start all asked lost law ample intact tidy each top whole reads inside =
    let world = world_after stack start all in
    rw (whole, reads) (request_exactly stack world.state asked.number asked.device asked.start asked.len world.values world.rows inside (are_exact stack world asked.device top (exact_after stack start all lost law ample intact tidy each)))
