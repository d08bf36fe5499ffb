-- Playing on the disks of a stack names only those disks, in values and in answers.
use Rattle.dm_replay.proofs.Prelude.{ℕ, zero, suc, Bool, true, false, cond, length, List, [], sym, subst, arith, AllByRecursion, Description, Piece, stored, sector_after, BlockUnit, ReadOf, WriteOf, CopyOf, FillOf, IsOnDisks, first_unit, next_unit, piece_len, units_in, units_of, Value, ValueRun, AreUnitsOf, AreValuesOf, IsAnswerOf, IsRunOf, IsUnitOf, IsValueOf, answers_in, first_answer, flat, run_answers, run_len, Answer, Values, old_values, played, played_answers, played_unit, unit_answers}
use Rattle.dm_map.specs.declared.pieces.piece.Piece.TheVariants as pieces
use Rattle.dm_map.specs.own.Contents.{played as contents_played}
use Rattle.dm_replay.specs.declared.value.Value.TheVariants as value
use Rattle.dm_replay.specs.declared.value_run.ValueRun.TheVariants as runs
use Rattle.std.specs.Prelude.{◌≡◌, ◌<◌, ◌∷◌, ◌++◌, ◌==◌, ◌&&◌}

-- Units on the disks of a stack

next_of : (disks : ℕ) (unit : BlockUnit) → IsUnitOf disks unit → IsUnitOf disks (next_unit unit)
next_of disks (ReadOf disk sector) is = is
next_of disks (CopyOf disk sector to to_sector) is = is
next_of disks unit is = tt

units_in_of : (disks : ℕ) (unit : BlockUnit) (len : ℕ) → IsUnitOf disks unit → AreUnitsOf disks (units_in unit len)
units_in_of disks unit zero is = tt
units_in_of disks unit (suc len) is = (is, units_in_of disks (next_unit unit) len (next_of disks unit is))

first_of : (stack : Description) (piece : Piece) → IsOnDisks stack piece → IsUnitOf (length stack.disks) (first_unit piece)
first_of stack (pieces.Read disk start len) lies = lies.there
first_of stack (pieces.Copy disk start len to to_start) lies = lies.0.there
first_of stack piece lies = tt

-- the units of a piece on the stack's disks are on them
pub piece_of : (stack : Description) (piece : Piece) → IsOnDisks stack piece → AreUnitsOf (length stack.disks) (units_of piece)
piece_of stack piece lies = units_in_of (length stack.disks) (first_unit piece) (piece_len piece) (first_of stack piece lies)

-- Values that name the disks of a stack

either : (disks : ℕ) (test : Bool) (one other : Value) → IsValueOf disks one → IsValueOf disks other → IsValueOf disks (cond test one other)
either disks true one other is others = is
either disks false one other is others = others

stored_of : (disks : ℕ) (values : Values) (on at : ℕ) (new : Value) → AreValuesOf disks values → IsValueOf disks new → AreValuesOf disks (stored values on at new)
stored_of disks values on at new were is disk sector there = either disks (disk == on && sector == at) new (values disk sector) is (were disk sector there)

unit_of : (disks request sector : ℕ) (unit : BlockUnit) (values : Values) → IsUnitOf disks unit → AreValuesOf disks values → AreValuesOf disks (played_unit request sector unit values)
unit_of disks request sector (WriteOf disk at) values is were = stored_of disks values disk at (value.Wrote request sector) were tt
unit_of disks request sector (CopyOf disk at to to_at) values is were = stored_of disks values to to_at (values disk at) were (were disk at is)
unit_of disks request sector (FillOf disk at) values is were = stored_of disks values disk at value.Zero were tt
unit_of disks request sector unit values is were = were

pub played_of : (disks request sector : ℕ) (units : List BlockUnit) (values : Values) → AreUnitsOf disks units → AreValuesOf disks values → AreValuesOf disks (played request sector units values)
unfolding contents_played
played_of disks request sector [] values are were = were
played_of disks request sector (unit ∷ units) values are were = played_of disks request (sector_after unit sector) units (played_unit request sector unit values) are.1 (unit_of disks request sector unit values are.0 were)

pub same_of : (disks : ℕ) (values others : Values) → ((disk sector : ℕ) → others disk sector ≡ values disk sector) → AreValuesOf disks values → AreValuesOf disks others
same_of disks values others same are disk sector there = subst (IsValueOf disks) (sym (same disk sector)) (are disk sector there)

pub old_of : (disks : ℕ) → AreValuesOf disks old_values
old_of disks disk sector there = there

-- Answers that name the disks of a stack

abbrev AreAnswersOf : ℕ → List Answer → Type 0
AreAnswersOf disks answers = AllByRecursion (IsAnswerOf disks) answers

answers-append : (disks : ℕ) (first rest : List Answer) → AreAnswersOf disks first → AreAnswersOf disks rest → AreAnswersOf disks (first ++ rest)
answers-append disks [] rest are were = were
answers-append disks (x ∷ first) rest are were = (are.0, answers-append disks first rest are.1 were)

answer_of : (disks request sector : ℕ) (unit : BlockUnit) (values : Values) → IsUnitOf disks unit → AreValuesOf disks values → AreAnswersOf disks (unit_answers request sector unit values)
answer_of disks request sector (ReadOf disk at) values is were = (were disk at is, tt)
answer_of disks request sector (CopyOf disk at to to_at) values is were = tt
answer_of disks request sector (FillOf disk at) values is were = tt
answer_of disks request sector unit values is were = (tt, tt)

answers_of : (disks request sector : ℕ) (units : List BlockUnit) (values : Values) → AreUnitsOf disks units → AreValuesOf disks values → AreAnswersOf disks (played_answers request sector units values)
unfolding played_answers
answers_of disks request sector [] values are were = tt
answers_of disks request sector (unit ∷ units) values are were =
    answers-append disks (unit_answers request sector unit values) (played_answers request (sector_after unit sector) units (played_unit request sector unit values))
    (answer_of disks request sector unit values are.0 were)
    (answers_of disks request (sector_after unit sector) units (played_unit request sector unit values) are.1 (unit_of disks request sector unit values are.0 were))

answers_first : (disks : ℕ) (first : Answer) (len : ℕ) (rest : List Answer) → 0 < len → AreAnswersOf disks (answers_in first len ++ rest) → IsAnswerOf disks first
answers_first disks first zero rest some are = absurd (omega (arith, some))
answers_first disks first (suc len) rest some are = are.0

answers_rest : (disks : ℕ) (first rest : List Answer) → AreAnswersOf disks (first ++ rest) → AreAnswersOf disks rest
answers_rest disks [] rest are = are
answers_rest disks (x ∷ first) rest are = answers_rest disks first rest are.1

run_of : (disks : ℕ) (run : ValueRun) → IsAnswerOf disks (first_answer run) → IsRunOf disks run
run_of disks (runs.Old disk start len) is = is
run_of disks run is = tt

runs_of : (disks : ℕ) (all : List ValueRun) → AllByRecursion (λ run. 0 < run_len run) all → AreAnswersOf disks (flat all) → AllByRecursion (IsRunOf disks) all
runs_of disks [] some are = tt
runs_of disks (run ∷ all) some are = (
  run_of disks run (answers_first disks (first_answer run) (run_len run) (flat all) some.0 are),
  runs_of disks all some.1 (answers_rest disks (run_answers run) (flat all) are),
)

-- runs that answer units on the stack's disks name only those disks
pub runs_played_of : (disks request sector : ℕ) (units : List BlockUnit) (values : Values) (all : List ValueRun) → flat all ≡ played_answers request sector units values → AllByRecursion (λ run. 0 < run_len run) all → AreUnitsOf disks units → AreValuesOf disks values
    → AllByRecursion (IsRunOf disks) all
runs_played_of disks request sector units values all is some are were =
    runs_of disks all some (rw is (answers_of disks request sector units values are were))
