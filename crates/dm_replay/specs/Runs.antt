-- Runs of answers: consecutive sectors whose answers count up are one run.
use Rattle.dm_replay.specs.Base.{ℕ, zero, suc, List, [], AllByRecursion, flat_map, ValueRun}
use Rattle.dm_replay.specs.declared.value.Value.TheVariants as value
use Rattle.dm_replay.specs.declared.value_run.ValueRun.TheVariants as runs
use Rattle.dm_replay.specs.Values.{Answer, Gives, Failed, next_value, further}
use Rattle.std.specs.Prelude.{◌≡◌, ◌<◌, ◌∷◌}

-- the answer of a run's first sector
abbrev pub first_answer : ValueRun → Answer
first_answer (runs.Old disk start len) = Gives (value.Old disk start)
first_answer (runs.Wrote request start len) = Gives (value.Wrote request start)
first_answer (runs.Zero len) = Gives value.Zero
first_answer (runs.Error len) = Failed

-- the length of a run in sectors
abbrev pub run_len : ValueRun → ℕ
run_len (runs.Old disk start len) = len
run_len (runs.Wrote request start len) = len
run_len (runs.Zero len) = len
run_len (runs.Error len) = len

-- the answer of the sector after one with this answer, if answers count up
abbrev pub next_answer : Answer → Answer
next_answer (Gives first) = Gives (next_value first)
next_answer Failed = Failed

-- the answer of the sector `len` sectors after one with this answer, if answers count up
abbrev pub further_answer : Answer → (len : ℕ) → Answer
further_answer (Gives first) len = Gives (further first len)
further_answer Failed len = Failed

-- the answers of `len` sectors, counting up from `first`
abbrev pub answers_in : Answer → (len : ℕ) → List Answer
answers_in first zero = []
answers_in first (suc len) = first ∷ answers_in (next_answer first) len

-- the answers of all sectors of a run, in order
abbrev pub run_answers : ValueRun → List Answer
run_answers run = answers_in (first_answer run) (run_len run)

-- the answers of all sectors of these runs, in order
abbrev pub flat : List ValueRun → List Answer
flat all = flat_map run_answers all

-- the run `after` continues `run`, so that both could be one run
abbrev pub Joins : ValueRun → ValueRun → Type 0
Joins run after = further_answer (first_answer run) (run_len run) ≡ first_answer after

-- no run continues the one before it
abbrev pub NoneJoins : List ValueRun → Type 0
NoneJoins [] = Unit {0}
NoneJoins (run ∷ []) = Unit {0}
NoneJoins (run ∷ after ∷ rest) = (Joins run after → ⊥) × NoneJoins (after ∷ rest)

-- maximal runs: none is empty, and none continues the one before it
pub record AreMaximal (all : List ValueRun) : Type 0 where
  pub some : AllByRecursion (λ run. 0 < run_len run) all
  pub apart : NoneJoins all
