-- The number of a chunk, from the runs that start before and after it.
use Rattle.dm_map.proofs.Prelude.{ℕ, List, Some, None, length, get_or, nat_eq, ◌∙◌, inl, inr, arith, IsDistinct, cases_lt, Run, AreBegunBy, AreRuns, IsRun, run_at, number_in}
use Rattle.dm_map.specs.state.Runs.{end_of}
use Rattle.dm_map.proofs.state.Numbers.{number_distinct}
use Rattle.std.specs.Prelude.{◌≡◌, ◌+◌, ◌-◌, ◌<◌, ◌≤◌}

-- a chunk in a run has the number that follows from the run
pub number_in_run : (chunks : List ℕ) (run : Run) (chunk : ℕ) → IsRun chunks run → IsDistinct nat_eq chunks → run.first ≤ chunk → chunk < end_of run → number_in chunk chunks ≡ Some (run.number + (chunk - run.first))
number_in_run chunks run chunk each distinct from before =
    let offset = chunk - run.first in
    let inside : offset < run.len = omega (arith, from, before) in
    let sum : run.first + offset ≡ chunk = omega (arith, from) in
    let is : get_or chunks (run.number + offset) 0 ≡ chunk = each.its_own offset inside ∙ sum in
    rw is at (number_distinct chunks (run.number + offset) 0 distinct (omega (arith, each.within, inside)))

pub ends_before : (runs : List Run) (chunks : List ℕ) (chunk begun i : ℕ) → AreRuns runs chunks → AreBegunBy runs chunk begun → (0 < begun → end_of (run_at runs (begun - 1)) ≤ chunk) → i < begun → end_of (run_at runs i) ≤ chunk
ends_before runs chunks chunk begun i kept by ended below =
    elim (cases_lt i (begun - 1)) [
      | inl less ↦ let next = kept.rising i (begun - 1) less (omega (arith, by.within, below)) in let last = by.from (omega (arith, below)) in omega (arith, next, last)
      | inr more ↦ let same : begun - 1 ≡ i = omega (arith, more, below) in rw same at (ended (omega (arith, below)))
    ]

pub begins_after : (runs : List Run) (chunks : List ℕ) (chunk begun i : ℕ) → AreRuns runs chunks → AreBegunBy runs chunk begun → begun ≤ i → i < length runs → chunk < (run_at runs i).first
begins_after runs chunks chunk begun i kept by from within =
    elim (cases_lt begun i) [
      | inl less ↦ let later = kept.rising begun i less within in let first = by.next (omega (arith, less, within)) in omega (arith, later, first)
      | inr more ↦ let same : begun ≡ i = omega (arith, more, from) in rw same at (by.next (omega (arith, same, within)))
    ]

pub number_missed : (runs : List Run) (chunks : List ℕ) (chunk begun : ℕ) → AreRuns runs chunks → AreBegunBy runs chunk begun → (0 < begun → end_of (run_at runs (begun - 1)) ≤ chunk) → number_in chunk chunks ≡ None
number_missed runs chunks chunk begun kept by ended =
    kept.all chunk (λ i within from. elim (cases_lt i begun) [
      | inl below ↦ ends_before runs chunks chunk begun i kept by ended below
      | inr above ↦ let later = begins_after runs chunks chunk begun i kept by above within in absurd (omega (arith, later, from))
    ])

-- a chunk without a number lies past the end of the last run that starts before it
pub ended_before : (runs : List Run) (chunks : List ℕ) (chunk begun : ℕ) → AreRuns runs chunks → IsDistinct nat_eq chunks → AreBegunBy runs chunk begun → number_in chunk chunks ≡ None → 0 < begun → end_of (run_at runs (begun - 1)) ≤ chunk
ended_before runs chunks chunk begun kept distinct by fresh some =
    elim (cases_lt chunk (end_of (run_at runs (begun - 1)))) [
      | inl inside ↦ let found = number_in_run chunks (run_at runs (begun - 1)) chunk (kept.each (begun - 1) (omega (arith, some, by.within))) distinct (by.from some) inside in absurd (cc)
      | inr out ↦ out
    ]
