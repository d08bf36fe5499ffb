-- Answers determine the list of maximal runs that give them.
use Rattle.dm_replay.proofs.Prelude.{ℕ, zero, suc, List, [], refl, sym, ap, subst, arith, AllByRecursion, append_cancel_left, ValueRun, NoneJoins, AreMaximal, answers_in, first_answer, flat, further_answer, next_answer, run_answers, run_len, Answer}
use Rattle.dm_replay.specs.declared.value_run.ValueRun.TheVariants as runs
use Rattle.dm_replay.proofs.RunLemmas.{answer_next, answer_none}
use Rattle.std.specs.Prelude.{◌≡◌, ◌<◌, ◌∷◌, ◌++◌}

-- the first of the answers is this one
abbrev Begins : List Answer → Answer → Type 0
Begins [] first = ⊥
Begins (answer ∷ rest) first = answer ≡ first

begins_with : (first : Answer) (n : ℕ) (rest all : List Answer) → 0 < n → answers_in first n ++ rest ≡ all → Begins all first
begins_with first zero rest all some e = absurd (omega (arith, some))
begins_with first (suc n) rest all some e = rw (← e)

begins_as : (first other : Answer) (n : ℕ) (rest : List Answer) → 0 < n → Begins (answers_in first n ++ rest) other → first ≡ other
begins_as first other zero rest some e = absurd (omega (arith, some))
begins_as first other (suc n) rest some e = e

-- if neither of two runs is continued by what follows, and both give the same answers, they are equally long
same_len : (first : Answer) (m n : ℕ) (more others : List Answer) → answers_in first m ++ more ≡ answers_in first n ++ others
    → (Begins more (further_answer first m) → ⊥) → (Begins others (further_answer first n) → ⊥) → m ≡ n
same_len first zero zero more others e ends end = refl
same_len first zero (suc n) more others e ends end = absurd (ends (rw e (sym (answer_none first))))
same_len first (suc m) zero more others e ends end = absurd (end (rw (← e) (sym (answer_none first))))
same_len first (suc m) (suc n) more others e ends end =
    ap suc (same_len (next_answer first) m n more others (append_cancel_left (first ∷ []) _ _ e)
    (λ begins. ends (subst (Begins more) (answer_next first m) begins)) (λ begins. end (subst (Begins others) (answer_next first n) begins)))

same_run : (run other : ValueRun) → first_answer run ≡ first_answer other → run_len run ≡ run_len other → run ≡ other
same_run (runs.Old disk start len) (runs.Old disk' start' len') first is = cc
same_run (runs.Wrote request start len) (runs.Wrote request' start' len') first is = cc
same_run (runs.Zero len) (runs.Zero len') first is = ap runs.Zero is
same_run (runs.Error len) (runs.Error len') first is = ap runs.Error is
same_run run other first is = absurd cc

abbrev AreSome : List ValueRun → Type 0
AreSome all = AllByRecursion (λ run. 0 < run_len run) all

apart_rest : (run : ValueRun) (rest : List ValueRun) → NoneJoins (run ∷ rest) → NoneJoins rest
apart_rest run [] apart = tt
apart_rest run (after ∷ rest) apart = apart.1

ends_there : (run : ValueRun) (rest : List ValueRun) → AreSome rest → NoneJoins (run ∷ rest) → Begins (flat rest) (further_answer (first_answer run) (run_len run)) → ⊥
ends_there run [] some apart begins = begins
ends_there run (after ∷ rest) some apart begins = apart.0 (sym (begins_as (first_answer after) _ (run_len after) (flat rest) some.0 begins))

one : (a b : List ValueRun) → AreSome a → NoneJoins a → AreSome b → NoneJoins b → flat a ≡ flat b → a ≡ b
one [] [] some apart some' apart' e = refl
one [] (run ∷ rest) some apart some' apart' e = absurd (begins_with (first_answer run) (run_len run) (flat rest) [] some'.0 (sym e))
one (run ∷ rest) [] some apart some' apart' e = absurd (begins_with (first_answer run) (run_len run) (flat rest) [] some.0 e)
one (run ∷ rest) (other ∷ others) some apart some' apart' e =
    let first : first_answer other ≡ first_answer run = begins_as (first_answer other) (first_answer run) (run_len other) (flat others) some'.0 (begins_with (first_answer run) (run_len run) (flat rest) (flat (other ∷ others)) some.0 e) in
    let len : run_len run ≡ run_len other = same_len (first_answer run) (run_len run) (run_len other) (flat rest) (flat others)
    (cc)
    (ends_there run rest some.1 apart)
    (λ begins. ends_there other others some'.1 apart' (rw first begins)) in
    let same : run ≡ other = same_run run other (sym first) len in
    rw (
      same,
      (one rest others some.1 (apart_rest run rest apart) some'.1 (apart_rest other others apart')
          (append_cancel_left (run_answers run) (flat rest) (flat others) cc)),
    )

pub one_runs : (a b : List ValueRun) → AreMaximal a → AreMaximal b → flat a ≡ flat b → a ≡ b
one_runs a b are others e = one a b are.some are.apart others.some others.apart e
