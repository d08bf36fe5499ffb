-- Consecutive runs, and what they answer.
use Rattle.dm_replay.proofs.Prelude.{ℕ, zero, suc, List, [], append_assoc, refl, sym, ap, ◌∙◌, arith, AllByRecursion, flat_map-append, append-nil, ValueRun, NoneJoins, AreMaximal, Joins, answers_in, first_answer, flat, further_answer, next_answer, run_answers, run_len, Answer, Gives, Failed}
use Rattle.dm_replay.proofs.RangeLemmas.{further_next, further_none}
use Rattle.std.specs.Prelude.{◌≡◌, ◌+◌, ◌<◌, ◌∷◌, ◌++◌}

-- What runs answer

pub answer_next : (first : Answer) (n : ℕ) → further_answer (next_answer first) n ≡ further_answer first (suc n)
answer_next (Gives first) n = ap Gives (further_next first n)
answer_next Failed n = refl

pub answer_none : (first : Answer) → further_answer first 0 ≡ first
answer_none (Gives first) = ap Gives (further_none first)
answer_none Failed = refl

answers_in-append : (first : Answer) (m n : ℕ) → answers_in first m ++ answers_in (further_answer first m) n ≡ answers_in first (m + n)
answers_in-append first zero n = rw (answer_none first) (ap (answers_in first) (let e : n ≡ 0 + n = omega arith in e))
answers_in-append first (suc m) n =
    rw (ap (λ (x : Answer). answers_in (next_answer first) m ++ answers_in x n) (sym (answer_next first m)) ∙ answers_in-append (next_answer first) m n) (ap (answers_in first) (let e : suc (m + n) ≡ suc m + n = omega arith in e))

pub flat_one : (runs : List ValueRun) (run : ValueRun) → flat (runs ++ run ∷ []) ≡ flat runs ++ run_answers run
flat_one runs run = rw (← append-nil (run_answers run)) (flat_map-append run_answers runs (run ∷ []))

-- a run lengthened by one that continues it answers what both do
pub flat_longer : (runs : List ValueRun) (last run longer : ValueRun) → Joins last run → first_answer longer ≡ first_answer last → run_len longer ≡ run_len last + run_len run
    → flat (runs ++ longer ∷ []) ≡ flat (runs ++ last ∷ []) ++ run_answers run
flat_longer runs last run longer joins first len =
    rw (flat_one runs last) (cc (flat_one runs longer, answers_in-append (first_answer last) (run_len last) (run_len run), append_assoc (flat runs) (run_answers last) (run_answers run)))

-- Maximal runs

abbrev AreSome : List ValueRun → Type 0
AreSome runs = AllByRecursion (λ run. 0 < run_len run) runs

some_front : (runs : List ValueRun) (last : ValueRun) → AreSome (runs ++ last ∷ []) → AreSome runs
some_front [] last each = tt
some_front (run ∷ runs) last each = (each.0, some_front runs last each.1)

some_push : (runs : List ValueRun) (last : ValueRun) → AreSome runs → 0 < run_len last → AreSome (runs ++ last ∷ [])
some_push [] last each some = (some, tt)
some_push (run ∷ runs) last each some = (each.0, some_push runs last each.1 some)

apart_front : (runs : List ValueRun) (last : ValueRun) → NoneJoins (runs ++ last ∷ []) → NoneJoins runs
apart_front (run ∷ after ∷ runs) last apart = (apart.0, apart_front (after ∷ runs) last apart.1)
apart_front runs last apart = tt

apart_push : (runs : List ValueRun) (last run : ValueRun) → NoneJoins (runs ++ last ∷ []) → (Joins last run → ⊥) → NoneJoins (runs ++ last ∷ [] ++ run ∷ [])
apart_push [] last run apart differ = (differ, tt)
apart_push (first ∷ []) last run apart differ = (apart.0, (differ, tt))
apart_push (first ∷ after ∷ runs) last run apart differ = (apart.0, apart_push (after ∷ runs) last run apart.1 differ)

-- whether a last run continues the one before depends only on its first answer
apart_longer : (runs : List ValueRun) (last longer : ValueRun) → NoneJoins (runs ++ last ∷ []) → first_answer longer ≡ first_answer last → NoneJoins (runs ++ longer ∷ [])
apart_longer [] last longer apart first = tt
apart_longer (run ∷ []) last longer apart first = (λ joins. apart.0 (joins ∙ first), tt)
apart_longer (run ∷ after ∷ runs) last longer apart first = (apart.0, apart_longer (after ∷ runs) last longer apart.1 first)

pub maximal_front : (runs : List ValueRun) (last : ValueRun) → AreMaximal (runs ++ last ∷ []) → AreMaximal runs
maximal_front runs last are = record { some = some_front runs last are.some; apart = apart_front runs last are.apart }

pub maximal_push : (runs : List ValueRun) (last run : ValueRun) → AreMaximal (runs ++ last ∷ []) → (Joins last run → ⊥) → 0 < run_len run → AreMaximal ((runs ++ last ∷ []) ++ run ∷ [])
maximal_push runs last run are differ some = record { some = some_push (runs ++ last ∷ []) run are.some some; apart = apart_push runs last run are.apart differ }

pub maximal_longer : (runs : List ValueRun) (last longer : ValueRun) → AreMaximal (runs ++ last ∷ []) → first_answer longer ≡ first_answer last → 0 < run_len longer → AreMaximal (runs ++ longer ∷ [])
maximal_longer runs last longer are first some = record { some = some_push runs longer (some_front runs last are.some) some; apart = apart_longer runs last longer are.apart first }
