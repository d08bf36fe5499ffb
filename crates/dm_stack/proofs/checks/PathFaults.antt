-- The faults of a list of paths: two for one disk, and then one for an unknown disk.
use Rattle.dm_stack.proofs.Prelude.{ℕ, List, Bool, true, false, Option, None, Some, Result, Ok, Err, OnOk, IfErr, sym, ap, ◌∙◌, is_none, is_some, not, result_err, Source, Place, Memory, Unknown, LoadFault, IsMemoryFault, faults_by, first_or, first_or-passed}
use Rattle.dm_stack.proofs.checks.HandedOn.{by_not_memory, first_not_memory}
use Rattle.std.specs.Prelude.{◌≡◌, ◌≢◌}

-- if no disk has two paths, the fault of the list is that of the second check
pub known_passed : (first later : List LoadFault) (result : Result (Unit {0}) LoadFault) → first_or first None ≡ None → result_err result ≡ first_or later None → OnOk result (first_or first (first_or later None) ≡ None)
known_passed first later (Ok done) none found = first_or-passed first _ none ∙ sym found
known_passed first later (Err fault) none found = tt

pub known_found : (first later : List LoadFault) (result : Result (Unit {0}) LoadFault) → first_or first None ≡ None → result_err result ≡ first_or later None
    → IfErr result (λ fault. fault.kind ≢ Memory → first_or first (first_or later None) ≡ Some fault)
known_found first later (Ok done) none found = tt
known_found first later (Err fault) none found = λ _. first_or-passed first _ none ∙ sym found

pub known_memory : {X : Type 0} (place : X → Place) (bad : X → Bool) (xs : List X) (result : Result (Unit {0}) LoadFault) → result_err result ≡ first_or (faults_by Unknown place bad xs) None
    → IfErr result (λ fault. fault.kind ≡ Memory → IsMemoryFault Source fault)
known_memory place bad xs (Ok done) found = tt
known_memory place bad xs (Err fault) found = λ memory. absurd (first_not_memory (faults_by Unknown place bad xs) None fault (by_not_memory Unknown place bad xs (λ e. cc)) (λ none. absurd cc) (sym found) memory)

-- a disk that isn't found is one that the stack doesn't have
pub unknown_told : (found named : Option ℕ) (none : Bool) → is_some found ≡ not none → found ≡ named → none ≡ is_none named
unknown_told None named true told same = ap is_none same
unknown_told (Some id) named false told same = ap is_none same
unknown_told found named none told same = absurd cc
