-- Lemmas about the first fault that a check finds.
use Rattle.lvm_volume.proofs.Prelude.{ℕ, suc, List, [], inl, inr, Option, Some, None, Result, Ok, Err, refl, sym, arith, append_assoc, flat_map, range_with_len, result_err, Source, LoadFault, IsMemoryFault, first_or, IsChecked}
use Rattle.std.specs.Prelude.{◌≡◌, ◌+◌, ◌-◌, ◌<◌, ◌∷◌, ◌++◌, ◌⊎◌}

-- the first fault of a list is the first fault of a longer one
pub first_here : (xs ys : List LoadFault) (later : Option LoadFault) (fault : LoadFault) → first_or xs None ≡ Some fault → first_or (xs ++ ys) later ≡ Some fault
first_here [] ys later fault e = absurd cc
first_here (x ∷ xs) ys later fault e = e

pub first_after : (xs ys : List LoadFault) (later : Option LoadFault) → first_or xs None ≡ None → first_or (xs ++ ys) later ≡ first_or ys later
first_after [] ys later e = refl
first_after (x ∷ xs) ys later e = absurd cc

-- the first fault of one check is the first fault of several; running out of memory stays that
pub found_more : {a b : Option LoadFault} {fault : LoadFault} → (a ≡ Some fault → b ≡ Some fault) → (a ≡ Some fault) ⊎ IsMemoryFault Source fault → (b ≡ Some fault) ⊎ IsMemoryFault Source fault
found_more more (inl found) = inl (more found)
found_more more (inr memory) = inr memory

-- a check that can't run out of memory
pub checked : {X : Type 0} (r : Result X LoadFault) (found : Option LoadFault) → result_err r ≡ found → IsChecked r found
checked (Ok done) found e = sym e
checked (Err fault) found e = inl (sym e)

-- a range of numbers from i + 1 on is its first number and the others
pub range_more : (i end : ℕ) → i < end → range_with_len (i + 1) (end - i) ≡ (i + 1) ∷ range_with_len (i + 1 + 1) (end - (i + 1))
range_more i end below = let n : end - i ≡ suc (end - (i + 1)) = omega arith in rw n

-- the elements made so far, with those that the numbers left give, are all elements, also after one more number
pub made_more : {X : Type 0} (f : ℕ → List X) (made more : List X) (i end : ℕ) → i < end → more ≡ made ++ f (i + 1) → more ++ flat_map f (range_with_len (i + 1 + 1) (end - (i + 1))) ≡ made ++ flat_map f (range_with_len (i + 1) (end - i))
made_more {X} f made more i end below e =
    rw (e, range_more i end below) (append_assoc made (f (i + 1)) _)
