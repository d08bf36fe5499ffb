-- Lemmas about labels, and the pairs in them.
use Rattle.lvm_head.proofs.Prelude.{ℕ, zero, suc, true, false, List, [], Some, None, Result, Ok, Err, map, refl, ap, arith, range_with_len, ReadFault, Label, Unread, is_sound, is_taken, label_in}
use Rattle.std.specs.Prelude.{◌≡◌, ◌+◌, ◌∷◌, ◌++◌}

pub label_found : (place : ℕ) (read : Result (List ℕ) ReadFault) (bytes : List ℕ) → read ≡ Ok bytes → is_taken place bytes ≡ true → is_sound bytes ≡ true → label_in place read ≡ Some (Ok bytes)
label_found place read bytes is taken sound = rw is (rw taken (rw sound refl))

pub label_unsound : (place : ℕ) (read : Result (List ℕ) ReadFault) (bytes : List ℕ) → read ≡ Ok bytes → is_taken place bytes ≡ true → is_sound bytes ≡ false → label_in place read ≡ Some (Err Label)
label_unsound place read bytes is taken sound = rw is (rw taken (rw sound refl))

pub label_none : (place : ℕ) (read : Result (List ℕ) ReadFault) (bytes : List ℕ) → read ≡ Ok bytes → is_taken place bytes ≡ false → label_in place read ≡ None
label_none place read bytes is other = rw is (rw other refl)

pub label_unread : (place : ℕ) (read : Result (List ℕ) ReadFault) (fault : ReadFault) → read ≡ Err fault → label_in place read ≡ Some (Err Unread)
label_unread place read fault is = rw is refl

-- a map over a range of numbers that is one longer
pub range_more : {X : Type 0} (f : ℕ → X) (first n next : ℕ) → next ≡ first + n → map f (range_with_len first (n + 1)) ≡ map f (range_with_len first n) ++ f next ∷ []
range_more f first zero next is = let same : first ≡ next = omega (arith, is) in rw same refl
range_more f first (suc n) next is =
    let k : suc n + 1 ≡ suc (n + 1) = omega arith in
    rw k (ap (λ more. f first ∷ more) (range_more f (first + 1) n next (omega (arith, is))))
