-- Lemmas about the first result of a search.
use Rattle.lvm_head.proofs.Prelude.{inl, inr, ℕ, zero, suc, Option, Some, None, refl, arith, le-suc_iff, earlier, first_found}
use Rattle.std.specs.Prelude.{◌≡◌, ◌+◌, ◌<◌}

pub found_none : {X : Type 0} (has : ℕ → Option X) → first_found has 0 ≡ None
unfolding first_found
found_none has = refl

-- if numbers below n have no result and n has none, numbers below n + 1 have none
pub none_more : {X : Type 0} (has : ℕ → Option X) (n : ℕ) → first_found has n ≡ None → has n ≡ None → first_found has (n + 1) ≡ None
unfolding first_found
none_more has n before here = let k : n + 1 ≡ suc n = omega arith in rw (k, before, here) refl

-- if numbers below n have no result and n has one, that is the first one
pub found_at : {X : Type 0} (has : ℕ → Option X) (n m : ℕ) (x : X) → first_found has n ≡ None → has n ≡ Some x → n < m → first_found has m ≡ Some x
unfolding first_found
found_at has n zero x before here below = absurd (omega (arith, below))
found_at has n (suc m) x before here below = elim (le-suc_iff.0 below) as (λ _. earlier (first_found has m) (has m) ≡ Some x) [
  | inl less ↦ rw (found_at has n m x before here less) refl
  | inr same ↦ let k : m ≡ n = omega (arith, same) in rw (k, before, here) refl
]
