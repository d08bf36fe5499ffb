-- Lists of pairs: their length, and the effect of one more pair.
use Rattle.dm_store.proofs.Prelude.{inl, inr, ℕ, zero, suc, Bool, true, false, cond, [], refl, sym, arith, is_some, le-suc_iff, and-false, Pair, Store, each, count_of, old_chunks, next_fault, list_fault, fault_of, is_any_again, is_placed, is_near, number_in}
use Rattle.std.specs.Prelude.{◌≡◌, ◌+◌, ◌<◌, ◌≤◌, ◌∷◌, ◌++◌, ◌&&◌, ◌||◌}

-- the test passes for one more number
pub each_more : (p : ℕ → Bool) (n : ℕ) → each p n ≡ true → p n ≡ true → each p (n + 1) ≡ true
unfolding each
each_more p n e h = let k : n + 1 ≡ suc n = omega arith in rw (k, e, h) refl

-- if the test fails for n, it doesn't pass for all numbers below a greater m
pub each_stop : (p : ℕ → Bool) (n m : ℕ) → p n ≡ false → n < m → each p m ≡ false
unfolding each
each_stop p n zero h below = absurd (omega (arith, below))
each_stop p n (suc m) h below = elim (le-suc_iff.0 below) as (λ _. (each p m && p m) ≡ false) [
  | inl less ↦ rw (each_stop p n m h less) refl
  | inr same ↦ let k : m ≡ n = omega (arith, same) in rw (k, h) (and-false (each p n))
]

pub count_full : (p : ℕ → Bool) (most : ℕ) → each p most ≡ true → count_of p most ≡ most
unfolding count_of
count_full p zero e = refl
count_full p (suc most) e = rw e refl

pub count_stop : (p : ℕ → Bool) (n most : ℕ) → each p n ≡ true → p n ≡ false → n ≤ most → count_of p most ≡ n
unfolding count_of
count_stop p n zero e h within = omega (arith, within)
count_stop p n (suc most) e h within = elim (le-suc_iff.0 within) as (λ _. cond (each p (suc most)) (suc most) (count_of p most) ≡ n) [
  | inl less ↦ rw (each_stop p n (suc most) h (omega (arith, less))) (count_stop p n most e h less)
  | inr same ↦ let full : each p (suc most) ≡ true = rw (sym same) e in rw full (sym same)
]

-- the fault of a list with one more pair
fault_next : (placed near again p n a : Bool) → fault_of (placed && p) (near && n) (again || a) ≡ next_fault p n a (fault_of placed near again)
fault_next false near again true n a = refl
fault_next true false again true true a = refl
fault_next true true again true false a = elim again as (λ x. fault_of true false (x || a) ≡ next_fault true false a (fault_of true true x)) [ true ↦ refl | false ↦ refl ]
fault_next true true true true true a = refl
fault_next placed near again p n a = refl

pub fault_more : (store : Store) (pairs : ℕ → Pair) (n : ℕ) →
    list_fault store pairs (n + 1) ≡ next_fault (is_placed store n (pairs n)) (is_near store (pairs n)) (is_some (number_in (pairs n).old (old_chunks pairs n))) (list_fault store pairs n)
unfolding each is_any_again
fault_more store pairs n =
    let k : n + 1 ≡ suc n = omega arith in
    rw k (fault_next (each (λ i. is_placed store i (pairs i)) n) (each (λ i. is_near store (pairs i)) n) (is_any_again pairs n) (is_placed store n (pairs n)) (is_near store (pairs n)) (is_some (number_in (pairs n).old (old_chunks pairs n))))

pub old_more : (pairs : ℕ → Pair) (n : ℕ) → old_chunks pairs (n + 1) ≡ old_chunks pairs n ++ (pairs n).old ∷ []
unfolding old_chunks
old_more pairs n = let k : n + 1 ≡ suc n = omega arith in rw k refl
