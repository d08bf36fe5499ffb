-- Lists in which no two elements pass a test, in whatever order they are.
use Rattle.dm_stack.proofs.Prelude.{inl, inr, ℕ, zero, suc, Bool, true, false, cond, List, [], refl, sym, ap, subst, ◌∙◌, arith, get_or, length, AllPairs, list_any, swap, IsPermutation, eqb-true, eqb-false, or_parts, append-nil, append_assoc, get_or_append_left, length-append, get_or-append_seam, length-swap, swapped_from_swap, list_any_none, all_pairs_push, IsPermutation-keeps, has_pair}
use Rattle.std.specs.Prelude.{◌≡◌, ◌⊎◌, ◌<◌, ◌∷◌, ◌++◌, ◌==◌}

-- no elements at two different indexes pass the test
pub record HasNoPair {X : Type 0} (test : X → X → Bool) (xs : List X) : Type 0 where
  pub at : (i j : ℕ) (d : X) → i < length xs → j < length xs → (i ≡ j → ⊥) → test (get_or xs i d) (get_or xs j d) ≡ false

-- the index at which an element was before the elements at i and j were swapped
abbrev stood : (i j now : ℕ) → ℕ
stood i j now = cond (now == i) j (cond (now == j) i now)

stood_apart : (i j p q : ℕ) → (p ≡ q → ⊥) → stood i j p ≡ stood i j q → ⊥
stood_apart i j p q apart same = grind (arith, apart, same)

stood_within : (i j p n : ℕ) → i < n → j < n → p < n → stood i j p < n
stood_within i j p n a b within = grind (arith, a, b, within)

before_swap : {X : Type 0} (xs : List X) (i j now : ℕ) (d : X) → i < length xs → j < length xs → get_or (swap xs i j) now d ≡ get_or xs (stood i j now) d
before_swap xs i j now d p q = by (now == i) (now == j) refl refl
  where
    by : (a b : Bool) → (now == i) ≡ a → (now == j) ≡ b → get_or (swap xs i j) now d ≡ get_or xs (cond a j (cond b i now)) d
    by true b e f = let same = eqb-true now i e in rw same (swapped_from_swap xs (swap xs i j) i j d p q refl).0
    by false true e f = let same = eqb-true now j f in rw same (swapped_from_swap xs (swap xs i j) i j d p q refl).1
    by false false e f = (swapped_from_swap xs (swap xs i j) i j d p q refl).2 now (eqb-false now i e) (eqb-false now j f)

no_pair_swapped : {X : Type 0} (test : X → X → Bool) (xs : List X) (i j : ℕ) → i < length xs → j < length xs → HasNoPair test xs → HasNoPair test (swap xs i j)
no_pair_swapped test xs i j p q none = record {
  at = λ a b d in_a in_b apart.
      let long = length-swap xs i j in
      rw (before_swap xs i j a d p q, before_swap xs i j b d p q)
      (none.at (stood i j a) (stood i j b) d (stood_within i j a (length xs) p q (omega (arith, long))) (stood_within i j b (length xs) p q (omega (arith, long))) (stood_apart i j a b apart));
}

-- if no two elements pass the test, none do in any other order of the list
pub no_pair_moved : {X : Type 0} (test : X → X → Bool) (xs ys : List X) → IsPermutation xs ys → HasNoPair test xs → HasNoPair test ys
no_pair_moved test xs ys moved none = IsPermutation-keeps xs (HasNoPair test) none (λ l i j p q h. no_pair_swapped test l i j p q h) ys moved

-- Pairs in the order of the list

pub no_pair_from_pairs : {X : Type 0} (test : X → X → Bool) (xs : List X) → ((x y : X) → test x y ≡ test y x) → AllPairs (λ x y. test x y ≡ false) xs → HasNoPair test xs
no_pair_from_pairs test xs turns pairs = record {
  at = λ i j d p q apart. by i j d p q apart (grind (arith, apart));
}
  where
    by : (i j : ℕ) (d : _) → i < length xs → j < length xs → (i ≡ j → ⊥) → (i < j) ⊎ (j < i) → test (get_or xs i d) (get_or xs j d) ≡ false
    by i j d p q apart (inl less) = pairs i j d less q
    by i j d p q apart (inr more) = turns _ _ ∙ pairs j i d more p

pub pairs_from_no_pair : {X : Type 0} (test : X → X → Bool) (xs : List X) → HasNoPair test xs → AllPairs (λ x y. test x y ≡ false) xs
pairs_from_no_pair test xs none i j d less within = none.at i j d (omega arith) within (λ e. omega (arith, e))

pub none_before : {X : Type 0} (test : X → Bool) (xs : List X) → list_any test xs ≡ false → (k : ℕ) (d : X) → k < length xs → test (get_or xs k d) ≡ false
none_before test [] none k d within = absurd (omega arith)
none_before test (x ∷ xs) none zero d within = (or_parts _ _ none).0
none_before test (x ∷ xs) none (suc k) d within = none_before test xs (or_parts _ _ none).1 k d (omega arith)

pub pairs_from_search : {X : Type 0} (test : X → X → Bool) (before xs : List X) → has_pair test before xs ≡ false → AllPairs (λ x y. test x y ≡ false) before → AllPairs (λ x y. test x y ≡ false) (before ++ xs)
pairs_from_search test before [] none pairs = subst (AllPairs (λ x y. test x y ≡ false)) (sym (append-nil before)) pairs
pairs_from_search test before (x ∷ xs) none pairs =
    let parts = or_parts _ _ none in
    subst (AllPairs (λ x y. test x y ≡ false)) (append_assoc before (x ∷ []) xs)
    (pairs_from_search test (before ++ x ∷ []) xs parts.1 (all_pairs_push (λ x y. test x y ≡ false) before x pairs (none_before (λ earlier. test earlier x) before parts.0)))

pub search_from_pairs : {X : Type 0} (test : X → X → Bool) (before xs : List X) → AllPairs (λ x y. test x y ≡ false) (before ++ xs) → has_pair test before xs ≡ false
search_from_pairs test before [] pairs = refl
search_from_pairs test before (x ∷ xs) pairs =
    let here : list_any (λ earlier. test earlier x) before ≡ false = list_any_none (λ earlier. test earlier x) before (λ k d within.
    rw (← get_or_append_left before (x ∷ xs) d k within) (ap (test (get_or (before ++ x ∷ xs) k d)) (sym (get_or-append_seam before x xs d)) ∙ pairs k (length before) d within (omega (arith, length-append before (x ∷ xs))))) in
    let later = search_from_pairs test (before ++ x ∷ []) xs (subst (AllPairs (λ x y. test x y ≡ false)) (sym (append_assoc before (x ∷ []) xs)) pairs) in
    rw (here, later)
