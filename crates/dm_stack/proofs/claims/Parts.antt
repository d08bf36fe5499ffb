-- Relations between any two elements of a joined list: two elements for which the relation fails are at one index.
use Rattle.dm_stack.proofs.Prelude.{ℕ, zero, suc, inl, inr, Bool, List, [], Some, length, refl, sym, ap, ◌∙◌, arith, find, slice_get, AllPairs, flat_map, position_or_len, range_with_len, cases_order, find_at, get_or-range_with_len, length-range_with_len, get_or_from_slice_get, slice_get-get_or, slice_get_within}
use Rattle.dm_stack.proofs.checks.FirstFaults.{get_after, get_front}
use Rattle.std.specs.Prelude.{◌≡◌, ◌+◌, ◌<◌, ◌∷◌, ◌++◌}

-- the relation holds for any two elements, the one with the smaller index first
abbrev pub PairsAt : {X : Type 0} → (X → X → Type 0) → List X → Type 0
PairsAt {X} R xs = (i j : ℕ) (a b : X) → slice_get xs i ≡ Some a → slice_get xs j ≡ Some b → i < j → R a b

pub pairs_at : {X : Type 0} (R : X → X → Type 0) (xs : List X) → AllPairs R xs → PairsAt R xs
pairs_at {X = X} R xs pairs i j a b at on less =
    let held = pairs i j a less (slice_get_within xs j b on) in
    rw (← get_or_from_slice_get xs i a a at, ← get_or_from_slice_get xs j b a on) held

-- two elements for which the relation holds in neither order are at the same index
pub same_place : {X : Type 0} (R : X → X → Type 0) (xs : List X) (i j : ℕ) (a b : X) → PairsAt R xs → slice_get xs i ≡ Some a → slice_get xs j ≡ Some b → (R a b → ⊥) → (R b a → ⊥) → i ≡ j
same_place R xs i j a b pairs at on never neither = elim (cases_order i j) [
  | inl same ↦ same
  | inr (inl less) ↦ absurd (never (pairs i j a b at on less))
  | inr (inr more) ↦ absurd (neither (pairs j i b a on at more))
]

-- Indexes in two joined lists

pub get_left : {X : Type 0} (us vs : List X) (i : ℕ) (a : X) → slice_get us i ≡ Some a → slice_get (us ++ vs) i ≡ Some a
get_left us vs i a at = get_front us vs i (slice_get_within us i a at) ∙ at

pub get_right : {X : Type 0} (us vs : List X) (i : ℕ) (a : X) → slice_get vs i ≡ Some a → slice_get (us ++ vs) (length us + i) ≡ Some a
get_right us vs i a at = get_after us vs i ∙ at

pairs_left : {X : Type 0} (R : X → X → Type 0) (us vs : List X) → PairsAt R (us ++ vs) → PairsAt R us
pairs_left R us vs pairs i j a b at on less = pairs i j a b (get_left us vs i a at) (get_left us vs j b on) less

pairs_right : {X : Type 0} (R : X → X → Type 0) (us vs : List X) → PairsAt R (us ++ vs) → PairsAt R vs
pairs_right R us vs pairs i j a b at on less = pairs (length us + i) (length us + j) a b (get_right us vs i a at) (get_right us vs j b on) (omega (arith, less))

pairs_across : {X : Type 0} (R : X → X → Type 0) (us vs : List X) (i j : ℕ) (a b : X) → PairsAt R (us ++ vs) → slice_get us i ≡ Some a → slice_get vs j ≡ Some b → R a b
pairs_across R us vs i j a b pairs at on = pairs i (length us + j) a b (get_left us vs i a at) (get_right us vs j b on) (let within = slice_get_within us i a at in omega (arith, within))

-- Indexes in a list joined from many parts

pub part_there : {X Y : Type 0} (f : X → List Y) (xs : List X) (p k : ℕ) (x : X) (a : Y) → slice_get xs p ≡ Some x → slice_get (f x) k ≡ Some a → (n : ℕ) × (slice_get (flat_map f xs) n ≡ Some a)
part_there f [] p k x a at on = absurd cc
part_there {X = X} f (first ∷ xs) zero k x a at on =
    let same : x ≡ first = cc in (k, get_left (f first) (flat_map f xs) k a (rw same at on))
part_there f (first ∷ xs) (suc p) k x a at on =
    let later = part_there f xs p k x a at on in (length (f first) + later.0, get_right (f first) (flat_map f xs) later.0 a later.1)

pub pairs_part : {X Y : Type 0} (R : Y → Y → Type 0) (f : X → List Y) (xs : List X) (p : ℕ) (x : X) → PairsAt R (flat_map f xs) → slice_get xs p ≡ Some x → PairsAt R (f x)
pairs_part R f [] p x pairs at = absurd cc
pairs_part {X = X} R f (first ∷ xs) zero x pairs at = let same : first ≡ x = cc in rw (← same) (pairs_left R (f first) (flat_map f xs) pairs)
pairs_part R f (first ∷ xs) (suc p) x pairs at = pairs_part R f xs p x (pairs_right R (f first) (flat_map f xs) pairs) at

pub same_part : {X Y : Type 0} (R : Y → Y → Type 0) (f : X → List Y) (xs : List X) (p q k l : ℕ) (x y : X) (a b : Y) → PairsAt R (flat_map f xs) → slice_get xs p ≡ Some x → slice_get xs q ≡ Some y → slice_get (f x) k ≡ Some a → slice_get (f y) l ≡ Some b
    → (R a b → ⊥) → (R b a → ⊥) → p ≡ q
same_part R f [] p q k l x y a b pairs at on in_x in_y never neither = absurd cc
same_part R f (first ∷ xs) zero zero k l x y a b pairs at on in_x in_y never neither = refl
same_part {X = X} R f (first ∷ xs) zero (suc q) k l x y a b pairs at on in_x in_y never neither =
    let same : x ≡ first = cc in let later = part_there f xs q l y b on in_y in
    absurd (never (pairs_across R (f first) (flat_map f xs) k later.0 a b pairs (rw same at in_x) later.1))
same_part {X = X} R f (first ∷ xs) (suc p) zero k l x y a b pairs at on in_x in_y never neither =
    let same : y ≡ first = cc in let later = part_there f xs p k x a at in_x in
    absurd (neither (pairs_across R (f first) (flat_map f xs) l later.0 b a pairs (rw same at in_y) later.1))
same_part R f (first ∷ xs) (suc p) (suc q) k l x y a b pairs at on in_x in_y never neither =
    ap suc (same_part R f xs p q k l x y a b (pairs_right R (f first) (flat_map f xs) pairs) at on in_x in_y never neither)

-- Indexes in a range of numbers, and of the element that a search finds

pub number_at : (count i : ℕ) → i < count → slice_get (range_with_len 0 count) i ≡ Some i
number_at count i below =
    slice_get-get_or (range_with_len 0 count) i 0 (let long = length-range_with_len 0 count in omega (arith, long, below))
    ∙ ap Some (get_or-range_with_len 0 count i 0 below ∙ (let e : 0 + i ≡ i = omega arith in e))

pub found_place : {X : Type 0} (test : X → Bool) (xs : List X) (x : X) → find test xs ≡ Some x → (p : ℕ) × (slice_get xs p ≡ Some x)
found_place test xs x is = (position_or_len test xs, sym (find_at test xs) ∙ is)
