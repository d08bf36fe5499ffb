-- Elements of filtered lists and of joined lists.
use Rattle.dm_stack.proofs.Prelude.{ℕ, zero, suc, Bool, true, false, cond, inl, inr, List, [], Some, arith, refl, sym, ap, ◌∙◌, filter, find, not, Contains, flat_map, list_any, position_or_len, range_with_len, All-contains, All-contains_itself, All-filter, Contains-append_cases, Contains-append_left, Contains-append_right, filter_passes, not-false, prefix_len_stops, find_at, list_any-from_Any, get_or_from_slice_get, slice_get_within, get_or-range_with_len, length-range_with_len}
use Rattle.std.specs.Prelude.{◌≡◌, ◌<◌, ◌∷◌}

pub only : {X : Type 0} (x y : X) → Contains (y ∷ []) x → y ≡ x
only x y (zero, below, is) = is
only x y (suc k, below, is) = absurd (omega (arith, below))

pub only_there : {X : Type 0} (x y : X) → y ≡ x → Contains (y ∷ []) x
only_there x y is = (zero, omega arith, is)

pub none_there : {X : Type 0} (x : X) → Contains [] x → ⊥
none_there x (k, below, is) = omega (arith, below)

-- Elements that pass a test

kept_by : {X : Type 0} (x y : X) (rest : List X) (b : Bool) → Contains rest x → Contains (cond b (y ∷ rest) rest) x
kept_by x y rest true named = Contains-append_right (y ∷ []) rest x named
kept_by x y rest false named = named

pub kept : {X : Type 0} (p : X → Bool) (xs : List X) (x : X) → p x ≡ true → Contains xs x → Contains (filter p xs) x
kept p [] x passes named = absurd (none_there x named)
kept p (y ∷ ys) x passes (zero, below, is) = let yes : p y ≡ true = ap p is ∙ passes in rw yes (zero, omega arith, is)
kept p (y ∷ ys) x passes (suc k, below, is) = kept_by x y (filter p ys) (p y) (kept p ys x passes (k, omega (arith, below), is))

pub kept_parts : {X : Type 0} (p : X → Bool) (xs : List X) (x : X) → Contains (filter p xs) x → Contains xs x × (p x ≡ true)
kept_parts p xs x named = (
  All-contains (Contains xs) (filter p xs) x (All-filter p (Contains xs) xs (All-contains_itself xs)) named,
  All-contains (λ y. p y ≡ true) (filter p xs) x (filter_passes p xs) named,
)

-- an element that a search finds is in the list and passes the test
pub found_there : {X : Type 0} (p : X → Bool) (xs : List X) (x : X) → find p xs ≡ Some x → Contains xs x × (p x ≡ true)
found_there p xs x is =
    let at = sym (find_at p xs) ∙ is in
    let within = slice_get_within xs _ x at in
    let same = get_or_from_slice_get xs _ x x at in
    ((position_or_len p xs, within, same), rw same at (not-false _ (prefix_len_stops (λ y. not (p y)) xs x within)))

-- some element passes the test if this one does
pub any_there : {X : Type 0} (p : X → Bool) (xs : List X) (x : X) → Contains xs x → p x ≡ true → list_any p xs ≡ true
any_there p xs x named passes = list_any-from_Any p xs (named.0, x, named.1, named.2, passes)

-- Elements of lists that are joined, one for each element of another list

pub record IsGiven {X Y : Type 0} (give : X → List Y) (xs : List X) (y : Y) : Type 0 where
  pub by : X
  pub there : Contains xs by
  pub given : Contains (give by) y

pub flat_part : {X Y : Type 0} (give : X → List Y) (xs : List X) (y : Y) → Contains (flat_map give xs) y → IsGiven give xs y
flat_part give [] y named = absurd (none_there y named)
flat_part give (x ∷ xs) y named = elim (Contains-append_cases (give x) (flat_map give xs) y named) [
  | inl here ↦ record { by = x; there = (zero, omega arith, refl); given = here }
  | inr later ↦ let rest = flat_part give xs y later in record { by = rest.by; there = Contains-append_right (x ∷ []) xs rest.by rest.there; given = rest.given }
]

pub flat_there : {X Y : Type 0} (give : X → List Y) (xs : List X) (x : X) (y : Y) → Contains xs x → Contains (give x) y → Contains (flat_map give xs) y
flat_there give [] x y named given = absurd (none_there x named)
flat_there give (first ∷ xs) x y (zero, below, is) given = Contains-append_left (give first) (flat_map give xs) y (rw is given)
flat_there give (first ∷ xs) x y (suc k, below, is) given = Contains-append_right (give first) (flat_map give xs) y (flat_there give xs x y (k, omega (arith, below), is) given)

-- Numbers from 0 on

pub in_range : (n x : ℕ) → x < n → Contains (range_with_len 0 n) x
in_range n x below = (x, omega (arith, below, length-range_with_len 0 n), get_or-range_with_len 0 n x x below ∙ omega arith)

pub range_within : (n x : ℕ) → Contains (range_with_len 0 n) x → x < n
range_within n x (k, below, is) =
    let within : k < n = omega (arith, below, length-range_with_len 0 n) in
    let at = get_or-range_with_len 0 n k x within in
    omega (arith, within, is, at)
