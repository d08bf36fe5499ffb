-- Lemmas about lists, options and results that the proofs of several crates use.
use Rattle.dm_table.proofs.Prelude.{ℕ, zero, suc, List, [], Option, Some, None, Result, Ok, Err, OnOk, refl, subst, OnErr, option_map, slice_get, AllByRecursion}
use Rattle.std.specs.Prelude.{◌≡◌, ◌∷◌, ◌++◌}

-- ---- lemmas about lists

-- if two lists joined are empty, both are empty
pub append-nil_both : {X : Type 0} (xs ys : List X) → xs ++ ys ≡ [] → (xs ≡ []) × (ys ≡ [])
append-nil_both [] ys e = (refl, e)
append-nil_both (x ∷ xs) ys e = absurd cc

-- what holds of all elements of two lists joined holds of all elements of each, and conversely

pub all_parts : {X : Type 0} (P : X → Type 0) (xs ys : List X) → AllByRecursion P (xs ++ ys) → AllByRecursion P xs × AllByRecursion P ys
all_parts P [] ys h = (tt, h)
all_parts P (x ∷ xs) ys h = let parts = all_parts P xs ys h.1 in ((h.0, parts.0), parts.1)

pub all_front : {X : Type 0} (P : X → Type 0) (xs ys : List X) → AllByRecursion P (xs ++ ys) → AllByRecursion P xs
all_front P xs ys h = (all_parts P xs ys h).0

pub all_append : {X : Type 0} (P : X → Type 0) (xs ys : List X) → AllByRecursion P xs → AllByRecursion P ys → AllByRecursion P (xs ++ ys)
all_append P [] ys h k = k
all_append P (x ∷ xs) ys h k = (h.0, all_append P xs ys h.1 k)

-- if P implies Q, and P holds of all elements, Q holds of all elements
pub all_changed : {X : Type 0} (P Q : X → Type 0) (xs : List X) → ((x : X) → P x → Q x) → AllByRecursion P xs → AllByRecursion Q xs
all_changed P Q [] change each = tt
all_changed P Q (x ∷ xs) change each = (change x each.0, all_changed P Q xs change each.1)

-- what holds of all elements holds of the element at index i
pub at_index : {X : Type 0} (P : X → Type 0) (xs : List X) (i : ℕ) (x : X) → AllByRecursion P xs → slice_get xs i ≡ Some x → P x
at_index P [] i x each e = absurd cc
at_index P (y ∷ ys) zero x each e = let same : y ≡ x = cc in subst P same each.0
at_index P (y ∷ ys) (suc i) x each e = at_index P ys i x each.1 e

-- ---- lemmas about options and results

-- if an option is Some after a map, it was Some before
pub mapped : {X Y : Type 0} (f : X → Y) (o : Option X) (y : Y) → option_map f o ≡ Some y → (x : X) × (o ≡ Some x) × (f x ≡ y)
mapped f None y e = absurd cc
mapped f (Some x) y e = (x, refl, cc)

-- a fact that always holds also holds if the result is Ok
pub on_ok : {T E : Type 0} (r : Result T E) (P : Type 0) → P → OnOk r P
on_ok (Ok x) P fact = fact
on_ok (Err e) P fact = tt

pub on_err : {T E : Type 0} (r : Result T E) (P : Type 0) → P → OnErr r P
on_err (Ok x) P fact = tt
on_err (Err e) P fact = fact
