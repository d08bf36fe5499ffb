-- Positions of keys: a set of keys that all differ contains them in order.
use Rattle.lvm_volume.proofs.Prelude.{ℕ, Bool, true, false, cond, List, [], length, Option, Some, None, refl, sym, ap, ◌∙◌, arith, bytes_eq, nat_lt, position, unwrap_or, AllByRecursion, AllPairs, IsDistinct, list_any, position_or_len, ltb-false, map_push, prefix_len-le-length, bytes_eq-Decides, Values, Nothing, Section, Single, Several, keys_of, sections_of, keys_in, position_of, texts}
use Rattle.std.proofs.lemmas.Map.Made.{IsDistinct-from_AllPairs}
use Rattle.std.specs.Prelude.{◌≡◌, ◌≢◌, ◌≤◌, ◌∷◌, ◌++◌}
use denote.Ref.{Bor}

-- ---- a key that differs from those before it

same_test : (a b : List ℕ) (p q : Bool) → bytes_eq a b ≡ p → bytes_eq b a ≡ q → p ≡ q
same_test a b true false s t = let back : bytes_eq b a ≡ true = (bytes_eq-Decides b a).1 (sym ((bytes_eq-Decides a b).0 s)) in absurd cc
same_test a b false true s t = let back : bytes_eq a b ≡ true = (bytes_eq-Decides a b).1 (sym ((bytes_eq-Decides b a).0 t)) in absurd cc
same_test a b p q s t = refl

bytes_eq-sym : (a b : List ℕ) → bytes_eq a b ≡ bytes_eq b a
bytes_eq-sym a b = same_test a b (bytes_eq a b) (bytes_eq b a) refl refl

at_middle : (P : List ℕ → Type 0) (done : List (List ℕ)) (key : List ℕ) (rest : List (List ℕ)) → AllByRecursion P (done ++ key ∷ rest) → P key
at_middle P [] key rest h = h.0
at_middle P (k ∷ done) key rest h = at_middle P done key rest h.1

pub none_before : (done : List (List ℕ)) (key : List ℕ) (rest : List (List ℕ)) → IsDistinct bytes_eq (done ++ key ∷ rest) → list_any (bytes_eq key) done ≡ false
unfolding IsDistinct
none_before [] key rest distinct = refl
none_before (k ∷ done) key rest distinct =
    let other : bytes_eq key k ≡ false = bytes_eq-sym key k ∙ at_middle (λ y. bytes_eq k y ≡ false) done key rest distinct.0 in
    rw other (none_before done key rest distinct.1)

-- ---- the keys that hold sections are among all keys

all_sections : (P : List ℕ → Type 0) (v : Values) → AllByRecursion P (keys_of v) → AllByRecursion P (keys_in (sections_of v))
all_sections P Nothing h = tt
all_sections P (Section k n inner rest) h = (h.0, all_sections P rest h.1)
all_sections P (Single k n s rest) h = all_sections P rest h.1
all_sections P (Several k n ss rest) h = all_sections P rest h.1

sections_distinct : (v : Values) → IsDistinct bytes_eq (keys_of v) → IsDistinct bytes_eq (keys_in (sections_of v))
unfolding IsDistinct
sections_distinct Nothing distinct = tt
sections_distinct (Section k n inner rest) distinct = (all_sections (λ y. bytes_eq k y ≡ false) rest distinct.0, sections_distinct rest distinct.1)
sections_distinct (Single k n s rest) distinct = sections_distinct rest distinct.1
sections_distinct (Several k n ss rest) distinct = sections_distinct rest distinct.1

pub sections_differ : (v : Values) → AllPairs (λ j k. j ≢ k) (keys_of v) → IsDistinct bytes_eq (keys_in (sections_of v))
sections_differ v differ = sections_distinct v (IsDistinct-from_AllPairs bytes_eq-Decides (keys_of v) differ)

-- ---- a set of keys as it is built

any_texts : (key : List ℕ) (ks : List (Bor (List ℕ))) → list_any (λ k. bytes_eq key k.now) ks ≡ list_any (bytes_eq key) (texts ks)
any_texts key [] = refl
any_texts key (k ∷ ks) = rw (any_texts key ks)

-- a key that isn't in the set is added at its end
pub added : (key : Bor (List ℕ)) (old new : List (Bor (List ℕ))) → new ≡ cond (list_any (λ k. bytes_eq key.now k.now) old) old (old ++ key ∷ []) → list_any (bytes_eq key.now) (texts old) ≡ false → texts new ≡ texts old ++ key.now ∷ []
added key old new is none =
    ap texts (rw (is, any_texts key.now old, none)) ∙ map_push (λ (text : Bor (List ℕ)). text.now) old key

position_texts : (key : List ℕ) (ks : List (Bor (List ℕ))) → position_or_len (λ k. bytes_eq key k.now) ks ≡ position_or_len (bytes_eq key) (texts ks)
position_texts key [] = refl
position_texts key (k ∷ ks) = rw (position_texts key ks)

by_test : (b : Bool) (n len : ℕ) → nat_lt n len ≡ b → n ≤ len → unwrap_or (cond b (Some n) None) len ≡ n
by_test true n len e within = refl
by_test false n len e within = omega (arith, ltb-false n len e)

-- the position found for a key, or else the number of keys, is its position
pub position_is : (key : List ℕ) (ks : List (Bor (List ℕ))) (found : Option ℕ) → found ≡ position (λ k. bytes_eq key k.now) ks → unwrap_or found (length ks) ≡ position_of (texts ks) key
position_is key ks found is =
    let position = position_or_len (λ (k : Bor (List ℕ)). bytes_eq key k.now) ks in
    rw is (by_test (nat_lt position (length ks)) position (length ks) refl (prefix_len-le-length _ ks) ∙ position_texts key ks)
