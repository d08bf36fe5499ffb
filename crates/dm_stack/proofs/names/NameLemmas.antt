-- Names and their indexes: how a set compares them, and which occur twice.
use Rattle.dm_stack.proofs.Prelude.{ℕ, zero, suc, Bool, true, false, List, [], Option, Some, None, Err, String, arith, refl, sym, ap, ◌∙◌, cond, drop, get_or, length, map, take, nat_lt, position, slice_get, string_bytes, unwrap_or, IsDistinct, list_any, position_or_len, length-map, map-append, take_more, fun_ext, lt-ltb, IsDistinct-head, IsDistinct-tail, slice_get-map, slice_get_within, prefix_len-le-length, bytes_eq-Decides, Place, LoadFault, Memory, Twice, fault, faults_by, IsMemoryFault, first_or, unless, is_same, is_repeated, with_before, at_index, mapped}
use Rattle.std.proofs.lemmas.Cmp.{nat_list_eq_equiv}
use Rattle.dm_table.specs.declared.load.place.Part.{Part}
use Rattle.dm_stack.proofs.lines.SpanLemmas.{any_map}
use Rattle.dm_stack.proofs.SoundLines.{position-map}
use Rattle.dm_stack.proofs.checks.WithBefore.{drop-with_before, none-with_before}
use Rattle.std.specs.Prelude.{◌≡◌, ◌≢◌, ◌+◌, ◌<◌, ◌≤◌, ◌∷◌, ◌++◌}

pub is_same-sym : (a b : List ℕ) → is_same a b ≡ is_same b a
is_same-sym a b = nat_list_eq_equiv.symm a b

-- A set's tests of its names, as tests of their bytes

pub position_names : {A : Type 0} (name : List ℕ) (keys : List (String A)) → position (λ key. is_same name (string_bytes key)) keys ≡ position (λ other. is_same other name) (map string_bytes keys)
position_names name keys =
    sym
    (position-map string_bytes (λ (other : List ℕ). is_same other name) keys
    ∙ ap (λ (test : _ → Bool). position test keys) (fun_ext (λ key. is_same-sym (string_bytes key) name)))

pub any_names : {A : Type 0} (name : List ℕ) (keys : List (String A)) → list_any (λ key. is_same name (string_bytes key)) keys ≡ list_any (λ other. is_same other name) (map string_bytes keys)
any_names name keys =
    sym
    (any_map (λ (other : List ℕ). is_same other name) string_bytes keys
    ∙ ap (λ (test : _ → Bool). list_any test keys) (fun_ext (λ key. is_same-sym (string_bytes key) name)))

-- the index of a name among names that are all different
place_distinct : {A : Type 0} (name : List ℕ) (keys : List (String A)) (number : ℕ) (key : String A) → IsDistinct (λ one other. is_same (string_bytes one) (string_bytes other)) keys → slice_get keys number ≡ Some key → string_bytes key ≡ name
    → position_or_len (λ other. is_same other name) (map string_bytes keys) ≡ number
place_distinct name [] number key apart at is = absurd cc
place_distinct name (first ∷ keys) zero key apart at is =
    let same : is_same (string_bytes first) name ≡ true = (bytes_eq-Decides (string_bytes first) name).1 cc in rw same refl
place_distinct name (first ∷ keys) (suc number) key apart at is =
    let other : is_same (string_bytes first) name ≡ false = rw (← is) (at_index (λ one. is_same (string_bytes first) (string_bytes one) ≡ false) keys number key (IsDistinct-head _ first keys apart) at) in
    rw (other, place_distinct name keys number key (IsDistinct-tail _ first keys apart) at is) (omega arith)

pub found_distinct : {A : Type 0} (name : List ℕ) (keys : List (String A)) (number : ℕ) (key : String A) → IsDistinct (λ one other. is_same (string_bytes one) (string_bytes other)) keys → slice_get keys number ≡ Some key → string_bytes key ≡ name
    → position (λ other. is_same other name) (map string_bytes keys) ≡ Some number
found_distinct name keys number key apart at is =
    let below : number < length (map string_bytes keys) = rw (length-map keys string_bytes) (slice_get_within keys number key at) in
    rw (place_distinct name keys number key apart at is, lt-ltb number (length (map string_bytes keys)) below) refl

-- the name at an index is found at that index, if all names are different
pub named_distinct : {A : Type 0} (name : List ℕ) (keys : List (String A)) (number : ℕ) → IsDistinct (λ one other. is_same (string_bytes one) (string_bytes other)) keys → slice_get (map string_bytes keys) number ≡ Some name
    → position (λ other. is_same other name) (map string_bytes keys) ≡ Some number
named_distinct name keys number apart at =
    let key = mapped string_bytes (slice_get keys number) name (sym (slice_get-map string_bytes keys number) ∙ at) in
    found_distinct name keys number key.0 apart key.1 key.2

-- Names that occur twice

-- the name is among those added so far
abbrev pub seen_in : List ℕ → List (List ℕ) → Bool
seen_in name names = list_any (λ other. is_same other name) names

pub names_more : {X : Type 0} (own : X → List ℕ) (xs : List X) (i : ℕ) (x : X) → i < length xs → x ≡ get_or xs i x → map own (take (i + 1) xs) ≡ map own (take i xs) ++ own x ∷ []
names_more {X} own xs i x within is =
    rw is (ap (map own) (take_more xs i x within) ∙ map-append own (take i xs) (get_or xs i x ∷ []))

-- the elements from index i on whose name an earlier element has
abbrev pub twice_from : {X : Type 0} → (X → List ℕ) → (X → Place) → List X → ℕ → List LoadFault
twice_from own place xs i = faults_by Twice (λ x. place x.it) (is_repeated own) (drop i (with_before xs))

repeated_at : {X : Type 0} (own : X → List ℕ) (xs : List X) (i : ℕ) (x : X) (names : List (List ℕ)) (seen : Bool) → names ≡ map own (take i xs) → seen_in (own x) names ≡ seen → is_repeated own (record { before = take i xs; it = x }) ≡ seen
repeated_at own xs i x names seen all is = sym (any_map (λ other. is_same other (own x)) own (take i xs)) ∙ ap (seen_in (own x)) (sym all) ∙ is

-- the next element is at fault if its name is among those before it, and not otherwise
pub stands_twice : {X : Type 0} (own : X → List ℕ) (place : X → Place) (xs : List X) (i : ℕ) (x : X) (names : List (List ℕ)) → i < length xs → x ≡ get_or xs i x → names ≡ map own (take i xs) → seen_in (own x) names ≡ true → first_or (twice_from own place xs i) None ≡ Some (fault Twice (place x))
stands_twice own place xs i x names within is all seen = rw (drop-with_before xs i x within is, repeated_at own xs i x names true all seen)

pub stands_once : {X : Type 0} (own : X → List ℕ) (place : X → Place) (xs : List X) (i : ℕ) (x : X) (names : List (List ℕ)) → i < length xs → x ≡ get_or xs i x → names ≡ map own (take i xs) → seen_in (own x) names ≡ false → twice_from own place xs (i + 1) ≡ twice_from own place xs i
stands_once own place xs i x names within is all seen = rw (drop-with_before xs i x within is, repeated_at own xs i x names false all seen)

-- past the last element, none has the name of an earlier one
pub stands_nowhere : {X : Type 0} (own : X → List ℕ) (place : X → Place) (xs : List X) (i : ℕ) → length xs ≤ i → twice_from own place xs i ≡ []
stands_nowhere own place xs i past = let none = none-with_before xs i past in rw none

-- the fault returned for a name that occurs twice
pub refused_twice : {Y : Type 0} (part : Part) (place : Place) (found : Option LoadFault) (value : Y) → found ≡ Some (fault Twice place) → (Twice ≡ Memory → IsMemoryFault part (fault Twice place)) × (Twice ≢ Memory → unless found value ≡ Err (fault Twice place))
refused_twice {Y} part place found value e = (λ memory. absurd cc, λ other. cc)

-- Looking names up, for the elements that have them

or_end : (end place : ℕ) → place ≤ end → unwrap_or (cond (nat_lt place end) (Some place) None) end ≡ place
or_end end place most = grind (arith, most)

-- the index of a name in the list of names, or else its length, is that of the first element with the name
pub place_of_name : {X : Type 0} (own : X → List ℕ) (name : List ℕ) (xs : List X) (names : List (List ℕ)) (place : Option ℕ) → names ≡ map own xs → place ≡ position (λ other. is_same other name) names → unwrap_or place (length xs) ≡ position_or_len (λ x. is_same (own x) name) xs
place_of_name own name xs names place e found =
    rw (found, e, position-map own (λ (other : List ℕ). is_same other name) xs) (or_end (length xs) (position_or_len (λ x. is_same (own x) name) xs) (prefix_len-le-length _ xs))
