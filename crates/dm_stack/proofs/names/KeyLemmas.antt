-- Keys of names: which of sixteen bytes are kept, and that a short name is determined by its key.
use Rattle.dm_stack.proofs.Prelude.{ℕ, zero, suc, not, cond, Bool, true, List, [], Some, get_or, length, take, drop, replicate, refl, sym, ap, ◌∙◌, arith, bit_and, All, list_any, slice_get, slice_range, take-append_seam, not-true, drop_more, take-append-drop, All-drop, All-same, All-take, All-weaker, and_le_r, and_mask, ArePlaces, IsKeyOf, IsPlaceOf}
use Rattle.std.specs.Prelude.{◌≡◌, ◌+◌, ◌-◌, ◌<◌, ◌∷◌, ◌++◌}
use lib.Lanes.{zip2}
use Rattle.dm_stack.specs.declared.names.name_index.Place.{Place}
use Rattle.dm_stack.specs.declared.names.name_key.NameKey.{NameKey}
use Rattle.dm_stack.proofs.claims.Parts.{get_left}

-- The bytes that are kept

pub and_kept : (bytes : List ℕ) (some none : ℕ) → length bytes ≡ some + none → ((i : ℕ) → get_or bytes i 0 < 256) → zip2 (λ a b. bit_and a b) bytes (replicate some 255 ++ replicate none 0) ≡ take some bytes ++ replicate none 0
and_kept [] some none long within = let no : some ≡ 0 = omega (arith, long) in let end : none ≡ 0 = omega (arith, long) in rw (no, end)
and_kept (byte ∷ bytes) (suc some) none long within =
    let rest = and_kept bytes some none (omega (arith, long)) (λ i. within (suc i)) in
    let same : bit_and byte 255 ≡ byte = omega (arith, and_mask byte 8, within 0) in
    rw (same, rest)
and_kept (byte ∷ bytes) zero (suc none) long within =
    let rest = and_kept bytes zero none (omega (arith, long)) (λ i. within (suc i)) in
    let no : bit_and byte 0 ≡ 0 = omega (arith, and_le_r byte 0) in
    rw (no, rest)
and_kept (byte ∷ bytes) zero zero long within = absurd (omega (arith, long))

-- Two names with one key

pub same_name : (one other : List ℕ) (key : NameKey) → IsKeyOf one key → IsKeyOf other key → one ≡ other
same_name one other key a b =
    let zeros = replicate (16 - key.len) 0 in
    sym (take-append_seam one zeros)
    ∙ ap (λ (n : ℕ). take n (one ++ zeros)) (sym a.len ∙ b.len)
    ∙ ap (take (length other)) (sym a.bytes ∙ b.bytes)
    ∙ take-append_seam other zeros

-- Parts of a list

-- a property of all elements holds for the elements of a part
pub part_of : {X : Type 0} (P : X → Type 0) (xs ahead part : List X) (from n : ℕ) → All P xs → ahead ≡ slice_range xs from (length xs) → part ≡ slice_range ahead 0 n → All P part
part_of P xs ahead part from n all is_ahead is_part =
    All-same P part (slice_range ahead 0 n) is_part
    (All-take P (n - 0) ahead
    (All-same P ahead (slice_range xs from (length xs)) is_ahead
    (All-take P (length xs - from) (drop from xs) (All-drop P from xs all))))

-- a text is the part before its space, the space, and the part after it
pub space_cut : (text : List ℕ) (len : ℕ) → len < length text → get_or text len 0 ≡ 32 → text ≡ take len text ++ 32 ∷ drop (len + 1) text
space_cut text len within is =
    rw (← (drop_more text len 0 within ∙ ap (λ (byte : ℕ). byte ∷ drop (len + 1) text) is)) (sym (take-append-drop len text))

-- Places of names

-- places stay valid when more names are added
pub places_more : (names more : List (List ℕ)) (places : List Place) → ArePlaces names places → ArePlaces (names ++ more) places
places_more names more places all =
    All-weaker (λ (place : Place). place.key.len < 16 → IsPlaceOf names place) (λ (place : Place). place.key.len < 16 → IsPlaceOf (names ++ more) place)
    (λ place of short. let is = of short in record { name = is.name; key = is.key; found = get_left names more place.number is.name is.found }) places all

pub last_of : (names : List (List ℕ)) (name : List ℕ) → slice_get (names ++ name ∷ []) (length names) ≡ Some name
last_of [] name = refl
last_of (first ∷ names) name = last_of names name

-- the keys of a set after a new one is added
pub key_added : {X : Type 0} (eq : X → X → Bool) (keys after : List X) (key : X) (new : Bool) → new ≡ true → new ≡ not (list_any (eq key) keys) → after ≡ cond (list_any (eq key) keys) keys (keys ++ key ∷ []) → after ≡ keys ++ key ∷ []
key_added eq keys after key new is added e = rw (not-true _ (sym added ∙ is)) at e
