-- Proof that reading a head gives exactly what the head spells.
use Rattle.lvm_head.proofs.Prelude.{inl, inr, ℕ, zero, suc, Bool, true, false, List, [], Option, Some, None, Result, Ok, Err, length, get_or, take, refl, sym, ap, subst, ◌∙◌, arith, nat_lt, not, All, Any, bytes_eq, le-suc_iff, take-suc, get_or-append_seam, eq-eqb, eqb-true, le-ltb, ltb-false, ne_eqb, not-false, or_parts, take-append-le, take_all, All-cons, All-nil, All-tail, bytes_eq-Decides, Area, HeadFault, Array, Differ, Header, Label, Long, Partitions, Text, ReadFault, earlier, first_found, Sectors, ◌>>=◌, needed, is_header, is_near, is_none, is_within, location_in, ring_place, Said, areas_text, same_text, areas_of, id_of, is_member, is_partitioned, is_sound, is_taken, label_in, label_of, or_no_label, undivided, HasBytes, IsEnded, IsTheLabel, IsUndivided, ReadsBack, SpellsArea, SpellsText, sum_of, area_text, byte_at, ended, gathered, ring_bytes, text_at}
use Rattle.std.proofs.lemmas.List.Elements.{All-head}
use Rattle.lvm_head.specs.declared.area.Location.{Location}
use Rattle.lvm_head.specs.Laws.IsEnded.{AtNul, AtNewline}
use Rattle.lvm_head.proofs.BoundLemmas.{bound, chosen, needed_ok, passed}
use Rattle.lvm_head.proofs.FoundLemmas.{found_at}
use Rattle.lvm_head.proofs.LabelLemmas.{label_found}
use Rattle.lvm_head.proofs.TextLemmas.{area_known, gathered_row}
use Rattle.std.specs.Prelude.{◌≡◌, ◌⊎◌, ◌+◌, ◌-◌, ◌<◌, ◌==◌, ◌/◌, ◌||◌, ◌∷◌, ◌++◌, if◌then◌else◌}

-- ---- the bytes of a text

ok_is : (a b : List ℕ) → (let r : Result (List ℕ) HeadFault = Ok a in r) ≡ Ok b → a ≡ b
ok_is a b e = cc

at_before : (xs : List ℕ) (x i : ℕ) → i < length xs → get_or (xs ++ x ∷ []) i 0 ≡ get_or xs i 0
at_before [] x i less = absurd (omega (arith, less))
at_before (y ∷ ys) x zero less = refl
at_before (y ∷ ys) x (suc i) less = at_before ys x i (omega (arith, less))

length_more : (xs : List ℕ) (x : ℕ) → length (xs ++ x ∷ []) ≡ suc (length xs)
length_more [] x = refl
length_more (y ∷ ys) x = ap (λ (n : ℕ). suc n) (length_more ys x)

has_bytes : (byte : ℕ → Result ℕ HeadFault) (count : ℕ) (bytes : List ℕ) → gathered byte count ≡ Ok bytes → HasBytes byte count bytes
unfolding gathered
has_bytes byte zero bytes e =
    let none : bytes ≡ [] = sym (ok_is [] bytes e) in
    record { len = rw none refl; are = λ i less. absurd (omega (arith, less)) }
has_bytes byte (suc n) bytes e =
    let before = bound (gathered byte n) (λ xs. byte n >>= (λ x. Ok (xs ++ x ∷ []))) bytes e in
    let last = bound (byte n) (λ x. Ok (before.0 ++ x ∷ [])) bytes before.2 in
    let whole : bytes ≡ before.0 ++ last.0 ∷ [] = sym (ok_is (before.0 ++ last.0 ∷ []) bytes last.2) in
    let has = has_bytes byte n before.0 before.1 in
    record {
      len = ap length whole ∙ length_more before.0 last.0 ∙ ap (λ (k : ℕ). suc k) has.len;
      are = λ i less. elim (le-suc_iff.0 less) as (λ _. byte i ≡ Ok (get_or bytes i 0)) [
        | inl below ↦ has.are i below ∙ ap (λ (x : ℕ). Ok x) (sym (at_before before.0 last.0 i (subst (λ (k : ℕ). i < k) (sym has.len) below)) ∙ ap (λ (xs : List ℕ). get_or xs i 0) (sym whole))
        | inr same ↦
            let k : i ≡ n = omega (arith, same) in
            let l : i ≡ length before.0 = k ∙ sym has.len in
            ap byte k ∙ last.1 ∙ ap (λ (x : ℕ). Ok x) (sym (get_or-append_seam before.0 last.0 [] 0) ∙ ap (λ (j : ℕ). get_or (before.0 ++ last.0 ∷ []) j 0) (sym l) ∙ ap (λ (xs : List ℕ). get_or xs i 0) (sym whole))
      ];
    }

gathered_bytes : (byte : ℕ → Result ℕ HeadFault) (count : ℕ) (bytes : List ℕ) → HasBytes byte count bytes → gathered byte count ≡ Ok bytes
unfolding gathered
gathered_bytes byte count bytes has =
    let at : (i : ℕ) → i < count → byte (0 + i) ≡ Ok (get_or bytes i 0) = λ i less. let k : 0 + i ≡ i = omega arith in ap byte k ∙ has.are i less in
    let all : 0 + count ≡ count = omega arith in
    ap (λ (n : ℕ). gathered byte n) (sym all) ∙ gathered_row byte 0 count [] bytes refl has.len at

-- ---- how a text ends

abbrev end_if : (nul : Bool) → (last : ℕ) → (bytes : List ℕ) → Result (List ℕ) HeadFault
end_if nul last bytes = if nul then Ok (take (length bytes - 1) bytes) else (if last == 10 then Ok bytes else Err Text)

abbrev end_by : (last : ℕ) → (bytes : List ℕ) → Result (List ℕ) HeadFault
end_by last bytes = end_if (last == 0) last bytes

last_at : (text : List ℕ) (last : ℕ) → get_or (text ++ last ∷ []) (length (text ++ last ∷ []) - 1) 0 ≡ last
last_at text last =
    let len : length (text ++ last ∷ []) - 1 ≡ length text = omega (arith, length_more text last) in
    ap (λ (n : ℕ). get_or (text ++ last ∷ []) n 0) len ∙ get_or-append_seam text last [] 0

ended_back : (text bytes : List ℕ) → IsEnded text bytes → ended bytes ≡ Ok text
ended_back text bytes (AtNul is) =
    let len : length (text ++ 0 ∷ []) - 1 ≡ length text = omega (arith, length_more text 0) in
    let cut : take (length (text ++ 0 ∷ []) - 1) (text ++ 0 ∷ []) ≡ text =
    ap (λ (n : ℕ). take n (text ++ 0 ∷ [])) len ∙ take-append-le (length text) text (0 ∷ []) (omega arith) ∙ take_all (length text) text (omega arith) in
    ap ended is ∙ ap (λ (n : ℕ). end_by n (text ++ 0 ∷ [])) (last_at text 0) ∙ ap (λ (xs : List ℕ). let r : Result (List ℕ) HeadFault = Ok xs in r) cut
ended_back text bytes (AtNewline is before ends) = ap ended (is ∙ ends) ∙ ap (λ (n : ℕ). end_by n (before ++ 10 ∷ [])) (last_at before 10) ∙ ap (λ (xs : List ℕ). let r : Result (List ℕ) HeadFault = Ok xs in r) (sym ends)

all_but_last : (bytes : List ℕ) → 0 < length bytes → bytes ≡ take (length bytes - 1) bytes ++ get_or bytes (length bytes - 1) 0 ∷ []
all_but_last bytes some =
    let n : length bytes ≡ suc (length bytes - 1) = omega (arith, some) in
    sym (take_all (length bytes) bytes (omega arith)) ∙ ap (λ (k : ℕ). take k bytes) n ∙ take-suc bytes (length bytes - 1) 0 (omega (arith, some))

end_is : (text bytes : List ℕ) (last : ℕ) → get_or bytes (length bytes - 1) 0 ≡ last → 0 < length bytes → end_by last bytes ≡ Ok text → IsEnded text bytes
end_is text bytes zero is some e =
    let cut : take (length bytes - 1) bytes ≡ text = ok_is (take (length bytes - 1) bytes) text e in
    AtNul (all_but_last bytes some ∙ ap (λ (last : ℕ). take (length bytes - 1) bytes ++ last ∷ []) is ∙ ap (λ (xs : List ℕ). xs ++ 0 ∷ []) cut)
end_is text bytes (suc n) is some e =
    let other : (suc n == 0) ≡ false = ne_eqb (suc n) 0 (λ none. omega (arith, none)) in
    let newline = chosen (suc n == 10) (Ok bytes) Text text (sym (ap (λ (b : Bool). end_if b (suc n) bytes) other) ∙ e) in
    let same : bytes ≡ text = ok_is bytes text newline.1 in
    AtNewline same (take (length bytes - 1) bytes) (sym same ∙ all_but_last bytes some ∙ ap (λ (last : ℕ). take (length bytes - 1) bytes ++ last ∷ []) (is ∙ eqb-true (suc n) 10 newline.0))

-- ---- the text of an area

none_or : (b : Bool) (some : Result (List ℕ) HeadFault) (text : List ℕ) → (let r : Result (List ℕ) HeadFault = if b then Ok [] else some in r) ≡ Ok text → ((b ≡ true) × (text ≡ [])) ⊎ ((b ≡ false) × (some ≡ Ok text))
none_or true some text e = inl (refl, sym (ok_is [] text e))
none_or false some text e = inr (refl, e)

some_number : (n : ℕ) → (n == 0) ≡ false → 0 < n
some_number zero e = absurd cc
some_number (suc n) e = omega arith

some_bytes : (text bytes : List ℕ) → IsEnded text bytes → 0 < length bytes
some_bytes text bytes (AtNul is) = rw is (omega (arith, length_more text 0))
some_bytes text bytes (AtNewline is before ends) = rw (is, ends) (omega (arith, length_more before 10))

spelled_text : (sectors : Sectors) (start : ℕ) (location : Location) (text : List ℕ) → is_none location ≡ false
    → (let r : Result (List ℕ) HeadFault = if not (is_within location) then Err Header else (if nat_lt 1048576 location.size then Err Long
    else (if location.size == 0 then Err Text
    else (ring_bytes sectors start location location.size >>= (λ bytes. if sum_of bytes == location.sum then ended bytes else Err Text)))) in r) ≡ Ok text → SpellsText sectors start location text
spelled_text sectors start location text some e =
    let within = passed (not (is_within location)) _ Header text e in
    let short = passed (nat_lt 1048576 location.size) _ Long text within.1 in
    let long = passed (location.size == 0) _ Text text short.1 in
    let read = bound (ring_bytes sectors start location location.size) _ text long.1 in
    let sum = chosen (sum_of read.0 == location.sum) (ended read.0) Text text read.2 in
    let has = has_bytes (λ number. byte_at sectors (ring_place start location number)) location.size read.0 read.1 in
    record {
      some = some;
      within = not-false (is_within location) within.0;
      short = ltb-false 1048576 location.size short.0;
      bytes = read.0;
      has = has;
      sum = eqb-true (sum_of read.0) location.sum sum.0;
      ends = end_is text read.0 _ refl (omega (arith, has.len, some_number location.size long.0)) sum.1;
    }

read_text : (sectors : Sectors) (start : ℕ) (location : Location) (text : List ℕ) → SpellsText sectors start location text → text_at sectors start location ≡ Ok text
read_text sectors start location text is =
    rw (is.some, is.within, le-ltb 1048576 location.size is.short, ne_eqb location.size 0 (λ none. omega (arith, none, is.has.len, some_bytes text is.bytes is.ends)), gathered_bytes (λ number. byte_at sectors (ring_place start location number)) location.size is.bytes is.has, eq-eqb (sum_of is.bytes) location.sum is.sum)
    (ended_back text is.bytes is.ends)

spelled_area : (sectors : Sectors) (area : Area) (text : List ℕ) → area_text sectors area ≡ Ok text → SpellsArea sectors text area
spelled_area sectors area text e =
    let near = chosen (is_near area) _ Header text e in
    let begins = bound (needed (sectors (area.start / 512))) _ text near.1 in
    let sound = chosen (is_header area begins.0) (text_at sectors area.start (location_in begins.0)) Header text begins.2 in
    record {
      header = begins.0;
      near = near.0;
      begins = needed_ok (sectors (area.start / 512)) begins.0 begins.1;
      sound = sound.0;
      says = elim (none_or (is_none (location_in begins.0)) _ text sound.1) [
        | inl none ↦ inl none
        | inr some ↦ inr (spelled_text sectors area.start (location_in begins.0) text some.0 some.1)
      ];
    }

read_area : (sectors : Sectors) (area : Area) (text : List ℕ) → SpellsArea sectors text area → area_text sectors area ≡ Ok text
read_area sectors area text is =
    area_known sectors area is.header is.near is.begins is.sound
    ∙ elim is.says as (λ _. text_at sectors area.start (location_in is.header) ≡ Ok text) [
      | inl none ↦ rw (none.0, none.1) refl
      | inr some ↦ read_text sectors area.start (location_in is.header) text some
    ]

-- ---- the texts of all areas of a head

-- the text is [] for none, or the common text
abbrev IsOneOf : (text common : List ℕ) → Type 0
IsOneOf text common = (text ≡ []) ⊎ (text ≡ common)

abbrev same_next : (none : Bool) → (text next : List ℕ) → Result (List ℕ) HeadFault
same_next none text next = if none then Ok text else (if bytes_eq text next then Ok text else Err Differ)

abbrev same_first : (none : Bool) → (text next : List ℕ) → Result (List ℕ) HeadFault
same_first none text next = if none then Ok next else same_next (length next == 0) text next

some_length : (x : ℕ) (xs : List ℕ) → (length (x ∷ xs) == 0) ≡ false
some_length x xs = ne_eqb (length (x ∷ xs)) 0 (λ none. omega (arith, none))

same_none : (x : ℕ) (xs : List ℕ) → same_text (x ∷ xs) [] ≡ Ok (x ∷ xs)
same_none x xs = ap (λ (b : Bool). same_first b (x ∷ xs) []) (some_length x xs)

same_both : (x : ℕ) (xs : List ℕ) (y : ℕ) (ys : List ℕ) → same_text (x ∷ xs) (y ∷ ys) ≡ (let r : Result (List ℕ) HeadFault = if bytes_eq (x ∷ xs) (y ∷ ys) then Ok (x ∷ xs) else Err Differ in r)
same_both x xs y ys = ap (λ (b : Bool). same_first b (x ∷ xs) (y ∷ ys)) (some_length x xs) ∙ ap (λ (b : Bool). same_next b (x ∷ xs) (y ∷ ys)) (some_length y ys)

same_parts : (text next common : List ℕ) → same_text text next ≡ Ok common → IsOneOf text common × IsOneOf next common × ((common ≡ text) ⊎ (common ≡ next))
same_parts [] next common e = let same : next ≡ common = ok_is next common e in (inl refl, inr same, inr (sym same))
same_parts (x ∷ xs) [] common e = let same : x ∷ xs ≡ common = ok_is (x ∷ xs) common (sym (same_none x xs) ∙ e) in (inr same, inl refl, inl (sym same))
same_parts (x ∷ xs) (y ∷ ys) common e =
    let both = chosen (bytes_eq (x ∷ xs) (y ∷ ys)) (Ok (x ∷ xs)) Differ common (sym (same_both x xs y ys) ∙ e) in
    let same : x ∷ xs ≡ common = ok_is (x ∷ xs) common both.1 in
    let equal : x ∷ xs ≡ y ∷ ys = (bytes_eq-Decides (x ∷ xs) (y ∷ ys)).0 both.0 in
    (inr same, inr (sym equal ∙ same), inl (sym same))

-- two texts have a common one, which is [] or `common`, and is `common` if one of the two is
record HaveOne (text next common : List ℕ) : Type 0 where
  one : List ℕ
  is : same_text text next ≡ Ok one
  either : IsOneOf one common
  first : text ≡ common → one ≡ common
  second : next ≡ common → one ≡ common

same_whole : (text next common : List ℕ) → IsOneOf text common → IsOneOf next common → HaveOne text next common
same_whole [] next common a b = record {
  one = next;
  is = refl;
  either = b;
  first = λ none. elim b as (λ _. next ≡ common) [
    | inl empty ↦ empty ∙ none
    | inr same ↦ same
  ];
  second = λ same. same;
}
same_whole (x ∷ xs) [] common a b = record {
  one = x ∷ xs;
  is = same_none x xs;
  either = a;
  first = λ same. same;
  second = λ none. elim a as (λ _. x ∷ xs ≡ common) [
    | inl empty ↦ absurd cc
    | inr so ↦ so
  ];
}
same_whole (x ∷ xs) (y ∷ ys) common a b =
    let first : x ∷ xs ≡ common = elim a as (λ _. x ∷ xs ≡ common) [
      | inl empty ↦ absurd cc
      | inr same ↦ same
    ] in
    let second : y ∷ ys ≡ common = elim b as (λ _. y ∷ ys ≡ common) [
      | inl empty ↦ absurd cc
      | inr same ↦ same
    ] in
    let equal : bytes_eq (x ∷ xs) (y ∷ ys) ≡ true = (bytes_eq-Decides (x ∷ xs) (y ∷ ys)).1 (first ∙ sym second) in
    record { one = x ∷ xs; is = same_both x xs y ys ∙ ap (λ (b : Bool). let r : Result (List ℕ) HeadFault = if b then Ok (x ∷ xs) else Err Differ in r) equal; either = inr first; first = λ _. first; second = λ _. first }

-- `before` is [] or `text`, each area spells `text` or none, and an area spells `text` unless `before` is that already
record SayOne (sectors : Sectors) (before text : List ℕ) (areas : List Area) : Type 0 where
  after : IsOneOf before text
  each : All (λ area. SpellsArea sectors [] area ⊎ SpellsArea sectors text area) areas
  some : (text ≡ before) ⊎ Any (SpellsArea sectors text) areas

spelled_areas : (sectors : Sectors) (before text : List ℕ) (areas : List Area) → areas_text sectors before areas ≡ Ok text → SayOne sectors before text areas
unfolding areas_text
spelled_areas sectors before text [] e =
    let same : before ≡ text = ok_is before text e in
    record { after = inr same; each = All-nil (λ area. SpellsArea sectors [] area ⊎ SpellsArea sectors text area); some = inl (sym same) }
spelled_areas sectors before text (area ∷ later) e =
    let first = bound (area_text sectors area >>= same_text before) (λ after. areas_text sectors after later) text e in
    let here = bound (area_text sectors area) (same_text before) first.0 first.1 in
    let rest = spelled_areas sectors first.0 text later first.2 in
    let parts = same_parts before here.0 first.0 here.2 in
    let spells = spelled_area sectors area here.0 here.1 in
    let one : (said : List ℕ) → IsOneOf said first.0 → IsOneOf said text = λ said is. elim is as (λ _. IsOneOf said text) [
      | inl none ↦ inl none
      | inr same ↦ elim rest.after as (λ _. IsOneOf said text) [
        | inl none ↦ inl (same ∙ none)
        | inr so ↦ inr (same ∙ so)
      ]
    ] in
    record {
      after = one before parts.0;
      each = All-cons (λ area. SpellsArea sectors [] area ⊎ SpellsArea sectors text area) area later (elim (one here.0 parts.1) as (λ _. SpellsArea sectors [] area ⊎ SpellsArea sectors text area) [
        | inl none ↦ inl (subst (λ (said : List ℕ). SpellsArea sectors said area) none spells)
        | inr same ↦ inr (subst (λ (said : List ℕ). SpellsArea sectors said area) same spells)
      ]) rest.each;
      some = elim rest.some as (λ _. (text ≡ before) ⊎ Any (SpellsArea sectors text) (area ∷ later)) [
        | inl same ↦ elim parts.2 as (λ _. (text ≡ before) ⊎ Any (SpellsArea sectors text) (area ∷ later)) [
          | inl of_before ↦ inl (same ∙ of_before)
          | inr of_here ↦ inr (0, area, omega arith, refl, subst (λ (said : List ℕ). SpellsArea sectors said area) (sym (same ∙ of_here)) spells)
        ]
        | inr any ↦ inr (suc any.0, any.1, omega (arith, any.2), any.3, any.4)
      ];
    }

read_areas : (sectors : Sectors) (before text : List ℕ) (areas : List Area) → SayOne sectors before text areas → areas_text sectors before areas ≡ Ok text
unfolding areas_text
read_areas sectors before text [] is = elim is.some as (λ _. areas_text sectors before [] ≡ Ok text) [
  | inl same ↦ ap (λ (xs : List ℕ). let r : Result (List ℕ) HeadFault = Ok xs in r) (sym same)
  | inr any ↦ absurd (omega (arith, any.2))
]
read_areas sectors before text (area ∷ later) is =
    let here : (said : List ℕ) × (area_text sectors area ≡ Ok said) × IsOneOf said text = elim (All-head (λ area. SpellsArea sectors [] area ⊎ SpellsArea sectors text area) area later is.each) as (λ _. (said : List ℕ) × (area_text sectors area ≡ Ok said) × IsOneOf said text) [
      | inl none ↦ ([], read_area sectors area [] none, inl refl)
      | inr some ↦ (text, read_area sectors area text some, inr refl)
    ] in
    let both = same_whole before here.0 text is.after here.2 in
    let rest : SayOne sectors both.one text later = record {
      after = both.either;
      each = All-tail (λ area. SpellsArea sectors [] area ⊎ SpellsArea sectors text area) area later is.each;
      some = elim is.some as (λ _. (text ≡ both.one) ⊎ Any (SpellsArea sectors text) later) [
        | inl same ↦ inl (sym (both.first (sym same)))
        | inr (zero, one, inside, is_one, spells) ↦
            let twice : here.0 ≡ text = ok_is here.0 text (sym here.1 ∙ read_area sectors area text (subst (SpellsArea sectors text) (sym is_one) spells)) in
            inl (sym (both.second twice))
        | inr (suc k, one, inside, is_one, spells) ↦ inr (k, one, omega (arith, inside), is_one, spells)
      ];
    } in
    rw (here.1, both.is) (read_areas sectors both.one text later rest)

-- ---- the label of a head

record IsFirst {X : Type 0} (has : ℕ → Option X) (count : ℕ) (x : X) : Type 0 where
  place : ℕ
  inside : place < count
  found : has place ≡ Some x
  first : (i : ℕ) → i < place → has i ≡ None

both_none : {X : Type 0} (a b : Option X) → earlier a b ≡ None → (a ≡ None) × (b ≡ None)
both_none (Some x) b e = absurd cc
both_none None b e = (refl, e)

none_below : {X : Type 0} (has : ℕ → Option X) (n i : ℕ) → first_found has n ≡ None → i < n → has i ≡ None
unfolding first_found
none_below has zero i e less = absurd (omega (arith, less))
none_below has (suc n) i e less =
    let none = both_none (first_found has n) (has n) e in
    elim (le-suc_iff.0 less) as (λ _. has i ≡ None) [
      | inl below ↦ none_below has n i none.0 below
      | inr same ↦ let k : i ≡ n = omega (arith, same) in ap has k ∙ none.1
    ]

none_all : {X : Type 0} (has : ℕ → Option X) (n : ℕ) → ((i : ℕ) → i < n → has i ≡ None) → first_found has n ≡ None
unfolding first_found
none_all has zero none = refl
none_all has (suc n) none = rw (none_all has n (λ i less. none i (omega (arith, less))), none n (omega arith)) refl

either : {X : Type 0} (a b : Option X) (x : X) → earlier a b ≡ Some x → (a ≡ Some x) ⊎ ((a ≡ None) × (b ≡ Some x))
either (Some y) b x e = inl e
either None b x e = inr (refl, e)

first_is : {X : Type 0} (has : ℕ → Option X) (n : ℕ) (x : X) → first_found has n ≡ Some x → IsFirst has n x
unfolding first_found
first_is has zero x e = absurd cc
first_is {X} has (suc n) x e = elim (either (first_found has n) (has n) x e) as (λ _. IsFirst has (suc n) x) [
  | inl before ↦ let is = first_is has n x before in record { place = is.place; inside = omega (arith, is.inside); found = is.found; first = is.first }
  | inr here ↦ record { place = n; inside = omega arith; found = here.1; first = λ i less. none_below has n i here.0 less }
]

abbrev label_if : (taken sound : Bool) → List ℕ → Option (Result (List ℕ) HeadFault)
label_if taken sound bytes = if taken then Some (if sound then Ok bytes else Err Label) else None

if_some : (taken sound : Bool) (bytes label : List ℕ) → label_if taken sound bytes ≡ Some (Ok label) → (taken ≡ true) × (sound ≡ true) × (bytes ≡ label)
if_some true true bytes label e = (refl, refl, cc)
if_some true false bytes label e = absurd cc
if_some false sound bytes label e = absurd cc

label_at : (place : ℕ) (r : Result (List ℕ) ReadFault) (label : List ℕ) → label_in place r ≡ Some (Ok label) → (r ≡ Ok label) × (is_taken place label ≡ true) × (is_sound label ≡ true)
label_at place (Ok bytes) label e =
    let all = if_some (is_taken place bytes) (is_sound bytes) bytes label e in
    (ap (λ (xs : List ℕ). Ok xs) all.2, subst (λ (xs : List ℕ). is_taken place xs ≡ true) all.2 all.0, subst (λ (xs : List ℕ). is_sound xs ≡ true) all.2 all.1)
label_at place (Err fault) label e = absurd cc

from_some : (r : Option (Result (List ℕ) HeadFault)) (label : List ℕ) → or_no_label r ≡ Ok label → r ≡ Some (Ok label)
from_some (Some found) label e = ap (λ (x : Result (List ℕ) HeadFault). Some x) e
from_some None label e = absurd cc

spelled_label : (sectors : Sectors) (label : List ℕ) → label_of sectors ≡ Ok label → IsTheLabel sectors label
spelled_label sectors label e =
    let is = first_is (λ place. label_in place (sectors place)) 4 (Ok label) (from_some (first_found (λ place. label_in place (sectors place)) 4) label e) in
    let all = label_at is.place (sectors is.place) label is.found in
    record { place = is.place; inside = is.inside; read = all.0; taken = all.1; sound = all.2; first = is.first }

read_label : (sectors : Sectors) (label : List ℕ) → IsTheLabel sectors label → label_of sectors ≡ Ok label
read_label sectors label is =
    ap or_no_label (found_at (λ place. label_in place (sectors place)) is.place 4 (Ok label) (none_all (λ place. label_in place (sectors place)) is.place is.first)
    (label_found is.place (sectors is.place) label is.read is.taken is.sound) is.inside)

spelled_whole : (sectors : Sectors) (done : Unit {0}) → undivided sectors ≡ Ok done → IsUndivided sectors
spelled_whole sectors done e =
    let first = bound (needed (sectors 0)) _ done e in
    let whole = passed (is_partitioned first.0) _ Partitions done first.2 in
    let later = bound (needed (sectors 8)) _ done whole.1 in
    let alone = passed (is_member first.0 || is_member later.0) _ Array done later.2 in
    let both = or_parts (is_member first.0) (is_member later.0) alone.0 in
    record { first = first.0; later = later.0; is_first = needed_ok (sectors 0) first.0 first.1; is_later = needed_ok (sectors 8) later.0 later.1; whole = whole.0; alone = both.0; alone_later = both.1 }

read_whole : (sectors : Sectors) → IsUndivided sectors → undivided sectors ≡ Ok tt
read_whole sectors is = rw (is.is_first, is.whole, is.is_later, is.alone, is.alone_later) refl

-- ---- a whole head

said_is : (a b : Said) → (let r : Result Said HeadFault = Ok a in r) ≡ Ok b → a ≡ b
said_is a b e = cc

pub reads_back : ReadsBack
reads_back = λ sectors said. (
  λ e.
      let whole = bound (undivided sectors) _ said e in
      let label = bound (label_of sectors) _ said whole.2 in
      let areas = bound (areas_of label.0) _ said label.2 in
      let text = bound (areas_text sectors [] areas.0) _ said areas.2 in
      let are = spelled_areas sectors [] text.0 areas.0 text.1 in
      let is : record { id = id_of label.0; text = text.0 } ≡ said = said_is _ said text.2 in
      rw (← is) record {
        undivided = spelled_whole sectors whole.0 whole.1;
        label = label.0;
        is_label = spelled_label sectors label.0 label.1;
        id = refl;
        areas = areas.0;
        are_areas = areas.1;
        each = are.each;
        some = are.some;
      },
  λ is.
      let text = read_areas sectors [] said.text is.areas (record { after = inl refl; each = is.each; some = is.some }) in
      rw (read_whole sectors is.undivided, read_label sectors is.label is.is_label, is.are_areas, text, ← is.id) refl,
)
