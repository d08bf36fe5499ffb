-- A name is cut in one way only, and its slices are its parts with hyphens doubled.
use Rattle.lvm_volume.proofs.Prelude.{ℕ, suc, Bool, true, false, cond, eqb, List, [], length, take, drop, Option, Some, None, refl, sym, ap, subst, ◌∙◌, zero, get_or, arith, append_assoc, drop-cons, length-append, Result, Err, IfSome, IsTrue, option_map, MatchOption, option_and_then, is_none, nat_le, list_all, LacksTextAt, HasTextAt, cond_both, eqb-true, and_parts, and_from, leb-true, le-leb, lt-leb, nat_tests, append-nil, take_more, take-append-drop, drop_more, same_Some, drop-append_seam, take-append_seam, code, is_device_byte, is_device_name, NameParts, built, Returns, is_letter, begins_with, part_fault, layer_fault, or_later, doubled, undoubled, undoubled_parts, with_hyphen, joined, fault_of, Builds, IsSplit, doubled_parts, slice_length, first_slice, after_hyphen, later_slices, with_layer, slices_of, NameFault}
use Rattle.std.specs.Prelude.{◌≡◌, ◌≢◌, ◌+◌, ◌<◌, ◌≤◌, ◌&&◌, ◌∷◌, ◌++◌}
use denote.Ref.{Bor}
use Rattle.dm_table.proofs.ByteLemmas.{list_all-both}
use Rattle.lvm_volume.specs.declared.fault.NameFault.TheVariants.{Letter, HyphenFirst, Empty, Long, Memory}

-- ---- parts with hyphens doubled

plain_length : (b : ℕ) (bs : List ℕ) → eqb b (code "-") ≡ false → slice_length (b ∷ bs) ≡ suc (slice_length bs)
plain_length b [] e = rw e
plain_length b (c ∷ bs) e = rw e

plain_undoubled : (b : ℕ) (bs : List ℕ) → eqb b (code "-") ≡ false → undoubled (b ∷ bs) ≡ b ∷ undoubled bs
plain_undoubled b [] e = refl
plain_undoubled b (c ∷ bs) e = rw e

pub undoubled-doubled : (w : List ℕ) → undoubled (doubled w) ≡ w
undoubled-doubled [] = refl
undoubled-doubled (b ∷ w) =
    cond_both (eqb b (code "-")) (code "-" ∷ code "-" ∷ doubled w) (b ∷ doubled w) (λ xs. undoubled xs ≡ b ∷ w)
    (λ e. rw (undoubled-doubled w, ← eqb-true b (code "-") e))
    (λ e. rw (plain_undoubled b (doubled w) e, undoubled-doubled w))

pub doubled-append : (xs ys : List ℕ) → doubled (xs ++ ys) ≡ doubled xs ++ doubled ys
doubled-append [] ys = refl
doubled-append (b ∷ xs) ys =
    cond_both (eqb b (code "-")) (code "-" ∷ code "-" ∷ doubled xs) (b ∷ doubled xs) (λ zs. cond (eqb b (code "-")) (code "-" ∷ code "-" ∷ doubled (xs ++ ys)) (b ∷ doubled (xs ++ ys)) ≡ zs ++ doubled ys)
    (λ e. rw (e, doubled-append xs ys))
    (λ e. rw (e, doubled-append xs ys))

-- doubling the first i + 1 bytes of a part adds the doubled byte i to the first i doubled
pub doubled_more : (xs : List ℕ) (i : ℕ) → i < length xs → doubled (take (i + 1) xs) ≡ doubled (take i xs) ++ doubled (get_or xs i 0 ∷ [])
doubled_more xs i lt = ap doubled (take_more xs i 0 lt) ∙ doubled-append (take i xs) (get_or xs i 0 ∷ [])

not_equal : (a b : ℕ) (x : Bool) → eqb a b ≡ x → (a ≡ b → ⊥) → x ≡ false
not_equal a b true e n = absurd (n (eqb-true a b e))
not_equal a b false e n = refl

pub push_hyphen : (xs : List ℕ) (i : ℕ) (old t one two e : List ℕ) → i < length xs → t ≡ old ++ doubled (take i xs) → one ≡ t ++ e → e ≡ get_or xs i 0 ∷ [] → get_or xs i 0 ≡ code "-" → two ≡ one ++ code "-" ∷ [] → two ≡ old ++ doubled (take (i + 1) xs)
push_hyphen xs i old t one two e lt at grown is is_hyphen last =
    rw (doubled_more xs i lt, is_hyphen) (last ∙ ap (λ (z : List ℕ). z ++ code "-" ∷ []) (rw (← at, ← is_hyphen, ← is) grown) ∙ append_assoc (old ++ doubled (take i xs)) (code "-" ∷ []) (code "-" ∷ []) ∙ append_assoc old (doubled (take i xs)) (code "-" ∷ code "-" ∷ []))

pub push_plain : (xs : List ℕ) (i : ℕ) (old t one e : List ℕ) → i < length xs → t ≡ old ++ doubled (take i xs) → one ≡ t ++ e → e ≡ get_or xs i 0 ∷ [] → (get_or xs i 0 ≡ code "-" → ⊥) → one ≡ old ++ doubled (take (i + 1) xs)
push_plain xs i old t one e lt at grown is plain =
    let b = get_or xs i 0 in
    let own : doubled (b ∷ []) ≡ b ∷ [] = rw (not_equal b (code "-") (eqb b (code "-")) refl plain) in
    rw (doubled_more xs i lt, own, grown, is, at, append_assoc old (doubled (take i xs)) (b ∷ []))

letter_ascii : (b : ℕ) → is_letter b ≡ true → b < 128
letter_ascii b h = grind (arith, nat_tests)

pub letter_at : (xs : List ℕ) (i : ℕ) → list_all is_letter xs ≡ true → i < length xs → get_or xs i 0 < 128
letter_at [] i h lt = absurd (omega arith)
letter_at (x ∷ xs) zero h lt = letter_ascii x (and_parts (is_letter x) (list_all is_letter xs) h).0
letter_at (x ∷ xs) (suc i) h lt = letter_at xs i (and_parts (is_letter x) (list_all is_letter xs) h).1 (omega arith)

pub length_plain : (bs : List ℕ) (i : ℕ) → i < length bs → (get_or bs i 0 ≡ code "-" → ⊥) → slice_length bs ≡ i + slice_length (drop i bs) → slice_length bs ≡ i + 1 + slice_length (drop (i + 1) bs)
length_plain bs i lt plain e =
    let b = get_or bs i 0 in
    let step : slice_length (drop i bs) ≡ suc (slice_length (drop (i + 1) bs)) = ap slice_length (drop_more bs i 0 lt) ∙ plain_length b (drop (i + 1) bs) (not_equal b (code "-") (eqb b (code "-")) refl plain) in
    omega (arith, e, step)

-- ---- a part has the same fault with its hyphens doubled

not_zero : (n : ℕ) (b : Bool) → eqb (suc n) 0 ≡ b → b ≡ false
not_zero n true e = let wrong : suc n ≡ 0 = eqb-true (suc n) 0 e in absurd (omega arith)
not_zero n false e = refl

begins-doubled : (c b : ℕ) (w more : List ℕ) → begins_with c (doubled (b ∷ w) ++ more) ≡ eqb b c
begins-doubled c b w more =
    cond_both (eqb b (code "-")) (code "-" ∷ code "-" ∷ doubled w) (b ∷ doubled w) (λ xs. begins_with c (xs ++ more) ≡ eqb b c)
    (λ e. rw (← eqb-true b (code "-") e))
    (λ e. refl)

empty-doubled : (b : ℕ) (w : List ℕ) → eqb (length (doubled (b ∷ w))) 0 ≡ false
empty-doubled b w =
    cond_both (eqb b (code "-")) (code "-" ∷ code "-" ∷ doubled w) (b ∷ doubled w) (λ xs. eqb (length xs) 0 ≡ false)
    (λ e. not_zero (length (code "-" ∷ doubled w)) _ refl)
    (λ e. not_zero (length (doubled w)) _ refl)

letters-doubled : (w : List ℕ) → list_all is_letter (doubled w) ≡ list_all is_letter w
letters-doubled [] = refl
letters-doubled (b ∷ w) =
    cond_both (eqb b (code "-")) (code "-" ∷ code "-" ∷ doubled w) (b ∷ doubled w) (λ xs. list_all is_letter xs ≡ (is_letter b && list_all is_letter w))
    (λ e. rw (eqb-true b (code "-") e) (letters-doubled w))
    (λ e. rw (letters-doubled w))

abbrev fault_by : Bool → Bool → Bool → Option NameFault
fault_by empty letters is_hyphen = cond empty (Some Empty) (cond letters (cond is_hyphen (Some HyphenFirst) None) (Some Letter))

part-doubled : (w : List ℕ) → part_fault (doubled w) ≡ part_fault w
part-doubled [] = refl
part-doubled (b ∷ w) =
    let d = doubled (b ∷ w) in
    rw ((empty-doubled b w ∙ sym (not_zero (length w) _ refl)), letters-doubled (b ∷ w), (ap (begins_with (code "-")) (sym (append-nil d)) ∙ begins-doubled (code "-") b w []))

layer-doubled : (l : Option (List ℕ)) → layer_fault (option_map doubled l) ≡ layer_fault l
layer-doubled None = refl
layer-doubled (Some []) = refl
layer-doubled (Some (b ∷ w)) =
    rw ((ap (begins_with (code "_")) (sym (append-nil (doubled (b ∷ w)))) ∙ begins-doubled (code "_") b w []), part-doubled (b ∷ w))

-- the first fault of a name's parts
abbrev pub parts_faults : NameParts → Option NameFault
parts_faults p = or_later (part_fault p.vg) (or_later (part_fault p.lv) (layer_fault p.layer))

parts-doubled : (p : NameParts) → parts_faults (doubled_parts p) ≡ parts_faults p
parts-doubled p =
    rw (part-doubled p.vg, part-doubled p.lv, layer-doubled p.layer)

or_whole : (a b c d : Option NameFault) → or_later a (or_later b (or_later c d)) ≡ or_later (or_later a (or_later b c)) d
or_whole None None c d = refl
or_whole a b c d = refl

-- Long if the whole name has more than 127 bytes
abbrev pub long_fault : NameParts → Option NameFault
long_fault p = cond (nat_le (length (joined p)) 127) None (Some Long)

pub fault_parts : (p : NameParts) → fault_of p ≡ or_later (parts_faults p) (long_fault p)
fault_parts p = or_whole (part_fault p.vg) (part_fault p.lv) (layer_fault p.layer) (long_fault p)

-- ---- building a name

pub fault_first : (p : NameParts) (f : NameFault) → Some f ≡ parts_faults p → Some f ≡ fault_of p
fault_first p f e = ap (λ (o : Option NameFault). or_later o (long_fault p)) e ∙ sym (fault_parts p)

pub too_long : (p : NameParts) → None ≡ parts_faults p → 127 < length (joined p) → Some Long ≡ fault_of p
too_long p e more =
    let long : nat_le (length (joined p)) 127 ≡ false = lt-leb (length (joined p)) 127 more in
    ap (λ (b : Bool). cond b None (Some Long)) (sym long) ∙ ap (λ (o : Option NameFault). or_later o (long_fault p)) e ∙ sym (fault_parts p)

pub returns_fault : (f : NameFault) (said : Result (List ℕ) NameFault) → said ≡ Err f → Returns (Err f) said
returns_fault Memory said e = tt
returns_fault f said e = sym e

letter_device : (b : ℕ) → is_letter b ≡ true → is_device_byte b ≡ true
letter_device b h = grind (arith, nat_tests)

device_doubled : (w : List ℕ) → list_all is_letter w ≡ true → list_all is_device_byte (doubled w) ≡ true
device_doubled [] h = refl
device_doubled (b ∷ w) h =
    let a = and_parts (is_letter b) (list_all is_letter w) h in
    cond_both (eqb b (code "-")) (code "-" ∷ code "-" ∷ doubled w) (b ∷ doubled w) (λ (xs : List ℕ). list_all is_device_byte xs ≡ true)
    (λ e. device_doubled w a.1)
    (λ e. and_from (is_device_byte b) (list_all is_device_byte (doubled w)) (letter_device b a.0) (device_doubled w a.1))

by_none : (empty letters is_hyphen : Bool) → fault_by empty letters is_hyphen ≡ None → (letters ≡ true) × (is_hyphen ≡ false)
by_none false true false e = (refl, refl)
by_none empty letters is_hyphen e = absurd cc

part_letters : (w : List ℕ) → part_fault w ≡ None → list_all is_letter w ≡ true
part_letters w e = (by_none (eqb (length w) 0) (list_all is_letter w) (begins_with (code "-") w) e).0

layer_none : (l : List ℕ) (b : Bool) → cond b (Some Letter) (part_fault l) ≡ None → part_fault l ≡ None
layer_none l true e = absurd cc
layer_none l false e = e

device_layer : (l : Option (List ℕ)) → layer_fault l ≡ None → list_all is_device_byte (with_hyphen (option_map doubled l)) ≡ true
device_layer None e = refl
device_layer (Some l) e = device_doubled l (part_letters l (layer_none l (begins_with (code "_") l) e))

or_none : (a b : Option NameFault) → or_later a b ≡ None → (a ≡ None) × (b ≡ None)
or_none None b e = (refl, e)
or_none (Some f) b e = absurd cc

joined_device : (p : NameParts) → parts_faults p ≡ None → list_all is_device_byte (joined p) ≡ true
joined_device p e =
    let v = or_none (part_fault p.vg) (or_later (part_fault p.lv) (layer_fault p.layer)) e in
    let l = or_none (part_fault p.lv) (layer_fault p.layer) v.1 in
    list_all-both is_device_byte (doubled p.vg) (code "-" ∷ (doubled p.lv ++ with_hyphen (option_map doubled p.layer))) (device_doubled p.vg (part_letters p.vg v.0))
    (list_all-both is_device_byte (doubled p.lv) (with_hyphen (option_map doubled p.layer)) (device_doubled p.lv (part_letters p.lv l.0)) (device_layer p.layer l.1))

pub layer_letters : (l : Option (Bor (List ℕ))) (vg lv : List ℕ) → None ≡ or_later (part_fault vg) (or_later (part_fault lv) (layer_fault (option_map (λ t. t.now) l))) → IfSome l (λ t. IsTrue (list_all is_letter t.now))
layer_letters None vg lv e = tt
layer_letters (Some t) vg lv e =
    let v = or_none (part_fault vg) (or_later (part_fault lv) (layer_fault (Some t.now))) (sym e) in
    let l = or_none (part_fault lv) (layer_fault (Some t.now)) v.1 in
    part_letters t.now (layer_none t.now (begins_with (code "_") t.now) l.1)

long_joined : (n : ℕ) → 1 ≤ n → (b : Bool) → nat_le n 127 ≡ b → (nat_le 1 n && (b && true)) ≡ false → b ≡ false
long_joined n some true e h = let wrong : true ≡ false = sym (rw (le-leb 1 n some)) ∙ h in absurd cc
long_joined n some false e h = refl

pub form_is_long : (p : NameParts) (text : List ℕ) → None ≡ parts_faults p → text ≡ joined p → is_device_name text ≡ false → Err Long ≡ built p
form_is_long p text e same refused =
    let n = length (joined p) in
    let some : 1 ≤ n = omega (arith, length-append (doubled p.vg) (code "-" ∷ (doubled p.lv ++ with_hyphen (option_map doubled p.layer)))) in
    let told : (nat_le 1 n && (nat_le n 127 && true)) ≡ false = rw (← joined_device p (sym e)) (ap is_device_name (sym same) ∙ refused) in
    let long : nat_le n 127 ≡ false = long_joined n some (nat_le n 127) refl told in
    sym (rw (fault_parts p, ← e, long))

pub fault_built : (p : NameParts) (f : NameFault) → Some f ≡ parts_faults p → Returns (Err f) (built p)
fault_built p f e = returns_fault f (built p) (rw (fault_parts p, ← e))

-- ---- the front of a name

-- the bytes are empty, or begin with a single hyphen
abbrev IsEnd : List ℕ → Type 0
IsEnd [] = Unit {0}
IsEnd (b ∷ bs) = (b ≡ code "-") × (begins_with (code "-") bs ≡ false)

end_length : (rest : List ℕ) → IsEnd rest → slice_length rest ≡ 0
end_length [] h = refl
end_length (b ∷ []) h = rw h.0
end_length (b ∷ c ∷ bs) h = rw (h.0, h.1)

length_doubled : (w rest : List ℕ) → IsEnd rest → slice_length (doubled w ++ rest) ≡ length (doubled w)
length_doubled [] rest h = end_length rest h
length_doubled (b ∷ w) rest h =
    cond_both (eqb b (code "-")) (code "-" ∷ code "-" ∷ doubled w) (b ∷ doubled w) (λ xs. slice_length (xs ++ rest) ≡ length xs)
    (λ e. rw (length_doubled w rest h))
    (λ e. rw (← length_doubled w rest h) (plain_length b (doubled w ++ rest) e))

-- the first slice of a doubled part, with a single hyphen or nothing after it, is the doubled part
cut_first : (w rest : List ℕ) → IsEnd rest → first_slice (doubled w ++ rest) ≡ doubled w
cut_first w rest h = rw (length_doubled w rest h) (take-append_seam (doubled w) rest)

cut_later : (w rest : List ℕ) → IsEnd rest → later_slices (doubled w ++ rest) ≡ after_hyphen rest
cut_later w rest h = ap after_hyphen (ap (λ n. drop n (doubled w ++ rest)) (length_doubled w rest h) ∙ drop-append_seam (doubled w) rest)

-- every text begins with a doubled part of n bytes
record Front (bs : List ℕ) (n : ℕ) : Type 0 where
  pub part : List ℕ
  pub is : bs ≡ doubled part ++ drop n bs
  pub end : IsEnd (drop n bs)

front_pair : (b c : ℕ) (bs : List ℕ) → eqb b (code "-") ≡ true → eqb c (code "-") ≡ true → Front bs (slice_length bs) → Front (b ∷ c ∷ bs) (suc (suc (slice_length bs)))
front_pair b c bs e d f = record {
  part = code "-" ∷ f.part;
  is = ap (λ n. n ∷ c ∷ bs) (eqb-true b (code "-") e) ∙ ap (λ n. code "-" ∷ n ∷ bs) (eqb-true c (code "-") d) ∙ ap (λ (xs : List ℕ). code "-" ∷ code "-" ∷ xs) f.is;
  end = f.end;
}

front_plain : (b : ℕ) (bs : List ℕ) → eqb b (code "-") ≡ false → Front bs (slice_length bs) → Front (b ∷ bs) (suc (slice_length bs))
front_plain b bs e f = record {
  part = b ∷ f.part;
  is = ap (λ (xs : List ℕ). b ∷ xs) f.is ∙ sym (rw e);
  end = f.end;
}

front_end : (bs : List ℕ) → IsEnd bs → Front bs 0
front_end bs h = record { part = []; is = refl; end = h }

front : (bs : List ℕ) → Front bs (slice_length bs)
front [] = front_end [] tt
front (b ∷ []) =
    cond_both (eqb b (code "-")) 0 1 (Front (b ∷ []))
    (λ e. front_end (b ∷ []) (eqb-true b (code "-") e, refl))
    (λ e. front_plain b [] e (front_end [] tt))
front (b ∷ c ∷ bs) =
    cond_both (eqb b (code "-")) (cond (eqb c (code "-")) (suc (suc (slice_length bs))) 0) (suc (slice_length (c ∷ bs))) (Front (b ∷ c ∷ bs))
    (λ e. cond_both (eqb c (code "-")) (suc (suc (slice_length bs))) 0 (Front (b ∷ c ∷ bs))
    (λ d. front_pair b c bs e d (front bs))
    (λ d. front_end (b ∷ c ∷ bs) (eqb-true b (code "-") e, d)))
    (λ e. front_plain b (c ∷ bs) e (front (c ∷ bs)))

length_part : (bs : List ℕ) → slice_length bs ≡ length (doubled (front bs).part)
length_part bs = let f = front bs in ap slice_length f.is ∙ length_doubled f.part (drop (slice_length bs) bs) f.end

pub length_within : (bs : List ℕ) → slice_length bs ≤ length bs
length_within bs =
    let f = front bs in
    let whole : length bs ≡ length (doubled f.part) + length (drop (slice_length bs) bs) = ap length f.is ∙ length-append (doubled f.part) (drop (slice_length bs) bs) in
    omega (arith, whole, length_part bs)

pub hyphen_at : (bs : List ℕ) → slice_length bs < length bs → get_or bs (slice_length bs) 0 ≡ code "-"
hyphen_at bs lt = (subst IsEnd (drop-cons bs (slice_length bs) 0 lt) (front bs).end).0

pub after_is : (bs : List ℕ) (r : Option (Bor (List ℕ))) → MatchOption r ((rest : List ℕ) → bs ≢ code "-" ∷ rest) (λ x. bs ≡ code "-" ∷ x.now) → option_map (λ t. t.now) r ≡ after_hyphen bs
after_is [] None m = refl
after_is (b ∷ bs) None m =
    cond_both (eqb b (code "-")) (Some bs) None (λ (o : Option (List ℕ)). None ≡ o)
    (λ e. absurd (m bs (rw (eqb-true b (code "-") e))))
    (λ e. refl)
after_is bs (Some x) m = sym (ap after_hyphen m)

-- bytes that are empty or begin with a single hyphen are that hyphen and the bytes after it, if any
end_is : (bs : List ℕ) → IsEnd bs → bs ≡ with_hyphen (after_hyphen bs)
end_is [] h = refl
end_is (b ∷ bs) h = rw h.0

-- every text is a doubled part, and perhaps a single hyphen and more
record FirstSlice (bs : List ℕ) : Type 0 where
  pub part : List ℕ
  pub first : first_slice bs ≡ doubled part
  pub whole : bs ≡ doubled part ++ with_hyphen (later_slices bs)

first : (bs : List ℕ) → FirstSlice bs
first bs =
    let f = front bs in
    record {
      part = f.part;
      first = ap first_slice f.is ∙ cut_first f.part (drop (slice_length bs) bs) f.end;
      whole = rw (← end_is (drop (slice_length bs) bs) f.end) f.is;
    }

-- ---- the slices of a name

-- the slices are doubled parts, and these parts, joined, are the name
record Sliced (name : List ℕ) (s : NameParts) : Type 0 where
  pub parts : NameParts
  pub are : s ≡ doubled_parts parts
  pub spell : name ≡ joined parts

sliced_two : (name rest : List ℕ) (s : NameParts) → FirstSlice name → later_slices name ≡ Some rest → FirstSlice rest → later_slices rest ≡ None → Some (record { vg = first_slice name; lv = first_slice rest; layer = None }) ≡ Some s → Sliced name s
sliced_two name rest s h t g u e = record {
  parts = record { vg = h.part; lv = g.part; layer = None };
  are = rw (← g.first, ← h.first) (sym (same_Some _ _ e));
  spell = rw (h.whole, t, g.whole, u);
}

sliced_three : (name rest last : List ℕ) (s : NameParts) → FirstSlice name → later_slices name ≡ Some rest → FirstSlice rest → later_slices rest ≡ Some last → FirstSlice last → later_slices last ≡ None
    → Some (record { vg = first_slice name; lv = first_slice rest; layer = Some (first_slice last) }) ≡ Some s → Sliced name s
sliced_three name rest last s h t g u k v e =
    let end : last ≡ doubled k.part = rw (k.whole, v, append-nil (doubled k.part)) in
    record {
      parts = record { vg = h.part; lv = g.part; layer = Some k.part };
      are = rw (← k.first, ← g.first, ← h.first) (sym (same_Some _ _ e));
      spell = rw (h.whole, t, g.whole, u, end);
    }

sliced_last : (name rest last : List ℕ) (s : NameParts) (more : Option (List ℕ)) → later_slices name ≡ Some rest → later_slices rest ≡ Some last → later_slices last ≡ more
    → cond (is_none more) (Some (record { vg = first_slice name; lv = first_slice rest; layer = Some (first_slice last) })) None ≡ Some s → Sliced name s
sliced_last name rest last s None t u v e = sliced_three name rest last s (first name) t (first rest) u (first last) v e
sliced_last name rest last s (Some x) t u v e = absurd cc

sliced_rest : (name rest : List ℕ) (s : NameParts) (later : Option (List ℕ)) → later_slices name ≡ Some rest → later_slices rest ≡ later → with_layer (first_slice name) (first_slice rest) later ≡ Some s → Sliced name s
sliced_rest name rest s None t u e = sliced_two name rest s (first name) t (first rest) u e
sliced_rest name rest s (Some last) t u e = sliced_last name rest last s (later_slices last) t u refl e

sliced_at : (name : List ℕ) (s : NameParts) (later : Option (List ℕ)) → later_slices name ≡ later → option_and_then (λ rest. with_layer (first_slice name) (first_slice rest) (later_slices rest)) later ≡ Some s → Sliced name s
sliced_at name s None t e = absurd cc
sliced_at name s (Some rest) t e = sliced_rest name rest s (later_slices rest) t refl e

sliced : (name : List ℕ) (s : NameParts) → slices_of name ≡ Some s → Sliced name s
sliced name s e = sliced_at name s (later_slices name) refl e

-- ---- the parts that build a name are those of its slices

no_hyphen : (w more : List ℕ) → part_fault w ≡ None → begins_with (code "-") (doubled w ++ more) ≡ false
no_hyphen [] more e = absurd cc
no_hyphen (b ∷ w) more e = begins-doubled (code "-") b w more ∙ (by_none (eqb (length (b ∷ w)) 0) (list_all is_letter (b ∷ w)) (eqb b (code "-")) e).1

layer_end : (l : Option (List ℕ)) → layer_fault l ≡ None → IsEnd (with_hyphen (option_map doubled l))
layer_end None e = tt
layer_end (Some l) e = (refl, ap (begins_with (code "-")) (sym (append-nil (doubled l))) ∙ no_hyphen l [] (layer_none l (begins_with (code "_") l) e))

first_whole : (w : List ℕ) → first_slice (doubled w) ≡ doubled w
first_whole w = ap first_slice (sym (append-nil (doubled w))) ∙ cut_first w [] tt

later_whole : (w : List ℕ) → later_slices (doubled w) ≡ None
later_whole w = ap later_slices (sym (append-nil (doubled w))) ∙ cut_later w [] tt

layer_slices : (vg lv : List ℕ) (l : Option (List ℕ)) → with_layer vg lv (after_hyphen (with_hyphen (option_map doubled l))) ≡ Some (record { vg = vg; lv = lv; layer = option_map doubled l })
layer_slices vg lv None = refl
layer_slices vg lv (Some l) =
    rw (later_whole l, first_whole l)

joined_slices : (vg lv : List ℕ) (l : Option (List ℕ)) → part_fault vg ≡ None → part_fault lv ≡ None → layer_fault l ≡ None
    → slices_of (doubled vg ++ code "-" ∷ (doubled lv ++ with_hyphen (option_map doubled l))) ≡ Some (record { vg = doubled vg; lv = doubled lv; layer = option_map doubled l })
joined_slices vg lv l a b c =
    let end = with_hyphen (option_map doubled l) in
    let rest = doubled lv ++ end in
    let name = doubled vg ++ code "-" ∷ rest in
    let first : IsEnd (code "-" ∷ rest) = (refl, no_hyphen lv end b) in
    rw (cut_later vg (code "-" ∷ rest) first, cut_first vg (code "-" ∷ rest) first, cut_first lv end (layer_end l c), cut_later lv end (layer_end l c)) (layer_slices (doubled vg) (doubled lv) l)

built_slices : (p : NameParts) (name : List ℕ) → Builds p name → slices_of name ≡ Some (doubled_parts p)
built_slices p name h =
    let w = or_none (parts_faults p) (long_fault p) (sym (fault_parts p) ∙ h.0) in
    let v = or_none (part_fault p.vg) (or_later (part_fault p.lv) (layer_fault p.layer)) w.0 in
    let l = or_none (part_fault p.lv) (layer_fault p.layer) v.1 in
    ap slices_of (sym h.1) ∙ joined_slices p.vg p.lv p.layer v.0 l.0 l.1

layer_back : (l : Option (List ℕ)) → option_map undoubled (option_map doubled l) ≡ l
layer_back None = refl
layer_back (Some l) = rw (undoubled-doubled l)

pub parts_back : (p : NameParts) → undoubled_parts (doubled_parts p) ≡ p
parts_back p =
    rw (undoubled-doubled p.vg, undoubled-doubled p.lv, layer_back p.layer)

-- ---- the clauses of `split_name`

pub one_split : (name : List ℕ) (p q : NameParts) → Builds p name → Builds q name → p ≡ q
one_split name p q h k =
    let same : doubled_parts p ≡ doubled_parts q = same_Some _ _ (sym (built_slices p name h) ∙ built_slices q name k) in
    sym (parts_back p) ∙ ap undoubled_parts same ∙ parts_back q

pub none_sliced : (name : List ℕ) → None ≡ slices_of name → (p : NameParts) → ¬ (Builds p name)
none_sliced name e p h = let wrong : ◌≡◌ {A = Option NameParts} None (Some (doubled_parts p)) = e ∙ built_slices p name h in absurd cc

pub none_faulty : (name : List ℕ) (s : NameParts) (f : Option NameFault) → Some s ≡ slices_of name → f ≡ parts_faults s → is_none f ≡ false → (p : NameParts) → ¬ (Builds p name)
none_faulty name s None e is n p h = absurd cc
none_faulty name s (Some f) e is n p h =
    let same : s ≡ doubled_parts p = same_Some _ _ (e ∙ built_slices p name h) in
    let w = or_none (parts_faults p) (long_fault p) (sym (fault_parts p) ∙ h.0) in
    let wrong : Some f ≡ None = is ∙ ap parts_faults same ∙ parts-doubled p ∙ w.0 in
    absurd cc

long_none : (n : ℕ) (b : Bool) → nat_le n 127 ≡ b → cond b None (Some Long) ≡ None → n ≤ 127
long_none n true e h = leb-true n 127 e
long_none n false e h = absurd cc

pub none_long : (name : List ℕ) → 127 < length name → (p : NameParts) → ¬ (Builds p name)
none_long name lt p h =
    let w = or_none (parts_faults p) (long_fault p) (sym (fault_parts p) ∙ h.0) in
    let le : length (joined p) ≤ 127 = long_none (length (joined p)) _ refl w.1 in
    let same : length (joined p) ≡ length name = ap length h.1 in
    absurd (omega arith)

pub some_split : (name : List ℕ) (s : NameParts) (f : Option NameFault) → Some s ≡ slices_of name → f ≡ parts_faults s → is_none f ≡ true → length name ≤ 127 → IsSplit name s
some_split name s (Some f) e is n le = absurd cc
some_split name s None e is n le =
    let d = sliced name s (sym e) in
    let short : long_fault d.parts ≡ None = rw (le-leb (length (joined d.parts)) 127 (rw (← d.spell) le)) in
    let fine : parts_faults d.parts ≡ None = sym (parts-doubled d.parts) ∙ ap parts_faults (sym d.are) ∙ sym is in
    (d.parts, (rw (fault_parts d.parts, fine, short), sym d.spell), d.are)

-- ---- undoubling hyphens

apart_undoubled : (x : ℕ) (zs : List ℕ) → ((rest : List ℕ) → x ∷ zs ≢ code "-" ∷ code "-" ∷ rest) → undoubled (x ∷ zs) ≡ x ∷ undoubled zs
apart_undoubled x [] h = refl
apart_undoubled x (y ∷ zs) h =
    cond_both (eqb x (code "-") && eqb y (code "-")) (code "-" ∷ undoubled zs) (x ∷ undoubled (y ∷ zs)) (λ (r : List ℕ). r ≡ x ∷ undoubled (y ∷ zs))
    (λ e. let both = and_parts (eqb x (code "-")) (eqb y (code "-")) e in absurd (h zs (rw (eqb-true x (code "-") both.0, eqb-true y (code "-") both.1))))
    (λ e. refl)

undoubled_pair : (xs ys : List ℕ) → ((i : ℕ) → i < length xs → LacksTextAt (code "-" ∷ code "-" ∷ []) (xs ++ code "-" ∷ code "-" ∷ ys) i) → undoubled (xs ++ code "-" ∷ code "-" ∷ ys) ≡ xs ++ code "-" ∷ undoubled ys
undoubled_pair [] ys h = refl
undoubled_pair (x ∷ xs) ys h =
    rw (← undoubled_pair xs ys (λ i lt. h (suc i) (omega (arith, lt)))) (apart_undoubled x (xs ++ code "-" ∷ code "-" ∷ ys) (h 0 (omega arith)))

pub undoubled_none : (bs : List ℕ) → ((i : ℕ) → i ≤ length bs → LacksTextAt (code "-" ∷ code "-" ∷ []) bs i) → undoubled bs ≡ bs
undoubled_none [] h = refl
undoubled_none (x ∷ bs) h =
    rw (apart_undoubled x bs (h 0 (omega arith)), undoubled_none bs (λ i le. h (suc i) (omega (arith, le))))

pub undoubled_step : (s before after : List ℕ) (i j : ℕ) → ((k : ℕ) → k < i → LacksTextAt (code "-" ∷ code "-" ∷ []) s k) → HasTextAt (code "-" ∷ code "-" ∷ []) s i j → before ≡ take i s → after ≡ drop j s → length before ≡ i → undoubled s ≡ before ++ code "-" ∷ undoubled after
undoubled_step s before after i j lacks has b a n =
    let whole : s ≡ before ++ code "-" ∷ code "-" ∷ after =
    rw (a, ← has.split, b) (sym (take-append-drop i s)) in
    let clear : (k : ℕ) → k < length before → LacksTextAt (code "-" ∷ code "-" ∷ []) (before ++ code "-" ∷ code "-" ∷ after) k = λ k lt. rw (← whole) (lacks k (omega (arith, lt, n))) in
    ap undoubled whole ∙ undoubled_pair before after clear

pub undoubled_joined : (all whole rest before after one two : List ℕ) → all ≡ whole ++ rest → rest ≡ before ++ code "-" ∷ after → one ≡ whole ++ before → two ≡ one ++ code "-" ∷ [] → all ≡ two ++ after
undoubled_joined all whole rest before after one two a r o t =
    rw (t, a, r, ← append_assoc whole before (code "-" ∷ after), ← o, ← append_assoc one (code "-" ∷ []) after)
