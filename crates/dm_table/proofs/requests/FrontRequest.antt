-- Lemmas about a text that begins with a request line.
use Rattle.dm_table.proofs.Prelude.{ℕ, Bool, List, true, nat_le, length, take, drop, Some, ap, ◌∙◌, append_assoc, length-append, length-take-le, arith, decimal, take-append_seam, drop-append-add, and_parts, leb-true, length-decimal-le, Op, Read, Write, is_device_name, number_of, parts_at, RequestValues, IsFront, request_text, op_text, MOST_SECTORS}
use Rattle.dm_table.proofs.words.ByteLemmas.{is_shown, is_shown-clear, is_shown-digits, list_all-both, plain-device_name}
use Rattle.dm_table.proofs.words.FieldLemmas.{IsClearOf, parts_at-first}
use Rattle.dm_table.proofs.words.NumberLemmas.{Spells-number_of, decimal_digits}
use Rattle.std.specs.Prelude.{◌≡◌, ◌+◌, ◌-◌, ◌<◌, ◌≤◌, ◌^◌, ◌&&◌, ◌∷◌, ◌++◌}

abbrev values_with : Op → List ℕ → ℕ → ℕ → RequestValues
values_with op device start len = record { op = op; device = device; start = start; len = len }

-- the parts of a request line, joined, are the request's text, a newline and what comes after it
front_text : (op : Op) (device start len rest more after : List ℕ) (s l : ℕ) → rest ≡ start ++ 32 ∷ more → more ≡ len ++ 10 ∷ after → start ≡ decimal s → len ≡ decimal l
    → op_text op ∷ 32 ∷ (device ++ 32 ∷ rest) ≡ request_text (values_with op device s l) ++ 10 ∷ after
front_text op device start len rest more after s l is_rest is_more is_start is_len = rw (is_rest, is_more, is_start, is_len) (simp append_assoc)

flat : (op : Op) (device : List ℕ) (s l : ℕ) → request_text (values_with op device s l) ≡ op_text op ∷ 32 ∷ (device ++ 32 ∷ (decimal s ++ 32 ∷ decimal l))
flat op device s l = simp append_assoc

size : (op : Op) (device : List ℕ) (s l : ℕ) → length (request_text (values_with op device s l)) ≡ 4 + length device + length (decimal s) + length (decimal l)
size op device s l = omega (arith, ap length (flat op device s l), length-append device (32 ∷ (decimal s ++ 32 ∷ decimal l)), length-append (decimal s) (32 ∷ decimal l))

op_text-is_shown : (op : Op) (rest : List ℕ) → is_shown rest ≡ true → is_shown (op_text op ∷ 32 ∷ rest) ≡ true
op_text-is_shown Read rest h = h
op_text-is_shown Write rest h = h

-- the text of a request contains no newline
request-clear : (op : Op) (device : List ℕ) (s l : ℕ) → is_device_name device ≡ true → s < 10 ^ 19 → l < 10 ^ 19 → IsClearOf 10 (request_text (values_with op device s l))
request-clear op device s l named small small' =
    let ink : ℕ → Bool = λ b. nat_le 32 b && nat_le b 126 in
    let numbers : is_shown (decimal s ++ 32 ∷ decimal l) ≡ true =
    list_all-both ink (decimal s) (32 ∷ decimal l) (is_shown-digits (decimal s) (decimal_digits s small)) (is_shown-digits (decimal l) (decimal_digits l small')) in
    let all : is_shown (device ++ 32 ∷ (decimal s ++ 32 ∷ decimal l)) ≡ true = list_all-both ink device (32 ∷ (decimal s ++ 32 ∷ decimal l)) (plain-device_name device named).printed numbers in
    is_shown-clear (request_text (values_with op device s l)) (ap is_shown (flat op device s l) ∙ op_text-is_shown op (device ++ 32 ∷ (decimal s ++ 32 ∷ decimal l)) all)

request-short : (op : Op) (device : List ℕ) (s l : ℕ) → is_device_name device ≡ true → s < 10 ^ 19 → l < 10 ^ 19 → length (request_text (values_with op device s l)) ≤ 200
request-short op device s l named small small' =
    let a = and_parts (nat_le 1 (length device)) _ named in
    let name = leb-true (length device) 127 (and_parts (nat_le (length device) 127) _ a.1).0 in
    let start = length-decimal-le 19 s (omega arith) small (omega arith) in
    let len = length-decimal-le 19 l (omega arith) small' (omega arith) in
    omega (arith, size op device s l, name, start, len)

-- if the parts are read as here, the text begins with this request's line
pub front_line : (text device start rest more : List ℕ) (op : Op) (s l digits end : ℕ) → text ≡ op_text op ∷ 32 ∷ (device ++ 32 ∷ rest) → is_device_name device ≡ true
    → rest ≡ start ++ 32 ∷ more → number_of start ≡ Some s → digits < length more → more ≡ take digits more ++ 10 ∷ drop (digits + 1) more → number_of (take digits more) ≡ Some l
    → 1 ≤ l → l ≤ MOST_SECTORS → end ≡ length text - length more + digits → IsFront text (record { op = op; device = device; start = s; len = l }) end
front_line text device start rest more op s l digits end is_text' named is_rest is_start within is_more is_len least most is_end =
    let len = take digits more in
    let after = drop (digits + 1) more in
    let values = values_with op device s l in
    let line = request_text values in
    let first = Spells-number_of start s is_start in
    let last = Spells-number_of len l is_len in
    let whole : text ≡ line ++ 10 ∷ after = is_text' ∙ front_text op device start len rest more after s l is_rest is_more first.digits last.digits in
    let whole_size : length text ≡ length line + length (10 ∷ after) = ap length whole ∙ length-append line (10 ∷ after) in
    let more_size : length more ≡ length len + length (10 ∷ after) = ap length is_more ∙ length-append len (10 ∷ after) in
    let len_size : length len ≡ digits = length-take-le digits more (omega arith) in
    let place : end ≡ length line = omega (arith, is_end, whole_size, more_size, len_size, size op device s l, ap length last.digits) in
    let front : take end text ≡ line = rw place (ap (take (length line)) whole ∙ take-append_seam line (10 ∷ after)) in
    let back : drop (end + 1) text ≡ after = rw place (ap (drop (length line + 1)) whole ∙ drop-append-add line (10 ∷ after) 1) in
    let small : l < 10 ^ 19 = omega (arith, most) in
    record {
      described = record { written = front; device = named; start = first.short; least = least; most = most };
      line =
          rw (back, front) (ap (parts_at 10) whole ∙ parts_at-first 10 line after (request-clear op device s l named first.short small));
      within = omega (arith, place, whole_size);
      short = omega (arith, place, request-short op device s l named first.short small);
    }
