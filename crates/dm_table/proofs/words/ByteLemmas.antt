-- What tests of single bytes say about whole texts.
use Rattle.dm_table.proofs.Prelude.{ℕ, suc, inl, inr, Bool, true, false, cond, eqb, nat_le, nat_lt, not, List, [], length, take, take_all, drop, refl, sym, ap, ◌∙◌, arith, is_ascii_digit, list_all, AllByRecursion, prefix_len, join_with_byte, onto_first, and_parts, and_from, not-false, not_from_true, cases_Bool, le-leb, leb-true, false_from_ne_true, eq-eqb, ne_eqb, cases_eq, nat_tests, take-append_seam, drop-append_seam, length-prefix_len, list_all_at, prefix_len-le-length, prefix_len_stops, parts_at, is_printable, All-list_all, is_device_byte, is_device_name, is_disk_byte, is_disk_name, names_device}
use Rattle.dm_table.proofs.words.FieldLemmas.{IsClearOf, join-parts_at}
use Rattle.std.specs.Prelude.{◌≡◌, ◌≢◌, ◌+◌, ◌<◌, ◌≤◌, ◌⊎◌, ◌&&◌, ◌||◌, ◌∷◌, ◌++◌}

-- ---- texts whose bytes all pass a test

-- if all bytes pass a test, they pass a weaker one
pub list_all-weaker : (test weaker : ℕ → Bool) → ((b : ℕ) → test b ≡ true → weaker b ≡ true) → (text : List ℕ) → list_all test text ≡ true → list_all weaker text ≡ true
list_all-weaker test weaker says [] h = refl
list_all-weaker test weaker says (b ∷ text) h = let a = and_parts (test b) (list_all test text) h in and_from _ _ (says b a.0) (list_all-weaker test weaker says text a.1)

pub list_all-both : (test : ℕ → Bool) (xs ys : List ℕ) → list_all test xs ≡ true → list_all test ys ≡ true → list_all test (xs ++ ys) ≡ true
list_all-both test [] ys h k = k
list_all-both test (b ∷ xs) ys h k = let a = and_parts (test b) (list_all test xs) h in and_from _ _ a.0 (list_all-both test xs ys a.1 k)

-- ---- bytes of lines, names and numbers

-- all bytes of the line are from 0x20 to 0x7E
abbrev pub is_shown : List ℕ → Bool
is_shown line = list_all (λ b. nat_le 32 b && nat_le b 126) line

shown_byte : (b : ℕ) → (nat_le 32 b && nat_le b 126) ≡ true → (eqb b 10 || (nat_le 32 b && nat_le b 126)) ≡ true
shown_byte b h = grind (arith, nat_tests)

pub is_shown-printed : (line : List ℕ) → is_shown line ≡ true → is_printable line ≡ true
is_shown-printed line h = list_all-weaker (λ b. nat_le 32 b && nat_le b 126) (λ b. eqb b 10 || (nat_le 32 b && nat_le b 126)) shown_byte line h

text_newline : (b : ℕ) → (nat_le 32 b && nat_le b 126) ≡ true → eqb b 10 ≡ false
text_newline b h = grind (arith, nat_tests)

-- a line of printable bytes contains no newline
pub is_shown-clear : (line : List ℕ) → is_shown line ≡ true → IsClearOf 10 line
is_shown-clear line h = All-list_all (λ b. nat_le 32 b && nat_le b 126) (λ b. eqb b 10 ≡ false) text_newline line h

digit_text : (b : ℕ) → is_ascii_digit b ≡ true → (nat_le 32 b && nat_le b 126) ≡ true
digit_text b h = grind (arith, nat_tests)

digit_space : (b : ℕ) → is_ascii_digit b ≡ true → eqb b 32 ≡ false
digit_space b h = grind (arith, nat_tests)

-- digits are printable, and below: they contain no space
pub is_shown-digits : (text : List ℕ) → list_all is_ascii_digit text ≡ true → is_shown text ≡ true
is_shown-digits text h = list_all-weaker is_ascii_digit (λ b. nat_le 32 b && nat_le b 126) digit_text text h

pub digits-clear : (text : List ℕ) → list_all is_ascii_digit text ≡ true → IsClearOf 32 text
digits-clear text h = All-list_all is_ascii_digit (λ b. eqb b 32 ≡ false) digit_space text h

-- what the test of a disk name says
pub record IsDiskName (text : List ℕ) : Type 0 where
  pub some : nat_lt 0 (length text) ≡ true
  pub bytes : list_all is_disk_byte text ≡ true
  pub own : not (names_device text) ≡ true

pub disk_name_parts : (text : List ℕ) → is_disk_name text ≡ true → IsDiskName text
disk_name_parts text h =
    let a = and_parts (nat_le 1 (length text)) _ h in
    let b = and_parts (nat_le (length text) 255) _ a.1 in
    let c = and_parts (list_all is_disk_byte text) (not (names_device text)) b.1 in
    record { some = a.0; bytes = c.0; own = c.1 }

disk_text : (b : ℕ) → is_disk_byte b ≡ true → (nat_le 32 b && nat_le b 126) ≡ true
disk_text b h = grind (arith, nat_tests)

disk_space : (b : ℕ) → is_disk_byte b ≡ true → eqb b 32 ≡ false
disk_space b h = grind (arith, nat_tests)

-- the text has only printable bytes and no space
pub record IsPlain (text : List ℕ) : Type 0 where
  pub printed : is_shown text ≡ true
  pub clear : IsClearOf 32 text

plain : (text : List ℕ) → list_all is_disk_byte text ≡ true → IsPlain text
plain text h =
    record {
      printed = list_all-weaker is_disk_byte (λ b. nat_le 32 b && nat_le b 126) disk_text text h;
      clear = All-list_all is_disk_byte (λ b. eqb b 32 ≡ false) disk_space text h;
    }

pub plain-disk_name : (text : List ℕ) → is_disk_name text ≡ true → IsPlain text
plain-disk_name text h = plain text (disk_name_parts text h).bytes

-- what the test of a device name says
pub record IsDeviceName (text : List ℕ) : Type 0 where
  pub some : nat_lt 0 (length text) ≡ true
  pub bytes : list_all is_device_byte text ≡ true

pub device_name_parts : (text : List ℕ) → is_device_name text ≡ true → IsDeviceName text
device_name_parts text h =
    let a = and_parts (nat_le 1 (length text)) _ h in
    let b = and_parts (nat_le (length text) 127) (list_all is_device_byte text) a.1 in
    record { some = a.0; bytes = b.1 }

-- every byte that may occur in a device name may occur in a disk name
device_disk : (b : ℕ) → is_device_byte b ≡ true → is_disk_byte b ≡ true
device_disk b h = grind (arith, nat_tests)

pub plain-device_name : (text : List ℕ) → is_device_name text ≡ true → IsPlain text
plain-device_name text h = plain text (list_all-weaker is_device_byte is_disk_byte device_disk text (device_name_parts text h).bytes)

-- ---- the bytes before the first one that fails a test

prefix_step : (test : ℕ → Bool) (b : ℕ) (text : List ℕ) (t : Bool) (n : ℕ) → test b ≡ t → list_all test (take n text) ≡ true
    → list_all test (take (cond t (1 + n) 0) (b ∷ text)) ≡ true
prefix_step test b text true n e h = let more : 1 + n ≡ suc n = omega arith in rw more (and_from _ _ e h)
prefix_step test b text false n e h = refl

-- all bytes before the first one that fails a test pass it
pub list_all-prefix : (test : ℕ → Bool) (text : List ℕ) → list_all test (take (prefix_len test text) text) ≡ true
list_all-prefix test [] = refl
list_all-prefix test (b ∷ text) = prefix_step test b text (test b) (prefix_len test text) refl (list_all-prefix test text)

-- 1 to 127 bytes before the first one that no device name contains are a device name
pub device_name_front : (text : List ℕ) (n : ℕ) → n ≡ prefix_len is_device_byte text → 1 ≤ n → n ≤ 127 → is_device_name (take n text) ≡ true
device_name_front text n whole low high =
    let long = length-prefix_len is_device_byte text in
    let some : 1 ≤ length (take (prefix_len is_device_byte text) text) = omega arith in
    let short : length (take (prefix_len is_device_byte text) text) ≤ 127 = omega arith in
    rw whole (and_from _ _ (le-leb _ _ some) (and_from _ _ (le-leb _ _ short) (list_all-prefix is_device_byte text)))

pub device_name_length : (text : List ℕ) → (length text ≡ 0) ⊎ (127 < length text) → is_device_name text ≡ false
device_name_length text out = false_from_ne_true _ (λ named.
    let a = and_parts (nat_le 1 (length text)) _ named in
    let b = and_parts (nat_le (length text) 127) (list_all is_device_byte text) a.1 in
    absurd (omega (arith, leb-true 1 (length text) a.0, leb-true (length text) 127 b.0, out)))

-- a text with a byte that no device name contains isn't a device name
device_name_cut : (text : List ℕ) → prefix_len is_device_byte text ≢ length text → is_device_name text ≡ false
device_name_cut text cut = false_from_ne_true _ (λ named.
    let within = prefix_len-le-length is_device_byte text in
    let below : prefix_len is_device_byte text < length text = omega arith in
    let other = list_all_at is_device_byte text (prefix_len is_device_byte text) 0 below (prefix_len_stops is_device_byte text 0 below) in
    let bytes = (device_name_parts text named).bytes in
    cc)

pub device_name_whole : (text : List ℕ) (len : ℕ) → len ≡ prefix_len is_device_byte text → is_device_name (take len text) ≡ true → eqb len (length text) ≡ is_device_name text
device_name_whole text len front named =
    elim (cases_eq len (length text)) [
      | inl whole ↦ eq-eqb _ _ whole ∙ sym (ap is_device_name (sym (take_all len text (omega arith))) ∙ named)
      | inr cut ↦ ne_eqb _ _ cut ∙ sym (device_name_cut text (λ whole. cut (front ∙ whole)))
    ]

-- a text isn't a device name if its bytes before the first that no device name contains aren't one
pub device_name_first : (text : List ℕ) → is_device_name (take (prefix_len is_device_byte text) text) ≡ false → is_device_name text ≡ false
device_name_first text none =
    elim (cases_eq (prefix_len is_device_byte text) (length text)) [
      | inl whole ↦ ap is_device_name (sym (take_all (prefix_len is_device_byte text) text (omega arith))) ∙ none
      | inr cut ↦ device_name_cut text cut
    ]

-- the bytes that pass a test, up to the first space, are the text's first field
pub record StandsFirst (test : ℕ → Bool) (text field : List ℕ) : Type 0 where
  pub front : take (prefix_len test text) text ≡ field
  pub rest : List ℕ
  pub after : drop (prefix_len test text) text ≡ 32 ∷ rest

prefix_at : (test : ℕ → Bool) (field rest : List ℕ) → list_all test field ≡ true → test 32 ≡ false → prefix_len test (field ++ 32 ∷ rest) ≡ length field
prefix_at test [] rest all other = rw other
prefix_at test (b ∷ field) rest all other = let a = and_parts (test b) (list_all test field) all in rw (a.0, prefix_at test field rest a.1 other) (omega arith)

pub stands_first : (test : ℕ → Bool) (text field next : List ℕ) (more : List (List ℕ)) → parts_at 32 text ≡ field ∷ next ∷ more
    → list_all test field ≡ true → test 32 ≡ false → StandsFirst test text field
stands_first test text field next more cut all other =
    let rest = join_with_byte 32 (next ∷ more) in
    let whole : text ≡ field ++ 32 ∷ rest = sym (join-parts_at 32 text) ∙ ap (join_with_byte 32) cut in
    record {
      front = rw (whole, prefix_at test field rest all other) (take-append_seam field (32 ∷ rest));
      rest = rest;
      after = rw (whole, prefix_at test field rest all other) (drop-append_seam field (32 ∷ rest));
    }

-- ---- parts of a text whose bytes all pass a test

onto_pass : (test : ℕ → Bool) (b : ℕ) (parts : List (List ℕ)) → test b ≡ true → AllByRecursion (λ part. not (list_all test part) ≡ false) parts
    → AllByRecursion (λ part. not (list_all test part) ≡ false) (onto_first b parts)
onto_pass test b [] h more = (not_from_true _ (and_from (test b) true h refl), tt)
onto_pass test b (part ∷ parts) h more = (not_from_true _ (and_from (test b) (list_all test part) h (not-false _ more.0)), more.1)

-- if all bytes of a text pass a test, so do those of its parts
pub parts_pass : (test : ℕ → Bool) (c : ℕ) (text : List ℕ) → list_all test text ≡ true → AllByRecursion (λ part. not (list_all test part) ≡ false) (parts_at c text)
parts_pass test c [] h = (refl, tt)
parts_pass test c (b ∷ text) h =
    let a = and_parts (test b) (list_all test text) h in
    let more = parts_pass test c text a.1 in
    elim (cases_Bool (eqb b c)) [
      | inl e ↦ rw e (refl, more)
      | inr e ↦ rw e (onto_pass test b (parts_at c text) a.0 more)
    ]

-- ---- the greatest lengths of names

pub device_name_len : (text : List ℕ) → is_device_name text ≡ true → length text ≤ 127
device_name_len text h = leb-true _ _ (and_parts (nat_le (length text) 127) _ (and_parts (nat_le 1 (length text)) _ h).1).0

pub disk_name_len : (text : List ℕ) → is_disk_name text ≡ true → length text ≤ 255
disk_name_len text h = leb-true _ _ (and_parts (nat_le (length text) 255) _ (and_parts (nat_le 1 (length text)) _ h).1).0
