-- A text spells a number exactly if the number is read from it.
use Rattle.dm_table.proofs.Prelude.{ℕ, inl, inr, true, false, eqb, nat_le, not, List, Option, Some, None, length, get_or, take, take_all, refl, sym, ap, ◌∙◌, arith, rules, decimal, is_some, unwrap_or, digit_value, is_ascii_digit, IsInRange, list_all, prefix_len, and_parts, and_from, or_cases, or_left, or_right, not-true, not_from_false, eqb-true, eqb-false, eq-eqb, ne_eqb, leb-true, le-leb, cases_eq, cond-false, decimal-digits_value, digits_decimal, digits_value-decimal, decimal_nonempty, decimal_digit, length-decimal-le, first_decimal, digits_value_more, nat_tests, common_steps, list_all_more, list_all_at, prefix_len-le-length, prefix_len_stops, digit_value_digit, IsNumeralModel, numerals_by_value, digits_value_short, cond_some, digits_value, IsReadTo, Spells, is_number, number_of}
use Rattle.std.specs.Prelude.{◌≡◌, ◌≢◌, ◌+◌, ◌-◌, ◌*◌, ◌^◌, ◌<◌, ◌≤◌, ◌||◌}

-- std's laws about numerals, for texts that consist of digits
pub numerals : IsNumeralModel (λ text. list_all is_ascii_digit text ≡ true) (digits_value 10)
numerals = numerals_by_value _ (search rules)

pub digit_range : (b : ℕ) → is_ascii_digit b ≡ true → IsInRange 48 57 b
digit_range b h = grind (arith, nat_tests)

-- the value of the first i + 1 digits, from that of the first i
pub value_more : (text : List ℕ) (i : ℕ) → is_ascii_digit (get_or text i 0) ≡ true → i < length text
    → digits_value 10 (take i text) * 10 + (get_or text i 0 - 48) ≡ digits_value 10 (take (i + 1) text)
value_more text i digit below =
    let e : get_or text i 0 - 48 ≡ digit_value (get_or text i 0) = omega (arith, digit_value_digit (get_or text i 0) (digit_range _ digit)) in
    rw e (sym (digits_value_more 10 text i below))

pub digits_more : (text : List ℕ) (i : ℕ) → list_all is_ascii_digit (take i text) ≡ true → is_ascii_digit (get_or text i 0) ≡ true → i < length text
    → list_all is_ascii_digit (take (i + 1) text) ≡ true
digits_more text i digits digit below = list_all_more is_ascii_digit text i 0 below ∙ and_from _ _ digits digit

-- at most 19 digits have a value below 10^19
pub front_below : (text : List ℕ) (i : ℕ) → list_all is_ascii_digit (take i text) ≡ true → i ≤ 19 → digits_value 10 (take i text) < 10 ^ 19
front_below text i digits short =
    let few : length (take i text) ≤ 19 = grind (arith, common_steps) in
    digits_value_short numerals (take i text) 19 digits few

-- at most 18 digits and one more have a value below 10^19
pub next_below : (text : List ℕ) (i : ℕ) → list_all is_ascii_digit (take i text) ≡ true → is_ascii_digit (get_or text i 0) ≡ true → i < length text → i + 1 ≤ 19
    → digits_value 10 (take i text) * 10 + (get_or text i 0 - 48) < 10 ^ 19
next_below text i digits digit below short = rw (value_more text i digit below) (front_below text (i + 1) (digits_more text i digits digit below) short)

-- IsReadTo still holds after one more digit was read
pub read_more : (text : List ℕ) (len value : ℕ) → IsReadTo text len value → is_ascii_digit (get_or text len 0) ≡ true → len < length text → len + 1 ≤ 19
    → IsReadTo text (len + 1) (value * 10 + (get_or text len 0 - 48))
read_more text len value read digit below short = record {
  short = short;
  within = omega (arith, below);
  digits = digits_more text len read.digits digit below;
  value = rw read.value (value_more text len digit below);
}

-- what the test of a number says
record IsNumeral (text : List ℕ) : Type 0 where
  low : 1 ≤ length text
  high : length text ≤ 19
  lead : get_or text 0 0 ≡ 48 → length text ≡ 1
  digits : list_all is_ascii_digit text ≡ true

lead_alone : (text : List ℕ) → (not (eqb (get_or text 0 0) 48) || eqb (length text) 1) ≡ true → get_or text 0 0 ≡ 48 → length text ≡ 1
lead_alone text h zero =
    elim (or_cases _ _ h) [
      | inl other ↦ absurd (eqb-false _ _ (not-true _ other) zero)
      | inr alone ↦ eqb-true _ _ alone
    ]

numeral_of : (text : List ℕ) → is_number text ≡ true → IsNumeral text
numeral_of text h =
    let a = and_parts (nat_le 1 (length text)) _ h in
    let b = and_parts (nat_le (length text) 19) _ a.1 in
    let c = and_parts (not (eqb (get_or text 0 0) 48) || eqb (length text) 1) (list_all is_ascii_digit text) b.1 in
    record { low = leb-true 1 (length text) a.0; high = leb-true (length text) 19 b.0; lead = lead_alone text c.0; digits = c.1 }

-- if a number is read from a text, the text spells it
pub Spells-number_of : (text : List ℕ) (n : ℕ) → number_of text ≡ Some n → Spells text n
unfolding number_of
Spells-number_of text n e =
    let a = cond_some (is_number text) (digits_value 10 text) n e in
    let numeral = numeral_of text a.0 in
    let below : digits_value 10 text < 10 ^ 19 = digits_value_short numerals text 19 numeral.digits numeral.high in
    let back : decimal (digits_value 10 text) ≡ text = decimal-digits_value numerals text numeral.digits numeral.low numeral.lead (omega arith) in
    record { digits = sym back ∙ ap decimal a.1; short = rw (← a.1) below }

decimal_lead : (n : ℕ) → n < 2 ^ 64 → (not (eqb (get_or (decimal n) 0 0) 48) || eqb (length (decimal n)) 1) ≡ true
decimal_lead n wide =
    elim (cases_eq n 0) [
      | inl zero ↦ let alone : length (decimal n) ≡ 1 = rw (zero, decimal_digit 0 (omega arith)) in or_right _ _ (eq-eqb _ _ alone)
      | inr more ↦
          let above = first_decimal n (omega arith) wide in
          or_left _ _ (not_from_false _ (ne_eqb (get_or (decimal n) 0 0) 48 (λ zero. absurd (omega arith))))
    ]

-- the decimal text of a number is read as that number
pub number_of-decimal : (n : ℕ) → n < 10 ^ 19 → number_of (decimal n) ≡ Some n
unfolding number_of
number_of-decimal n short =
    let wide : n < 2 ^ 64 = omega arith in
    let low : 1 ≤ length (decimal n) = decimal_nonempty n wide in
    let high : length (decimal n) ≤ 19 = length-decimal-le 19 n (omega arith) short wide in
    let test : is_number (decimal n) ≡ true = and_from _ _ (le-leb _ _ low) (and_from _ _ (le-leb _ _ high) (and_from _ _ (decimal_lead n wide) (digits_decimal numerals n wide))) in
    rw (test, digits_value-decimal numerals n wide)

-- the decimal text of a number consists of digits; and below, isn't empty
pub decimal_digits : (n : ℕ) → n < 10 ^ 19 → list_all is_ascii_digit (decimal n) ≡ true
decimal_digits n short = digits_decimal numerals n (omega arith)

pub decimal_some : (n : ℕ) → n < 10 ^ 19 → 0 < length (decimal n)
decimal_some n short = decimal_nonempty n (omega arith)

-- the number in an option that is Some
pub Some-is_some : (o : Option ℕ) → is_some o ≡ true → o ≡ Some (unwrap_or o 0)
Some-is_some None e = absurd cc
Some-is_some (Some n) e = refl

-- ---- texts that spell no number

pub number_of-empty : (text : List ℕ) → length text ≡ 0 → number_of text ≡ None
unfolding number_of
number_of-empty text none = cond-false (is_number text) _ _ (grind (arith, nat_tests))

pub number_of-long : (text : List ℕ) → 19 < length text → number_of text ≡ None
unfolding number_of
number_of-long text long = cond-false (is_number text) _ _ (grind (arith, nat_tests))

pub number_of-zero : (text : List ℕ) → get_or text 0 0 ≡ 48 → 1 < length text → number_of text ≡ None
unfolding number_of
number_of-zero text zero more = cond-false (is_number text) _ _ (grind (arith, nat_tests))

pub number_of-other : (text : List ℕ) (i : ℕ) → i < length text → is_ascii_digit (get_or text i 0) ≡ false → number_of text ≡ None
unfolding number_of
number_of-other text i below other = let bad = list_all_at is_ascii_digit text i 0 below other in cond-false (is_number text) _ _ (grind (arith, nat_tests))

led : (text : List ℕ) → 1 ≤ length text → (1 < length text → get_or text 0 0 ≢ 48) → (not (eqb (get_or text 0 0) 48) || eqb (length text) 1) ≡ true
led text low lead =
    elim (cases_eq (length text) 1) [
      | inl alone ↦ or_right _ _ (eq-eqb _ _ alone)
      | inr more ↦ or_left _ _ (not_from_false _ (ne_eqb (get_or text 0 0) 48 (lead (omega arith))))
    ]

-- 1 to 19 digits without a leading zero spell their value
pub number_of-digits : (text : List ℕ) → 1 ≤ length text → length text ≤ 19 → (1 < length text → get_or text 0 0 ≢ 48) → list_all is_ascii_digit text ≡ true
    → number_of text ≡ Some (digits_value 10 text)
unfolding number_of
number_of-digits text low high lead digits =
    let test : is_number text ≡ true = and_from _ _ (le-leb _ _ low) (and_from _ _ (le-leb _ _ high) (and_from _ _ (led text low lead) digits)) in
    rw test

-- a text with a byte that is no digit spells no number
pub number_of-cut : (text : List ℕ) → prefix_len is_ascii_digit text ≢ length text → number_of text ≡ None
number_of-cut text cut =
    let within = prefix_len-le-length is_ascii_digit text in
    let below : prefix_len is_ascii_digit text < length text = omega arith in
    number_of-other text (prefix_len is_ascii_digit text) below (prefix_len_stops is_ascii_digit text 0 below)

-- a text spells no number if the digits at its front spell none
pub number_of-first : (text : List ℕ) → number_of (take (prefix_len is_ascii_digit text) text) ≡ None → number_of text ≡ None
number_of-first text none =
    elim (cases_eq (prefix_len is_ascii_digit text) (length text)) [
      | inl whole ↦ sym (ap number_of (take_all (prefix_len is_ascii_digit text) text (omega arith))) ∙ none
      | inr cut ↦ number_of-cut text cut
    ]
