-- Lemmas about the value of digits.
use Rattle.lvm_text.proofs.Prelude.{ℕ, true, List, length, get_or, take, sym, arith, rules, digits_value, digit_value_digit, digit_value, are_digits}
use Rattle.std.proofs.lemmas.Str.Parse.{IsNumeralModel, numerals_by_value, digits_value_short, digits_value-take-le, digit_at}
use Rattle.std.proofs.lemmas.Int.Digits.{digits_value_more}
use Rattle.std.specs.Prelude.{◌≡◌, ◌+◌, ◌-◌, ◌*◌, ◌^◌, ◌<◌, ◌≤◌}

pub digits_model : IsNumeralModel (λ ds. are_digits ds ≡ true) (digits_value 10)
digits_model = numerals_by_value _ (search rules)

-- the value of the first i + 1 digits, from that of the first i
pub value_more : (word : List ℕ) (i : ℕ) → are_digits word ≡ true → i < length word → digits_value 10 (take i word) * 10 + (get_or word i 0 - 48) ≡ digits_value 10 (take (i + 1) word)
value_more word i digits lt =
    let range = digit_at word i (digits_model.to word digits) lt in
    let e : get_or word i 0 - 48 ≡ digit_value (get_or word i 0) = omega (arith, digit_value_digit (get_or word i 0) range) in
    rw e (sym (digits_value_more 10 word i lt))

-- the first i of at most 19 digits have a value below 10^19
pub value_fits : (word : List ℕ) (i : ℕ) → are_digits word ≡ true → length word ≤ 19 → digits_value 10 (take i word) < 10 ^ 19
value_fits word i digits short = omega (arith, digits_value-take-le 10 word i (omega arith), digits_value_short digits_model word 19 digits short)
