-- The text of a number when only its last digit changes.
use Rattle.dm_stream.proofs.Prelude.{ℕ, zero, suc, List, [], length, take, set, decimal, refl, ap, arith, append_assoc, length-append, length-take-le, inl, inr, div-eq_of_lt, mod-eq_of_lt, set-append_seam, take-set-lt, cases_lt, decimal_digit, decimal_step, number_prefix}
use Rattle.std.specs.Prelude.{◌≡◌, ◌+◌, ◌-◌, ◌<◌, ◌^◌, ◌/◌, ◌%◌, ◌++◌, ◌∷◌, ◌≤◌}

-- the digits before the last one; none if the number has no tens
abbrev tens_text : ℕ → List ℕ
tens_text zero = []
tens_text (suc tens) = decimal (suc tens)

some_tens : (tens : ℕ) → 0 < tens → decimal tens ≡ tens_text tens
some_tens zero some = absurd (omega arith)
some_tens (suc tens) some = refl

-- a number's digits are those of its tens and then its last digit
tens_and_last : (n : ℕ) → n < 2 ^ 64 → decimal n ≡ tens_text (n / 10) ++ (48 + n % 10) ∷ []
tens_and_last n fits = elim (cases_lt n 10) [
  | inl small ↦ cc (decimal_digit n small, mod-eq_of_lt small, div-eq_of_lt small)
  | inr large ↦
      let some : 0 < n / 10 = omega arith in
      cc (decimal_step n large fits, some_tens (n / 10) some)
]

-- setting the last digit of a prefix turns it into the prefix of the new number
pub last_digit_set : (text : List ℕ) (end old new : ℕ) → 2 ≤ end → end ≤ length text → old < 2 ^ 64 → new < 2 ^ 64 → new / 10 ≡ old / 10 → take end text ≡ number_prefix old → take end (set text (end - 2) (48 + new % 10)) ≡ number_prefix new
last_digit_set text end old new some within old_fits new_fits tens is =
    let first = tens_text (old / 10) in
    let digit = 48 + new % 10 in
    let split : take end text ≡ first ++ (48 + old % 10) ∷ 32 ∷ [] =
    cc (tens_and_last old old_fits, append_assoc first ((48 + old % 10) ∷ []) (32 ∷ [])) in
    let place : end - 2 ≡ length first = omega (arith, length-take-le end text within, ap length split, length-append first ((48 + old % 10) ∷ 32 ∷ [])) in
    cc (take-set-lt end text (end - 2) digit (omega arith), set-append_seam first (48 + old % 10) (32 ∷ []) digit, append_assoc (tens_text (new / 10)) (digit ∷ []) (32 ∷ []), tens_and_last new new_fits)
