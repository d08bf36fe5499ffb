-- Digits as vector lanes, and the numbers that they spell.
use Rattle.dm_table.proofs.Prelude.{ℕ, suc, inl, inr, true, false, not, List, [], get_or, length, map, take, refl, arith, add-mul, mul_assoc, nat_lt, digit_value, is_ascii_digit, number_from_digits, number_from_digits_after, AllBelowBase, list_all, prefix_len, and_from, and_parts, cases_lt, nat_tests, digit_value_digit, pow-succ'}
use Rattle.dm_table.proofs.words.NumberLemmas.{digit_range}
use Rattle.std.specs.Prelude.{◌≡◌, ◌+◌, ◌*◌, ◌%◌, ◌^◌, ◌<◌, ◌≤◌, ◌∷◌, ◌++◌}
use lib.Lanes.{Each1}

-- ---- lists of digits

-- what holds of each digit of two lists joined holds of each digit of both
pub each_part : (xs ys : List ℕ) → Each1 (λ digit. digit < 10) (xs ++ ys) → Each1 (λ digit. digit < 10) xs × Each1 (λ digit. digit < 10) ys
each_part [] ys all = (tt, all)
each_part (x ∷ xs) ys all = let more = each_part xs ys all.1 in ((all.0, more.0), more.1)

pub each_below : (xs : List ℕ) → Each1 (λ digit. digit < 10) xs → AllBelowBase 10 xs
each_below [] all = tt
each_below (x ∷ xs) all = (all.0, each_below xs all.1)

-- the number that digits xs spell after a number n
pub number_after : (n : ℕ) (xs : List ℕ) → number_from_digits_after 10 n xs ≡ n * 10 ^ length xs + number_from_digits 10 xs
number_after n [] = omega arith
number_after n (x ∷ xs) =
    let power = 10 ^ length xs in
    let all = number_after (n * 10 + x) xs in
    let first = number_after (0 * 10 + x) xs in
    let split = add-mul (n * 10) x power in
    let tens = mul_assoc n 10 power in
    let more : n * 10 ^ suc (length xs) ≡ n * (10 * power) = rw (pow-succ' 10 (length xs)) in
    let alone : 0 * 10 + x ≡ x = omega arith in
    omega (arith, all, rw alone at first, split, tens, more)

-- ---- bytes minus the digit zero

tests_digit : (byte : ℕ) → byte < 256 → (byte + 208) % 256 < 10 → is_ascii_digit byte ≡ true
tests_digit byte within below = grind (arith, nat_tests)

pub digits_from_lanes : (text : List ℕ) → ((i : ℕ) → get_or text i 0 < 256) → Each1 (λ digit. digit < 10) (map (λ byte. (byte + 208) % 256) text) → list_all is_ascii_digit text ≡ true
digits_from_lanes [] within all = refl
digits_from_lanes (byte ∷ text) within all = and_from _ _ (tests_digit byte (within 0) all.0) (digits_from_lanes text (λ i. within (suc i)) all.1)

pub values_from_lanes : (text : List ℕ) → list_all is_ascii_digit text ≡ true → map (λ byte. (byte + 208) % 256) text ≡ map digit_value text
values_from_lanes [] all = refl
values_from_lanes (byte ∷ text) all =
    let both = and_parts (is_ascii_digit byte) (list_all is_ascii_digit text) all in
    let one : (byte + 208) % 256 ≡ digit_value byte = omega (arith, digit_value_digit byte (digit_range byte both.0), digit_range byte both.0) in
    rw (one, values_from_lanes text both.1)

-- ---- the first lane that isn't a digit

small : (x : ℕ) → x ≤ 9 → nat_lt 9 x ≡ false
small x within = grind (arith, nat_tests)

large : (x : ℕ) → 9 < x → nat_lt 9 x ≡ true
large x above = grind (arith, nat_tests)

pub front_each : (xs : List ℕ) → Each1 (λ digit. digit < 10) (take (prefix_len (λ x. not (nat_lt 9 x)) xs) xs)
front_each [] = tt
front_each (x ∷ xs) = elim (cases_lt 9 x) [
  | inl above ↦ rw large tt
  | inr within ↦
      let more = prefix_len (λ y. not (nat_lt 9 y)) xs in
      let next : 1 + more ≡ suc more = omega arith in
      rw (small, next) (omega arith, front_each xs)
]
