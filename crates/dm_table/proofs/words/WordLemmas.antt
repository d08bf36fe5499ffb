-- Digits converted as one word: every second byte gets the value of two digits, and then these values are added.
use Rattle.dm_table.proofs.Prelude.{ℕ, zero, suc, List, [], get_or, length, take, ap, ◌∙◌, arith, bit_and, number_from_digits, from_le_bytes, w64, and_block, and_mask, shr_split}
use Rattle.std.specs.Prelude.{◌≡◌, ◌+◌, ◌-◌, ◌*◌, ◌/◌, ◌%◌, ◌^◌, ◌<◌, ◌≤◌, ◌∷◌}
use lib.Lanes.{Each1}

-- eight bytes as a word, lowest byte first
abbrev pub word : ℕ → ℕ → ℕ → ℕ → ℕ → ℕ → ℕ → ℕ → ℕ
word a b c d e f g h = a + b * 256 + c * 65536 + d * 16777216 + e * 4294967296 + f * 1099511627776 + g * 281474976710656 + h * 72057594037927936

-- ten times a word plus the word without its lowest byte: every second byte now has the value of two digits
abbrev pub pairs_of : ℕ → ℕ
pairs_of w = (w * 10 % 2 ^ 64 + w / 2 ^ 8) % 2 ^ 64

-- the lowest byte of each half of a word
abbrev pub firsts : ℕ → ℕ
firsts p = bit_and p 1095216660735

-- the sum of the values of two digits each, weighted by their positions
abbrev pub pairs_value : ℕ → ℕ
pairs_value p = (firsts p * 4294967296000100 % 2 ^ 64 + firsts (p / 2 ^ 16) * 42949672960001 % 2 ^ 64) % 2 ^ 64 / 2 ^ 32

firsts_are : (p : ℕ) → firsts p ≡ p / 4294967296 % 256 * 4294967296 + p % 256
firsts_are p =
    let split = shr_split p 32 in
    let high : bit_and (p / 2 ^ 32) 255 ≡ p / 2 ^ 32 % 2 ^ 8 = and_mask (p / 2 ^ 32) 8 in
    let low : bit_and (p % 2 ^ 32) 255 ≡ p % 2 ^ 32 % 2 ^ 8 = and_mask (p % 2 ^ 32) 8 in
    let both : bit_and (p / 2 ^ 32 * 2 ^ 32 + p % 2 ^ 32) 1095216660735 ≡ bit_and (p / 2 ^ 32) 255 * 2 ^ 32 + bit_and (p % 2 ^ 32) 255 = and_block 32 (p / 2 ^ 32) 255 (p % 2 ^ 32) 255 (omega arith) (omega arith) in
    rw (← split) (both ∙ omega (arith, high, low))

pairs_are : (a b c d e f g h : ℕ) → a < 10 → b < 10 → c < 10 → d < 10 → e < 10 → f < 10 → g < 10 → h < 10 → pairs_of (word a b c d e f g h) ≡ word (a * 10 + b) (b * 10 + c) (c * 10 + d) (d * 10 + e) (e * 10 + f) (f * 10 + g) (g * 10 + h) (h * 10)
pairs_are a b c d e f g h la lb lc ld le lf lg lh =
    let w = word a b c d e f g h in
    let tens : w * 10 % 2 ^ 64 ≡ w * 10 = omega arith in
    let rest : w / 2 ^ 8 ≡ b + c * 256 + d * 65536 + e * 16777216 + f * 4294967296 + g * 1099511627776 + h * 281474976710656 = omega arith in
    omega (arith, tens, rest)

-- eight digits in a word have the value that the digits spell
pub eight_value : (a b c d e f g h : ℕ) → a < 10 → b < 10 → c < 10 → d < 10 → e < 10 → f < 10 → g < 10 → h < 10 → pairs_value (pairs_of (word a b c d e f g h)) ≡ number_from_digits 10 (a ∷ b ∷ c ∷ d ∷ e ∷ f ∷ g ∷ h ∷ [])
eight_value a b c d e f g h la lb lc ld le lf lg lh =
    let pairs = word (a * 10 + b) (b * 10 + c) (c * 10 + d) (d * 10 + e) (e * 10 + f) (f * 10 + g) (g * 10 + h) (h * 10) in
    let is = pairs_are a b c d e f g h la lb lc ld le lf lg lh in
    let first_high : pairs / 4294967296 % 256 ≡ e * 10 + f = omega arith in
    let first_low : pairs % 256 ≡ a * 10 + b = omega arith in
    let down : pairs / 2 ^ 16 ≡ c * 10 + d + (d * 10 + e) * 256 + (e * 10 + f) * 65536 + (f * 10 + g) * 16777216 + (g * 10 + h) * 4294967296 + h * 10 * 1099511627776 = omega arith in
    let last_high : pairs / 2 ^ 16 / 4294967296 % 256 ≡ g * 10 + h = omega (arith, down) in
    let last_low : pairs / 2 ^ 16 % 256 ≡ c * 10 + d = omega (arith, down) in
    let one : firsts pairs ≡ (e * 10 + f) * 4294967296 + (a * 10 + b) = firsts_are pairs ∙ omega (arith, first_high, first_low) in
    let other : firsts (pairs / 2 ^ 16) ≡ (g * 10 + h) * 4294967296 + (c * 10 + d) = firsts_are (pairs / 2 ^ 16) ∙ omega (arith, last_high, last_low) in
    let first : firsts pairs * 4294967296000100 % 2 ^ 64 ≡ ((a * 10 + b) * 1000000 + (e * 10 + f) * 100) * 4294967296 + (a * 10 + b) * 100 = omega (arith, one) in
    let last : firsts (pairs / 2 ^ 16) * 42949672960001 % 2 ^ 64 ≡ ((c * 10 + d) * 10000 + (g * 10 + h)) * 4294967296 + (c * 10 + d) = omega (arith, other) in
    ap pairs_value is ∙ omega (arith, first, last)

-- ---- a word shifted so that only its first bytes are left, at its high end

moved_1 : (a b c d e f g h : ℕ) → a < 256 → b < 256 → c < 256 → d < 256 → e < 256 → f < 256 → g < 256 → h < 256 → word a b c d e f g h * 2 ^ 56 % 2 ^ 64 ≡ word 0 0 0 0 0 0 0 a
moved_1 a b c d e f g h la lb lc ld le lf lg lh = omega arith

moved_2 : (a b c d e f g h : ℕ) → a < 256 → b < 256 → c < 256 → d < 256 → e < 256 → f < 256 → g < 256 → h < 256 → word a b c d e f g h * 2 ^ 48 % 2 ^ 64 ≡ word 0 0 0 0 0 0 a b
moved_2 a b c d e f g h la lb lc ld le lf lg lh = omega arith

moved_3 : (a b c d e f g h : ℕ) → a < 256 → b < 256 → c < 256 → d < 256 → e < 256 → f < 256 → g < 256 → h < 256 → word a b c d e f g h * 2 ^ 40 % 2 ^ 64 ≡ word 0 0 0 0 0 a b c
moved_3 a b c d e f g h la lb lc ld le lf lg lh = omega arith

moved_4 : (a b c d e f g h : ℕ) → a < 256 → b < 256 → c < 256 → d < 256 → e < 256 → f < 256 → g < 256 → h < 256 → word a b c d e f g h * 2 ^ 32 % 2 ^ 64 ≡ word 0 0 0 0 a b c d
moved_4 a b c d e f g h la lb lc ld le lf lg lh = omega arith

moved_5 : (a b c d e f g h : ℕ) → a < 256 → b < 256 → c < 256 → d < 256 → e < 256 → f < 256 → g < 256 → h < 256 → word a b c d e f g h * 2 ^ 24 % 2 ^ 64 ≡ word 0 0 0 a b c d e
moved_5 a b c d e f g h la lb lc ld le lf lg lh = omega arith

moved_6 : (a b c d e f g h : ℕ) → a < 256 → b < 256 → c < 256 → d < 256 → e < 256 → f < 256 → g < 256 → h < 256 → word a b c d e f g h * 2 ^ 16 % 2 ^ 64 ≡ word 0 0 a b c d e f
moved_6 a b c d e f g h la lb lc ld le lf lg lh = omega arith

moved_7 : (a b c d e f g h : ℕ) → a < 256 → b < 256 → c < 256 → d < 256 → e < 256 → f < 256 → g < 256 → h < 256 → word a b c d e f g h * 2 ^ 8 % 2 ^ 64 ≡ word 0 a b c d e f g
moved_7 a b c d e f g h la lb lc ld le lf lg lh = omega arith

moved_8 : (a b c d e f g h : ℕ) → a < 256 → b < 256 → c < 256 → d < 256 → e < 256 → f < 256 → g < 256 → h < 256 → word a b c d e f g h * 2 ^ 0 % 2 ^ 64 ≡ word a b c d e f g h
moved_8 a b c d e f g h la lb lc ld le lf lg lh = omega arith

-- the word of the first `len` digits, shifted to its high end, has the value that they spell
pub front_value : (len : ℕ) (digits : List ℕ) → length digits ≡ 8 → ((i : ℕ) → get_or digits i 0 < 256) → 1 ≤ len → len ≤ 8 → Each1 (λ digit. digit < 10) (take len digits) → pairs_value (pairs_of (from_le_bytes w64 digits * 2 ^ (64 - 8 * len) % 2 ^ 64)) ≡ number_from_digits 10 (take len digits)
front_value (suc zero) (a ∷ b ∷ c ∷ d ∷ e ∷ f ∷ g ∷ h ∷ []) long within some few below =
    rw (moved_1 a b c d e f g h (within 0) (within 1) (within 2) (within 3) (within 4) (within 5) (within 6) (within 7)) (eight_value 0 0 0 0 0 0 0 a (omega arith) (omega arith) (omega arith) (omega arith) (omega arith) (omega arith) (omega arith) below.0)
front_value (suc (suc zero)) (a ∷ b ∷ c ∷ d ∷ e ∷ f ∷ g ∷ h ∷ []) long within some few below =
    rw (moved_2 a b c d e f g h (within 0) (within 1) (within 2) (within 3) (within 4) (within 5) (within 6) (within 7)) (eight_value 0 0 0 0 0 0 a b (omega arith) (omega arith) (omega arith) (omega arith) (omega arith) (omega arith) below.0 (below.1).0)
front_value (suc (suc (suc zero))) (a ∷ b ∷ c ∷ d ∷ e ∷ f ∷ g ∷ h ∷ []) long within some few below =
    rw (moved_3 a b c d e f g h (within 0) (within 1) (within 2) (within 3) (within 4) (within 5) (within 6) (within 7)) (eight_value 0 0 0 0 0 a b c (omega arith) (omega arith) (omega arith) (omega arith) (omega arith) below.0 (below.1).0 ((below.1).1).0)
front_value (suc (suc (suc (suc zero)))) (a ∷ b ∷ c ∷ d ∷ e ∷ f ∷ g ∷ h ∷ []) long within some few below =
    rw (moved_4 a b c d e f g h (within 0) (within 1) (within 2) (within 3) (within 4) (within 5) (within 6) (within 7)) (eight_value 0 0 0 0 a b c d (omega arith) (omega arith) (omega arith) (omega arith) below.0 (below.1).0 ((below.1).1).0 (((below.1).1).1).0)
front_value (suc (suc (suc (suc (suc zero))))) (a ∷ b ∷ c ∷ d ∷ e ∷ f ∷ g ∷ h ∷ []) long within some few below =
    rw (moved_5 a b c d e f g h (within 0) (within 1) (within 2) (within 3) (within 4) (within 5) (within 6) (within 7)) (eight_value 0 0 0 a b c d e (omega arith) (omega arith) (omega arith) below.0 (below.1).0 ((below.1).1).0 (((below.1).1).1).0 ((((below.1).1).1).1).0)
front_value (suc (suc (suc (suc (suc (suc zero)))))) (a ∷ b ∷ c ∷ d ∷ e ∷ f ∷ g ∷ h ∷ []) long within some few below =
    rw (moved_6 a b c d e f g h (within 0) (within 1) (within 2) (within 3) (within 4) (within 5) (within 6) (within 7)) (eight_value 0 0 a b c d e f (omega arith) (omega arith) below.0 (below.1).0 ((below.1).1).0 (((below.1).1).1).0 ((((below.1).1).1).1).0 (((((below.1).1).1).1).1).0)
front_value (suc (suc (suc (suc (suc (suc (suc zero))))))) (a ∷ b ∷ c ∷ d ∷ e ∷ f ∷ g ∷ h ∷ []) long within some few below =
    rw (moved_7 a b c d e f g h (within 0) (within 1) (within 2) (within 3) (within 4) (within 5) (within 6) (within 7)) (eight_value 0 a b c d e f g (omega arith) below.0 (below.1).0 ((below.1).1).0 (((below.1).1).1).0 ((((below.1).1).1).1).0 (((((below.1).1).1).1).1).0 ((((((below.1).1).1).1).1).1).0)
front_value (suc (suc (suc (suc (suc (suc (suc (suc zero)))))))) (a ∷ b ∷ c ∷ d ∷ e ∷ f ∷ g ∷ h ∷ []) long within some few below =
    rw (moved_8 a b c d e f g h (within 0) (within 1) (within 2) (within 3) (within 4) (within 5) (within 6) (within 7)) (eight_value a b c d e f g h below.0 (below.1).0 ((below.1).1).0 (((below.1).1).1).0 ((((below.1).1).1).1).0 (((((below.1).1).1).1).1).0 ((((((below.1).1).1).1).1).1).0 (((((((below.1).1).1).1).1).1).1).0)
front_value len digits long within some few below = absurd (omega arith)
