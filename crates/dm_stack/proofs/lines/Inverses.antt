-- Division by a precomputed inverse gives the quotient, or one less.
use Rattle.dm_stack.proofs.Prelude.{ℕ, arith, div-add-mod', div-mul-add, mod-mul-add, mod_below, mul-le-mul_left, mul-le-mul_right, le_of_mul-le-mul_right, lt_of_mul-lt-mul_right}
use Rattle.std.specs.Prelude.{◌≡◌, ◌+◌, ◌*◌, ◌/◌, ◌%◌, ◌<◌, ◌≤◌, ◌^◌}

-- q is the quotient, or one less
pub record IsNear (x d q : ℕ) : Type 0 where
  pub below : q * d ≤ x
  pub above : x < q * d + d + d

near_below : (x d b inverse q m : ℕ) → 0 < b → q * b + m ≡ x * inverse → inverse * d ≤ b → q * d ≤ x
near_below x d b inverse q m some whole low =
    let up : (q * b + m) * d ≤ x * b = rw whole (omega (arith, mul-le-mul_left x low)) in
    le_of_mul-le-mul_right (omega (arith, up)) some

near_above : (x d b inverse q m : ℕ) → 0 < b → 0 < d → q * b + m ≡ x * inverse → m + 1 ≤ b → x + 1 ≤ b → b ≤ inverse * d + d → x < q * d + d + d
near_above x d b inverse q m some divides whole rest small high =
    let up : x * b ≤ x * (inverse * d + d) = mul-le-mul_left x high in
    let same : (q * b + m) * d ≡ x * inverse * d = rw whole in
    let first : (m + 1) * d ≤ b * d = mul-le-mul_right d rest in
    let second : (x + 1) * d ≤ b * d = mul-le-mul_right d small in
    let most : x * b < (q * d + d + d) * b = grind (arith, up, same, first, second, divides) in
    lt_of_mul-lt-mul_right b most

near_in : (x d b inverse : ℕ) → 0 < b → 0 < d → x < b → inverse * d ≤ b → b ≤ inverse * d + d → IsNear x d (x * inverse / b)
near_in x d b inverse some divides small low high =
    let whole : x * inverse / b * b + x * inverse % b ≡ x * inverse = div-add-mod' (x * inverse) b in
    record {
      below = near_below x d b inverse (x * inverse / b) (x * inverse % b) some whole low;
      above = near_above x d b inverse (x * inverse / b) (x * inverse % b) some divides whole (omega (arith, mod_below (x * inverse) b some)) (omega (arith, small)) high;
    }

pub near : (x d inverse : ℕ) → 0 < d → x < 2 ^ 64 → inverse * d ≤ 2 ^ 64 → 2 ^ 64 ≤ inverse * d + d → IsNear x d (x * inverse / 2 ^ 64)
near x d inverse divides small low high = near_in x d (2 ^ 64) inverse (omega arith) divides small low high

-- q and r are quotient and remainder, as they are if r is below the divisor
pub record IsDivided (x d q r : ℕ) : Type 0 where
  pub quotient : q ≡ x / d
  pub remainder : r ≡ x % d

pub divided : (x d q r : ℕ) → r < d → x ≡ q * d + r → IsDivided x d q r
divided x d q r small whole = record {
  quotient = rw (whole, div-mul-add);
  remainder = rw (whole, mod-mul-add);
}
