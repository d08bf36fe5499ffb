-- Chunk sizes are powers of two within the limit; their exponents.
use Rattle.dm_stack.proofs.Prelude.{ℕ, false, not, count_ones, nat_lt, bit_and, arith, mul_comm, one-le-pow, pow-le-pow_right, eqb-true, not-false, or_parts, and_mask, one_shl, ones_cat, pow-add, pow_below, zero_from_ones, is_power_of_two, ones-ones, is_bad_chunk}
use Rattle.dm_stack.proofs.checks.ChunkLemmas.{chunk_within}
use Rattle.std.specs.Prelude.{◌≡◌, ◌+◌, ◌-◌, ◌*◌, ◌/◌, ◌%◌, ◌^◌, ◌<◌, ◌≤◌}

-- a number with one bit set is the greatest power of two that is at most the number
power_of : (n k : ℕ) → count_ones n ≡ 1 → 2 ^ k ≤ n → n < 2 * 2 ^ k → 2 ^ k ≡ n
power_of n k one low high =
    let rest = n - 2 ^ k in
    let parts : 1 * 2 ^ k + rest ≡ n = omega (arith, low) in
    let bits = rw parts at (ones_cat k 1 rest (omega (arith, low, high))) in
    let first : count_ones 1 ≡ 1 = ones-ones 1 in
    omega (arith, low, zero_from_ones rest (omega (arith, one, bits, first)))

small_power : (k : ℕ) → 2 ^ k ≤ 1024 → k ≤ 10
small_power k within = grind (arith, within, pow_below 10 k)

-- the chunk size is two to this power, which is at most ten
pub record IsExponent (chunk k : ℕ) : Type 0 where
  pub power : 2 ^ k ≡ chunk
  pub small : k ≤ 10

pub exponent_of : (chunk k : ℕ) → is_bad_chunk chunk ≡ false → 2 ^ k ≤ chunk → chunk < 2 * 2 ^ k → IsExponent chunk k
exponent_of chunk k good low high =
    let one = eqb-true _ _ (not-false _ (or_parts (nat_lt 1024 chunk) (not (is_power_of_two chunk)) good).1) in
    let within = chunk_within chunk good in
    record { power = power_of chunk k one low high; small = small_power k (omega (arith, low, within.1)) }

pub size_within : (k : ℕ) → k ≤ 10 → (0 < 2 ^ k) × (2 ^ k ≤ 1024)
size_within k small = (one-le-pow k 2 (omega arith), pow-le-pow_right {n = 2} (omega arith) small)

-- masking with the bits below the exponent gives the remainder
pub masked : (number k : ℕ) → k ≤ 10 → bit_and number (1 * 2 ^ k % 2 ^ 64 - 1) ≡ number % 2 ^ k
masked number k small = rw (one_shl k 64 (omega (arith, small))) (and_mask number k)

-- a shift by five more divides by 32 as well
pub areas : (numbers k : ℕ) → numbers / 2 ^ (k + 5) ≡ numbers / (32 * 2 ^ k)
areas numbers k = rw (pow-add 2 k 5, mul_comm (2 ^ k) 32)
