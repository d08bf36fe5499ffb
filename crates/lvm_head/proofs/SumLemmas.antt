-- Checksums computed with the table.
use Rattle.lvm_head.proofs.Prelude.{ℕ, refl, ◌∙◌, arith, get_or, map, bit_xor, range_with_len, get_or-map-range_with_len, sum_bit, sum_byte}
use Rattle.std.specs.Int.Bits.{xor_assoc, xor_zero_l, xor_zero_r}
use Rattle.std.proofs.lemmas.Nat.{xor_block, xor_mod, xor_shr}
use Rattle.lvm_head.specs.declared.sums.TheConstants.{EIGHT_STEPS}
use Rattle.std.specs.Prelude.{◌≡◌, ◌*◌, ◌/◌, ◌%◌, ◌<◌}

abbrev eight_steps : ℕ → ℕ
eight_steps sum = sum_bit (sum_bit (sum_bit (sum_bit (sum_bit (sum_bit (sum_bit (sum_bit sum)))))))

entries : EIGHT_STEPS ≡ map eight_steps (range_with_len 0 256)
unfolding sum_bit
entries = refl

-- a single-bit step shifts all bits but the lowest, and doesn't change them otherwise
moved : (high low from : ℕ) → from ≡ high * 2 → sum_bit (bit_xor from low) ≡ bit_xor high (sum_bit low)
unfolding sum_bit
moved high low from twice =
    let half : from / 2 ≡ high = omega (arith, twice) in
    let even : from % 2 ≡ 0 = omega (arith, twice) in
    rw (xor_shr from low 1, xor_mod from low 1, half, even, xor_zero_l (low % 2)) (xor_assoc high (low / 2) (low % 2 * 0xEDB88320))

all_moved : (high low : ℕ) → eight_steps (bit_xor (high * 256) low) ≡ bit_xor high (eight_steps low)
all_moved high low =
    rw (
      moved (high * 128) _ (high * 256) (omega arith),
      moved (high * 64) _ (high * 128) (omega arith),
      moved (high * 32) _ (high * 64) (omega arith),
      moved (high * 16) _ (high * 32) (omega arith),
      moved (high * 8) _ (high * 16) (omega arith),
      moved (high * 4) _ (high * 8) (omega arith),
      moved (high * 2) _ (high * 4) (omega arith),
      moved high _ (high * 2) (omega arith),
    ) refl

-- a number is its lowest byte and its other bytes, joined by exclusive or
parts : (sum : ℕ) → sum ≡ bit_xor (sum / 256 * 256) (sum % 256)
parts sum = grind (arith, xor_zero_l, xor_zero_r, xor_block 8 (sum / 256) 0 0 (sum % 256) (omega arith) (omega arith))

pub sum_byte_by_table : (sum byte : ℕ) → byte < 256 → bit_xor (sum / 256) (get_or EIGHT_STEPS (bit_xor sum byte % 256) 0) ≡ sum_byte sum byte
unfolding sum_byte
sum_byte_by_table sum byte small =
    let both : ℕ = bit_xor sum byte in
    let none : byte / 256 ≡ 0 = omega (arith, small) in
    let high : both / 256 ≡ sum / 256 = xor_shr sum byte 8 ∙ rw none (xor_zero_r (sum / 256)) in
    let entry : get_or EIGHT_STEPS (both % 256) 0 ≡ eight_steps (both % 256) = rw entries (get_or-map-range_with_len eight_steps 0 256 (both % 256) (both % 256) 0 (omega arith) (omega arith)) in
    rw (entry, ← high, ← all_moved (both / 256) (both % 256), ← parts both) refl
