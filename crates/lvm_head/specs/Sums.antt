-- The checksums of labels, headers and texts (calc_crc in lvm2): CRC-32 as in zlib, lowest bit first, but with another initial value and without the final inversion.
use Rattle.lvm_head.specs.Base.{ℕ, List, bit_xor, fold}
use Rattle.std.specs.Prelude.{◌/◌, ◌%◌, ◌*◌}

-- the checksum after one step of a single bit
unfoldable pub sum_bit : (sum : ℕ) → ℕ
sum_bit sum = bit_xor (sum / 2) (sum % 2 * 0xEDB88320)

-- the checksum after one more byte
unfoldable pub sum_byte : (sum byte : ℕ) → ℕ
sum_byte sum byte = sum_bit (sum_bit (sum_bit (sum_bit (sum_bit (sum_bit (sum_bit (sum_bit (bit_xor sum byte))))))))

-- the checksum of bytes
abbrev pub sum_of : (bytes : List ℕ) → ℕ
sum_of bytes = fold sum_byte 0xF597A6CF bytes
