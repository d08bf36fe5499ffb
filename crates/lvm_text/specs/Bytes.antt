-- Byte values, written as characters.
use Rattle.lvm_text.specs.Base.{ℕ, codes, get_or}
use Prim.Native.String.{String}

-- the byte value of a text that is one ASCII character
abbrev pub code : String → ℕ
code text = get_or (codes text) 0 0
