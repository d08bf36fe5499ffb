-- The positions of a byte in a text, as bits of a number: bit 0 is the first byte of the text.
use Rattle.dm_table.specs.Base.{ℕ, List, map}
use Rattle.std.specs.Prelude.{◌==◌}
use lib.Lanes.{mask_l}

abbrev pub marks_of : ℕ → List ℕ → ℕ
marks_of of text = mask_l (map (λ byte. byte == of) text)
