-- The length and newline that end a line, kept as arrays of eight bytes.
use Rattle.dm_stream.specs.Base.{ℕ, List, [], get_or, length, take, decimal, code}
use Rattle.std.specs.Prelude.{◌≡◌, ◌<◌, ◌≤◌, ◌∷◌, ◌++◌}

-- a length and a newline
abbrev pub line_end : ℕ → List ℕ
line_end len = decimal len ++ code "\n" ∷ []

-- the array has eight bytes: it begins with the end of a line, and its last byte is the length of that end
abbrev pub IsLineEnd : ℕ → List ℕ → Type 0
IsLineEnd len array = (length array ≡ 8) × (get_or array 7 0 ≤ 8) × (take (get_or array 7 0) array ≡ line_end len)

-- for each length below the bound, the table has an array that begins with the line end
abbrev pub AreMade : ℕ → List (List ℕ) → Type 0
AreMade bound ends = (len : ℕ) → len < bound → IsLineEnd len (get_or ends len [])
