-- Prefixes of a text: the part that has been written when a write stops early.
use Rattle.dm_table.specs.Base.{List, ℕ}
use Rattle.std.specs.Prelude.{◌≡◌, ◌++◌, ◌∷◌}

-- `front` is a prefix of the text, possibly all of it
abbrev pub IsBeginning : List ℕ → List ℕ → Type 0
IsBeginning text front = (rest : List ℕ) × (text ≡ front ++ rest)

-- `front` is a proper prefix of the text: at least one byte comes after it
abbrev pub IsCutShort : List ℕ → List ℕ → Type 0
IsCutShort text front = (byte : ℕ) × (rest : List ℕ) × (text ≡ front ++ byte ∷ rest)
