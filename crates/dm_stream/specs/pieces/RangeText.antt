-- The end of a read's or a write's line: a start, a length and a newline.
use Rattle.dm_stream.specs.Base.{ℕ, List, [], length, decimal, code}
use Rattle.std.specs.Prelude.{◌≡◌, ◌<◌, ◌∷◌, ◌++◌}

-- the text of a range at the end of a line: its start, its length and a newline
abbrev pub range_text : ℕ → ℕ → List ℕ
range_text start len = decimal start ++ code " " ∷ decimal len ++ code "\n" ∷ []

-- the kept text is empty, or it is the text of this range
abbrev pub IsKept : List ℕ → ℕ → ℕ → Type 0
IsKept kept start len = 0 < length kept → kept ≡ range_text start len
