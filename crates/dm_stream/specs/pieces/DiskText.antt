-- How lines write a disk: its name and a space; in lines of reads and writes, a letter and a space precede the name.
use Rattle.dm_stream.specs.Base.{ℕ, Bool, true, false, List, [], get_or, length, take, code}
use Rattle.std.specs.Prelude.{◌≡◌, ◌+◌, ◌∷◌, ◌++◌}

-- the text for a disk in a line: its name and a space
abbrev pub disk_text : List ℕ → List ℕ
disk_text name = name ++ code " " ∷ []

-- the letter in a line: `W` for a write, `R` for a read
abbrev pub letter_for : (is_write : Bool) → ℕ
letter_for true = 87
letter_for false = 82

-- the start of a line of a write or a read, after the request's number: the letter, a space and the disk's text
abbrev pub line_head : (is_write : Bool) (text : List ℕ) → List ℕ
line_head is_write text = letter_for is_write ∷ code " " ∷ text

-- the first array begins with the head of a read's line for this disk text, the second with the head of a write's line
pub record AreHeads (heads : List (List ℕ)) (text : List ℕ) : Type 0 where
  pub reads : take (length text + 2) (get_or heads 0 []) ≡ line_head false text
  pub writes : take (length text + 2) (get_or heads 1 []) ≡ line_head true text
