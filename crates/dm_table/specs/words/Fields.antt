-- Texts cut at a byte: lines at newlines, fields at spaces.
use Rattle.dm_table.specs.Base.{ℕ, Bool, true, false, List, [], map, slice_split}
use Rattle.dm_table.specs.words.Bytes.{code}
use Rattle.std.specs.Prelude.{◌==◌, ◌∷◌}
use denote.Ref.{Bor}

-- the bytes that slices point to
abbrev pub texts : List (Bor (List ℕ)) → List (List ℕ)
texts = map (λ slice. slice.now)

-- the parts of a text that the byte c separates: always one more part than there are bytes c
abbrev pub parts_at : ℕ → List ℕ → List (List ℕ)
parts_at c = slice_split (λ b. b == c)

-- a list without its last element
abbrev pub all_but_last : {X : Type 0} → List X → List X
all_but_last [] = []
all_but_last (x ∷ []) = []
all_but_last (x ∷ y ∷ ys) = x ∷ all_but_last (y ∷ ys)

-- the last element of a list, or the given default if the list is empty
abbrev pub last_or : {X : Type 0} → X → List X → X
last_or d [] = d
last_or d (x ∷ []) = x
last_or d (x ∷ y ∷ ys) = last_or d (y ∷ ys)

-- the complete lines of a text, each without the newline that ends it
abbrev pub lines_of : List ℕ → List (List ℕ)
lines_of text = all_but_last (parts_at (code "\n") text)

-- the unterminated last line of a text, which is empty if the text ends with a newline
abbrev pub rest_of : List ℕ → List ℕ
rest_of text = last_or [] (parts_at (code "\n") text)

-- the fields of a line, cut at each single space
abbrev pub fields : List ℕ → List (List ℕ)
fields = parts_at (code " ")

-- the fields without the empty last field that comes from a space at the end of a line
abbrev pub without_last_space : List (List ℕ) → List (List ℕ)
without_last_space [] = []
without_last_space ([] ∷ []) = []
without_last_space ((byte ∷ bytes) ∷ []) = (byte ∷ bytes) ∷ []
without_last_space (field ∷ next ∷ fields) = field ∷ without_last_space (next ∷ fields)

-- the fields of a line, which may end with an extra space
abbrev pub row_fields : List ℕ → List (List ℕ)
row_fields line = without_last_space (fields line)

-- there is a last field, and it is empty
abbrev pub ends_empty : List (List ℕ) → Bool
ends_empty [] = false
ends_empty ([] ∷ []) = true
ends_empty ((byte ∷ bytes) ∷ []) = false
ends_empty (field ∷ next ∷ fields) = ends_empty (next ∷ fields)
