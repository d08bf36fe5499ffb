-- Texts that describe one value per line: the checks of their rows, and the values that the rows describe.
use Rattle.dm_table.specs.Base.{ℕ, suc, Bool, List, [], map, Option, cons_option, Part, LoadFault}
use Rattle.dm_table.specs.words.Fields.{parts_at, lines_of, rest_of}
use Rattle.dm_table.specs.load.LoadFault.{untexts, row_checks}
use Rattle.dm_table.specs.words.Bytes.{code}
use Rattle.std.specs.Prelude.{◌≡◌, ◌∷◌}

-- there are as many texts as values, and each text describes the value at the same position; the texts are numbered from n on
abbrev pub SayEach : {X : Type 0} → (says : ℕ → List ℕ → X → Type 0) → ℕ → (texts : List (List ℕ)) → List X → Type 0
SayEach says n [] [] = Unit {0}
SayEach says n (text ∷ texts) (value ∷ values) = says n text value × SayEach says (suc n) texts values
SayEach says n texts values = ⊥

-- the text consists of lines that each end with a newline and describe the values, one value per line
pub record LinesSay {X : Type 0} (says : ℕ → List ℕ → X → Type 0) (text : List ℕ) (values : List X) : Type 0 where
  pub ended : rest_of text ≡ []
  pub said : SayEach says 1 (lines_of text) values

-- the checks of a text of lines, in order: first the bytes of all lines, then all rows; `row_of` cuts a line into its row of fields
abbrev pub line_checks : (is_text : List ℕ → Bool) → Part → (List ℕ → List (List ℕ)) → (is_row has_values has_names : List (List ℕ) → Bool) → List ℕ → List (List LoadFault)
line_checks is_text part row_of is_row has_values has_names text =
    untexts is_text part (parts_at (code "\n") text) ∷ row_checks part is_row has_values has_names (map row_of (lines_of text)) (rest_of text)

-- the values that rows describe, where rows that describe none are skipped; the rows are numbered from n on
abbrev pub values_from : {R X : Type 0} → (value_in : ℕ → R → Option X) → ℕ → List R → List X
values_from value_in n [] = []
values_from value_in n (row ∷ rows) = cons_option (value_in n row) (values_from value_in (suc n) rows)

-- the values after `add` has added what each row describes, in order; the rows are numbered from n on
abbrev pub with_rows : {X : Type 0} → (List X → ℕ → List (List ℕ) → List X) → List X → ℕ → List (List (List ℕ)) → List X
with_rows add values n [] = values
with_rows add values n (row ∷ rows) = with_rows add (add values n row) (suc n) rows
