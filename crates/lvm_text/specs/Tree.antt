-- The tree of a text: sections of keys with their values.
use Rattle.lvm_text.specs.Base.{ℕ, List, [], Option, Some, None, bytes_eq}
use Rattle.std.specs.Prelude.{◌≡◌, ◌+◌, ◌∷◌, if◌then◌else◌}

-- an integer, or the raw text between two quotes
pub data Scalar : Type 0 where
  Int : ℕ → Scalar
  Text : List ℕ → Scalar

-- the values of a section in source order, each with its key and the line of that key
pub data Values : Type 0 where
  Nothing : Values
  Section : (key : List ℕ) (line : ℕ) (inner rest : Values) → Values
  Single : (key : List ℕ) (line : ℕ) (scalar : Scalar) (rest : Values) → Values
  Several : (key : List ℕ) (line : ℕ) (scalars : List Scalar) (rest : Values) → Values

-- a section: the line of its key, or 1 for the top of the text, and the section's values
pub record Tree : Type 0 where
  pub line : ℕ
  pub values : Values

-- how many values a section has, including the values in inner sections
abbrev pub size_of : Values → ℕ
size_of Nothing = 0
size_of (Section k n inner rest) = (size_of inner + size_of rest) + 1
size_of (Single k n s rest) = size_of rest + 1
size_of (Several k n ss rest) = size_of rest + 1

-- what a key holds: a section, a single scalar, or a list of scalars
pub data Content : Type 0 where
  Inner : Tree → Content
  Whole : Scalar → Content
  Items : List Scalar → Content

-- what a key holds, and the line of the key
pub record Shown : Type 0 where
  pub line : ℕ
  pub content : Content

-- what the first occurrence of a key holds, and the line of that occurrence; None if the key doesn't occur
abbrev pub node_of : List ℕ → Values → Option Shown
node_of key Nothing = None
node_of key (Section k n inner rest) = if bytes_eq k key then Some (record { line = n; content = Inner (record { line = n; values = inner }) }) else node_of key rest
node_of key (Single k n s rest) = if bytes_eq k key then Some (record { line = n; content = Whole s }) else node_of key rest
node_of key (Several k n ss rest) = if bytes_eq k key then Some (record { line = n; content = Items ss }) else node_of key rest

-- the keys of a section that hold inner sections, each with its inner section, in source order
abbrev pub sections_of : Values → List (List ℕ × Tree)
sections_of Nothing = []
sections_of (Section k n inner rest) = (k, record { line = n; values = inner }) ∷ sections_of rest
sections_of (Single k n s rest) = sections_of rest
sections_of (Several k n ss rest) = sections_of rest

-- all keys of a section, in source order
abbrev pub keys_of : Values → List (List ℕ)
keys_of Nothing = []
keys_of (Section k n inner rest) = k ∷ keys_of rest
keys_of (Single k n s rest) = k ∷ keys_of rest
keys_of (Several k n ss rest) = k ∷ keys_of rest

-- looking the key up among the values finds the section that it is paired with
abbrev pub IsFound : Values → List ℕ × Tree → Type 0
IsFound v s = node_of s.0 v ≡ Some (record { line = s.1.line; content = Inner s.1 })
