-- The checks of tokens that form, by the grammar, a text. Each check lists the lines where it finds a fault, in source order.
use Rattle.lvm_text.specs.Base.{ℕ, suc, Bool, true, false, nat_lt, List, [], Option, Some, None, is_none, bytes_eq, list_any, TextFault, Deep, Number, KeyTwice}
use Rattle.lvm_text.specs.Token.{Token, Word, Open, Close, ListOpen, Equals, Comma, TokenAtLine}
use Rattle.lvm_text.specs.Tree.{Values, Nothing, Section, Single, Several}
use Rattle.lvm_text.specs.Grammar.{number_of}
use Rattle.std.specs.Prelude.{◌-◌, ◌&&◌, ◌∷◌, ◌++◌, if◌then◌else◌}

-- the list of lines with line n in front if `b` is true, else unchanged
abbrev pub hit : Bool → ℕ → List ℕ → List ℕ
hit b n later = if b then n ∷ later else later

-- the first line in a list of lines, or None if the list is empty
abbrev pub head_line : List ℕ → Option ℕ
head_line [] = None
head_line (n ∷ ns) = Some n

-- the nesting level after a token, from the level before the token
abbrev pub level_after : Token → ℕ → ℕ
level_after Open level = suc level
level_after Close level = level - 1
level_after _ level = level

-- the token is a brace that opens level 17 or deeper; `level` is the level before the brace
abbrev pub opens_deep : Token → ℕ → Bool
opens_deep Open level = nat_lt 15 level
opens_deep _ level = false

-- the lines of braces that open level 17 or deeper; `level` is the level before the tokens
abbrev pub deep_lines : ℕ → List TokenAtLine → List ℕ
deep_lines level [] = []
deep_lines level (t ∷ ts) = hit (opens_deep t.0 level) t.1 (deep_lines (level_after t.0 level) ts)

-- a word after this token is a scalar and not a key
abbrev pub leads_scalar : Token → Bool
leads_scalar Equals = true
leads_scalar ListOpen = true
leads_scalar Comma = true
leads_scalar _ = false

-- the token is a word that isn't an integer below 2^63 with at most 19 digits
abbrev pub is_refused : Token → Bool
is_refused (Word w) = is_none (number_of w)
is_refused _ = false

-- the lines of integers that are out of range; `before` is the token in front of the other tokens
abbrev pub number_lines : Token → List TokenAtLine → List ℕ
number_lines before [] = []
number_lines before (t ∷ ts) = hit (leads_scalar before && is_refused t.0) t.1 (number_lines t.0 ts)

-- the key occurs in the list
abbrev pub has_key : List ℕ → List (List ℕ) → Bool
has_key key keys = list_any (λ k. bytes_eq k key) keys

-- the lines of keys that equal an earlier key of their own section; `before` are the section's keys in front of these values
abbrev pub twice_lines : List (List ℕ) → Values → List ℕ
twice_lines before Nothing = []
twice_lines before (Section k n inner rest) = hit (has_key k before) n (twice_lines [] inner ++ twice_lines (k ∷ before) rest)
twice_lines before (Single k n s rest) = hit (has_key k before) n (twice_lines (k ∷ before) rest)
twice_lines before (Several k n ss rest) = hit (has_key k before) n (twice_lines (k ∷ before) rest)

-- the fault at the first line of the list, or `later` if the list is empty
abbrev pub first_line : (ℕ → TextFault) → List ℕ → Option TextFault → Option TextFault
first_line fault [] later = later
first_line fault (n ∷ ns) later = Some (fault n)

-- the fault of the first check that finds any, at its first line: Deep before Number before KeyTwice
abbrev pub fault_of : List TokenAtLine → Values → Option TextFault
fault_of ts v = first_line (λ n. Deep n) (deep_lines 0 ts) (first_line (λ n. Number n) (number_lines Close ts) (first_line (λ n. KeyTwice n) (twice_lines [] v) None))
