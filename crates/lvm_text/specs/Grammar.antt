-- The grammar of texts in terms of tokens, and which tokens are the beginning of a text.
use Rattle.lvm_text.specs.Base.{ℕ, Bool, true, false, not, nat_le, nat_lt, List, [], length, Option, Some, None, list_all, is_ascii_digit, digits_value}
use Rattle.lvm_text.specs.Bytes.{code}
use Rattle.lvm_text.specs.Token.{Token, Word, Text, Open, Close, ListOpen, ListClose, Equals, Comma, TokenAtLine}
use Rattle.lvm_text.specs.Tree as tree
use Rattle.lvm_text.specs.Tree.{Values, Nothing, Section, Single, Several}
use Rattle.std.specs.Prelude.{◌≡◌, ◌^◌, ◌⊎◌, ◌&&◌, ◌==◌, ◌∷◌, ◌++◌, if◌then◌else◌}

-- the word consists of digits only, or is empty
abbrev pub are_digits : List ℕ → Bool
are_digits = list_all is_ascii_digit

-- the integer that a word of at most 19 digits spells, if it is below 2^63
unfoldable pub number_of : List ℕ → Option ℕ
number_of word = if are_digits word && (nat_le (length word) 19 && nat_lt (digits_value 10 word) (2 ^ 63)) then Some (digits_value 10 word) else None

-- the word may be a key: it is nonempty and doesn't begin with a hyphen
abbrev pub is_key : List ℕ → Bool
is_key [] = false
is_key (b ∷ bs) = not (b == code "-")

-- a token as a scalar, or None if the token isn't one; an integer is a word of digits only, however large its value
abbrev pub scalar_of : Token → Option tree.Scalar
scalar_of (Word w) = if are_digits w then Some (tree.Int (digits_value 10 w)) else None
scalar_of (Text t) = Some (tree.Text t)
scalar_of _ = None

-- ---- how tokens are read; `scalar` says what a token is as a scalar

-- the tokens after the first scalar of a list: a comma and a scalar for each further scalar, then the closing bracket, and then `more`
abbrev pub ReadsMoreBy : (Token → Option tree.Scalar) → List TokenAtLine → List tree.Scalar → List TokenAtLine → Type 0
ReadsMoreBy scalar ts [] more = (c : ℕ) × (ts ≡ (ListClose, c) ∷ more)
ReadsMoreBy scalar ts (s ∷ ss) more = (c n : ℕ) × (t : Token) × (a : List TokenAtLine) × (ts ≡ (Comma, c) ∷ (t, n) ∷ a) × (scalar t ≡ Some s) × ReadsMoreBy scalar a ss more

-- the tokens after the opening bracket of a list: these scalars with commas between them, then the closing bracket, and then `more`
abbrev pub ReadsListBy : (Token → Option tree.Scalar) → List TokenAtLine → List tree.Scalar → List TokenAtLine → Type 0
ReadsListBy scalar ts [] more = (c : ℕ) × (ts ≡ (ListClose, c) ∷ more)
ReadsListBy scalar ts (s ∷ ss) more = (n : ℕ) × (t : Token) × (a : List TokenAtLine) × (ts ≡ (t, n) ∷ a) × (scalar t ≡ Some s) × ReadsMoreBy scalar a ss more

-- the tokens form these values, followed by the tokens `more`; `scalar` says what a token is as a scalar
abbrev pub ReadsBy : (Token → Option tree.Scalar) → List TokenAtLine → Values → List TokenAtLine → Type 0
ReadsBy scalar ts Nothing more = ts ≡ more
ReadsBy scalar ts (Section k n inner rest) more =
    (is_key k ≡ true) × (o c : ℕ) × (a b : List TokenAtLine) × (ts ≡ (Word k, n) ∷ (Open, o) ∷ a) × ReadsBy scalar a inner ((Close, c) ∷ b) × ReadsBy scalar b rest more
ReadsBy scalar ts (Single k n s rest) more =
    (is_key k ≡ true) × (e m : ℕ) × (t : Token) × (b : List TokenAtLine) × (ts ≡ (Word k, n) ∷ (Equals, e) ∷ (t, m) ∷ b) × (scalar t ≡ Some s) × ReadsBy scalar b rest more
ReadsBy scalar ts (Several k n ss rest) more =
    (is_key k ≡ true) × (e o : ℕ) × (a b : List TokenAtLine) × (ts ≡ (Word k, n) ∷ (Equals, e) ∷ (ListOpen, o) ∷ a) × ReadsListBy scalar a ss b × ReadsBy scalar b rest more

-- ReadsMoreBy with the grammar's definition of a scalar: the tokens after the first scalar of a list
abbrev pub ReadsMore : List TokenAtLine → List tree.Scalar → List TokenAtLine → Type 0
ReadsMore = ReadsMoreBy scalar_of

-- ReadsListBy with the grammar's definition of a scalar: the tokens after the opening bracket of a list
abbrev pub ReadsList : List TokenAtLine → List tree.Scalar → List TokenAtLine → Type 0
ReadsList = ReadsListBy scalar_of

-- ReadsBy with the grammar's definition of a scalar: the tokens form these values, followed by more tokens
abbrev pub Reads : List TokenAtLine → Values → List TokenAtLine → Type 0
Reads = ReadsBy scalar_of

-- the tokens form a complete text with these values
abbrev pub IsText : List TokenAtLine → Values → Type 0
IsText ts v = Reads ts v []

-- the tokens are the beginning of some text: other tokens can complete them
pub record BeginsText (ts : List TokenAtLine) : Type 0 where
  pub more : List TokenAtLine
  pub values : Values
  pub text : IsText (ts ++ more) values

-- a token on this line is the first that can't follow the tokens before it in any text
pub record IsBreak (ts : List TokenAtLine) (line : ℕ) : Type 0 where
  pub before : List TokenAtLine
  pub token : Token
  pub after : List TokenAtLine
  pub whole : ts ≡ before ++ (token, line) ∷ after
  pub begun : BeginsText before
  pub broken : ¬ (BeginsText (before ++ (token, line) ∷ []))

-- the tokens are the beginning of a text, but not a complete text
pub record IsUnfinished (ts : List TokenAtLine) : Type 0 where
  pub begun : BeginsText ts
  pub unfinished : (v : Values) → ¬ (IsText ts v)

-- the line of a syntax fault: that of the first token that can't follow the tokens before it, or `end` if the text is only incomplete
abbrev pub IsSyntaxLine : List TokenAtLine → ℕ → ℕ → Type 0
IsSyntaxLine ts end line = IsBreak ts line ⊎ (IsUnfinished ts × (line ≡ end))
