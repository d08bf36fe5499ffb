-- How the tree is built from tokens that the syntax check has accepted.
use Rattle.lvm_text.specs.Base.{ℕ, Bool, true, false, List, [], Option, Some, None, drop, unwrap_or, option_map, TextFault, KeyTwice, Memory, Scalar}
use Rattle.lvm_text.specs.Token.{Token, Word, Text, Open, Comma, ListOpen, TokenAtLine}
use Rattle.lvm_text.specs.Tree as tree
use Rattle.lvm_text.specs.Tree.{Values, Section, Single, Several}
use Rattle.lvm_text.specs.Grammar.{are_digits, number_of, ReadsListBy, ReadsBy}
use Rattle.lvm_text.specs.Checks.{head_line, twice_lines}
use Rattle.lvm_text.specs.View.{scalar_view, put}
use Rattle.lvm_text.specs.TokenView.{views}
use Rattle.lvm_text.specs.declared.build.Builder.{Builder}
use Rattle.lvm_text.specs.declared.tree.Value.{Value}
use Rattle.lvm_text.specs.declared.tree.Entry.{Entry}
use Rattle.std.specs.Prelude.{◌≡◌, ◌∷◌, if◌then◌else◌}

-- a token as a scalar, or None if the token isn't one; an integer out of range counts as 0, because an earlier check has refused it
abbrev pub bounded_of : Token → Option tree.Scalar
bounded_of (Word w) = if are_digits w then Some (tree.Int (unwrap_or (number_of w) 0)) else None
bounded_of (Text t) = Some (tree.Text t)
bounded_of _ = None

-- the token is a word, and so may be a key
abbrev pub is_word : Token → Bool
is_word (Word w) = true
is_word _ = false

-- the first token is a word, and so may be a key
abbrev pub begins_key : List TokenAtLine → Bool
begins_key [] = false
begins_key (t ∷ ts) = is_word t.0

-- the token is a comma
abbrev pub is_comma : Token → Bool
is_comma Comma = true
is_comma _ = false

-- the token is an opening brace
abbrev pub is_open : Token → Bool
is_open Open = true
is_open _ = false

-- the token is an opening bracket
abbrev pub is_list_open : Token → Bool
is_list_open ListOpen = true
is_list_open _ = false

-- the first token as a scalar, and the tokens after it
abbrev pub scalar_first : List TokenAtLine → Option (tree.Scalar × List TokenAtLine)
scalar_first [] = None
scalar_first (t ∷ ts) = option_map (λ s. (s, ts)) (bounded_of t.0)

-- the next scalar of a list, after a comma if the tokens begin with one, and the tokens after the scalar
abbrev pub item_of : List TokenAtLine → Option (tree.Scalar × List TokenAtLine)
item_of [] = None
item_of (t ∷ ts) = if is_comma t.0 then scalar_first ts else scalar_first (t ∷ ts)

-- the tokens of a builder from position `at` on
abbrev pub left : Builder → ℕ → List TokenAtLine
left b at = views (drop at b.tokens.now)

-- after an opening bracket, the tokens can be read in one way only: as these scalars and a closing bracket, with `rest` after it
abbrev pub ReadsScalars : List TokenAtLine → List tree.Scalar → List TokenAtLine → Type 0
ReadsScalars tokens scalars rest = (ss : List tree.Scalar) (b : List TokenAtLine) → ReadsListBy bounded_of tokens ss b → (ss ≡ scalars) × (b ≡ rest)

-- the value is this scalar; for None, it may be any value
abbrev pub ShowsScalar : Option Scalar → Value → Type 0
ShowsScalar scalar value = (s : tree.Scalar) → option_map scalar_view scalar ≡ Some s → (k : List ℕ) (n : ℕ) (v : Values) → Single k n s v ≡ put k n value v

-- after an equals sign, the tokens can be read in one way only: as this value, a scalar or a list, with `rest` after it
pub record ReadsLeaf (tokens : List TokenAtLine) (value : Value) (rest : List TokenAtLine) : Type 0 where
  pub single : (t : Token) (m : ℕ) (s : tree.Scalar) (b : List TokenAtLine) → tokens ≡ (t, m) ∷ b → bounded_of t ≡ Some s
      → ((k : List ℕ) (n : ℕ) (v : Values) → Single k n s v ≡ put k n value v) × (b ≡ rest)
  pub several : (o : ℕ) (a : List TokenAtLine) (ss : List tree.Scalar) (b : List TokenAtLine) → tokens ≡ (ListOpen, o) ∷ a → ReadsListBy bounded_of a ss b
      → ((k : List ℕ) (n : ℕ) (v : Values) → Several k n ss v ≡ put k n value v) × (b ≡ rest)

-- after a key on this line, the tokens can be read in one way only: as this value, followed by more values, which are read from `rest`
abbrev pub ReadsValue : ℕ → List TokenAtLine → Value → List TokenAtLine → Type 0
ReadsValue line tokens value rest =
    (k : List ℕ) (v : Values) (more : List TokenAtLine) → ReadsBy bounded_of ((Word k, line) ∷ tokens) v more → begins_key more ≡ false
    → (later : Values) × (v ≡ put k line value later) × ReadsBy bounded_of rest later more

-- the tokens can be read in one way only: as these values, with `rest`, which doesn't begin with a key, after them
abbrev pub ReadsValues : List TokenAtLine → Values → List TokenAtLine → Type 0
ReadsValues tokens values rest = (v : Values) (more : List TokenAtLine) → ReadsBy bounded_of tokens v more → begins_key more ≡ false → (v ≡ values) × (more ≡ rest)

-- the tokens are the values of a section, and the fault is at the first key, in that section or inside it, that equals an earlier key of its own section
abbrev pub IsTwice : List TokenAtLine → TextFault → Type 0
IsTwice tokens (KeyTwice n) = (v : Values) (more : List TokenAtLine) → ReadsBy bounded_of tokens v more → begins_key more ≡ false → head_line (twice_lines [] v) ≡ Some n
IsTwice tokens Memory = Unit {0}
IsTwice tokens _ = ⊥

-- after a key on this line, the tokens begin with a section, and the fault is at the first key inside it that equals an earlier key of its own section
abbrev pub IsTwiceInside : ℕ → List TokenAtLine → TextFault → Type 0
IsTwiceInside line tokens (KeyTwice n) =
    (k : List ℕ) (v : Values) (more : List TokenAtLine) → ReadsBy bounded_of ((Word k, line) ∷ tokens) v more → begins_key more ≡ false
    → (inner later : Values) × (v ≡ Section k line inner later) × (head_line (twice_lines [] inner) ≡ Some n)
IsTwiceInside line tokens Memory = Unit {0}
IsTwiceInside line tokens _ = ⊥

-- the values of these entries, followed by the values `later`
abbrev pub before : List Entry → Values → Values
before [] later = later
before (e ∷ es) later = put e.key.now e.node.line e.node.value (before es later)
