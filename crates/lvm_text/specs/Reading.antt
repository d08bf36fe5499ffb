-- Which tree a text describes, or, if the text describes none, which fault it has.
use Rattle.lvm_text.specs.Base.{ℕ, List, Some, None, Result, Ok, Err, TextFault, Token, Syntax, Deep, Number, KeyTwice, Memory}
use Rattle.lvm_text.specs.Token.{TokenAtLine}
use Rattle.lvm_text.specs.Tree.{Tree, Values}
use Rattle.lvm_text.specs.Spelling.{Spells, IsBadToken, newlines}
use Rattle.lvm_text.specs.Grammar.{IsText, IsSyntaxLine}
use Rattle.lvm_text.specs.Checks.{fault_of}
use Rattle.std.specs.Prelude.{◌≡◌, ◌+◌}

-- the text describes this tree: the text's tokens form, by the grammar, a text with the tree's values, and no check finds a fault
pub record Describes (text : List ℕ) (t : Tree) : Type 0 where
  pub tokens : List TokenAtLine
  pub spelled : Spells text tokens
  pub grammar : IsText tokens t.values
  pub sound : fault_of tokens t.values ≡ None
  pub top : t.line ≡ 1

-- the text's tokens don't form, by the grammar, a text; the syntax fault is on this line
pub record IsBadSyntax (text : List ℕ) (line : ℕ) : Type 0 where
  pub tokens : List TokenAtLine
  pub spelled : Spells text tokens
  pub found : IsSyntaxLine tokens (1 + newlines text) line

-- the text's tokens form, by the grammar, a text, but this is the fault of the first check that finds any
pub record IsUnsound (text : List ℕ) (fault : TextFault) : Type 0 where
  pub tokens : List TokenAtLine
  pub values : Values
  pub spelled : Spells text tokens
  pub grammar : IsText tokens values
  pub hit : fault_of tokens values ≡ Some fault

-- the text has this fault, which is never Memory, because running out of memory isn't a fault of a text
abbrev pub HasFault : List ℕ → TextFault → Type 0
HasFault text (Token n) = IsBadToken text n
HasFault text (Syntax n) = IsBadSyntax text n
HasFault text (Deep n) = IsUnsound text (Deep n)
HasFault text (Number n) = IsUnsound text (Number n)
HasFault text (KeyTwice n) = IsUnsound text (KeyTwice n)
HasFault text Memory = ⊥

-- the fault is that something in the text isn't a token, or that memory ran out
abbrev pub IsTokenFault : List ℕ → TextFault → Type 0
IsTokenFault text (Token n) = IsBadToken text n
IsTokenFault text Memory = Unit {0}
IsTokenFault text _ = ⊥

-- the result is `said`, unless memory ran out
abbrev pub Answers : Result Tree TextFault → Result Tree TextFault → Type 0
Answers (Err Memory) said = Unit {0}
Answers result said = result ≡ said

-- the result for tokens that form a text with values v: the tree of the values, the fault of the first check that finds any, or Memory
abbrev pub TreeOf : List TokenAtLine → Values → Result Tree TextFault → Type 0
TreeOf ts v (Ok t) = (t ≡ record { line = 1; values = v }) × (fault_of ts v ≡ None)
TreeOf ts v (Err Memory) = Unit {0}
TreeOf ts v (Err f) = fault_of ts v ≡ Some f
