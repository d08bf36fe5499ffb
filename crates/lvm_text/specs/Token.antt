-- The tokens of a text.
use Rattle.lvm_text.specs.Base.{ℕ, List}

-- a token: a word, the raw text between the two quotes of a string, or one of the signs { } [ ] = ,
pub data Token : Type 0 where
  Word : List ℕ → Token
  Text : List ℕ → Token
  Open : Token
  Close : Token
  ListOpen : Token
  ListClose : Token
  Equals : Token
  Comma : Token

-- a token and the line on which it begins
abbrev pub TokenAtLine : Type 0
TokenAtLine = Token × ℕ
