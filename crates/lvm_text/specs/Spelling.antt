-- How a text is cut into tokens, with whitespace and comments between them.
use Rattle.lvm_text.specs.Base.{ℕ, Bool, true, false, not, List, [], suc, list_all, is_ascii_alphanumeric}
use Rattle.lvm_text.specs.Bytes.{code}
use Rattle.lvm_text.specs.Token.{Token, Word, Text, Open, Close, ListOpen, ListClose, Equals, Comma, TokenAtLine}
use Rattle.std.specs.Prelude.{◌≡◌, ◌≢◌, ◌+◌, ◌&&◌, ◌||◌, ◌==◌, ◌∷◌, ◌++◌, if◌then◌else◌}

-- ---- classes of bytes

-- the byte is whitespace: a space, a tab or a newline
abbrev pub is_white : ℕ → Bool
is_white b = b == code " " || (b == code "\t" || b == code "\n")

-- the byte may occur in a word: a letter, a digit or one of _ + . -
abbrev pub is_word_byte : ℕ → Bool
is_word_byte b = is_ascii_alphanumeric b || (b == code "_" || (b == code "+" || (b == code "." || b == code "-")))

-- the byte is a newline
abbrev pub is_newline : ℕ → Bool
is_newline b = b == code "\n"

-- how many newlines the bytes contain
abbrev pub newlines : List ℕ → ℕ
newlines [] = 0
newlines (b ∷ bs) = if is_newline b then suc (newlines bs) else newlines bs

-- the byte is a quote or a backslash, which may occur in a string only after a backslash
abbrev pub is_escapable : ℕ → Bool
is_escapable b = b == code "\"" || b == code "\\"

-- the byte may occur in a string without a backslash before it
abbrev pub is_plain : ℕ → Bool
is_plain b = not (b == code "\"" || (b == code "\\" || b == code "\n"))

-- the bytes may be the raw text of a string, which is all between its quotes, including backslashes
abbrev pub is_raw : List ℕ → Bool
is_raw [] = true
is_raw (b ∷ []) = is_plain b
is_raw (b ∷ c ∷ bs) = (is_plain b && is_raw (c ∷ bs)) || (b == code "\\" && (is_escapable c && is_raw bs))

-- the bytes contain no newline
abbrev pub is_line : List ℕ → Bool
is_line bs = list_all (λ b. not (is_newline b)) bs

-- the first byte, if there is one, may occur in a word
abbrev pub begins_word : List ℕ → Bool
begins_word [] = false
begins_word (b ∷ bs) = is_word_byte b

-- ---- the elements of a text

-- an element of a text: a whitespace byte, a comment without its # and its newline, or a token
pub data Element : Type 0 where
  White : ℕ → Element
  Comment : List ℕ → Element
  Lexeme : Token → Element

-- the bytes that spell a token
abbrev pub token_spelling : Token → List ℕ
token_spelling (Word w) = w
token_spelling (Text t) = code "\"" ∷ (t ++ code "\"" ∷ [])
token_spelling Open = code "{" ∷ []
token_spelling Close = code "}" ∷ []
token_spelling ListOpen = code "[" ∷ []
token_spelling ListClose = code "]" ∷ []
token_spelling Equals = code "=" ∷ []
token_spelling Comma = code "," ∷ []

-- the bytes that spell an element
abbrev pub spelling : Element → List ℕ
spelling (White b) = b ∷ []
spelling (Comment c) = code "#" ∷ (c ++ code "\n" ∷ [])
spelling (Lexeme t) = token_spelling t

-- w is a whole word in front of `after`: it is nonempty, and `after` doesn't begin with another byte of a word
pub record IsWord (w after : List ℕ) : Type 0 where
  pub some : w ≢ []
  pub bytes : list_all is_word_byte w ≡ true
  pub longest : begins_word after ≡ false

-- the token is valid in front of the bytes `after`
abbrev pub IsToken : Token → List ℕ → Type 0
IsToken (Word w) after = IsWord w after
IsToken (Text t) after = is_raw t ≡ true
IsToken _ after = Unit {0}

-- the element is valid in front of the bytes `after`
abbrev pub IsElement : Element → List ℕ → Type 0
IsElement (White b) after = is_white b ≡ true
IsElement (Comment c) after = is_line c ≡ true
IsElement (Lexeme t) after = IsToken t after

-- the element is valid in front of at least some bytes
abbrev pub SomeElement : Element → Type 0
SomeElement p = (after : List ℕ) × IsElement p after

-- the text consists of this element and then the bytes `after`
abbrev pub Begins : List ℕ → Element → List ℕ → Type 0
Begins text p after = (text ≡ spelling p ++ after) × IsElement p after

-- the text consists of these elements and then the bytes `rest`
abbrev pub Cut : List ℕ → List Element → List ℕ → Type 0
Cut text [] rest = text ≡ rest
Cut text (p ∷ ps) rest = (after : List ℕ) × Begins text p after × Cut after ps rest

-- the bytes may follow the last element of a text, because there are none or they are a comment without a newline
abbrev pub is_end : List ℕ → Bool
is_end [] = true
is_end (b ∷ bs) = b == code "#" && is_line bs

-- the number of the line on which the elements end, if they begin on line n
abbrev pub line_after : ℕ → List Element → ℕ
line_after n [] = n
line_after n (p ∷ ps) = line_after (n + newlines (spelling p)) ps

-- later tokens with the token of an element, on line n, in front; whitespace and comments add no token
abbrev pub put_token : Element → ℕ → List TokenAtLine → List TokenAtLine
put_token (Lexeme t) n later = (t, n) ∷ later
put_token (White b) n later = later
put_token (Comment c) n later = later

-- the tokens of the elements, each with its line; the first element begins on line n
abbrev pub tokens_from : ℕ → List Element → List TokenAtLine
tokens_from n [] = []
tokens_from n (p ∷ ps) = put_token p n (tokens_from (n + newlines (spelling p)) ps)

-- the text can be cut into elements that have these tokens
pub record Spells (text : List ℕ) (ts : List TokenAtLine) : Type 0 where
  pub elements : List Element
  pub rest : List ℕ
  pub cut : Cut text elements rest
  pub end : is_end rest ≡ true
  pub tokens : ts ≡ tokens_from 1 elements

-- the text begins with some elements, and then, on this line, comes something that is neither whitespace nor a comment nor a token
pub record IsBadToken (text : List ℕ) (line : ℕ) : Type 0 where
  pub elements : List Element
  pub rest : List ℕ
  pub cut : Cut text elements rest
  pub more : is_end rest ≡ false
  pub bad : (p : Element) (after : List ℕ) → ¬ (Begins rest p after)
  pub at : line ≡ line_after 1 elements
