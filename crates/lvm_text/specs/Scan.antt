-- The element at the front of a text: where it ends, and which element it is.
use Rattle.lvm_text.specs.Base.{ℕ, suc, Bool, false, List, [], take, drop, Option, Some, None, option_map}
use Rattle.lvm_text.specs.Bytes.{code}
use Rattle.lvm_text.specs.Token.{Token, Word, Text, Open, Close, ListOpen, ListClose, Equals, Comma}
use Rattle.lvm_text.specs.Spelling.{Element, White, Comment, Lexeme, is_white, is_word_byte, is_escapable}
use Rattle.std.specs.Prelude.{◌&&◌, ◌==◌, ◌∷◌, if◌then◌else◌}

-- how many bytes come before the first newline, or None if there is no newline
abbrev pub newline_at : List ℕ → Option ℕ
newline_at [] = None
newline_at (b ∷ bs) = if b == code "\n" then Some 0 else option_map suc (newline_at bs)

-- how many bytes at the front of a text may occur in a word
abbrev pub leading_word_bytes : List ℕ → ℕ
leading_word_bytes [] = 0
leading_word_bytes (b ∷ bs) = if is_word_byte b then suc (leading_word_bytes bs) else 0

-- how many bytes come before the closing quote of a string; None if no quote closes the string, or a newline or a bad escape comes first
abbrev pub raw_length : List ℕ → Option ℕ
raw_length [] = None
raw_length (b ∷ []) = if b == code "\"" then Some 0 else None
raw_length (b ∷ c ∷ bs) =
    if b == code "\"" then Some 0
    else if b == code "\\" then (if is_escapable c then option_map (λ n. suc (suc n)) (raw_length bs) else None)
    else if b == code "\n" then None
    else option_map suc (raw_length (c ∷ bs))

-- the bytes begin with a backslash and then a quote or a backslash
abbrev pub is_escape : List ℕ → Bool
is_escape [] = false
is_escape (b ∷ []) = false
is_escape (b ∷ c ∷ bs) = b == code "\\" && is_escapable c

-- the token for one of the signs { } [ ] = , and None for any other byte
abbrev pub sign_of : ℕ → Option Token
sign_of b =
    if b == code "{" then Some Open else if b == code "}" then Some Close else if b == code "[" then Some ListOpen
    else if b == code "]" then Some ListClose else if b == code "=" then Some Equals else if b == code "," then Some Comma else None

-- a comment and the bytes after its newline, from the bytes after the comment's #
abbrev pub comment_from : List ℕ → Option (Element × List ℕ)
comment_from bs = option_map (λ n. (Comment (take n bs), drop (suc n) bs)) (newline_at bs)

-- a string and the bytes after its closing quote, from the bytes after the string's opening quote
abbrev pub string_from : List ℕ → Option (Element × List ℕ)
string_from bs = option_map (λ n. (Lexeme (Text (take n bs)), drop (suc n) bs)) (raw_length bs)

-- the word at the front of a text, and the bytes after the word
abbrev pub word_from : List ℕ → Element × List ℕ
word_from bs = (Lexeme (Word (take (leading_word_bytes bs) bs)), drop (leading_word_bytes bs) bs)

-- the element at the front of a text that consists of byte b and then `bs`, and the bytes after the element
abbrev pub element_from : ℕ → List ℕ → Option (Element × List ℕ)
element_from b bs =
    if is_white b then Some (White b, bs)
    else if b == code "#" then comment_from bs
    else if b == code "\"" then string_from bs
    else if is_word_byte b then Some (word_from (b ∷ bs))
    else option_map (λ t. (Lexeme t, bs)) (sign_of b)

-- the element at the front of a text, and the bytes after it; None if the text is empty or begins with no element
unfoldable pub element_at : List ℕ → Option (Element × List ℕ)
element_at [] = None
element_at (b ∷ bs) = element_from b bs
