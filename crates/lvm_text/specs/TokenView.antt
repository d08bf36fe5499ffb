-- The tokens and elements of the code, as contracts see them: as bytes, regardless of where these are in memory.
use Rattle.lvm_text.specs.Base.{ℕ, List, map, Option, option_map}
use Rattle.lvm_text.specs.Token as spec
use Rattle.lvm_text.specs.declared.token.Token.{Token}
use Rattle.lvm_text.specs.declared.token.Token.TheVariants as token
use Rattle.lvm_text.specs.declared.token.TokenAtLine.{TokenAtLine}
use Rattle.lvm_text.specs.declared.element.Element.{Element}
use Rattle.lvm_text.specs.declared.element.Element.TheVariants as elements
use Rattle.lvm_text.specs.Spelling as Spelling
use denote.Ref.{Bor}

-- a token as contracts see it
abbrev pub token_view : Token → spec.Token
token_view (token.Word w) = spec.Word w.now
token_view (token.Text t) = spec.Text t.now
token_view token.Open = spec.Open
token_view token.Close = spec.Close
token_view token.ListOpen = spec.ListOpen
token_view token.ListClose = spec.ListClose
token_view token.Equals = spec.Equals
token_view token.Comma = spec.Comma

-- a token and its line, as contracts see them
abbrev pub view : TokenAtLine → spec.TokenAtLine
view t = (token_view t.token, t.line)

-- tokens and their lines, as contracts see them
abbrev pub views : List TokenAtLine → List spec.TokenAtLine
views = map view

-- an element as contracts see it
abbrev pub element_view : Element → Spelling.Element
element_view (elements.White b) = Spelling.White b
element_view (elements.Comment c) = Spelling.Comment c.now
element_view (elements.Lexeme t) = Spelling.Lexeme (token_view t)

-- an element and the bytes after it, as contracts see them
abbrev pub found_view : Option (Element × Bor (List ℕ)) → Option (Spelling.Element × List ℕ)
found_view = option_map (λ q. (element_view q.0, q.1.now))
