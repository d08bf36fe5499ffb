-- What `help` prints for a message: the texts of the manual's entries about the message's word.
use Rattle.dmremap.specs.Base.{Bool, List, [], Option, None, Some, codes, drop, filter, length, map, option_map, take, join_with_byte, list_any, option_map_or, bytes_eq, code, Text}
use Rattle.dmremap.specs.declared.messages.TheConstants.{FIRST_ENTRIES, LATER_ENTRIES}
use Rattle.std.specs.Prelude.{◌∷◌, ◌&&◌, ◌||◌, if◌then◌else◌}

-- ---- the word and the part of a message

-- a text split at the first occurrence of `mark`, into the bytes before the mark and the bytes after it; None if the mark doesn't occur
unfoldable pub cut_at : (mark : Text) → Text → Option (Text × Text)
cut_at mark [] = None
cut_at mark (x ∷ xs) =
    if bytes_eq (take (length mark) (x ∷ xs)) mark then Some ([], drop (length mark) (x ∷ xs))
    else option_map (λ cut. (x ∷ cut.0, cut.1)) (cut_at mark xs)

-- the text before the first `mark`, or the whole text if there is no mark; `after`, below, is the text after the first mark, or the whole text
abbrev pub before : (mark : Text) → Text → Text
before mark text = option_map_or (λ cut. cut.0) (cut_at mark text) text

abbrev pub after : (mark : Text) → Text → Text
after mark text = option_map_or (λ cut. cut.1) (cut_at mark text) text

-- the word of a message: the end of the message, without ` at PLACE`. The message may lack `dmremap: `, or lack its part too and consist of the word alone
abbrev pub word_in : Text → Text
word_in message = before (codes " at ") (after (codes ": ") (after (codes ": ") message))

-- the part that a message is about: the first word after `dmremap: `, without the name or number that may follow that word
abbrev pub part_in : Text → Text
part_in message = before (codes " ") (before (codes ": ") (after (codes "dmremap: ") message))

-- ---- the manual's entries

-- an entry of the manual: the two parts whose messages it explains, the word that it is about, and its text
abbrev pub Entry : Type 0
Entry = (Text × Text) × Text × Text

-- the entry explains this word, in messages of `part` if a part is given, or else in messages of any part
abbrev pub fits : (part : Option Text) → (word : Text) → Entry → Bool
fits (Some part) word entry = bytes_eq entry.1 word && (bytes_eq entry.0.0 part || bytes_eq entry.0.1 part)
fits None word entry = bytes_eq entry.1 word

-- the manual's entries for the first words; `later_entries`, below, holds the entries for all other words
unfoldable pub first_entries : List Entry
first_entries = map (λ entry. ((entry.0.0.now, entry.0.1.now), entry.1.now, entry.2.now)) FIRST_ENTRIES

unfoldable pub later_entries : List Entry
later_entries = map (λ entry. ((entry.0.0.now, entry.0.1.now), entry.1.now, entry.2.now)) LATER_ENTRIES

-- the table that holds the entries for this word: the first one if it has any, or else the second one
abbrev pub table_of : (word : Text) → List Entry
table_of word = if list_any (fits None word) first_entries then first_entries else later_entries

-- the part of a message, if an entry explains this word in messages of that part
abbrev pub part_meant : (message word : Text) → List Entry → Option Text
part_meant message word entries = if list_any (fits (Some (part_in message)) word) entries then Some (part_in message) else None

-- the texts of the entries that fit, separated by empty lines
abbrev pub texts_of : (Fits : Entry → Bool) → List Entry → Text
texts_of Fits entries = join_with_byte (code "\n") (map (λ entry. entry.2) (filter Fits entries))

-- what is printed for a message with this word: the word's entry for the message's part, or else all entries of the word
abbrev pub said_of : (message word : Text) → Text
said_of message word = texts_of (fits (part_meant message word (table_of word)) word) (table_of word)

unfoldable pub explanation : Text → Text
explanation message = said_of message (word_in message)

-- the manual has an entry for the message's word
unfoldable pub is_explained : Text → Bool
is_explained message = list_any (fits None (word_in message)) (table_of (word_in message))
