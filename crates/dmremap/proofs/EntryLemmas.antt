-- The entries of the manual that fit, written one after the other.
use Rattle.dmremap.proofs.Prelude.{◌∙◌, ℕ, Bool, true, false, List, [], length, map, take, drop, get_or, Ok, Err, append_assoc, ap, refl, sym, take-append-drop, append-nil, get_or-map, length-map, map-append, filter-append, filter, join_with_byte, OutputPast, Wrote, and_then, stopped, Entry, texts_of}
use Rattle.std.proofs.lemmas.List.Elements.{filter_more}
use Rattle.std.specs.Prelude.{◌≡◌, ◌++◌, ◌<◌, ◌+◌, ◌∷◌}

-- ---- texts with an empty line between them

-- what separates the next text from those before it: nothing before the first text, a newline before any other
abbrev before_next : List (List ℕ) → List ℕ
before_next [] = []
before_next (text ∷ texts) = 10 ∷ []

joined_more : (texts : List (List ℕ)) (text : List ℕ) → join_with_byte 10 (texts ++ text ∷ []) ≡ join_with_byte 10 texts ++ (before_next texts ++ text)
joined_more [] text = refl
joined_more (first ∷ []) text = refl
joined_more (first ∷ second ∷ texts) text = rw (joined_more (second ∷ texts) text) (simp append_assoc)

joined_rest : (texts more : List (List ℕ)) → (rest : List ℕ) × (join_with_byte 10 (texts ++ more) ≡ join_with_byte 10 texts ++ rest)
joined_rest [] more = (join_with_byte 10 more, refl)
joined_rest (first ∷ []) [] = ([], sym (append-nil first))
joined_rest (first ∷ []) (next ∷ more) = (10 ∷ join_with_byte 10 (next ∷ more), refl)
joined_rest (first ∷ second ∷ texts) more =
    let later = joined_rest (second ∷ texts) more in
    (later.0, rw later.1 (simp append_assoc))

-- ---- the entries that fit, among the first of all entries

-- the texts of the entries that fit
abbrev fitting : (Fits : Entry → Bool) → List Entry → List (List ℕ)
fitting Fits entries = map (λ entry. entry.2) (filter Fits entries)

-- what separates the text of the next entry that fits from those before it
abbrev pub between : (Fits : Entry → Bool) → List Entry → List ℕ
between Fits entries = before_next (fitting Fits entries)

fitting_more : (Fits : Entry → Bool) (entries : List Entry) (i : ℕ) (entry : Entry) → i < length entries → entry ≡ get_or entries i entry → Fits entry ≡ true
    → fitting Fits (take (i + 1) entries) ≡ fitting Fits (take i entries) ++ entry.2 ∷ []
fitting_more Fits entries i entry below is fits =
    ap (map (λ (e : Entry). e.2)) (rw (filter_more Fits entries i entry below, ← is, fits) refl) ∙ map-append (λ (e : Entry). e.2) (filter Fits (take i entries)) (entry ∷ [])

pub fitting_same : (Fits : Entry → Bool) (entries : List Entry) (i : ℕ) (entry : Entry) → i < length entries → entry ≡ get_or entries i entry → Fits entry ≡ false
    → filter Fits (take (i + 1) entries) ≡ filter Fits (take i entries)
fitting_same Fits entries i entry below is fits = rw (filter_more Fits entries i entry below, ← is, fits, append-nil (filter Fits (take i entries))) refl

pub texts_more : (Fits : Entry → Bool) (entries : List Entry) (i : ℕ) (entry : Entry) → i < length entries → entry ≡ get_or entries i entry → Fits entry ≡ true
    → texts_of Fits (take (i + 1) entries) ≡ texts_of Fits (take i entries) ++ (between Fits (take i entries) ++ entry.2)
texts_more Fits entries i entry below is fits =
    ap (join_with_byte 10) (fitting_more Fits entries i entry below is fits) ∙ joined_more (fitting Fits (take i entries)) entry.2

pub between_more : (Fits : Entry → Bool) (entries : List Entry) (i : ℕ) (entry : Entry) → i < length entries → entry ≡ get_or entries i entry → Fits entry ≡ true
    → between Fits (take (i + 1) entries) ≡ 10 ∷ []
between_more Fits entries i entry below is fits = ap before_next (fitting_more Fits entries i entry below is fits) ∙ some (fitting Fits (take i entries))
  where
    some : (texts : List (List ℕ)) → before_next (texts ++ entry.2 ∷ []) ≡ 10 ∷ []
    some [] = refl
    some (first ∷ texts) = refl

-- the text for the first entries is a prefix of the text for all of them
texts_rest : (Fits : Entry → Bool) (entries : List Entry) (i : ℕ) → (rest : List ℕ) × (texts_of Fits entries ≡ texts_of Fits (take i entries) ++ rest)
texts_rest Fits entries i =
    let split : fitting Fits entries ≡ fitting Fits (take i entries) ++ fitting Fits (drop i entries)
    = ap (fitting Fits) (sym (take-append-drop i entries)) ∙ ap (map (λ (e : Entry). e.2)) (filter-append Fits (take i entries) (drop i entries)) ∙ map-append (λ (e : Entry). e.2) (filter Fits (take i entries)) (filter Fits (drop i entries)) in
    let later = joined_rest (fitting Fits (take i entries)) (fitting Fits (drop i entries)) in
    (later.0, ap (join_with_byte 10) split ∙ later.1)

-- ---- what is written for entries

-- after an entry that fits and what separates it were written, the text for one entry more is written
pub further : {E : Type 0} {old mid new : OutputPast} (Fits : Entry → Bool) (entries : List Entry) (i : ℕ) (entry : Entry) → i < length entries → entry ≡ get_or entries i entry → Fits entry ≡ true
    → Wrote {E = E} old mid (Ok tt) (texts_of Fits (take i entries)) → Wrote {E = E} mid new (Ok tt) (between Fits (take i entries) ++ entry.2)
    → Wrote {E = E} old new (Ok tt) (texts_of Fits (take (i + 1) entries))
further Fits entries i entry below is fits so_far wrote =
    and_then (texts_of Fits (take i entries)) (between Fits (take i entries) ++ entry.2) (texts_more Fits entries i entry below is fits) so_far wrote

-- if writing an entry that fits fails, writing the text for all entries fails
pub failed : {E : Type 0} {old mid new : OutputPast} {fault : E} (Fits : Entry → Bool) (entries : List Entry) (i : ℕ) (entry : Entry) → i < length entries → entry ≡ get_or entries i entry → Fits entry ≡ true
    → Wrote {E = E} old mid (Ok tt) (texts_of Fits (take i entries)) → Wrote mid new (Err fault) (between Fits (take i entries) ++ entry.2)
    → Wrote old new (Err fault) (texts_of Fits entries)
failed Fits entries i entry below is fits so_far wrote =
    let rest = texts_rest Fits entries (i + 1) in
    let next = between Fits (take i entries) ++ entry.2 in
    and_then (texts_of Fits (take i entries)) (next ++ rest.0) (rest.1 ∙ ap (λ (text : List ℕ). text ++ rest.0) (texts_more Fits entries i entry below is fits) ∙ append_assoc (texts_of Fits (take i entries)) next rest.0) so_far
    (stopped next rest.0 refl wrote)

-- ---- entries of the table in the program

-- the entry at index `i` of a table is the entry at `i` of the definitions' list
at_place : {A : Type 0} (plain : A → Entry) (table : List A) (i : ℕ) (none : A) → i < length table
    → (i < length (map plain table)) × (plain (get_or table i none) ≡ get_or (map plain table) i (plain (get_or table i none)))
at_place plain table i none below = (rw (length-map table plain) below, sym (get_or-map plain table i none (plain (get_or table i none)) below))

-- if writing the table's entry at `i` fails, writing the text for the whole table fails
pub failed_at : {A E : Type 0} {old mid new : OutputPast} {fault : E} (plain : A → Entry) (Fits : Entry → Bool) (table : List A) (i : ℕ) (none : A) → i < length table → Fits (plain (get_or table i none)) ≡ true
    → Wrote {E = E} old mid (Ok tt) (texts_of Fits (take i (map plain table))) → Wrote mid new (Err fault) (between Fits (take i (map plain table)) ++ (plain (get_or table i none)).2)
    → Wrote old new (Err fault) (texts_of Fits (map plain table))
failed_at plain Fits table i none below fits so_far wrote =
    let at = at_place plain table i none below in
    failed Fits (map plain table) i (plain (get_or table i none)) at.0 at.1 fits so_far wrote

-- the table's entry at `i` fits, and is written
pub written_at : {A E : Type 0} {old mid new : OutputPast} (plain : A → Entry) (Fits : Entry → Bool) (table : List A) (i : ℕ) (none : A) → i < length table → Fits (plain (get_or table i none)) ≡ true
    → Wrote {E = E} old mid (Ok tt) (texts_of Fits (take i (map plain table))) → Wrote {E = E} mid new (Ok tt) (between Fits (take i (map plain table)) ++ (plain (get_or table i none)).2)
    → Wrote {E = E} old new (Ok tt) (texts_of Fits (take (i + 1) (map plain table))) × (10 ∷ [] ≡ between Fits (take (i + 1) (map plain table)))
written_at plain Fits table i none below fits so_far wrote =
    let at = at_place plain table i none below in
    let entry = plain (get_or table i none) in
    (further Fits (map plain table) i entry at.0 at.1 fits so_far wrote, sym (between_more Fits (map plain table) i entry at.0 at.1 fits))

-- the table's entry at `i` doesn't fit, and nothing is written for it
pub skipped_at : {A E : Type 0} {old new : OutputPast} (plain : A → Entry) (Fits : Entry → Bool) (table : List A) (i : ℕ) (none : A) (before : List ℕ) → i < length table → Fits (plain (get_or table i none)) ≡ false
    → Wrote {E = E} old new (Ok tt) (texts_of Fits (take i (map plain table))) → before ≡ between Fits (take i (map plain table))
    → Wrote {E = E} old new (Ok tt) (texts_of Fits (take (i + 1) (map plain table))) × (before ≡ between Fits (take (i + 1) (map plain table)))
skipped_at {E = E} {old = old} {new = new} plain Fits table i none before below fits so_far is =
    let at = at_place plain table i none below in
    let same = fitting_same Fits (map plain table) i (plain (get_or table i none)) at.0 at.1 fits in
    (rw same so_far, rw same is)
