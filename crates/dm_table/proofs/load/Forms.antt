-- Forms of texts: a text passes all checks of its form exactly if it describes values, and these are the values that its rows describe.
use Rattle.dm_table.proofs.Prelude.{ℕ, suc, Bool, true, false, not, List, [], map, Option, Some, None, Result, refl, sym, ap, ◌∙◌, append_assoc, cons_option, AllByRecursion, option_to_list, not-false, not_from_true, append-nil, Part, NotText, Syntax, Field, Name, LoadFault, parts_at, lines_of, rest_of, Answers, first_fault, untexts, unended, row_checks, unless, IsParsed, SayEach, LinesSay, values_from, with_rows, Vec}
use Rattle.dm_table.proofs.words.FieldLemmas.{last_split, some_parts}
use Rattle.dm_table.proofs.load.FaultLemmas.{first_fault-none, first_fault-all, faults_from-nil, faults_from-good, unended-nil}
use Rattle.dm_table.proofs.load.Parsing.{parsed}
use Rattle.dm_table.proofs.Lists.{all_append, all_front, append-nil_both}
use Rattle.std.specs.Prelude.{◌≡◌, ◌∷◌, ◌++◌}

-- a form of texts that are cut into pieces, such as lines: the tests of a piece, the value read from its row, the value it describes
pub record Form (R X : Type 0) : Type 1 where
  pub part : Part
  pub is_text : List ℕ → Bool
  pub row_of : List ℕ → R
  pub is_row : R → Bool
  pub has_values : R → Bool
  pub has_names : R → Bool
  pub value_in : ℕ → R → Option X
  pub says : ℕ → List ℕ → X → Type 0

-- the piece passes all tests, and the value read from its row as number n is `value`
pub record IsRead {R X : Type 0} (form : Form R X) (n : ℕ) (piece : List ℕ) (value : X) : Type 0 where
  pub text : form.is_text piece ≡ true
  pub row : form.is_row (form.row_of piece) ≡ true
  pub values : form.has_values (form.row_of piece) ≡ true
  pub names : form.has_names (form.row_of piece) ≡ true
  pub read : form.value_in n (form.row_of piece) ≡ Some value

-- the law of a form: a piece that passes all tests describes the value read from it, and a piece that describes a value passes them
pub record IsLawful {R X : Type 0} (form : Form R X) : Type 0 where
  pub says : (n : ℕ) (text : List ℕ) → form.is_text text ≡ true → form.is_row (form.row_of text) ≡ true → form.has_values (form.row_of text) ≡ true → form.has_names (form.row_of text) ≡ true
      → (value : X) × (form.value_in n (form.row_of text) ≡ Some value) × form.says n text value
  pub again : (n : ℕ) (text : List ℕ) (value : X) → form.says n text value → IsRead form n text value

-- ---- the pieces of a text, one after the other

abbrev AllPass : {X : Type 0} → (X → Bool) → List X → Type 0
AllPass test xs = AllByRecursion (λ x. not (test x) ≡ false) xs

-- pieces that pass all tests describe the values read from their rows
each_says : {R X : Type 0} (form : Form R X) → IsLawful form → (n : ℕ) (texts : List (List ℕ)) → AllPass form.is_text texts → AllPass form.is_row (map form.row_of texts)
    → AllPass form.has_values (map form.row_of texts) → AllPass form.has_names (map form.row_of texts) → SayEach form.says n texts (values_from form.value_in n (map form.row_of texts))
each_says form law n [] t r v h = tt
each_says form law n (text ∷ texts) t r v h =
    let first = law.says n text (not-false _ t.0) (not-false _ r.0) (not-false _ v.0) (not-false _ h.0) in
    rw first.1 (first.2, each_says form law (suc n) texts t.1 r.1 v.1 h.1)

-- pieces that describe values pass all tests, and those values are read from their rows
record AreRead {R X : Type 0} (form : Form R X) (n : ℕ) (texts : List (List ℕ)) (all : List X) : Type 0 where
  pub text : AllPass form.is_text texts
  pub row : AllPass form.is_row (map form.row_of texts)
  pub values : AllPass form.has_values (map form.row_of texts)
  pub names : AllPass form.has_names (map form.row_of texts)
  pub read : values_from form.value_in n (map form.row_of texts) ≡ all

are_read : {R X : Type 0} (form : Form R X) → IsLawful form → (n : ℕ) (texts : List (List ℕ)) (values : List X) → SayEach form.says n texts values → AreRead form n texts values
are_read form law n [] [] say = record { text = tt; row = tt; values = tt; names = tt; read = refl }
are_read form law n (text ∷ texts) (value ∷ values) say =
    let first = law.again n text value say.0 in
    let more = are_read form law (suc n) texts values say.1 in
    record {
      text = (not_from_true _ first.text, more.text);
      row = (not_from_true _ first.row, more.row);
      values = (not_from_true _ first.values, more.values);
      names = (not_from_true _ first.names, more.names);
      read = rw (first.read, more.read) refl;
    }
are_read form law n texts values say = absurd say

-- what holds of each piece that describes a value holds of all pieces
pub each_said : {X : Type 0} (says : ℕ → List ℕ → X → Type 0) (P : List ℕ → Type 0) → ((n : ℕ) (text : List ℕ) (value : X) → says n text value → P text)
    → (n : ℕ) (texts : List (List ℕ)) (values : List X) → SayEach says n texts values → AllByRecursion P texts
each_said says P so n [] [] say = tt
each_said says P so n (text ∷ texts) (value ∷ values) say = (so n text value say.0, each_said says P so (suc n) texts values say.1)
each_said says P so n texts values say = absurd say

-- ---- the checks of a form

abbrev checks_of : {R X : Type 0} → Form R X → (pieces texts : List (List ℕ)) → (rest : List ℕ) → List (List LoadFault)
checks_of form pieces texts rest =
    untexts form.is_text form.part pieces ∷ row_checks form.part form.is_row form.has_values form.has_names (map form.row_of texts) rest

abbrev values_of : {R X : Type 0} → Form R X → (texts : List (List ℕ)) → List X
values_of form texts = values_from form.value_in 1 (map form.row_of texts)

-- if no check finds a fault, the pieces describe the values read from their rows
pub none_says : {R X : Type 0} (form : Form R X) → IsLawful form → (pieces texts more : List (List ℕ)) (rest : List ℕ) → pieces ≡ texts ++ more → first_fault (checks_of form pieces texts rest) ≡ None
    → (rest ≡ []) × SayEach form.says 1 texts (values_of form texts)
none_says form law pieces texts more rest cut h =
    let rows = map form.row_of texts in
    let none = first_fault-none (checks_of form pieces texts rest) h in
    let syntax = append-nil_both _ (unended form.part _ rest) none.1.0 in
    let clear = faults_from-nil form.part NotText (λ text. not (form.is_text text)) 1 pieces none.0 in (
      unended-nil form.part _ rest syntax.1,
      each_says form law 1 texts
          (all_front (λ text. not (form.is_text text) ≡ false) texts more (rw cut at clear))
          (faults_from-nil form.part Syntax (λ row. not (form.is_row row)) 1 rows syntax.0)
          (faults_from-nil form.part Field (λ row. not (form.has_values row)) 1 rows none.1.1.0)
          (faults_from-nil form.part Name (λ row. not (form.has_names row)) 1 rows none.1.1.1.0),
    )

-- if the pieces describe values, no check finds a fault, and those values are read from their rows
pub says_none : {R X : Type 0} (form : Form R X) → IsLawful form → (texts more : List (List ℕ)) (values : List X) → AllPass form.is_text more → SayEach form.says 1 texts values
    → (first_fault (checks_of form (texts ++ more) texts []) ≡ None) × (values_of form texts ≡ values)
says_none form law texts more values clear say =
    let rows = map form.row_of texts in
    let read = are_read form law 1 texts values say in
    let no_row = faults_from-good form.part Syntax (λ row. not (form.is_row row)) 1 rows read.row in (
      first_fault-all (checks_of form (texts ++ more) texts []) (
        faults_from-good form.part NotText (λ text. not (form.is_text text)) 1 (texts ++ more) (all_append _ texts more read.text clear),
        (
          append-nil _ ∙ no_row,
          (
            faults_from-good form.part Field (λ row. not (form.has_values row)) 1 rows read.values,
            (faults_from-good form.part Name (λ row. not (form.has_names row)) 1 rows read.names, tt),
          ),
        ),
      ),
      read.read,
    )

-- ---- texts of lines

-- the parts of a text between newlines are its lines and its unterminated last line
lines_and_rest : (text : List ℕ) → parts_at 10 text ≡ lines_of text ++ rest_of text ∷ []
lines_and_rest text = last_split [] (parts_at 10 text) (some_parts 10 text)

abbrev pub text_checks : {R X : Type 0} → Form R X → List ℕ → List (List LoadFault)
text_checks form text = checks_of form (parts_at 10 text) (lines_of text) (rest_of text)

abbrev pub text_values : {R X : Type 0} → Form R X → List ℕ → List X
text_values form text = values_of form (lines_of text)

-- a text of lines in which no check finds a fault describes the values of its rows
pub lines_said : {R X : Type 0} (form : Form R X) → IsLawful form → (text : List ℕ) → first_fault (text_checks form text) ≡ None → LinesSay form.says text (text_values form text)
lines_said form law text h =
    let none = none_says form law (parts_at 10 text) (lines_of text) (rest_of text ∷ []) (rest_of text) (lines_and_rest text) h in
    record { ended = none.0; said = none.1 }

-- in a text of lines that describes values, no check finds a fault, and those values are read from its rows
pub lines_again : {R X : Type 0} (form : Form R X) → IsLawful form → form.is_text [] ≡ true → (text : List ℕ) (values : List X) → LinesSay form.says text values
    → (first_fault (text_checks form text) ≡ None) × (text_values form text ≡ values)
lines_again form law empty text values say =
    let lines = lines_of text in
    let none = says_none form law lines ([] ∷ []) values (not_from_true _ empty, tt) say.said in
    let parts : parts_at 10 text ≡ lines ++ [] ∷ [] = lines_and_rest text ∙ ap (λ (rest : List ℕ). lines ++ rest ∷ []) say.ended in
    let same : text_checks form text ≡ checks_of form (lines ++ [] ∷ []) lines [] =
    ap (λ (pieces : List (List ℕ)). checks_of form pieces lines (rest_of text)) parts ∙ ap (checks_of form (lines ++ [] ∷ []) lines) say.ended in
    (ap first_fault same ∙ none.0, none.1)

-- a parser of a lawful form meets the contract IsParsed
pub lines_parsed : {R X : Type 0} (form : Form R X) → IsLawful form → form.is_text [] ≡ true → (text : List ℕ) (answer : Result (Vec X) LoadFault)
    → Answers form.part (λ v. v.items) answer (unless (first_fault (text_checks form text)) (text_values form text)) → IsParsed form.part (LinesSay form.says text) (text_checks form text) answer
lines_parsed form law empty text answer h =
    parsed form.part (LinesSay form.says text) (text_checks form text) (text_values form text) answer (lines_said form law text) (lines_again form law empty text) h

-- ---- adding the values of rows, one row at a time

-- the value that a row describes, if any, comes after the earlier values and before the later ones
pub said_after : {X : Type 0} (values : List X) (said : Option X) (more : List X) → (values ++ option_to_list said) ++ more ≡ values ++ cons_option said more
said_after values None more = rw (append-nil values)
said_after values (Some value) more = append_assoc values (value ∷ []) more

-- adding each row's value to the values before it gives the values of all rows
pub values_after : {X : Type 0} (value_in : ℕ → List (List ℕ) → Option X) (values : List X) (n : ℕ) (rows : List (List (List ℕ)))
    → with_rows (λ values n row. values ++ option_to_list (value_in n row)) values n rows ≡ values ++ values_from value_in n rows
values_after value_in values n [] = sym (append-nil values)
values_after value_in values n (row ∷ rows) =
    values_after value_in (values ++ option_to_list (value_in n row)) (suc n) rows ∙ said_after values (value_in n row) (values_from value_in (suc n) rows)
