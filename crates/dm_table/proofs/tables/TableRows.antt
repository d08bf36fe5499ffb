-- A line of table text and its row: a row that passes the tests is that of a line, and the row of a line passes the tests.
use Rattle.dm_table.proofs.Prelude.{inl, inr, ℕ, true, false, eqb, nat_lt, List, [], length, Some, refl, sym, ap, ◌∙◌, append_assoc, arith, list_all, join_with_byte, AllByRecursion, option_map, and_parts, and_from, ltb-true, lt-ltb, eqb-true, eq-eqb, length-append, is_device_name, last_or, fields, row_fields, without_last_space, is_body_row, has_body_names, NamedLine, line_text, Writes, IsSaid, name_in, is_row, line_in, named_in}
use Rattle.dm_table.specs.tables.TableText.{is_label, has_values, has_names}
use Rattle.dm_table.proofs.words.ByteLemmas.{is_shown, list_all-weaker, list_all-both}
use Rattle.dm_table.proofs.tables.TableFields.{place, with_label}
use Rattle.dm_table.proofs.words.FieldLemmas.{parts_at-first, parts_at-clear, join-parts_at, all_but_last-push, last_or-push, last_split}
use Rattle.dm_table.proofs.tables.BodyRows.{body_fields, body_there, body_again, body_said, body_placed, is_ink, IsInked, ink_clear, ink_text, name_inked, body_inked, body_row_passes, body_passes, body_names_pass}
use Rattle.dm_table.proofs.tables.BodyRows as body
use Rattle.dm_table.proofs.Lists.{mapped}
use Rattle.std.specs.Prelude.{◌≡◌, ◌⊎◌, ◌<◌, ◌∷◌, ◌++◌}

-- ---- the fields that a line is written with

abbrev label_for : NamedLine → List ℕ
label_for named = named.name ++ 58 ∷ []

abbrev pub row_for : NamedLine → List (List ℕ)
row_for named = label_for named ∷ body_fields named.line

pub line_joined : (named : NamedLine) → join_with_byte 32 (row_for named) ≡ line_text named
line_joined named = simp append_assoc

-- ---- a space at the end of a line, which leaves an empty last field

pub space_cases : (fs : List (List ℕ)) → (without_last_space fs ≡ fs) ⊎ (without_last_space fs ++ [] ∷ [] ≡ fs)
space_cases ([] ∷ []) = inr refl
space_cases (f ∷ g ∷ fs) = elim (space_cases (g ∷ fs)) [
  | inl e ↦ inl (cc)
  | inr e ↦ inr (cc)
]
space_cases fs = inl refl

pub space_dropped : (fs : List (List ℕ)) → without_last_space (fs ++ [] ∷ []) ≡ fs
space_dropped (f ∷ g ∷ fs) = rw (space_dropped (g ∷ fs))
space_dropped fs = refl

pub space_joined : (f : List ℕ) (fs : List (List ℕ)) → join_with_byte 32 (f ∷ fs ++ [] ∷ []) ≡ join_with_byte 32 (f ∷ fs) ++ 32 ∷ []
space_joined f [] = refl
space_joined f (g ∷ fs) = rw (space_joined g fs) (sym (append_assoc f (32 ∷ join_with_byte 32 (g ∷ fs)) (32 ∷ [])))

-- ---- from a row that passes the tests to its line

label_spelled : (label : List ℕ) → is_label label ≡ true → name_in label ++ 58 ∷ [] ≡ label
label_spelled label h =
    let a = and_parts (nat_lt 1 (length label)) (eqb (last_or 0 label) 58) h in
    let long : 1 < length label = ltb-true 1 (length label) a.0 in
    cc (eqb-true (last_or 0 label) 58 a.1, last_split 0 label (omega arith))

-- a row with valid values describes a line
pub row_there : (n : ℕ) (row : List (List ℕ)) → has_values row ≡ true → (named : NamedLine) × (named_in n row ≡ Some named)
row_there n [] l = absurd cc
row_there n (label ∷ fs) l =
    let line = body_there (place n) fs l in
    (record { name = name_in label; line = line.0 }, rw line.1)

-- the row of the line that a row describes is that row
pub row_again : (n : ℕ) (row : List (List ℕ)) (named : NamedLine) → is_row row ≡ true → named_in n row ≡ Some named → row_for named ≡ row
row_again n [] named r l = absurd cc
row_again n (label ∷ fs) named r l =
    let a = and_parts (is_label label) (is_body_row fs) r in
    let m = mapped (with_label label) (line_in (place n) fs) named l in
    rw (← m.2, label_spelled label a.0, body_again (place n) fs m.0 m.1)

pub row_said : (n : ℕ) (row : List (List ℕ)) (named : NamedLine) → named_in n row ≡ Some named → has_names row ≡ true → IsSaid n named
row_said n [] named l h = absurd cc
row_said n (label ∷ fs) named l h =
    let a = and_parts (is_device_name (name_in label)) (has_body_names fs) h in
    let m = mapped (with_label label) (line_in (place n) fs) named l in
    rw (← m.2) record {
      name = a.0;
      body = body_said (place n) fs m.0 m.1 a.1;
      at = body_placed (place n) fs m.0 m.1;
    }

row_begins : (row : List (List ℕ)) → is_row row ≡ true → join_with_byte 32 (row ++ [] ∷ []) ≡ join_with_byte 32 row ++ 32 ∷ []
row_begins [] r = absurd cc
row_begins (f ∷ fs) r = space_joined f fs

-- a text line whose row passes the tests is the line that its row describes
pub line_writes : (n : ℕ) (line : List ℕ) (named : NamedLine) → is_row (row_fields line) ≡ true → named_in n (row_fields line) ≡ Some named → Writes line named
line_writes n line named r l =
    let whole : line ≡ join_with_byte 32 (fields line) = sym (join-parts_at 32 line) in
    let spelled : join_with_byte 32 (row_fields line) ≡ line_text named = ap (join_with_byte 32) (sym (row_again n (row_fields line) named r l)) ∙ line_joined named in
    elim (space_cases (fields line)) [
      | inl e ↦ inl (whole ∙ ap (join_with_byte 32) (sym e) ∙ spelled)
      | inr e ↦ inr (cc (row_begins (row_fields line) r))
    ]

-- ---- from a line to its row

label_inked : (name : List ℕ) → is_device_name name ≡ true → IsInked (name ++ 58 ∷ [])
label_inked name h = (lt-ltb _ _ (omega (arith, length-append name (58 ∷ []))), list_all-both is_ink name (58 ∷ []) (name_inked name h).1 refl)

row_inked : (n : ℕ) (named : NamedLine) → IsSaid n named → AllByRecursion IsInked (row_for named)
row_inked n named h = (label_inked named.name h.name, body_inked named.line h.body)

-- fields whose bytes may all occur in one are the fields of the line made of them
pub fields_joined : (f : List ℕ) (fs : List (List ℕ)) → AllByRecursion (λ g. list_all is_ink g ≡ true) (f ∷ fs) → fields (join_with_byte 32 (f ∷ fs)) ≡ f ∷ fs
fields_joined f [] h = parts_at-clear 32 f (ink_clear f h.0)
fields_joined f (g ∷ fs) h =
    rw (← fields_joined g fs h.1) (parts_at-first 32 f (join_with_byte 32 (g ∷ fs)) (ink_clear f h.0))

pub inks : (fs : List (List ℕ)) → AllByRecursion IsInked fs → AllByRecursion (λ g. list_all is_ink g ≡ true) fs
inks [] h = tt
inks (f ∷ fs) h = (h.0.1, inks fs h.1)

pub inks_and_space : (fs : List (List ℕ)) → AllByRecursion IsInked fs → AllByRecursion (λ g. list_all is_ink g ≡ true) (fs ++ [] ∷ [])
inks_and_space [] h = (refl, tt)
inks_and_space (f ∷ fs) h = (h.0.1, inks_and_space fs h.1)

pub no_space : (fs : List (List ℕ)) → AllByRecursion IsInked fs → without_last_space fs ≡ fs
no_space ([] ∷ []) h = absurd (let e : false ≡ true = h.0.0 in cc)
no_space (f ∷ g ∷ fs) h = rw (no_space (g ∷ fs) h.1)
no_space fs h = refl

pub row_kept : (f : List ℕ) (fs : List (List ℕ)) → AllByRecursion IsInked (f ∷ fs) → row_fields (join_with_byte 32 (f ∷ fs)) ≡ f ∷ fs
row_kept f fs h = ap without_last_space (fields_joined f fs (inks (f ∷ fs) h)) ∙ no_space (f ∷ fs) h

pub row_kept_spaced : (f : List ℕ) (fs : List (List ℕ)) → AllByRecursion IsInked (f ∷ fs) → row_fields (join_with_byte 32 (f ∷ fs) ++ 32 ∷ []) ≡ f ∷ fs
row_kept_spaced f fs h =
    ap row_fields (sym (space_joined f fs)) ∙ ap without_last_space (fields_joined f (fs ++ [] ∷ []) (inks_and_space (f ∷ fs) h)) ∙ space_dropped (f ∷ fs)

-- the row of a text line that is a named line is the row of that line
pub row_written : (n : ℕ) (text : List ℕ) (named : NamedLine) → Writes text named → IsSaid n named → row_fields text ≡ row_for named
row_written n text named w h =
    let inked = row_inked n named h in
    elim w [
      | inl e ↦ ap row_fields (e ∙ sym (line_joined named)) ∙ row_kept (label_for named) (body_fields named.line) inked
      | inr e ↦ rw (e, ← line_joined, row_kept_spaced)
    ]

joined_text : (f : List ℕ) (fs : List (List ℕ)) → AllByRecursion IsInked (f ∷ fs) → is_shown (join_with_byte 32 (f ∷ fs)) ≡ true
joined_text f [] h = list_all-weaker is_ink _ ink_text f h.0.1
joined_text f (g ∷ fs) h = list_all-both _ f (32 ∷ join_with_byte 32 (g ∷ fs)) (list_all-weaker is_ink _ ink_text f h.0.1) (joined_text g fs h.1)

-- all bytes of such a text line are printable
pub text_written : (n : ℕ) (text : List ℕ) (named : NamedLine) → Writes text named → IsSaid n named → is_shown text ≡ true
text_written n text named w h =
    let clean : is_shown (line_text named) ≡ true = ap is_shown (sym (line_joined named)) ∙ joined_text (label_for named) (body_fields named.line) (row_inked n named h) in
    elim w [
      | inl e ↦ ap is_shown e ∙ clean
      | inr e ↦ ap is_shown e ∙ list_all-both _ (line_text named) (32 ∷ []) clean refl
    ]

-- ---- the row of a line passes the tests

label_passes : (name : List ℕ) → is_device_name name ≡ true → is_label (name ++ 58 ∷ []) ≡ true
label_passes name h =
    let long : 0 < length name = ltb-true 0 (length name) (name_inked name h).0 in
    and_from _ _ (lt-ltb 1 _ (omega (arith, length-append name (58 ∷ [])))) (eq-eqb _ _ (last_or-push 0 name 58))

pub row_passes : (n : ℕ) (named : NamedLine) → IsSaid n named → is_row (row_for named) ≡ true
row_passes n named h = and_from _ _ (label_passes named.name h.name) (body_row_passes named.line h.body)

pub line_passes : (n : ℕ) (named : NamedLine) → IsSaid n named → has_values (row_for named) ≡ true
line_passes n named h = body_passes named.line h.body

pub names_pass : (n : ℕ) (named : NamedLine) → IsSaid n named → has_names (row_for named) ≡ true
names_pass n named h = and_from _ _ (ap is_device_name (all_but_last-push named.name 58) ∙ h.name) (body_names_pass named.line h.body)

-- the row of a line is read as that line
pub line_again : (n : ℕ) (named : NamedLine) → IsSaid n named → named_in n (row_for named) ≡ Some named
line_again n named h =
    ap (option_map (with_label (label_for named))) (body.line_again (place n) named.line h.body h.at) ∙ rw (all_but_last-push named.name 58)
