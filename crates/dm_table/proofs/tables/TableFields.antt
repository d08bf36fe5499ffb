-- Lemmas about rows in terms of positions: the last field, and all fields before it.
use Rattle.dm_table.proofs.Prelude.{ℕ, suc, true, false, eqb, List, [], length, get_or, take, refl, arith, lt-ltb, ne_eqb, take_rest, inl, inr, Option, Some, None, Ok, Err, slice_index_or, drop, unwrap_or, is_some, option_map, cases_Bool, and-false, texts, all_but_last, last_or, without_last_space, ends_empty, Line, Place, Source, RowFault, is_device_name, first_failed, fault_in, is_body_row, Body, body_in, has_target_names, line_at, line_in, reading_of, body_reading, NamedLine, name_in, is_row, named_in, named_reading, has_line_names, table_row_fault, row_reading}
use Rattle.dm_table.specs.tables.TableText.{is_label}
use Rattle.dm_table.proofs.tables.PairRows.{said_by}
use Rattle.dm_table.proofs.tables.TargetRows.{made_fault, read_parts}
use Rattle.std.specs.Prelude.{◌≡◌, ◌-◌, ◌≤◌, ◌∷◌, ◌&&◌}
use denote.Ref.{Bor}

last_place : {X : Type 0} (x y : X) (xs : List X) → length (x ∷ y ∷ xs) - 1 ≡ suc (length (y ∷ xs) - 1)
last_place x y xs = omega arith

-- the list without its last element, in terms of positions
pub take-all_but_last : {X : Type 0} (xs : List X) → take (length xs - 1) xs ≡ all_but_last xs
take-all_but_last (x ∷ y ∷ xs) = rw (last_place x y xs, take-all_but_last (y ∷ xs))
take-all_but_last xs = refl

-- the last element, in terms of positions
pub get_or-last_or : {X : Type 0} (d e : X) (xs : List X) → 1 ≤ length xs → get_or xs (length xs - 1) d ≡ last_or e xs
get_or-last_or d e [] h = absurd (omega arith)
get_or-last_or d e (x ∷ []) h = refl
get_or-last_or d e (x ∷ y ∷ xs) h = rw (last_place x y xs) (get_or-last_or d e (y ∷ xs) (omega arith))

pub label_by_place : (field : List ℕ) → 2 ≤ length field → eqb (get_or field (length field - 1) 0) 58 ≡ is_label field
label_by_place field h = rw (lt-ltb 1 (length field) (omega arith), get_or-last_or 0 0 field (omega arith))

empty_alone : (field : List ℕ) → eqb (length field) 0 ≡ ends_empty (field ∷ [])
empty_alone [] = refl
empty_alone (byte ∷ bytes) = ne_eqb _ _ (λ e. omega arith)

pub ends_empty_by_place : (fs : List (Bor (List ℕ))) (d : Bor (List ℕ)) → 1 ≤ length fs → eqb (length (get_or fs (length fs - 1) d).now) 0 ≡ ends_empty (texts fs)
ends_empty_by_place [] d h = absurd (omega arith)
ends_empty_by_place (f ∷ []) d h = empty_alone f.now
ends_empty_by_place (f ∷ g ∷ fs) d h = rw (last_place f g fs) (ends_empty_by_place (g ∷ fs) d (omega arith))

-- an empty last field is dropped, and a nonempty one is kept
pub spaced : (fs : List (List ℕ)) → ends_empty fs ≡ true → without_last_space fs ≡ all_but_last fs
spaced ((b ∷ bs) ∷ []) e = absurd cc
spaced (f ∷ g ∷ fs) e = rw (spaced (g ∷ fs) e)
spaced fs e = refl

pub not_spaced : (fs : List (List ℕ)) → ends_empty fs ≡ false → without_last_space fs ≡ fs
not_spaced ([] ∷ []) e = absurd cc
not_spaced (f ∷ g ∷ fs) e = rw (not_spaced (g ∷ fs) e)
not_spaced fs e = refl

-- ---- rows of table text

-- the place of line number n of the source
abbrev pub place : ℕ → Place
place n = record { part = Source; number = n }

-- a line with the name in its label
abbrev pub with_label : List ℕ → Line → NamedLine
with_label label line = record { name = name_in label; line = line }

-- the fault with which a row was refused is the one that its tests say
label_found : (n : ℕ) (label : List ℕ) (o : Option Body) → fault_in (reading_of has_line_names (option_map (with_label label) (option_map (line_at (place n)) o)))
    ≡ first_failed true (is_some o) (is_device_name (name_in label) && unwrap_or (option_map (λ body. has_target_names body.target) o) true)
label_found n label None = refl
label_found n label (Some body) = elim (cases_Bool (is_device_name (name_in label) && has_target_names body.target)) [
  | inl e ↦ rw e
  | inr e ↦ rw e
]

pub row_found : (n : ℕ) (row : List (List ℕ)) → fault_in (row_reading n row) ≡ table_row_fault row
row_found n [] = refl
row_found n (label ∷ fs) = elim (cases_Bool (is_row (label ∷ fs))) [
  | inl e ↦ rw e (label_found n label (body_in fs))
  | inr e ↦ rw e
]

-- a line that was read is the line that the row describes
pub row_taken : (n : ℕ) (row : List (List ℕ)) (named : NamedLine) → row_reading n row ≡ Ok named → named_in n row ≡ Some named
row_taken n row named h = said_by has_line_names (is_row row) (named_in n row) named h

-- reading a body under a label is reading the row of both
pub row_made : (n : ℕ) (row : List (Bor (List ℕ))) (d : Bor (List ℕ)) → 1 ≤ length row → is_label (slice_index_or row 0 d).now ≡ true → is_body_row (texts (take (length row - 1) (drop 1 row))) ≡ true
    → named_reading (name_in (slice_index_or row 0 d).now) (place n) (texts (take (length row - 1) (drop 1 row))) ≡ row_reading n (texts row)
row_made n [] d h l b = absurd (omega arith)
row_made n (f ∷ fs) d h l b =
    let is_row : is_body_row (texts fs) ≡ true = rw (take_rest (f ∷ fs) 1) at b in
    rw (l, is_row, take_rest (f ∷ fs) 1) refl

-- ---- a body with the name from its label

-- a fault of the body is the fault of the named line
pub named_fault : (name : List ℕ) (at : Place) (body : List (List ℕ)) (fault : RowFault) → body_reading at body ≡ Err fault → named_reading name at body ≡ Err fault
named_fault name at body fault h =
    made_fault (λ (line : Line). has_target_names line.target) has_line_names (λ line. record { name = name; line = line }) (λ line unnamed. rw unnamed (and-false (is_device_name name))) (line_in at body) fault h

-- a named line is read if its body is read and its name is valid
pub named_line : (name : List ℕ) (at : Place) (body : List (List ℕ)) (line : Line) → is_device_name name ≡ true → body_reading at body ≡ Ok line → named_reading name at body ≡ Ok (record { name = name; line = line })
named_line name at body line valid h =
    let a = read_parts (λ (line : Line). has_target_names line.target) (line_in at body) line h in
    rw (a.0, valid, a.1)

named_by : (name : List ℕ) (o : Option Line) (named : NamedLine) → reading_of has_line_names (option_map (λ line. record { name = name; line = line }) o) ≡ Ok named → named.name ≡ name
named_by name None named h = absurd cc
named_by name (Some line) named h =
    let a = read_parts has_line_names (Some (record { name = name; line = line })) named h in
    let is : record { name = name; line = line } ≡ named = cc in
    rw (← is)

pub line_name : (name : List ℕ) (at : Place) (body : List (List ℕ)) (named : NamedLine) → named_reading name at body ≡ Ok named → named.name ≡ name
line_name name at body named h = named_by name (line_in at body) named h
