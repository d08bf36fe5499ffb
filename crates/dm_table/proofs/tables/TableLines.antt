-- Adding the lines of table text one after the other gives the devices of all lines.
use Rattle.dm_table.proofs.Prelude.{OnOk, inl, inr, ℕ, zero, suc, true, false, nat_eq, List, [], length, Option, Some, None, Result, Ok, Err, refl, sym, ap, ◌∙◌, append_assoc, arith, pointwise, slice_index_or, slice_set, cons_option, cases_Bool, append-nil, Line, DeviceSpec, Place, is_device_name, RowFault, Reads, fault_in, unless, values_from, with_rows, body_reading, made_of, with_line, NamedLine, named_in, named_reading, alone, join_line, joined, add_line, add_said, table_row_fault, row_reading}
use Rattle.dm_table.proofs.tables.TableGroups.{same_name, is_same_name, other_name, is_other_name}
use Rattle.dm_table.proofs.tables.TableFields.{row_found, row_taken, line_name, named_fault, named_line}
use Rattle.dm_table.proofs.tables.TargetRows.{read_ok}
use Rattle.std.specs.Prelude.{◌≡◌, ◌+◌, ◌∷◌, ◌++◌}

-- ---- a value made from a reading is made from the value that was read; a fault stays the same

made_parts : {X Y : Type 0} (make : X → Y) (reading : Result X RowFault) (y : Y) → made_of make reading ≡ Ok y → (x : X) × (reading ≡ Ok x) × (make x ≡ y)
made_parts make (Ok x) y h = (x, refl, read_ok (make x) y h)
made_parts make (Err fault) y h = absurd cc

pub made_refused : {X Y : Type 0} (make : X → Y) (reading : Result X RowFault) (fault : RowFault) → made_of make reading ≡ Err fault → reading ≡ Err fault
made_refused make (Ok x) fault h = absurd cc
made_refused make (Err other) fault h = let is : other ≡ fault = cc in ap Err is

-- ---- adding a line after devices

-- a line with the last device's name is added to that device, in terms of positions
set_last : (ds : List DeviceSpec) (n : ℕ) (d : DeviceSpec) (named : NamedLine) → n + 1 ≡ length ds → slice_index_or ds n d ≡ d → pointwise nat_eq named.name d.name ≡ true
    → slice_set ds n (record d { lines = d.lines ++ named.line ∷ [] }) ≡ add_line ds named
set_last (e ∷ []) zero d named len last same = rw (last, same)
set_last (e ∷ f ∷ ds) (suc n) d named len last same = rw (set_last (f ∷ ds) n d named (omega arith) last same)
set_last ds n d named len last same = absurd (omega arith)

-- reading a body into the last device, which has the line's name, adds the line
pub add_same : (r : Result (Unit {0}) RowFault) (ds : List DeviceSpec) (n : ℕ) (d : DeviceSpec) (lines : List Line) (name : List ℕ) (at : Place) (body : List (List ℕ)) → n + 1 ≡ length ds → d ≡ slice_index_or ds n d
    → is_device_name d.name ≡ true → pointwise nat_eq name d.name ≡ true → Reads (λ done. lines) r (with_line d.lines (body_reading at body))
    → Reads (λ done. slice_set ds n (record d { lines = lines })) r (made_of (add_line ds) (named_reading name at body))
add_same (Ok x) ds n d lines name at body len last valid same read =
    let a = made_parts (λ line. d.lines ++ line ∷ []) (body_reading at body) lines read in
    let is : name ≡ d.name = same_name name d.name same in
    ap (made_of (add_line ds)) (named_line name at body a.0 (rw is valid) a.1)
    ∙ ap Ok (sym (set_last ds n d (record { name = name; line = a.0 }) len (sym last) same) ∙ ap (λ lines. slice_set ds n (record d { lines = lines })) a.2)
add_same (Err e) ds n d lines name at body len last valid same read = λ other.
    rw (named_fault name at body e (made_refused _ (body_reading at body) e (read other)))

-- a line with another name than the last device becomes a device after it
add_after : (ds : List DeviceSpec) (n : ℕ) (d : DeviceSpec) (named : NamedLine) → n + 1 ≡ length ds → d ≡ slice_index_or ds n d → pointwise nat_eq named.name d.name ≡ false
    → slice_set ds n (record d { lines = d.lines }) ++ alone named ∷ [] ≡ add_line ds named
add_after (e ∷ []) zero d named len last other = rw (sym last, other)
add_after (e ∷ f ∷ ds) (suc n) d named len last other = rw (add_after (f ∷ ds) n d named (omega arith) last other)
add_after ds n d named len last other = absurd (omega arith)

-- if reading a body fails, making a device from it fails with that fault
pub device_fault : (name : List ℕ) (at : Place) (body : List (List ℕ)) (lines : List Line) (fault : RowFault) → with_line lines (body_reading at body) ≡ Err fault → made_of alone (named_reading name at body) ≡ Err fault
device_fault name at body lines fault h = rw (named_fault name at body fault (made_refused _ (body_reading at body) fault h))

-- the device read from a body is added after the others
pub add_other : (ds : List DeviceSpec) (n : ℕ) (d device : DeviceSpec) (name : List ℕ) (at : Place) (body : List (List ℕ)) → n + 1 ≡ length ds → d ≡ slice_index_or ds n d → pointwise nat_eq name d.name ≡ false
    → made_of alone (named_reading name at body) ≡ Ok device → made_of (add_line ds) (named_reading name at body) ≡ Ok (slice_set ds n (record d { lines = d.lines }) ++ device ∷ [])
add_other ds n d device name at body len last other h =
    let a = made_parts alone (named_reading name at body) device h in
    let is : a.0.name ≡ name = line_name name at body a.0 a.1 in
    ap (made_of (add_line ds)) a.1 ∙ ap Ok (sym (add_after ds n d a.0 len last (rw (← is) at other)) ∙ ap (λ device. slice_set ds n (record d { lines = d.lines }) ++ device ∷ []) a.2)

pub add_first : (ds : List DeviceSpec) (device : DeviceSpec) (name : List ℕ) (at : Place) (body : List (List ℕ)) → length ds ≡ 0 → made_of alone (named_reading name at body) ≡ Ok device
    → made_of (add_line ds) (named_reading name at body) ≡ Ok (ds ++ device ∷ [])
add_first [] device name at body none h =
    let a = made_parts alone (named_reading name at body) device h in
    ap (made_of (add_line [])) a.1 ∙ ap (λ device. Ok (device ∷ [])) a.2
add_first (d ∷ ds) device name at body none h = absurd (omega arith)

-- joining a line in front and adding a line at the end can be done in either order
add_join : (one : NamedLine) (ds : List DeviceSpec) (named : NamedLine) → add_line (join_line one ds) named ≡ join_line one (add_line ds named)
add_join one [] named = elim (cases_Bool (pointwise nat_eq one.name named.name)) [
  | inl h ↦
      let back : pointwise nat_eq named.name one.name ≡ true = is_same_name named.name one.name (sym (same_name one.name named.name h)) in
      rw (h, back) (cc (same_name one.name named.name h))
  | inr h ↦
      let back : pointwise nat_eq named.name one.name ≡ false = is_other_name named.name one.name (λ e. other_name one.name named.name h (sym e)) in
      rw (h, back)
]
add_join one (d ∷ []) named = elim (cases_Bool (pointwise nat_eq one.name d.name)) [
  | inl h ↦ elim (cases_Bool (pointwise nat_eq named.name d.name)) [
    | inl k ↦ rw (h, k, h)
    | inr k ↦ rw (h, k, h)
  ]
  | inr h ↦ elim (cases_Bool (pointwise nat_eq named.name d.name)) [
    | inl k ↦ rw (h, k, h)
    | inr k ↦ rw (h, k, h)
  ]
]
add_join one (d ∷ e ∷ ds) named = elim (cases_Bool (pointwise nat_eq one.name d.name)) [
  | inl h ↦ rw h
  | inr h ↦ rw h
]

joined_more : (ns : List NamedLine) (named : NamedLine) → add_line (joined ns) named ≡ joined (ns ++ named ∷ [])
joined_more [] named = refl
joined_more (one ∷ ns) named = add_join one (joined ns) named ∙ ap (join_line one) (joined_more ns named)

-- ---- adding the lines of rows, one after another

-- the devices after the line that one more row describes
abbrev with_named : List DeviceSpec → ℕ → List (List ℕ) → List DeviceSpec
with_named devices n row = add_said devices (named_in n row)

one_joined : (ns : List NamedLine) (n : ℕ) (rows : List (List (List ℕ))) (said : Option NamedLine) → ((more : List NamedLine) → with_rows with_named (joined more) n rows ≡ joined (more ++ values_from named_in n rows))
    → with_rows with_named (add_said (joined ns) said) n rows ≡ joined (ns ++ cons_option said (values_from named_in n rows))
one_joined ns n rows None later = later ns
one_joined ns n rows (Some named) later =
    rw (joined_more ns named) (later (ns ++ named ∷ []) ∙ ap joined (append_assoc ns (named ∷ []) (values_from named_in n rows)))

pub rows_joined : (ns : List NamedLine) (n : ℕ) (rows : List (List (List ℕ))) → with_rows with_named (joined ns) n rows ≡ joined (ns ++ values_from named_in n rows)
rows_joined ns n [] = ap joined (sym (append-nil ns))
rows_joined ns n (row ∷ rows) = one_joined ns (suc n) rows (named_in n row) (λ more. rows_joined more (suc n) rows)

-- a row that was read has no fault and describes what was read; a row that was refused has that fault
pub named_read : (n : ℕ) (row : List (List ℕ)) (named : NamedLine) → row_reading n row ≡ Ok named → (unless (table_row_fault row) (tt {0}) ≡ Ok (tt {0})) × (named_in n row ≡ Some named)
named_read n row named h =
    let clear : table_row_fault row ≡ None = sym (row_found n row) ∙ ap fault_in h in
    (rw clear, row_taken n row named h)

pub named_refused : (n : ℕ) (row : List (List ℕ)) (fault : RowFault) → row_reading n row ≡ Err fault → unless (table_row_fault row) (tt {0}) ≡ Err fault
named_refused n row fault h = let found : table_row_fault row ≡ Some fault = sym (row_found n row) ∙ ap fault_in h in rw found

-- the devices after one more row, or the row's fault
pub row_values : (r : Result (Unit {0}) RowFault) (n : ℕ) (row : List (List ℕ)) (ds made : List DeviceSpec) → Reads (λ done. made) r (made_of (add_line ds) (row_reading n row)) → OnOk r (made ≡ add_said ds (named_in n row))
row_values (Ok x) n row ds made read =
    let a = made_parts (add_line ds) (row_reading n row) made read in
    sym a.2 ∙ ap (add_said ds) (sym (named_read n row a.0 a.1).1)
row_values (Err e) n row ds made read = tt

pub row_fault : (r : Result (Unit {0}) RowFault) (n : ℕ) (row : List (List ℕ)) (ds made : List DeviceSpec) → Reads (λ done. made) r (made_of (add_line ds) (row_reading n row)) → Reads (λ done. done) r (unless (table_row_fault row) (tt {0}))
row_fault (Ok tt) n row ds made read =
    let a = made_parts (add_line ds) (row_reading n row) made read in
    (named_read n row a.0 a.1).0
row_fault (Err e) n row ds made read = λ other. named_refused n row e (made_refused (add_line ds) (row_reading n row) e (read other))
