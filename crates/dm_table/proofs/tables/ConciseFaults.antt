-- The fault of a device in the concise form, from the faults of its label and of its bodies.
use Rattle.dm_table.proofs.Prelude.{OnOk, ℕ, suc, Bool, true, false, List, [], length, take, drop, get_or, Option, Some, None, Result, Ok, Err, refl, sym, ap, ◌∙◌, arith, slice_index_or, list_all, option_to_list, and_parts, take_rest, drop_more, and-false, Line, DeviceSpec, Place, Source, RowFault, FirstFaults, texts, is_device_name, unless, first_failed, Reads, fault_in, noted_at, first_noted, is_body_row, is_body, has_body_names, line_in, place_of, lacks, is_uuid, is_ro, entries, body_fields, is_device, is_label, has_label_values, has_label_names, has_names, has_values, earlier_of, fault_of_body, fault_of_bodies, fault_of_label, fault_of_entries, fault_of_device, lines_in, device_in, entries_reading, device_reading, bodies_reading, devices_from}
use Rattle.std.specs.Prelude.{◌≡◌, ◌≢◌, ◌+◌, ◌-◌, ◌<◌, ◌≤◌, ◌&&◌, ◌∷◌, ◌++◌}
use denote.Ref.{Bor}
use Rattle.dm_table.specs.declared.load.row_faults.RowFault.TheVariants.{Syntax, Field, Name, Memory}
use Rattle.dm_table.proofs.load.FaultLemmas.{unless-ok, unless-err}
use Rattle.dm_table.proofs.load.RowFaultLemmas.{first_failed-none, read_clear, said_refused}
use Rattle.dm_table.proofs.load.Forms.{said_after}

-- ---- the earlier of two faults

pub earlier_of-none : (fault : Option RowFault) → earlier_of fault None ≡ fault
earlier_of-none (Some Syntax) = refl
earlier_of-none fault = refl

-- a Field or Name fault in front of a Field fault changes nothing
field_again : (c : Option RowFault) → (earlier_of (Some Field) (earlier_of (Some Field) c) ≡ earlier_of (Some Field) c) × (earlier_of (Some Name) (earlier_of (Some Field) c) ≡ earlier_of (Some Field) c)
field_again (Some Syntax) = (refl, refl)
field_again c = (refl, refl)

pub earlier_of-more : (a b c : Option RowFault) → b ≢ Some Memory → earlier_of (earlier_of a b) c ≡ earlier_of a (earlier_of b c)
earlier_of-more (Some a) None c h = rw (earlier_of-none (Some a))
earlier_of-more (Some a) (Some Memory) c h = absurd (h refl)
earlier_of-more (Some Field) (Some Syntax) c h = refl
earlier_of-more (Some Field) (Some Field) c h = sym (field_again c).0
earlier_of-more (Some Field) (Some Name) None h = refl
earlier_of-more (Some Name) (Some Field) c h = sym (field_again c).1
earlier_of-more (Some Name) (Some Name) None h = refl
earlier_of-more a b c h = refl

never_memory : (row known named : Bool) → first_failed row known named ≢ Some Memory
never_memory true true true e = absurd cc
never_memory row known named e = absurd cc

-- if there is no earlier one of two faults, there is neither
pub earlier_of-clear : (a b : Option RowFault) → earlier_of a b ≡ None → (a ≡ None) × (b ≡ None)
earlier_of-clear None b h = (refl, h)
earlier_of-clear (Some Field) (Some Syntax) h = absurd cc
earlier_of-clear (Some Name) None h = absurd cc
earlier_of-clear a b h = absurd cc

-- the earlier fault of two parts is that of their tests taken together
earlier_of_rows : (r1 l1 h1 r2 l2 h2 : Bool) → earlier_of (first_failed r1 l1 h1) (first_failed r2 l2 h2) ≡ first_failed (r1 && r2) (l1 && l2) (h1 && h2)
earlier_of_rows false l1 h1 r2 l2 h2 = refl
earlier_of_rows true false h1 true true true = refl
earlier_of_rows true true false true true true = refl
earlier_of_rows r1 l1 h1 r2 l2 h2 = refl

bodies_fault : (bodies : List (List ℕ)) → fault_of_bodies bodies
    ≡ first_failed (list_all (λ body. is_body_row (body_fields body)) bodies) (list_all (λ body. is_body (body_fields body)) bodies) (list_all (λ body. has_body_names (body_fields body)) bodies)
bodies_fault [] = refl
bodies_fault (body ∷ bodies) =
    rw (bodies_fault bodies) (earlier_of_rows (is_body_row (body_fields body)) (is_body (body_fields body)) (has_body_names (body_fields body)) _ _ _)

device_fault : (text : List ℕ) → fault_of_entries (lacks 10 text) (entries text) ≡ fault_of_device text
device_fault text =
    rw (bodies_fault (drop 4 (entries text))) (earlier_of_rows (lacks 10 text && is_label (entries text)) (has_label_values (entries text)) (has_label_names (entries text)) _ _ _)

-- The result of reading a device's entries is that of reading its text
pub device_read : (r : Result DeviceSpec RowFault) (n : ℕ) (text : List ℕ) (es : List (List ℕ)) (on_a_line : Bool) → on_a_line ≡ lacks 10 text → es ≡ entries text
    → Reads (λ device. device) r (entries_reading n on_a_line es) → Reads (λ device. device) r (device_reading n text)
device_read r n text es on_a_line line cut h =
    let same : entries_reading n on_a_line es ≡ device_reading n text =
    rw (line, cut, device_fault) in
    rw (← same) h

-- ---- the entries as slices

pub few_entries : (n : ℕ) (on_a_line : Bool) (es : List (Bor (List ℕ))) → length es < 4 → entries_reading n on_a_line (texts es) ≡ Err Syntax
few_entries n on_a_line (a ∷ b ∷ c ∷ d ∷ es) h = absurd (omega arith)
few_entries n on_a_line es h = rw (and-false on_a_line)

pub entries_fault : (n : ℕ) (on_a_line : Bool) (es : List (Bor (List ℕ))) (fault : RowFault) (label : Option RowFault) → 4 ≤ length es → label ≡ fault_of_label on_a_line (texts es)
    → bodies_reading (place_of n) label (texts (take (length es - 4) (drop 4 es))) ≡ Err fault → entries_reading n on_a_line (texts es) ≡ Err fault
entries_fault n on_a_line (a ∷ b ∷ c ∷ d ∷ es) fault label h is r =
    let found = unless-err (earlier_of (fault_of_label on_a_line (texts (a ∷ b ∷ c ∷ d ∷ es))) (fault_of_bodies (texts es))) (lines_in (place_of n) (texts es)) fault (rw (take_rest (a ∷ b ∷ c ∷ d ∷ es) 4, is) at r) in
    rw found
entries_fault n on_a_line es fault label h is r = absurd (omega arith)

pub entries_read : (n : ℕ) (on_a_line : Bool) (es : List (Bor (List ℕ))) (k e : Bor (List ℕ)) (lines : List Line) (label : Option RowFault) → 4 ≤ length es → label ≡ fault_of_label on_a_line (texts es)
    → bodies_reading (place_of n) label (texts (take (length es - 4) (drop 4 es))) ≡ Ok lines
    → entries_reading n on_a_line (texts es) ≡ Ok (record { name = (slice_index_or es 0 k).now; ro = is_ro (slice_index_or es 3 e).now; lines = lines; at = place_of n })
entries_read n on_a_line (a ∷ b ∷ c ∷ d ∷ es) k e lines label h is r =
    let v = unless-ok (earlier_of (fault_of_label on_a_line (texts (a ∷ b ∷ c ∷ d ∷ es))) (fault_of_bodies (texts es))) (lines_in (place_of n) (texts es)) lines (rw (take_rest (a ∷ b ∷ c ∷ d ∷ es) 4, is) at r) in
    rw (v.0, v.1)
entries_read n on_a_line es k e lines label h is r = absurd (omega arith)

-- if the bodies are read, the first entry is a valid device name
pub entries_named : (n : ℕ) (on_a_line : Bool) (es : List (Bor (List ℕ))) (k : Bor (List ℕ)) (bodies : List (List ℕ)) (lines : List Line) (label : Option RowFault) → 4 ≤ length es → label ≡ fault_of_label on_a_line (texts es)
    → bodies_reading (place_of n) label bodies ≡ Ok lines → is_device_name (slice_index_or es 0 k).now ≡ true
entries_named n on_a_line (a ∷ b ∷ es) k bodies lines label h is r =
    let v = unless-ok (earlier_of label (fault_of_bodies bodies)) (lines_in (place_of n) bodies) lines r in
    let clear = (earlier_of-clear label (fault_of_bodies bodies) v.0).0 in
    let named = (first_failed-none (on_a_line && is_label (texts (a ∷ b ∷ es))) (has_label_values (texts (a ∷ b ∷ es))) (has_label_names (texts (a ∷ b ∷ es))) (sym is ∙ clear)).2 in
    (and_parts (is_device_name a.now) (is_uuid b.now) named).0
entries_named n on_a_line es k bodies lines label h is r = absurd (omega arith)

-- ---- reading one device after another

-- if no fault has been noted, the devices so far and those of the parts left are all devices, also after one more part
pub devices_further : (parts : List (Bor (List ℕ))) (i : ℕ) (d : Bor (List ℕ)) (read : Result (Unit {0}) RowFault) (seen new : FirstFaults) (old devices : List DeviceSpec) → i < length parts → OnOk read (devices ≡ old ++ option_to_list (device_in (i + 1) (entries (get_or parts i d).now))) → fault_in read ≢ Some Memory
    → new ≡ noted_at Source seen (i + 1) (fault_in read) → (first_noted seen ≡ None → old ++ devices_from (i + 1) (texts (drop i parts)) ≡ devices_from 1 (texts parts))
    → first_noted new ≡ None → devices ++ devices_from (i + 1 + 1) (texts (drop (i + 1) parts)) ≡ devices_from 1 (texts parts)
devices_further parts i d read seen new old devices below taken text is so_far clear =
    let next : drop i parts ≡ get_or parts i d ∷ drop (i + 1) parts = drop_more parts i d below in
    let number : i + 1 + 1 ≡ suc (i + 1) = omega arith in
    let here = read_clear read Source seen (i + 1) taken text (sym (ap first_noted is) ∙ clear) in
    rw (number, here.0) (said_after old (device_in (i + 1) (entries (get_or parts i d).now)) (devices_from (suc (i + 1)) (texts (drop (i + 1) parts))) ∙ (rw next at (so_far here.1)))

-- ---- reading one body after another

-- the loop's invariant after one more body: its fault is taken into account, and its line is added
pub record IsBodyFurther (bodies : List (Bor (List ℕ))) (i : ℕ) (at : Place) (label fault found : Option RowFault) (old new : List Line) : Type 0 where
  pub known : earlier_of (earlier_of fault found) (fault_of_bodies (texts (drop (i + 1) bodies))) ≡ earlier_of label (fault_of_bodies (texts bodies))
  pub made : earlier_of fault found ≡ None → new ++ lines_in at (texts (drop (i + 1) bodies)) ≡ lines_in at (texts bodies)

pub body_further : (bodies : List (Bor (List ℕ))) (i : ℕ) (d : Bor (List ℕ)) (at : Place) (label fault found : Option RowFault) (old new : List Line)
    → i < length bodies → found ≡ fault_of_body (get_or bodies i d).now → (fault_of_body (get_or bodies i d).now ≡ None → new ≡ old ++ option_to_list (line_in at (body_fields (get_or bodies i d).now)))
    → earlier_of fault (fault_of_bodies (texts (drop i bodies))) ≡ earlier_of label (fault_of_bodies (texts bodies))
    → (fault ≡ None → old ++ lines_in at (texts (drop i bodies)) ≡ lines_in at (texts bodies)) → IsBodyFurther bodies i at label fault found old new
body_further bodies i d at label fault found old new below is added known made =
    let body = get_or bodies i d in
    let next : drop i bodies ≡ body ∷ drop (i + 1) bodies = drop_more bodies i d below in
    let fields = body_fields body.now in
    let text : found ≢ Some Memory = λ e. never_memory (is_body_row fields) (is_body fields) (has_body_names fields) (sym is ∙ e) in
    record {
      known = cc (earlier_of-more fault found _ text, is, rw next at known);
      made = λ clear.
          let both = earlier_of-clear fault found clear in
          rw (added (sym is ∙ both.1)) (said_after old (line_in at fields) (lines_in at (texts (drop (i + 1) bodies))) ∙ (rw next at (made both.0)));
    }

-- ---- a device that was refused has the fault that was returned

label_says : (n : ℕ) (es : List (List ℕ)) → is_label es ≡ true → (device : DeviceSpec) × (device_in n es ≡ Some device)
label_says n (name ∷ uuid ∷ minor ∷ flags ∷ bodies) h = (_, refl)
label_says n es h = absurd cc

pub device_refused : (n : ℕ) (text : List ℕ) (fault : RowFault) → device_reading n text ≡ Err fault → unless (fault_of_device text) (tt {0}) ≡ Err fault
device_refused n text fault h =
    said_refused (fault_of_device text) (device_in n (entries text)) fault
    (λ none.
    let passed = (first_failed-none (is_device text) (has_values text) (has_names text) none).0 in
    label_says n (entries text) (and_parts (lacks 10 text) (is_label (entries text)) (and_parts (lacks 10 text && is_label (entries text)) _ passed).0).1)
    h
