-- A text in the concise form passes all checks exactly if it describes devices, and these are the devices that are read from it.
use Rattle.dm_table.proofs.Prelude.{inl, inr, ℕ, true, false, not, eqb, List, [], length, take, get_or, None, Result, Ok, Err, refl, sym, ap, ◌∙◌, arith, join_with_byte, AllByRecursion, and_parts, cases_Bool, not-true, eqb-true, append-nil, length-append, map-id, DeviceSpec, Source, LoadFault, parts_at, all_but_last, last_or, Answers, first_fault, first_or, is_printable, not_text, row_checks, unless, IsParsed, SayEach, SaysDevice, DescribesConcise, lacks, entries, without_newline, parts_of, devices_of, is_device, has_values, has_names, concise_checks, device_in, devices_from, parts_reading, read_concise, All-list_all, Vec}
use Rattle.dm_table.proofs.words.ByteLemmas.{list_all-weaker}
use Rattle.dm_table.proofs.load.FaultLemmas.{Answers-refused, unless-passed}
use Rattle.dm_table.proofs.load.Forms.{Form, IsRead, IsLawful, each_said, none_says, says_none}
use Rattle.dm_table.proofs.load.Parsing.{parsed}
use Rattle.dm_table.proofs.words.FieldLemmas.{IsClearOf, join-parts_at, parts_at-join, all_but_last-push, last_or-push}
use Rattle.dm_table.proofs.tables.TableFields.{take-all_but_last, get_or-last_or}
use Rattle.dm_table.proofs.tables.ConciseRows.{is_entry_byte, entry_semicolon, entry_newline, entry_printed, join_passes, device_said, device_bytes, device_some, device_again}
use Rattle.std.specs.Prelude.{◌≡◌, ◌⊎◌, ◌≤◌, ◌∷◌, ◌++◌, ◌-◌}

-- ---- the newline at the end of a text

last_split : (text : List ℕ) → eqb (last_or 0 text) 10 ≡ true → all_but_last text ++ 10 ∷ [] ≡ text
last_split [] h = absurd cc
last_split (b ∷ []) h = rw (← eqb-true b 10 h)
last_split (b ∷ c ∷ text) h = rw (last_split (c ∷ text) h)

newline_cases : (text : List ℕ) → (text ≡ without_newline text) ⊎ (text ≡ without_newline text ++ 10 ∷ [])
newline_cases text = elim (cases_Bool (eqb (last_or 0 text) 10)) [
  | inl e ↦ inr (rw e (sym (last_split text e)))
  | inr e ↦ inl (rw e)
]

last_other : (text : List ℕ) → lacks 10 text ≡ true → eqb (last_or 0 text) 10 ≡ false
last_other [] h = refl
last_other (b ∷ []) h = not-true _ (and_parts (not (eqb b 10)) true h).0
last_other (b ∷ c ∷ text) h = last_other (c ∷ text) (and_parts (not (eqb b 10)) (lacks 10 (c ∷ text)) h).1

newline_none : (text : List ℕ) → lacks 10 text ≡ true → without_newline text ≡ text
newline_none text h = rw (last_other text h)

newline_dropped : (text : List ℕ) → without_newline (text ++ 10 ∷ []) ≡ text
newline_dropped text = rw (last_or-push 0 text 10) (all_but_last-push text 10)

-- if the last byte is a newline, the text without its last byte is the text without its newline
pub newline_cut : (text : List ℕ) → 1 ≤ length text → eqb (get_or text (length text - 1) 0) 10 ≡ true → take (length text - 1) text ≡ without_newline text
newline_cut text some e = rw (rw (get_or-last_or 0 0 text some) at e) (take-all_but_last text)

pub newline_missing : (text : List ℕ) → 1 ≤ length text → eqb (get_or text (length text - 1) 0) 10 ≡ false → text ≡ without_newline text
newline_missing text some e = rw (rw (get_or-last_or 0 0 text some) at e)

-- ---- the parts between semicolons

parts_joined : (text : List ℕ) → join_with_byte 59 (parts_of text) ≡ text
parts_joined [] = refl
parts_joined (b ∷ text) = join-parts_at 59 (b ∷ text)

parts_some : (text : List ℕ) → 1 ≤ length text → parts_of text ≡ parts_at 59 text
parts_some [] h = absurd (omega arith)
parts_some (b ∷ text) h = refl

-- ---- devices are a lawful form in which each piece is its own row

abbrev device_form : Form (List ℕ) DeviceSpec
device_form = record { part = Source; is_text = is_printable; row_of = λ text. text; is_row = is_device; has_values = has_values; has_names = has_names; value_in = λ n text. device_in n (entries text); says = SaysDevice }

read_again : (n : ℕ) (text : List ℕ) (device : DeviceSpec) → SaysDevice n text device → IsRead device_form n text device
read_again n text device s =
    let own = device_again n text device s in
    record {
      text = list_all-weaker is_entry_byte _ entry_printed text (device_bytes n text device s);
      row = own.row;
      values = own.values;
      names = own.names;
      read = own.again;
    }

law : IsLawful device_form
law = record {
  says = λ n text printed row values names. let said = device_said n text row values names in (said.device, said.is, said.says);
  again = read_again;
}

described : (text : List ℕ) → first_fault (concise_checks text) ≡ None → DescribesConcise text (devices_from 1 (devices_of text))
described text h =
    let parts = devices_of text in
    let whole = parts_joined (without_newline text) in
    let said = (none_says device_form law parts parts [] [] (sym (append-nil parts)) (rw (map-id parts) h)).1 in
    record {
      parts = parts;
      spelled = elim (newline_cases text) [
        | inl e ↦ inl (e ∙ sym whole)
        | inr e ↦ inr (cc)
      ];
      said = rw (map-id parts) at said;
    }

-- ---- no check finds a fault in a text that describes devices

joined_lacks : (texts : List (List ℕ)) → AllByRecursion (λ text. lacks 10 text ≡ true) texts → lacks 10 (join_with_byte 59 texts) ≡ true
joined_lacks [] h = refl
joined_lacks (text ∷ texts) h = join_passes (λ b. not (eqb b 10)) 59 text texts refl h

join_some : (text : List ℕ) (texts : List (List ℕ)) → 1 ≤ length text → 1 ≤ length (join_with_byte 59 (text ∷ texts))
join_some text [] h = h
join_some text (next ∷ texts) h = omega (arith, h, length-append text (59 ∷ join_with_byte 59 (next ∷ texts)))

parts_again : (n : ℕ) (texts : List (List ℕ)) (devices : List DeviceSpec) → SayEach SaysDevice n texts devices → AllByRecursion (IsClearOf 59) texts → parts_of (join_with_byte 59 texts) ≡ texts
parts_again n [] devices s clear = refl
parts_again n (text ∷ texts) [] s clear = absurd s
parts_again n (text ∷ texts) (device ∷ devices) s clear =
    parts_some (join_with_byte 59 (text ∷ texts)) (join_some text texts (device_some n text device s.0)) ∙ parts_at-join 59 text texts clear

pub again : (text : List ℕ) (ds : List DeviceSpec) → DescribesConcise text ds → (first_fault (concise_checks text) ≡ None) × (devices_from 1 (devices_of text) ≡ ds)
again text ds d =
    let whole = join_with_byte 59 d.parts in
    let semicolons = each_said SaysDevice (IsClearOf 59) (λ n text device s. All-list_all is_entry_byte (λ b. eqb b 59 ≡ false) entry_semicolon text (device_bytes n text device s)) 1 d.parts ds d.said in
    let newlines = each_said SaysDevice (λ text. lacks 10 text ≡ true) (λ n text device s. list_all-weaker is_entry_byte (λ b. not (eqb b 10)) entry_newline text (device_bytes n text device s)) 1 d.parts ds d.said in
    let lines = joined_lacks d.parts newlines in
    let bare : without_newline text ≡ whole = elim d.spelled [
      | inl e ↦ ap without_newline e ∙ newline_none whole lines
      | inr e ↦ ap without_newline e ∙ newline_dropped whole
    ] in
    let parts : devices_of text ≡ d.parts = ap parts_of bare ∙ parts_again 1 d.parts ds d.said semicolons in
    let read = says_none device_form law d.parts [] ds tt d.said in
    rw parts (rw (append-nil d.parts, map-id d.parts) at read)

-- ---- how a text in the concise form is read

pub read_as_promised : (text : List ℕ) (answer : Result (Vec DeviceSpec) LoadFault) → Answers Source (λ v. v.items) answer (read_concise text)
    → IsParsed Source (DescribesConcise text) (concise_checks text) answer
unfolding read_concise
read_as_promised text answer h = parsed Source (DescribesConcise text) (concise_checks text) (devices_from 1 (devices_of text)) answer (described text) (again text) h

-- the byte check of the parts between semicolons is that of the devices
pieces_checked : (text : List ℕ) → not_text Source (parts_at 59 text) ≡ not_text Source (parts_of text)
pieces_checked [] = refl
pieces_checked (b ∷ text) = refl

-- a text whose bytes pass their check is read by its parts
pub read_concise-parts : (text bare : List ℕ) (parts : List (List ℕ)) (done : Unit {0}) → bare ≡ without_newline text → parts ≡ parts_of bare → unless (first_or (not_text Source (parts_at 59 bare)) None) tt ≡ Ok done → parts_reading parts ≡ read_concise text
unfolding read_concise
read_concise-parts text bare parts done is cut passed =
    let pass = rw is at (rw (pieces_checked bare) at passed) in
    rw (cut, is) (sym (unless-passed (not_text Source (devices_of text)) (first_fault (row_checks Source is_device has_values has_names (devices_of text) [])) tt done (devices_from 1 (devices_of text)) pass).1)

pub read_concise-refused : (text bare : List ℕ) (fault : LoadFault) → bare ≡ without_newline text → Answers Source (λ (done : Unit {0}). done) (Err fault) (unless (first_or (not_text Source (parts_at 59 bare)) None) tt) → Answers Source (λ (v : Vec DeviceSpec). v.items) (Err fault) (read_concise text)
unfolding read_concise
read_concise-refused text bare fault is refused =
    Answers-refused Source (λ (done : Unit {0}). done) (λ (v : Vec DeviceSpec). v.items) fault (not_text Source (devices_of text)) (first_fault (row_checks Source is_device has_values has_names (devices_of text) [])) tt (devices_from 1 (devices_of text))
    (rw is at (rw (pieces_checked bare) at refused))
