-- In the concise form: the text of a body and its fields, and the text of a device and its entries.
use Rattle.dm_table.proofs.Prelude.{inl, inr, ℕ, Bool, true, false, not, eqb, nat_le, nat_lt, List, [], length, drop, Some, refl, sym, ap, ◌∙◌, arith, codes, decimal, list_all, join_with_byte, AllByRecursion, and_parts, and_from, cases_Bool, eqb-true, nat_tests, length-append, Line, DeviceSpec, Place, is_device_byte, is_device_name, number_in, fields, row_fields, without_last_space, body_text, target_fields, IsBody, is_body_row, is_body, has_body_names, line_in, is_uuid, is_minor, is_ro, is_flags, place_of, WritesBody, SaysLines, SaysDevice, lacks, entries, without_first_space, body_fields, is_label, has_label_values, has_label_names, is_device, has_values, has_names, lines_in, device_in, All-list_all}
use Rattle.dm_table.proofs.words.ByteLemmas.{list_all-weaker, list_all-both}
use Rattle.dm_table.proofs.words.FieldLemmas.{IsClearOf, parts_at-join, join-parts_at}
use Rattle.dm_table.proofs.tables.BodyRows.{body_there, body_again, body_said, body_placed, body_inked, body_row_passes, body_passes, body_names_pass, line_again, is_ink, IsInked, name_inked, number_inked, number_spelled, device_ink}
use Rattle.dm_table.proofs.tables.BodyRows as body
use Rattle.dm_table.proofs.tables.TableGroups.{same_name}
use Rattle.dm_table.proofs.tables.TableRows.{space_cases, space_dropped, space_joined, fields_joined, inks, inks_and_space, no_space, row_kept, row_kept_spaced}
use Rattle.std.specs.Prelude.{◌≡◌, ◌⊎◌, ◌≤◌, ◌&&◌, ◌||◌, ◌∷◌, ◌++◌}

-- ---- from fields to the text of a body

first_cases : (fs : List (List ℕ)) → (without_first_space fs ≡ fs) ⊎ ([] ∷ without_first_space fs ≡ fs)
first_cases ([] ∷ fs) = inr refl
first_cases fs = inl refl

spaced_before : (fs : List (List ℕ)) → is_body_row fs ≡ true → join_with_byte 32 ([] ∷ fs) ≡ 32 ∷ join_with_byte 32 fs
spaced_before [] r = absurd cc
spaced_before (f ∷ fs) r = refl

spaced_after : (fs : List (List ℕ)) → is_body_row fs ≡ true → join_with_byte 32 (fs ++ [] ∷ []) ≡ join_with_byte 32 fs ++ 32 ∷ []
spaced_after [] r = absurd cc
spaced_after (f ∷ fs) r = space_joined f fs

-- a text whose fields pass the tests is the body of the line that they describe
pub body_writes : (at : Place) (text : List ℕ) (line : Line) → is_body_row (body_fields text) ≡ true → line_in at (body_fields text) ≡ Some line → WritesBody text line
body_writes at text line r l =
    let bs = body_fields text in
    let whole : text ≡ join_with_byte 32 (fields text) = sym (join-parts_at 32 text) in
    let spelled : join_with_byte 32 bs ≡ body_text line = ap (join_with_byte 32) (sym (body_again at bs line l)) in
    let led : join_with_byte 32 ([] ∷ bs) ≡ 32 ∷ body_text line = rw (← spelled) (spaced_before bs r) in
    elim (space_cases (fields text)) [
      | inl e ↦ elim (first_cases (row_fields text)) [
        | inl f ↦ inl (inl (whole ∙ ap (join_with_byte 32) (sym (f ∙ e)) ∙ spelled))
        | inr f ↦ inr (inl (whole ∙ ap (join_with_byte 32) (sym (f ∙ e)) ∙ led))
      ]
      | inr e ↦ elim (first_cases (row_fields text)) [
        | inl f ↦ inl (inr (cc (spaced_after bs r)))
        | inr f ↦ inr (inr (cc (space_joined [] bs)))
      ]
    ]

-- ---- from the text of a body to its fields

no_first : (f : List ℕ) (fs : List (List ℕ)) → nat_lt 0 (length f) ≡ true → without_first_space (f ∷ fs) ≡ f ∷ fs
no_first [] fs h = absurd cc
no_first (b ∷ bs) fs h = refl

-- a space before nonempty fields adds one empty field in front
led_kept : (f : List ℕ) (fs : List (List ℕ)) → AllByRecursion IsInked (f ∷ fs) → row_fields (32 ∷ join_with_byte 32 (f ∷ fs)) ≡ [] ∷ f ∷ fs
led_kept f fs h =
    rw (← no_space (f ∷ fs) h) (ap without_last_space (fields_joined [] (f ∷ fs) (refl, inks (f ∷ fs) h)))

led_kept_spaced : (f : List ℕ) (fs : List (List ℕ)) → AllByRecursion IsInked (f ∷ fs) → row_fields (32 ∷ join_with_byte 32 (f ∷ fs) ++ 32 ∷ []) ≡ [] ∷ f ∷ fs
led_kept_spaced f fs h =
    ap row_fields (sym (space_joined [] (f ∷ fs))) ∙ ap without_last_space (fields_joined [] (f ∷ fs ++ [] ∷ []) (refl, inks_and_space (f ∷ fs) h)) ∙ space_dropped ([] ∷ f ∷ fs)

fields_again : (text whole : List ℕ) (f : List ℕ) (fs : List (List ℕ)) → join_with_byte 32 (f ∷ fs) ≡ whole → AllByRecursion IsInked (f ∷ fs)
    → ((text ≡ whole) ⊎ (text ≡ whole ++ 32 ∷ [])) ⊎ ((text ≡ 32 ∷ whole) ⊎ (text ≡ 32 ∷ whole ++ 32 ∷ [])) → body_fields text ≡ f ∷ fs
fields_again text whole f fs is h w =
    let kept = no_first f fs h.0.0 in
    elim w [
      | inl a ↦ elim a [
        | inl e ↦ ap body_fields (e ∙ sym is) ∙ ap without_first_space (row_kept f fs h) ∙ kept
        | inr e ↦ cc (row_kept_spaced f fs h)
      ]
      | inr a ↦ elim a [
        | inl e ↦ cc (led_kept f fs h)
        | inr e ↦ cc (led_kept_spaced f fs h)
      ]
    ]

-- the fields of a text that is the body of a line are the fields of that line
pub body_read : (text : List ℕ) (line : Line) → WritesBody text line → IsBody line → body_fields text ≡ body.body_fields line
body_read text line w h = fields_again text (body_text line) (decimal line.start) (decimal line.len ∷ target_fields line.target) refl (body_inked line h) w

-- ---- the bytes of a device's text

-- the byte may occur in a body or in an entry of a label
abbrev pub is_line_byte : ℕ → Bool
is_line_byte b = eqb b 32 || is_ink b

-- the byte may occur in the text of a device
abbrev pub is_entry_byte : ℕ → Bool
is_entry_byte b = eqb b 44 || is_line_byte b

ink_line : (b : ℕ) → is_ink b ≡ true → is_line_byte b ≡ true
ink_line b h = grind (arith, nat_tests)

line_entry : (b : ℕ) → is_line_byte b ≡ true → is_entry_byte b ≡ true
line_entry b h = grind (arith, nat_tests)

line_comma : (b : ℕ) → is_line_byte b ≡ true → eqb b 44 ≡ false
line_comma b h = grind (arith, nat_tests)

ink_space : (b : ℕ) → is_ink b ≡ true → not (eqb b 32) ≡ true
ink_space b h = grind (arith, nat_tests)

pub entry_semicolon : (b : ℕ) → is_entry_byte b ≡ true → eqb b 59 ≡ false
entry_semicolon b h = grind (arith, nat_tests)

pub entry_newline : (b : ℕ) → is_entry_byte b ≡ true → not (eqb b 10) ≡ true
entry_newline b h = grind (arith, nat_tests)

pub entry_printed : (b : ℕ) → is_entry_byte b ≡ true → (eqb b 10 || (nat_le 32 b && nat_le b 126)) ≡ true
entry_printed b h = grind (arith, nat_tests)

-- if all parts and the byte between them pass a test, the joined text passes it
pub join_passes : (test : ℕ → Bool) (c : ℕ) (part : List ℕ) (parts : List (List ℕ)) → test c ≡ true → AllByRecursion (λ p. list_all test p ≡ true) (part ∷ parts) → list_all test (join_with_byte c (part ∷ parts)) ≡ true
join_passes test c part [] b h = h.0
join_passes test c part (next ∷ parts) b h = list_all-both test part (c ∷ join_with_byte c (next ∷ parts)) h.0 (and_from _ _ b (join_passes test c next parts b h.1))

abbrev AreLines : List (List ℕ) → Type 0
AreLines = AllByRecursion (λ text. list_all is_line_byte text ≡ true)

inked_lines : (fs : List (List ℕ)) → AllByRecursion IsInked fs → AreLines fs
inked_lines [] h = tt
inked_lines (f ∷ fs) h = (list_all-weaker is_ink is_line_byte ink_line f h.0.1, inked_lines fs h.1)

body_bytes : (line : Line) → IsBody line → list_all is_line_byte (body_text line) ≡ true
body_bytes line h =
    join_passes is_line_byte 32 (decimal line.start) (decimal line.len ∷ target_fields line.target) refl (inked_lines (body.body_fields line) (body_inked line h))

written_bytes : (text : List ℕ) (line : Line) → WritesBody text line → IsBody line → list_all is_line_byte text ≡ true
written_bytes text line w h =
    let bytes = body_bytes line h in
    let after : list_all is_line_byte (body_text line ++ 32 ∷ []) ≡ true = list_all-both is_line_byte (body_text line) (32 ∷ []) bytes refl in
    elim w [
      | inl a ↦ elim a [
        | inl e ↦ ap (list_all is_line_byte) e ∙ bytes
        | inr e ↦ ap (list_all is_line_byte) e ∙ after
      ]
      | inr a ↦ elim a [
        | inl e ↦ ap (list_all is_line_byte) e ∙ bytes
        | inr e ↦ ap (list_all is_line_byte) e ∙ after
      ]
    ]

lines_bytes : (n : ℕ) (texts : List (List ℕ)) (lines : List Line) → SaysLines n texts lines → AreLines texts
lines_bytes n [] [] s = tt
lines_bytes n (text ∷ texts) (line ∷ lines) s = (written_bytes text line s.0 s.1, lines_bytes n texts lines s.3)
lines_bytes n texts lines s = absurd s

-- ---- the label of a device

no_length : (text : List ℕ) → eqb (length text) 0 ≡ true → text ≡ []
no_length [] h = refl
no_length (b ∷ text) h = let none : length (b ∷ text) ≡ 0 = eqb-true (length (b ∷ text)) 0 h in absurd (omega arith)

uuid_ink : (text : List ℕ) → is_uuid text ≡ true → list_all is_ink text ≡ true
uuid_ink text h = list_all-weaker is_device_byte is_ink device_ink text (and_parts (nat_le (length text) 128) (list_all is_device_byte text) h).1

minor_ink : (text : List ℕ) → is_minor text ≡ true → list_all is_ink text ≡ true
minor_ink text h = elim (cases_Bool (eqb (length text) 0)) [
  | inl e ↦ rw (no_length text e)
  | inr e ↦ let spelled = number_spelled text (rw e at h) in ap (list_all is_ink) spelled.digits ∙ (number_inked (number_in text) spelled.short).1
]

flags_ink : (text : List ℕ) → is_flags text ≡ true → list_all is_ink text ≡ true
flags_ink text h = elim (cases_Bool (eqb (length text) 0)) [
  | inl e ↦ rw (no_length text e)
  | inr e ↦ elim (cases_Bool (is_ro text)) [
    | inl r ↦ rw (same_name text (codes "ro") r)
    | inr r ↦ rw (same_name text (codes "rw") (rw (e, r) at h))
  ]
]

ink_lacks : (text : List ℕ) → list_all is_ink text ≡ true → lacks 32 text ≡ true
ink_lacks text h = list_all-weaker is_ink (λ b. not (eqb b 32)) ink_space text h

label_passes : (name uuid minor flags : List ℕ) (bodies : List (List ℕ)) → 1 ≤ length bodies → lacks 32 name ≡ true → lacks 32 uuid ≡ true → lacks 32 minor ≡ true → lacks 32 flags ≡ true
    → is_label (name ∷ uuid ∷ minor ∷ flags ∷ bodies) ≡ true
label_passes name uuid minor flags [] some a b c d = absurd (omega arith)
label_passes name uuid minor flags (body ∷ bodies) some a b c d = and_from _ _ a (and_from _ _ b (and_from _ _ c d))

-- ---- from the fields of a device to its text

lines_said : (n : ℕ) (texts : List (List ℕ)) → list_all (λ text. is_body_row (body_fields text)) texts ≡ true → list_all (λ text. is_body (body_fields text)) texts ≡ true
    → list_all (λ text. has_body_names (body_fields text)) texts ≡ true → SaysLines n texts (lines_in (place_of n) texts)
lines_said n [] r l h = tt
lines_said n (text ∷ texts) r l h =
    let a = and_parts (is_body_row (body_fields text)) _ r in
    let b = and_parts (is_body (body_fields text)) _ l in
    let c = and_parts (has_body_names (body_fields text)) _ h in
    let said = body_there (place_of n) (body_fields text) b.0 in
    rw said.1 (
      body_writes (place_of n) text said.0 a.0 said.1,
      body_said (place_of n) (body_fields text) said.0 said.1 c.0,
      body_placed (place_of n) (body_fields text) said.0 said.1,
      lines_said n texts a.1 b.1 c.1,
    )

-- the entries describe a device, and the text is that device
pub record IsDeviceSaid (n : ℕ) (text : List ℕ) (es : List (List ℕ)) : Type 0 where
  pub device : DeviceSpec
  pub is : device_in n es ≡ Some device
  pub says : SaysDevice n text device

entries_said : (n : ℕ) (text : List ℕ) (es : List (List ℕ)) → text ≡ join_with_byte 44 es → is_label es ≡ true → has_label_values es ≡ true → has_label_names es ≡ true
    → list_all (λ text. is_body_row (body_fields text)) (drop 4 es) ≡ true → list_all (λ text. is_body (body_fields text)) (drop 4 es) ≡ true
    → list_all (λ text. has_body_names (body_fields text)) (drop 4 es) ≡ true → IsDeviceSaid n text es
entries_said n text (name ∷ uuid ∷ minor ∷ flags ∷ first ∷ bodies) is a k m r l h =
    let known = and_parts (is_minor minor) (is_flags flags) k in
    let named = and_parts (is_device_name name) (is_uuid uuid) m in
    record {
      device = record { name = name; ro = is_ro flags; lines = lines_in (place_of n) (first ∷ bodies); at = place_of n };
      is = refl;
      says = record {
        uuid = uuid;
        minor = minor;
        flags = flags;
        bodies = first ∷ bodies;
        spelled = is;
        named = named.0;
        with_uuid = named.1;
        with_minor = known.0;
        with_flags = known.1;
        ro = refl;
        some = omega arith;
        said = lines_said n (first ∷ bodies) r l h;
        at = refl;
      };
    }
entries_said n text es is a k m r l h = absurd cc

-- the text of a device that passes all tests is that device
pub device_said : (n : ℕ) (text : List ℕ) → is_device text ≡ true → has_values text ≡ true → has_names text ≡ true → IsDeviceSaid n text (entries text)
device_said n text r l h =
    let a = and_parts (lacks 10 text && is_label (entries text)) _ r in
    let label = and_parts (lacks 10 text) (is_label (entries text)) a.0 in
    let values = and_parts (has_label_values (entries text)) _ l in
    let names = and_parts (has_label_names (entries text)) _ h in
    entries_said n text (entries text) (sym (join-parts_at 44 text)) label.1 values.0 names.0 a.1 values.1 names.1

-- ---- from the text of a device to its fields

record Passes (n : ℕ) (texts : List (List ℕ)) (lines : List Line) : Type 0 where
  pub rows : list_all (λ text. is_body_row (body_fields text)) texts ≡ true
  pub values : list_all (λ text. is_body (body_fields text)) texts ≡ true
  pub names : list_all (λ text. has_body_names (body_fields text)) texts ≡ true
  pub again : lines_in (place_of n) texts ≡ lines

lines_pass : (n : ℕ) (texts : List (List ℕ)) (lines : List Line) → SaysLines n texts lines → Passes n texts lines
lines_pass n [] [] s = record { rows = refl; values = refl; names = refl; again = refl }
lines_pass n (text ∷ texts) (line ∷ lines) s =
    let more = lines_pass n texts lines s.3 in
    let read = body_read text line s.0 s.1 in
    record {
      rows = and_from _ _ (ap is_body_row read ∙ body_row_passes line s.1) more.rows;
      values = and_from _ _ (ap is_body read ∙ body_passes line s.1) more.values;
      names = and_from _ _ (ap has_body_names read ∙ body_names_pass line s.1) more.names;
      again = rw more.again (cc (line_again (place_of n) line s.1 s.2));
    }
lines_pass n texts lines s = absurd s

said_lines : (n : ℕ) (text : List ℕ) (device : DeviceSpec) (s : SaysDevice n text device) → AreLines (device.name ∷ s.uuid ∷ s.minor ∷ s.flags ∷ s.bodies)
said_lines n text device s = (
  list_all-weaker is_ink is_line_byte ink_line device.name (name_inked device.name s.named).1,
  (
    list_all-weaker is_ink is_line_byte ink_line s.uuid (uuid_ink s.uuid s.with_uuid),
    (
      list_all-weaker is_ink is_line_byte ink_line s.minor (minor_ink s.minor s.with_minor),
      (
        list_all-weaker is_ink is_line_byte ink_line s.flags (flags_ink s.flags s.with_flags),
        lines_bytes n s.bodies device.lines s.said,
      ),
    ),
  ),
)

without_commas : (texts : List (List ℕ)) → AreLines texts → AllByRecursion (IsClearOf 44) texts
without_commas [] h = tt
without_commas (text ∷ texts) h = (All-list_all is_line_byte (λ b. eqb b 44 ≡ false) line_comma text h.0, without_commas texts h.1)

entry_bytes : (texts : List (List ℕ)) → AreLines texts → AllByRecursion (λ text. list_all is_entry_byte text ≡ true) texts
entry_bytes [] h = tt
entry_bytes (text ∷ texts) h = (list_all-weaker is_line_byte is_entry_byte line_entry text h.0, entry_bytes texts h.1)

-- all bytes of a device's text may occur in one
pub device_bytes : (n : ℕ) (text : List ℕ) (device : DeviceSpec) → SaysDevice n text device → list_all is_entry_byte text ≡ true
device_bytes n text device s =
    let es = device.name ∷ s.uuid ∷ s.minor ∷ s.flags ∷ s.bodies in
    ap (list_all is_entry_byte) s.spelled ∙ join_passes is_entry_byte 44 device.name (s.uuid ∷ s.minor ∷ s.flags ∷ s.bodies) refl (entry_bytes es (said_lines n text device s))

pub device_some : (n : ℕ) (text : List ℕ) (device : DeviceSpec) → SaysDevice n text device → 1 ≤ length text
device_some n text device s =
    rw s.spelled (omega (arith, length-append device.name (44 ∷ join_with_byte 44 (s.uuid ∷ s.minor ∷ s.flags ∷ s.bodies))))

-- a text that is a device passes all tests, and is read as that device
pub record IsRead (n : ℕ) (text : List ℕ) (device : DeviceSpec) : Type 0 where
  pub row : is_device text ≡ true
  pub values : has_values text ≡ true
  pub names : has_names text ≡ true
  pub again : device_in n (entries text) ≡ Some device

pub device_again : (n : ℕ) (text : List ℕ) (device : DeviceSpec) → SaysDevice n text device → IsRead n text device
device_again n text device s =
    let es = device.name ∷ s.uuid ∷ s.minor ∷ s.flags ∷ s.bodies in
    let lines = said_lines n text device s in
    let cut : entries text ≡ es = ap entries s.spelled ∙ parts_at-join 44 device.name (s.uuid ∷ s.minor ∷ s.flags ∷ s.bodies) (without_commas es lines) in
    let newlines : lacks 10 text ≡ true = list_all-weaker is_entry_byte (λ b. not (eqb b 10)) entry_newline text (device_bytes n text device s) in
    let pass = lines_pass n s.bodies device.lines s.said in
    let label = label_passes device.name s.uuid s.minor s.flags s.bodies s.some (ink_lacks device.name (name_inked device.name s.named).1) (ink_lacks s.uuid (uuid_ink s.uuid s.with_uuid)) (ink_lacks s.minor (minor_ink s.minor s.with_minor)) (ink_lacks s.flags (flags_ink s.flags s.with_flags)) in
    record {
      row = rw cut (and_from _ _ (and_from _ _ newlines label) pass.rows);
      values = rw cut (and_from _ _ (and_from _ _ s.with_minor s.with_flags) pass.values);
      names = rw cut (and_from _ _ (and_from _ _ s.named s.with_uuid) pass.names);
      again = rw (cut, pass.again, ← s.ro, ← s.at);
    }
