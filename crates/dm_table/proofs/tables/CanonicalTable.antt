-- The table text written for devices describes them, apart from places and read-only flags.
use Rattle.dm_table.proofs.Prelude.{inl, ℕ, suc, true, List, [], length, map, refl, sym, ap, ◌∙◌, arith, flat_map, AllByRecursion, flat_map-append, map-append, Line, DeviceSpec, Place, Source, is_device_name, lines_of, rest_of, SayEach, IsBody, NamedLine, line_text, SaysLine, named_lines, HasPlaceOf, IsDescribed, DifferInName, DescribesTable, ReadsBack, lines_text, table_text, placed_lines, as_table}
use Rattle.dm_table.proofs.words.ByteLemmas.{is_shown-clear}
use Rattle.dm_table.proofs.words.FieldLemmas.{IsClearOf, lines_of-lines, rest_of-lines}
use Rattle.dm_table.proofs.load.Forms.{each_said}
use Rattle.dm_table.proofs.tables.TableGroups.{named_of}
use Rattle.dm_table.proofs.tables.TableRows.{text_written}
use Rattle.std.specs.Prelude.{◌≡◌, ◌+◌, ◌∷◌, ◌++◌}

-- ---- places and flags are not written

lines_as : (name : List ℕ) (n : ℕ) (lines : List Line) → lines_text name (placed_lines n lines) ≡ lines_text name lines
lines_as name n [] = refl
lines_as name n (line ∷ lines) = rw (lines_as name (suc n) lines)

text_as : (n : ℕ) (devices : List DeviceSpec) → table_text (as_table n devices) ≡ table_text devices
text_as n [] = refl
text_as n (device ∷ devices) = rw (lines_as device.name n device.lines, text_as (n + length device.lines) devices)

-- ---- the lines of the text

lines_ended : (name : List ℕ) (lines : List Line) → lines_text name lines ≡ flat_map (λ text. text ++ 10 ∷ []) (map line_text (named_of name lines))
lines_ended name [] = refl
lines_ended name (line ∷ lines) = rw (lines_ended name lines)

text_ended : (devices : List DeviceSpec) → table_text devices ≡ flat_map (λ text. text ++ 10 ∷ []) (map line_text (named_lines devices))
text_ended [] = refl
text_ended (device ∷ devices) =
    let own = map line_text (named_of device.name device.lines) in
    let others = map line_text (named_lines devices) in
    rw (lines_ended device.name device.lines, text_ended devices) (sym (flat_map-append (λ text. text ++ 10 ∷ []) own others) ∙ ap (flat_map (λ text. text ++ 10 ∷ [])) (sym (map-append line_text (named_of device.name device.lines) (named_lines devices))))

-- ---- numbering of lines

numbered : ℕ → List NamedLine → List NamedLine
numbered n [] = []
numbered n (named ∷ more) = record { name = named.name; line = record named.line { at = record { part = Source; number = n } } } ∷ numbered (suc n) more

numbered_device : (name : List ℕ) (n m : ℕ) (lines : List Line) (more : List NamedLine) (devices : List DeviceSpec) → n + length lines ≡ m → named_lines (as_table m devices) ≡ numbered m more
    → named_of name (placed_lines n lines) ++ named_lines (as_table m devices) ≡ numbered n (named_of name lines ++ more)
unfolding numbered
numbered_device name n m [] more devices is rest = let same : n ≡ m = omega arith in rw same rest
numbered_device name n m (line ∷ lines) more devices is rest =
    let next : suc n + length lines ≡ m = omega arith in
    rw (numbered_device name (suc n) m lines more devices next rest)

numbered_as : (n : ℕ) (devices : List DeviceSpec) → named_lines (as_table n devices) ≡ numbered n (named_lines devices)
unfolding numbered
numbered_as n [] = refl
numbered_as n (device ∷ devices) = numbered_device device.name n (n + length device.lines) device.lines (named_lines devices) devices refl (numbered_as (n + length device.lines) devices)

-- a line that some text can describe: its name and its body are valid
abbrev IsSayable : NamedLine → Type 0
IsSayable named = (is_device_name named.name ≡ true) × IsBody named.line

sayable : (n : ℕ) (texts : List (List ℕ)) (ns : List NamedLine) → SayEach SaysLine n texts ns → AllByRecursion IsSayable ns
sayable n [] [] s = tt
sayable n (text ∷ texts) (named ∷ ns) s = ((s.0.1.name, s.0.1.body), sayable (suc n) texts ns s.1)
sayable n texts ns s = absurd s

said_again : (n : ℕ) (ns : List NamedLine) → AllByRecursion IsSayable ns → SayEach SaysLine n (map line_text (numbered n ns)) (numbered n ns)
unfolding numbered
said_again n [] h = tt
said_again n (named ∷ ns) h = (
  (inl refl, record { name = h.0.0; body = record { start = h.0.1.start; len = h.0.1.len; target = h.0.1.target }; at = refl }),
  said_again (suc n) ns h.1,
)

-- ---- the devices of table text

described_lines : (n : ℕ) (lines : List Line) (at : Place) → HasPlaceOf lines at → HasPlaceOf (placed_lines n lines) (record { part = Source; number = n })
described_lines n [] at h = absurd h
described_lines n (line ∷ lines) at h = refl

described_as : (n : ℕ) (devices : List DeviceSpec) → AllByRecursion IsDescribed devices → AllByRecursion IsDescribed (as_table n devices)
described_as n [] h = tt
described_as n (device ∷ devices) h = (record { writable = refl; at = described_lines n device.lines device.at h.0.at }, described_as (n + length device.lines) devices h.1)

apart_as : (n : ℕ) (devices : List DeviceSpec) → DifferInName devices → DifferInName (as_table n devices)
apart_as n (device ∷ next ∷ devices) h = (h.0, apart_as (n + length device.lines) (next ∷ devices) h.1)
apart_as n devices h = tt

-- if some text describes these devices, the text written for them does too, apart from places and read-only flags
written_says : (text : List ℕ) (said : List DeviceSpec) → DescribesTable text said → DescribesTable (table_text said) (as_table 1 said)
written_says text said d =
    let lines = map line_text (named_lines (as_table 1 said)) in
    let whole : table_text said ≡ flat_map (λ text. text ++ 10 ∷ []) lines = sym (text_as 1 said) ∙ text_ended (as_table 1 said) in
    let each : SayEach SaysLine 1 lines (named_lines (as_table 1 said)) = rw (numbered_as 1 said) (said_again 1 (named_lines said) (sayable 1 (lines_of text) (named_lines said) d.said.said)) in
    let clear = each_said SaysLine (IsClearOf 10) (λ n text named s. is_shown-clear text (text_written n text named s.0 s.1)) 1 lines (named_lines (as_table 1 said)) each in
    let again : lines_of (table_text said) ≡ lines = ap lines_of whole ∙ lines_of-lines lines clear in
    record {
      said = record { ended = ap rest_of whole ∙ rest_of-lines lines clear; said = rw again each };
      each = described_as 1 said d.each;
      apart = apart_as 1 said d.apart;
    }

-- the same text is written for devices that differ only in places and flags, so table_text reads back
pub table_reads_back : (devices : List DeviceSpec) → ReadsBack DescribesTable (as_table 1) table_text devices
table_reads_back devices text said d same =
    let texts : table_text said ≡ table_text devices = sym (text_as 1 said) ∙ ap table_text same ∙ text_as 1 devices in
    rw (← texts, ← same) (written_says text said d)
