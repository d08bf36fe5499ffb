-- Table text is a lawful form, and its lines, joined by names, are its devices.
use Rattle.dm_table.proofs.Prelude.{ℕ, List, [], None, Result, refl, ap, ◌∙◌, DeviceSpec, Source, LoadFault, lines_of, row_fields, Answers, first_fault, is_printable, unless, IsParsed, values_from, with_rows, NamedLine, SaysLine, DescribesTable, named_lines, is_row, table_checks, named_in, add_said, joined, rows_of, Vec}
use Rattle.dm_table.specs.tables.TableText.{has_values, has_names}
use Rattle.dm_table.specs.tables.TableReading.{devices_from}
use Rattle.dm_table.proofs.words.ByteLemmas.{is_shown-printed}
use Rattle.dm_table.proofs.load.Forms.{Form, IsRead, IsLawful, lines_said, lines_again}
use Rattle.dm_table.proofs.load.Parsing.{parsed}
use Rattle.dm_table.proofs.tables.TableGroups.{lines_of_joined, each_joined, apart_joined, devices_again}
use Rattle.dm_table.proofs.tables.TableLines.{rows_joined}
use Rattle.dm_table.proofs.tables.TableRows.{row_said, row_there, line_writes, row_written, text_written, row_passes, line_passes, names_pass, line_again as read_again}
use Rattle.std.specs.Prelude.{◌≡◌}

abbrev table_form : Form (List (List ℕ)) NamedLine
table_form = record { part = Source; is_text = is_printable; row_of = row_fields; is_row = is_row; has_values = has_values; has_names = has_names; value_in = named_in; says = SaysLine }

line_again : (n : ℕ) (line : List ℕ) (named : NamedLine) → SaysLine n line named → IsRead table_form n line named
line_again n line named said =
    let row = row_written n line named said.0 said.1 in
    record {
      text = is_shown-printed line (text_written n line named said.0 said.1);
      row = ap is_row row ∙ row_passes n named said.1;
      values = ap has_values row ∙ line_passes n named said.1;
      names = ap has_names row ∙ names_pass n named said.1;
      read = ap (named_in n) row ∙ read_again n named said.1;
    }

law : IsLawful table_form
law = record {
  says = λ n line text row values names.
      let there = row_there n (row_fields line) values in
      (there.0, there.1, (line_writes n line there.0 row there.1, row_said n (row_fields line) there.0 there.1 names));
  again = line_again;
}

described : (text : List ℕ) → first_fault (table_checks text) ≡ None → DescribesTable text (devices_from 1 (rows_of (lines_of text)))
described text h =
    let named = values_from named_in 1 (rows_of (lines_of text)) in
    record { said = rw (lines_of_joined named) (lines_said table_form law text h); each = each_joined named; apart = apart_joined named }

pub again : (text : List ℕ) (devices : List DeviceSpec) → DescribesTable text devices → (first_fault (table_checks text) ≡ None) × (devices_from 1 (rows_of (lines_of text)) ≡ devices)
again text devices d =
    let lines = lines_again table_form law refl text (named_lines devices) d.said in
    (lines.0, ap joined lines.1 ∙ devices_again devices d.each d.apart)

-- Reading table text row by row meets the contract IsParsed
pub read_as_promised : (text : List ℕ) (answer : Result (Vec DeviceSpec) LoadFault)
    → Answers Source (λ v. v.items) answer (unless (first_fault (table_checks text)) (with_rows (λ devices n row. add_said devices (named_in n row)) [] 1 (rows_of (lines_of text))))
    → IsParsed Source (DescribesTable text) (table_checks text) answer
read_as_promised text answer h =
    let rows = rows_of (lines_of text) in
    parsed Source (DescribesTable text) (table_checks text) (devices_from 1 rows) answer (described text) (again text) (rw (rows_joined [] 1 rows) at h)
