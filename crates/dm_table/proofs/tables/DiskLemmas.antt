-- Disk lists are a lawful form.
use Rattle.dm_table.proofs.Prelude.{ℕ, true, List, [], map, Some, None, Result, refl, sym, ap, ◌∙◌, decimal, nat_le, option_map, option_to_list, join_with_byte, and_from, lt-ltb, Disk, Disks, LoadFault, is_disk_name, number_of, lines_of, fields, Answers, first_fault, is_printable, unless, IsParsed, values_from, with_rows, disk_line, IsDiskOf, DescribesDisks, is_pair, disk_at, disk_in, has_sectors, has_name, disk_checks, Vec}
use Rattle.dm_table.proofs.words.NumberLemmas.{Spells-number_of, number_of-decimal, decimal_digits, decimal_some}
use Rattle.dm_table.proofs.words.ByteLemmas.{is_shown, list_all-both, disk_name_parts, is_shown-digits, is_shown-printed, digits-clear, plain-disk_name}
use Rattle.dm_table.proofs.words.FieldLemmas.{parts_at-first, parts_at-clear, join-parts_at}
use Rattle.dm_table.proofs.load.Forms.{Form, IsRead, IsLawful, lines_again, lines_parsed, values_after}
use Rattle.dm_table.proofs.tables.PairRows.{pair_split}
use Rattle.std.specs.Prelude.{◌≡◌, ◌^◌, ◌<◌, ◌∷◌, ◌++◌, ◌&&◌}

abbrev disk_form : Form (List (List ℕ)) Disk
disk_form = record { part = Disks; is_text = is_printable; row_of = fields; is_row = is_pair; has_values = has_sectors; has_names = has_name; value_in = disk_in; says = IsDiskOf }

-- a line that passes the tests is a disk
line_says : (n : ℕ) (line : List ℕ) → has_sectors (fields line) ≡ true → has_name (fields line) ≡ true → (disk : Disk) × (disk_in n (fields line) ≡ Some disk) × IsDiskOf n line disk
line_says n line some is_name =
    let pair = pair_split number_of disk_at (fields line) some in
    let spells = Spells-number_of pair.1 pair.2 pair.4 in
    let joined : join_with_byte 32 (pair.0 ∷ pair.1 ∷ []) ≡ disk_line (disk_at n pair.0 pair.2) = cc (spells.digits) in (
      disk_at n pair.0 pair.2,
      ap (disk_in n) pair.3 ∙ ap (option_map (disk_at n pair.0)) pair.4,
      record { spelled = sym (join-parts_at 32 line) ∙ ap (join_with_byte 32) pair.3 ∙ joined; name = sym (ap has_name pair.3) ∙ is_name; len = spells.short; at = refl },
    )

-- the line of a disk passes the tests

line_shown : (disk : Disk) → is_disk_name disk.name ≡ true → disk.len < 10 ^ 19 → is_shown (disk_line disk) ≡ true
line_shown disk name len = list_all-both (λ b. nat_le 32 b && nat_le b 126) disk.name (32 ∷ decimal disk.len) (plain-disk_name disk.name name).printed (is_shown-digits (decimal disk.len) (decimal_digits disk.len len))

line_fields : (disk : Disk) → is_disk_name disk.name ≡ true → disk.len < 10 ^ 19 → fields (disk_line disk) ≡ disk.name ∷ decimal disk.len ∷ []
line_fields disk name len =
    rw (← parts_at-clear 32 (decimal disk.len) (digits-clear (decimal disk.len) (decimal_digits disk.len len))) (parts_at-first 32 disk.name (decimal disk.len) (plain-disk_name disk.name name).clear)

line_again : (n : ℕ) (line : List ℕ) (disk : Disk) → IsDiskOf n line disk → IsRead disk_form n line disk
line_again n line disk is =
    let row : fields line ≡ disk.name ∷ decimal disk.len ∷ [] = ap fields is.spelled ∙ line_fields disk is.name is.len in
    let number = number_of-decimal disk.len is.len in
    let sectors : has_sectors (disk.name ∷ decimal disk.len ∷ []) ≡ true = rw number refl in
    record {
      text = ap is_printable is.spelled ∙ is_shown-printed (disk_line disk) (line_shown disk is.name is.len);
      row = ap is_pair row ∙ and_from _ _ (disk_name_parts disk.name is.name).some (lt-ltb _ _ (decimal_some disk.len is.len));
      values = ap has_sectors row ∙ sectors;
      names = ap has_name row ∙ is.name;
      read = ap (disk_in n) row ∙ ap (option_map (disk_at n disk.name)) number ∙ rw (← is.at) refl;
    }

law : IsLawful disk_form
law = record { says = λ n line text pair some is_name. line_says n line some is_name; again = line_again }

-- a text that describes disks passes all checks, and those disks are read from it
pub again : (text : List ℕ) (disks : List Disk) → DescribesDisks text disks → (first_fault (disk_checks text) ≡ None) × (values_from disk_in 1 (map fields (lines_of text)) ≡ disks)
again = lines_again disk_form law refl

-- a text describes at most one list of disks
pub DescribesDisks-unique : (text : List ℕ) (a b : List Disk) → DescribesDisks text a → DescribesDisks text b → a ≡ b
DescribesDisks-unique text a b is_a is_b = sym (again text a is_a).1 ∙ (again text b is_b).1

-- Reading a disk list row by row meets the contract IsParsed
pub read_as_promised : (text : List ℕ) (answer : Result (Vec Disk) LoadFault)
    → Answers Disks (λ v. v.items) answer (unless (first_fault (disk_checks text)) (with_rows (λ disks n row. disks ++ option_to_list (disk_in n row)) [] 1 (map fields (lines_of text))))
    → IsParsed Disks (DescribesDisks text) (disk_checks text) answer
read_as_promised text answer h = lines_parsed disk_form law refl text answer (rw (values_after disk_in [] 1 (map fields (lines_of text))) at h)
