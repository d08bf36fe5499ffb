-- Path lists are a lawful form.
use Rattle.dm_table.proofs.Prelude.{ℕ, true, List, [], length, map, Some, None, Result, Ok, Err, refl, ap, ◌∙◌, drop, get_or, nat_lt, option_map, option_to_list, and_parts, and_from, lt-ltb, ltb-true, is_utf8-from_IsUtf8, IsUtf8-nil, DiskPath, Paths, LoadFault, fields, parts_at, lines_of, rest_of, Answers, first_fault, first_or, unless, untexts, row_checks, IsParsed, values_from, with_rows, has_name, is_pair, IsPathOf, DescribesPaths, is_path_text, name_and_path, place_in, path_at, path_in, has_place, path_checks, read_paths, Vec}
use Rattle.dm_table.proofs.words.ByteLemmas.{disk_name_parts, plain-disk_name}
use Rattle.dm_table.proofs.load.FaultLemmas.{Answers-refused, unless-passed}
use Rattle.dm_table.proofs.load.Forms.{Form, IsRead, lines_parsed, values_after}
use Rattle.dm_table.proofs.tables.PairRows.{pair_split}
use Rattle.dm_table.proofs.tables.PathPlaces.{cut_again, line_cut}
use Rattle.std.specs.Prelude.{◌≡◌, ◌+◌, ◌<◌, ◌∷◌, ◌++◌}

abbrev path_form : Form (List (List ℕ)) DiskPath
path_form = record { part = Paths; is_text = is_path_text; row_of = name_and_path; is_row = is_pair; has_values = has_place; has_names = has_name; value_in = path_in; says = IsPathOf }

-- a line that passes the tests says where a disk's image is
line_says : (n : ℕ) (line : List ℕ) → is_path_text line ≡ true → is_pair (name_and_path line) ≡ true → has_place (name_and_path line) ≡ true → has_name (name_and_path line) ≡ true
    → (disk : DiskPath) × (path_in n (name_and_path line) ≡ Some disk) × IsPathOf n line disk
line_says n line text is place is_name =
    let name = get_or (fields line) 0 [] in
    let path = drop (length name + 1) line in
    let some : 0 < length path = ltb-true 0 (length path) (and_parts (nat_lt 0 (length name)) (nat_lt 0 (length path)) is).1 in
    let pair = pair_split place_in path_at (name_and_path line) place in
    let there : place_in path ≡ Some pair.2 = cc (pair.3, pair.4) in (
      path_at n name pair.2,
      ap (option_map (path_at n name)) there,
      record { path = path; said = line_cut line some; text = text; name = is_name; some = some; place = there; at = refl },
    )

-- a line that says where a disk's image is passes the tests
line_again : (n : ℕ) (line : List ℕ) (disk : DiskPath) → IsPathOf n line disk → IsRead path_form n line disk
line_again n line disk is =
    let row : name_and_path line ≡ disk.disk ∷ is.path ∷ [] = ap name_and_path is.said ∙ cut_again disk.disk is.path (plain-disk_name disk.disk is.name).clear in
    let place : has_place (disk.disk ∷ is.path ∷ []) ≡ true = rw is.place refl in
    record {
      text = is.text;
      row = ap is_pair row ∙ and_from _ _ (disk_name_parts disk.disk is.name).some (lt-ltb _ _ is.some);
      values = ap has_place row ∙ place;
      names = ap has_name row ∙ is.name;
      read = ap (path_in n) row ∙ ap (option_map (path_at n disk.disk)) is.place ∙ rw (← is.at) refl;
    }

-- ---- how a path list is read

pub read_as_promised : (text : List ℕ) (answer : Result (Vec DiskPath) LoadFault) → Answers Paths (λ v. v.items) answer (read_paths text)
    → IsParsed Paths (DescribesPaths text) (path_checks text) answer
unfolding read_paths
read_as_promised text answer h =
    let empty : is_path_text [] ≡ true = and_from _ _ (is_utf8-from_IsUtf8 [] IsUtf8-nil) refl in
    lines_parsed path_form (record { says = line_says; again = line_again }) empty text answer h

-- if the byte check refuses a text, so does reading it
pub refused_text : (text : List ℕ) (fault : LoadFault) → Answers {X = Unit {0}} {Y = Unit {0}} Paths (λ done. done) (Err fault) (unless (first_or (untexts is_path_text Paths (parts_at 10 text)) None) tt)
    → Answers {X = Vec DiskPath} Paths (λ v. v.items) (Err fault) (read_paths text)
unfolding read_paths
refused_text text fault h = Answers-refused Paths (λ done. done) (λ (v : Vec DiskPath). v.items) fault _ _ tt _ h

-- if the byte check accepts a text, the result of reading it is that of its rows
pub read_text : (text : List ℕ) (answer : Result (Vec DiskPath) LoadFault) (done : Unit {0}) → unless (first_or (untexts is_path_text Paths (parts_at 10 text)) None) tt ≡ Ok done
    → Answers Paths (λ v. v.items) answer (unless (first_fault (row_checks Paths is_pair has_place has_name (map name_and_path (lines_of text)) (rest_of text))) (with_rows (λ disks n row. disks ++ option_to_list (path_in n row)) [] 1 (map name_and_path (lines_of text))))
    → Answers Paths (λ v. v.items) answer (read_paths text)
unfolding read_paths
read_text text answer done passed h =
    let rows = map name_and_path (lines_of text) in
    let later = first_fault (row_checks Paths is_pair has_place has_name rows (rest_of text)) in
    let same = (unless-passed (untexts is_path_text Paths (parts_at 10 text)) later tt done (values_from path_in 1 rows) passed).1 in
    rw same (rw (values_after path_in [] 1 rows) at h)
