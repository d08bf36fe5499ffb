-- Finding the path of a disk by its name.
use Rattle.dm_store.proofs.Prelude.{ℕ, true, false, List, length, drop, get_or, Some, refl, sym, ap, ◌∙◌, find, false_from_ne_true, drop_more, bytes_eq-Decides, is_same}
use Rattle.dm_table.specs.declared.tables.disk_path.DiskPath.{DiskPath}
use Rattle.std.specs.Prelude.{◌≡◌, ◌≢◌, ◌+◌, ◌<◌, ◌∷◌}

-- if the next path is for this name, it is the one found
pub path_here : (paths : List DiskPath) (i : ℕ) (path : DiskPath) (name : List ℕ) → i < length paths → path ≡ get_or paths i path → path.disk ≡ name
    → find (λ other. is_same other.disk name) (drop i paths) ≡ Some path
path_here paths i path name below is same =
    let here : drop i paths ≡ path ∷ drop (i + 1) paths = drop_more paths i path below ∙ ap (λ (first : DiskPath). first ∷ drop (i + 1) paths) (sym is) in
    let yes : is_same path.disk name ≡ true = ap (λ (n : List ℕ). is_same n name) same ∙ (bytes_eq-Decides name name).1 refl in
    rw (here, yes) refl

-- if the next path is for another name, the search goes on after it
pub path_later : (paths : List DiskPath) (i : ℕ) (path : DiskPath) (name : List ℕ) → i < length paths → path ≡ get_or paths i path → path.disk ≢ name
    → find (λ other. is_same other.disk name) (drop i paths) ≡ find (λ other. is_same other.disk name) (drop (i + 1) paths)
path_later paths i path name below is other =
    let here : drop i paths ≡ path ∷ drop (i + 1) paths = drop_more paths i path below ∙ ap (λ (first : DiskPath). first ∷ drop (i + 1) paths) (sym is) in
    let no : is_same path.disk name ≡ false = false_from_ne_true _ (λ same. other ((bytes_eq-Decides path.disk name).0 same)) in
    rw (here, no) refl
