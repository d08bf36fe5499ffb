-- The values of the code while a group is read, as contracts see them.
use Rattle.lvm_volume.specs.Base.{ℕ, List, map, unwrap_or, count_by, bytes_eq, nat_cmp, slice_cmp, BTreeMap, get_by}
use Rattle.std.specs.Prelude.{◌≡◌}
use denote.Ref.{Bor}

-- the texts behind the references
abbrev pub texts : List (Bor (List ℕ)) → List (List ℕ)
texts = map (λ text. text.now)

-- the map contains, for each text, how often the text occurs in the list
abbrev pub Counts : BTreeMap (Bor (List ℕ)) ℕ → List (List ℕ) → Type 0
Counts counts texts = (text : List ℕ) → unwrap_or (get_by (λ k. slice_cmp nat_cmp text k.now) counts) 0 ≡ count_by (λ other. bytes_eq text other) texts
