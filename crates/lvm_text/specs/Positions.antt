-- The positions of keys among the entries of a section.
use Rattle.lvm_text.specs.Base.{ℕ, List, [], drop, Option, Some, None, bytes_eq, nat_cmp, slice_cmp, BTreeMap, get_by}
use Rattle.lvm_text.specs.declared.index.TheConstants.{FEW}
use Rattle.lvm_text.specs.declared.tree.Entry.{Entry}
use Rattle.std.specs.Prelude.{◌≡◌, ◌+◌, ◌∷◌, if◌then◌else◌}
use denote.Ref.{Bor}

-- the position of the first entry with this key; positions are counted from `first`
abbrev pub position_of : List ℕ → ℕ → List Entry → Option ℕ
position_of key first [] = None
position_of key first (e ∷ es) = if bytes_eq e.key.now key then Some first else position_of key (first + 1) es

-- the index maps each key that comes after the first FEW entries to the position of its entry, and contains no other keys
abbrev pub Finds : BTreeMap (Bor (List ℕ)) ℕ → List Entry → Type 0
Finds index es = (key : List ℕ) → get_by (λ k. slice_cmp nat_cmp key k.now) index ≡ position_of key FEW (drop FEW es)
