-- Where a device name is cut into its parts: at each single hyphen, because hyphens inside a part are doubled.
use Rattle.lvm_volume.specs.Base.{ℕ, suc, List, [], take, drop, Option, Some, None, is_none, option_and_then, code}
use Rattle.lvm_volume.specs.Names.{NameParts}
use Rattle.std.specs.Prelude.{◌==◌, ◌∷◌, if◌then◌else◌}

-- how many bytes come before the first single hyphen; two hyphens in a row count as one doubled hyphen
abbrev pub slice_length : List ℕ → ℕ
slice_length [] = 0
slice_length (b ∷ []) = if b == code "-" then 0 else 1
slice_length (b ∷ c ∷ bs) = if b == code "-" then (if c == code "-" then suc (suc (slice_length bs)) else 0) else suc (slice_length (c ∷ bs))

-- the bytes after the first one if that is a hyphen, or else None
abbrev pub after_hyphen : List ℕ → Option (List ℕ)
after_hyphen [] = None
after_hyphen (b ∷ bs) = if b == code "-" then Some bs else None

-- the part of a name before its first single hyphen, or the whole name if it has none
abbrev pub first_slice : List ℕ → List ℕ
first_slice bs = take (slice_length bs) bs

-- the bytes after the first single hyphen of a name, or None if the name has none
abbrev pub later_slices : List ℕ → Option (List ℕ)
later_slices bs = after_hyphen (drop (slice_length bs) bs)

-- the parts of a name, where `rest` is the bytes after the volume, if there are any: they must be a single layer
abbrev pub with_layer : List ℕ → List ℕ → Option (List ℕ) → Option NameParts
with_layer vg lv None = Some (record { vg = vg; lv = lv; layer = None })
with_layer vg lv (Some rest) = if is_none (later_slices rest) then Some (record { vg = vg; lv = lv; layer = Some (first_slice rest) }) else None

-- the parts of a name between its single hyphens, with hyphens still doubled; None unless there are two or three parts
abbrev pub slices_of : List ℕ → Option NameParts
slices_of name = option_and_then (λ rest. with_layer (first_slice name) (first_slice rest) (later_slices rest)) (later_slices name)
