-- How the device-mapper name of a logical volume is built from its parts (lvm(8), "Valid names"; dmsetup splitname).
use Rattle.lvm_volume.specs.Base.{ℕ, Bool, false, nat_le, List, [], length, Option, Some, None, option_map, Result, Ok, Err, list_all, is_ascii_alphanumeric, code, NameFault, Letter, HyphenFirst, Empty, Long}
use Rattle.lvm_volume.specs.declared.fault.NameFault.TheVariants.{Memory}
use Rattle.lvm_volume.specs.declared.names.Parts.{Parts}
use Rattle.std.specs.Prelude.{◌≡◌, ◌&&◌, ◌||◌, ◌==◌, ◌∷◌, ◌++◌, if◌then◌else◌}
use denote.Ref.{Bor}

-- ---- the parts of a name

-- the parts of a device name: a volume group, a logical volume, and perhaps a layer of it
pub record NameParts : Type 0 where
  pub vg : List ℕ
  pub lv : List ℕ
  pub layer : Option (List ℕ)

-- the parts of a name as a record, from the arguments of a call
abbrev pub name_parts : (vg lv : List ℕ) → Option (Bor (List ℕ)) → NameParts
name_parts vg lv layer = record { vg = vg; lv = lv; layer = option_map (λ l. l.now) layer }

-- the byte may occur in a part: an ASCII letter, a digit or one of + _ . -
abbrev pub is_letter : ℕ → Bool
is_letter b = is_ascii_alphanumeric b || (b == code "+" || (b == code "_" || (b == code "." || b == code "-")))

-- the first byte of the text is c
abbrev pub begins_with : ℕ → List ℕ → Bool
begins_with c [] = false
begins_with c (b ∷ bs) = b == c

-- the fault of a volume group's or logical volume's name, if it has one; Empty is checked before Letter, and Letter before HyphenFirst
abbrev pub part_fault : List ℕ → Option NameFault
part_fault part = if length part == 0 then Some Empty else (if list_all is_letter part then (if begins_with (code "-") part then Some HyphenFirst else None) else Some Letter)

-- the fault of a layer's name, which may not begin with an underscore
abbrev pub layer_fault : Option (List ℕ) → Option NameFault
layer_fault None = None
layer_fault (Some layer) = if begins_with (code "_") layer then Some Letter else part_fault layer

-- the first fault if there is one, or else the later fault, if there is one
abbrev pub or_later : Option NameFault → Option NameFault → Option NameFault
or_later None later = later
or_later (Some f) later = Some f

-- ---- the name built from the parts

-- a text with each hyphen doubled
abbrev pub doubled : List ℕ → List ℕ
doubled [] = []
doubled (b ∷ bs) = if b == code "-" then code "-" ∷ code "-" ∷ doubled bs else b ∷ doubled bs

-- a text with each pair of hyphens, taken from the left, replaced by one hyphen
abbrev pub undoubled : List ℕ → List ℕ
undoubled [] = []
undoubled (b ∷ []) = b ∷ []
undoubled (b ∷ c ∷ bs) = if b == code "-" && c == code "-" then code "-" ∷ undoubled bs else b ∷ undoubled (c ∷ bs)

-- a hyphen and the part if there is a part, or else nothing
abbrev pub with_hyphen : Option (List ℕ) → List ℕ
with_hyphen None = []
with_hyphen (Some part) = code "-" ∷ part

-- the parts, with their hyphens doubled, joined by single hyphens
abbrev pub joined : NameParts → List ℕ
joined p = doubled p.vg ++ code "-" ∷ (doubled p.lv ++ with_hyphen (option_map doubled p.layer))

-- the fault of the parts: the first fault of a part, in order, or else Long if the whole name has more than 127 bytes
abbrev pub fault_of : NameParts → Option NameFault
fault_of p = or_later (part_fault p.vg) (or_later (part_fault p.lv) (or_later (layer_fault p.layer) (if nat_le (length (joined p)) 127 then None else Some Long)))

-- the fault if there is one, or else the name
abbrev pub name_or : Option NameFault → List ℕ → Result (List ℕ) NameFault
name_or None name = Ok name
name_or (Some f) name = Err f

-- the name built from the parts, or the fault of the parts
abbrev pub built : NameParts → Result (List ℕ) NameFault
built p = name_or (fault_of p) (joined p)

-- `said` is what a call returns, unless memory runs out
abbrev pub Returns : Result (List ℕ) NameFault → Result (List ℕ) NameFault → Type 0
Returns (Err Memory) said = Unit {0}
Returns result said = result ≡ said

-- ---- the parts that a name is cut into

-- the parts with each hyphen doubled
abbrev pub doubled_parts : NameParts → NameParts
doubled_parts p = record { vg = doubled p.vg; lv = doubled p.lv; layer = option_map doubled p.layer }

-- the slices of a name, as contracts see them
abbrev pub parts_view : Parts → NameParts
parts_view p = record { vg = p.vg.now; lv = p.lv.now; layer = option_map (λ l. l.now) p.layer }

-- the parts are valid, and `name` is the name built from them
abbrev pub Builds : NameParts → List ℕ → Type 0
Builds p name = (fault_of p ≡ None) × (joined p ≡ name)

-- the slices are the parts that build the name, with each hyphen doubled
abbrev pub IsSplit : List ℕ → NameParts → Type 0
IsSplit name slices = (p : NameParts) × Builds p name × (slices ≡ doubled_parts p)

-- the parts, given the slices of a name: each pair of hyphens is replaced by one
abbrev pub undoubled_parts : NameParts → NameParts
undoubled_parts p = record { vg = undoubled p.vg; lv = undoubled p.lv; layer = option_map undoubled p.layer }

-- a space and the part if there is a part, or else nothing
abbrev pub with_space : Option (List ℕ) → List ℕ
with_space None = []
with_space (Some part) = code " " ∷ part

-- the parts, separated by single spaces
abbrev pub spaced : NameParts → List ℕ
spaced p = p.vg ++ code " " ∷ (p.lv ++ with_space p.layer)

-- the text consists of the parts of the name, separated by single spaces
abbrev pub IsSpaced : List ℕ → List ℕ → Type 0
IsSpaced name text = (p : NameParts) × Builds p name × (text ≡ spaced p)
