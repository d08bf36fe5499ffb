-- The roles of volumes as the code computes them, one snapshot at a time.
use Rattle.lvm_volume.specs.Base.{ℕ, List, [], Option, Some, None, Record, Role}
use Rattle.lvm_volume.specs.declared.group.roles.Role.TheVariants as roles
use Rattle.std.specs.Prelude.{◌+◌, ◌==◌, ◌∷◌, if◌then◌else◌}

-- a list of the record if there is one, or else an empty list
abbrev pub record_list : Option Record → List Record
record_list None = []
record_list (Some snapshot) = snapshot ∷ []

-- a volume's new role once one more snapshot has the volume as its origin
abbrev pub with_origin : Role → Role
with_origin roles.Plain = roles.Origin
with_origin roles.Origin = roles.Origin
with_origin (roles.Store snapshot) = roles.Clashing
with_origin roles.Record = roles.Record
with_origin roles.Clashing = roles.Clashing

-- a volume's new role once one more snapshot has the volume as its store
abbrev pub with_store : Record → Role → Role
with_store snapshot roles.Plain = roles.Store snapshot
with_store snapshot roles.Origin = roles.Clashing
with_store snapshot (roles.Store other) = roles.Clashing
with_store snapshot roles.Record = roles.Record
with_store snapshot roles.Clashing = roles.Clashing

-- the roles with `change` applied to the one at `position`; `first` is the position of the first role in the list
abbrev pub changed : (Role → Role) → (position first : ℕ) → List Role → List Role
changed change position first [] = []
changed change position first (role ∷ all) = (if position == first then change role else role) ∷ changed change position (first + 1) all
