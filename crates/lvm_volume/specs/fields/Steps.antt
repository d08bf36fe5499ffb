-- The effect of one step of a reader that runs both checks of fields in one pass.
use Rattle.lvm_volume.specs.Base.{ℕ, List, [], Option, Some, None, codes, flat_map, range_with_len, Tree, node_of, Source, LoadFault, IsMemoryFault}
use Rattle.lvm_volume.specs.declared.fields.reader.FieldReader.{FieldReader}
use Rattle.lvm_volume.specs.declared.fields.reader.NumberKind.{NumberKind}
use Rattle.lvm_volume.specs.declared.fields.reader.NumberKind.TheVariants as numbers
use Rattle.lvm_volume.specs.fields.Checks.{Check, Fields, Limits}
use Rattle.lvm_volume.specs.fields.Kinds as kinds
use Rattle.lvm_volume.specs.fields.Kinds.{Kind}
use Rattle.lvm_volume.specs.fields.Fields.{Field, always, field, field_faults, fields_faults, first_of, node_faults, segment_field, segment_fields}
use Rattle.std.specs.Prelude.{◌≡◌, ◌⊎◌, ◌∷◌}

-- the fault found before, or else the first of the new faults
abbrev pub or_first : Option LoadFault → List LoadFault → Option LoadFault
or_first None faults = first_of faults
or_first (Some fault) faults = Some fault

-- the reader after these faults of integers above the limit; a reader keeps only the first such fault of all its steps
abbrev pub after : FieldReader → List LoadFault → FieldReader
after reader faults = record { extent_size = reader.extent_size; excess = or_first reader.excess faults }

-- the effect of reading some fields: it fails with the first fault of the check Fields, or because memory ran out; or else the check Fields finds no fault, and
-- the reader keeps the first fault of the check Limits
pub record IsStep (faults : Check → List LoadFault) (old new : FieldReader) (failed : Option LoadFault) : Type 0 where
  pub passed : failed ≡ None → (faults Fields ≡ []) × (new ≡ after old (faults (Limits old.extent_size)))
  pub failed_at : (fault : LoadFault) → failed ≡ Some fault → (first_of (faults Fields) ≡ Some fault) ⊎ IsMemoryFault Source fault

-- the effect of reading fields that contain no integers: the step fails as in IsStep, and never changes the reader
abbrev pub IsPlainStep : (faults : Check → List LoadFault) → (failed : Option LoadFault) → Type 0
IsPlainStep faults failed = (reader : FieldReader) → IsStep faults reader reader failed

-- the faults that a check finds at a required key, whose content must be of this kind
abbrev pub at_key : Kind → List ℕ → Tree → Check → List LoadFault
at_key kind key tree check = node_faults check kind tree (node_of key tree.values)

-- the kind of content for a kind of number
abbrev pub number_kind : NumberKind → Kind
number_kind numbers.Any = kinds.Number
number_kind numbers.Positive = kinds.Positive
number_kind numbers.Extents = kinds.Extents

-- the fields of a segment that follow its type and depend on the type
abbrev pub later_fields : List Field
later_fields =
    field (codes "stripe_count") kinds.Positive kinds.Striped
    ∷ field (codes "stripes") kinds.Stripes kinds.Striped
    ∷ field (codes "stripe_size") kinds.Number kinds.Several
    ∷ field (codes "chunk_size") kinds.Number kinds.Snapshot
    ∷ field (codes "origin") kinds.Text kinds.Snapshot
    ∷ field (codes "cow_store") kinds.Text kinds.Snapshot
    ∷ []

-- the field for the type of a segment, and the fields that depend on the type
abbrev pub type_fields : List Field
type_fields = always (codes "type") kinds.TypeWord ∷ later_fields

-- the faults that a check finds at the fields of these segments
abbrev pub segments_faults : List Tree → Check → List LoadFault
segments_faults segments check = flat_map (λ segment. fields_faults check segment segment_fields) segments

-- the faults that a check finds at a volume's keys segment1, segment2 and so on, of which `count` are required
abbrev pub numbers_faults : Tree → ℕ → Check → List LoadFault
numbers_faults volume count check = flat_map (λ i. field_faults check volume (segment_field i)) (range_with_len 1 count)
