-- The supported types of segments, and the words for them in a metadata text.
use Rattle.lvm_volume.specs.Base.{ℕ, List, Option, Some, None, bytes_eq, codes}
use Rattle.lvm_volume.specs.declared.group.segment.TypeName.{TypeName}
use Rattle.lvm_volume.specs.declared.group.segment.TypeName.TheVariants.{Striped, Zero, Error, Snapshot}
use Rattle.std.specs.Prelude.{if◌then◌else◌}

-- the word for a type of segment
abbrev pub type_text : TypeName → List ℕ
type_text Striped = codes "striped"
type_text Zero = codes "zero"
type_text Error = codes "error"
type_text Snapshot = codes "snapshot"

-- the type of segment that a word names, if that type is supported
abbrev pub named_type : List ℕ → Option TypeName
named_type word =
    if bytes_eq word (codes "striped") then Some Striped
    else (if bytes_eq word (codes "zero") then Some Zero
    else (if bytes_eq word (codes "error") then Some Error
    else (if bytes_eq word (codes "snapshot") then Some Snapshot else None)))
