-- Which devices and disks a metadata text describes, or for which fault it is refused.
use Rattle.lvm_volume.specs.Base.{ℕ, List, [], None, Some, take, IsUtf8, TextFault, Source, NotText, LoadFault, DeviceSpec, Disk, Tree, newlines, Describes, HasFault, fault_at, first_fault}
use Rattle.std.specs.Prelude.{◌≡◌, ◌⊎◌, ◌+◌, ◌∷◌, ◌++◌}
use Rattle.std.specs.Str.Lossy.{utf8_valid_len}
use Rattle.lvm_volume.specs.group.Group.{group_of}
use Rattle.lvm_volume.specs.tables.Tables.{group_checks, tables_of, text_fault, unnamed}

-- the line of the first byte that isn't UTF-8
abbrev pub bad_byte_line : List ℕ → ℕ
bad_byte_line source = 1 + newlines (take (utf8_valid_len source) source)

-- the bytes are UTF-8, and the text describes this tree
pub record SaysTree (source : List ℕ) (tree : Tree) : Type 0 where
  pub utf8 : IsUtf8 source
  pub says : Describes source tree

-- the checks of a group in order; the last one checks the device names of the logical volumes
abbrev pub metadata_checks : Tree → List (List LoadFault)
metadata_checks tree = group_checks tree ++ unnamed (group_of tree) ∷ []

-- the text describes these devices and disks: it has a tree, and no check of the group finds a fault
pub record DescribesGroup (source : List ℕ) (tables : List DeviceSpec × List Disk) : Type 0 where
  pub tree : Tree
  pub says : SaysTree source tree
  pub sound : first_fault (metadata_checks tree) ≡ None
  pub is : tables ≡ tables_of (group_of tree)

-- the text is refused for this fault: a byte that isn't UTF-8, or else a fault of the text, or else a fault of the group that the text describes
pub data IsRefusedText (source : List ℕ) (fault : LoadFault) : Type 0 where
  NotUtf8 : ¬ (IsUtf8 source) → fault ≡ fault_at Source NotText (bad_byte_line source) → IsRefusedText source fault
  OfText : IsUtf8 source → (found : TextFault) → HasFault source found → fault ≡ text_fault found → IsRefusedText source fault
  OfGroup : (tree : Tree) → SaysTree source tree → first_fault (metadata_checks tree) ≡ Some fault → IsRefusedText source fault

-- the text describes exactly one list of devices and one of disks, or is refused for exactly one fault, and never both
pub record SaysOneThing (source : List ℕ) : Type 0 where
  pub some : ((tables : List DeviceSpec × List Disk) × DescribesGroup source tables) ⊎ ((fault : LoadFault) × IsRefusedText source fault)
  pub unique : (a b : List DeviceSpec × List Disk) → DescribesGroup source a → DescribesGroup source b → a ≡ b
  pub one_fault : (f g : LoadFault) → IsRefusedText source f → IsRefusedText source g → f ≡ g
  pub not_both : (tables : List DeviceSpec × List Disk) (fault : LoadFault) → DescribesGroup source tables → ¬ (IsRefusedText source fault)
