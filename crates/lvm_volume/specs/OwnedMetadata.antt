-- Which devices and disks a metadata text describes if there are images of some of the group's disks.
use Rattle.lvm_volume.specs.Base.{ℕ, List, Option, Some, None, Result, Ok, Err, IsUtf8, Tree, HasFault, TextFault, Source, Memory, NotText, LoadFault, DeviceSpec, IsMemoryFault, fault_at, first_fault, unless, DiskFault, Disk as TableDisk}
use Rattle.lvm_volume.specs.declared.owned_metadata.OwnedFault.{OwnedFault}
use Rattle.lvm_volume.specs.declared.owned_metadata.OwnedFault.TheVariants.{Disk, Load}
use Rattle.lvm_volume.specs.group.Group.{group_of}
use Rattle.lvm_volume.specs.group.Owners.{Owners, ids_of, owned_group, physicals_of, untaken}
use Rattle.lvm_volume.specs.Metadata.{SaysTree, bad_byte_line, metadata_checks}
use Rattle.lvm_volume.specs.tables.Tables.{tables_of, text_fault}
use Rattle.std.specs.Prelude.{◌≡◌, ◌≢◌}

-- the devices and the disks that a text describes
abbrev pub Tables : Type 0
Tables = List DeviceSpec × List TableDisk

abbrev pub of_load : Result Tables LoadFault → Result Tables OwnedFault
of_load (Ok tables) = Ok tables
of_load (Err fault) = Err (Load fault)

abbrev pub unless_untaken : Option (ℕ × DiskFault) → Result Tables OwnedFault → Result Tables OwnedFault
unless_untaken (Some found) said = Err (Disk found.0 found.1)
unless_untaken None said = said

-- the result for a tree: the first disk that can't be used, or else the first fault of a check, or else devices and disks
abbrev pub owned_tables : Owners → Tree → Result Tables OwnedFault
owned_tables owners top = unless_untaken (untaken (physicals_of top) owners.names 0 owners.ids) (of_load (unless (first_fault (metadata_checks top)) (tables_of (owned_group owners (ids_of top) (group_of top)))))

-- the result for a text: the fault of a byte that isn't UTF-8, or else a fault of the text, or else the result for the tree of the text
pub data Gives (owners : Owners) (source : List ℕ) (said : Result Tables OwnedFault) : Type 0 where
  NotUtf8 : ¬ (IsUtf8 source) → said ≡ Err (Load (fault_at Source NotText (bad_byte_line source))) → Gives owners source said
  OfText : IsUtf8 source → (found : TextFault) → HasFault source found → said ≡ Err (Load (text_fault found)) → Gives owners source said
  OfTree : (tree : Tree) → SaysTree source tree → said ≡ owned_tables owners tree → Gives owners source said

-- every text has exactly one result
pub record GivesOneThing (owners : Owners) (source : List ℕ) : Type 0 where
  pub some : (said : Result Tables OwnedFault) × Gives owners source said
  pub unique : (a b : Result Tables OwnedFault) → Gives owners source a → Gives owners source b → a ≡ b

-- the result of a call satisfies the predicate, or the call ran out of memory instead
abbrev pub OwnedAnswers : {X : Type 0} → (X → Tables) → (Result Tables OwnedFault → Type 0) → Result X OwnedFault → Type 0
OwnedAnswers view is (Ok x) = is (Ok (view x))
OwnedAnswers view is (Err (Disk disk fault)) = is (Err (Disk disk fault))
OwnedAnswers view is (Err (Load fault)) = (fault.kind ≡ Memory → IsMemoryFault Source fault) × (fault.kind ≢ Memory → is (Err (Load fault)))
