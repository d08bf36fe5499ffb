-- What `images PATHS` opens: a load of the LVM2 text found in the heads of the images that PATHS lists, or a message if a head is refused.
use Rattle.dmremap.specs.Base.{ℕ, List, [], Option, Some, None, Result, Ok, Err, length, map, nat_lt, position, slice_get, option_map_or, is_ok, LoadFault, Limit, Memory, Paths, DiskPath, Delivery, InputPast, delivery, IsReadOn, fault_at, PartRead, TextOf, Refuses, Unread, part_read, read_paths, Description, described, disk_len, is_same, IsSound, IsRefusedBy, Contents, in_extent, HeadRefusal, Sectors, AllSaid, heads_of, head_message, Owners, Gives, Refusal}
use Rattle.lvm_head.specs.declared.fault.HeadFault.{HeadFault}
use Rattle.lvm_head.specs.declared.fault.HeadFault.TheVariants as faults
use Rattle.lvm_head.specs.Disks.{Contents as DiskContents}
use Rattle.lvm_volume.specs.declared.group.owners.DiskFault.{DiskFault}
use Rattle.lvm_volume.specs.declared.group.owners.DiskFault.TheVariants as taken
use Rattle.lvm_volume.specs.declared.owned_metadata.OwnedFault.{OwnedFault}
use Rattle.lvm_volume.specs.declared.owned_metadata.OwnedFault.TheVariants as owned
use Rattle.lvm_volume.specs.OwnedMetadata.{Tables}
use Rattle.dmremap.specs.declared.exit.Refusal.TheVariants as refusals
use Rattle.dmremap.specs.declared.group_images.GroupImages.{GroupImages}
use Rattle.dmremap.specs.Load.{Load, RefusedBy, SoundAs}
use Rattle.dmremap.specs.Opening.{Loaded, Opening, Stops}
use Rattle.std.specs.Prelude.{◌≡◌, ◌≢◌, ◌⊎◌, ◌+◌, ◌-◌, ◌∷◌, if◌then◌else◌}

-- ---- the contents of listed disks, given the contents of images

-- the sectors of a disk at this path, which begin at sector `path.start` of the image; without a path every read fails
abbrev pub at_path : Contents → Option DiskPath → Sectors
at_path held (Some path) sector = in_extent path.extent (held path.at.number path.file) sector
at_path held None sector = Err (record {})

abbrev pub listed_disks : List DiskPath → Contents → DiskContents
listed_disks paths held disk sector = at_path held (slice_get paths disk) sector

-- the disks hold what images hold, for some contents of the images that agree with every read so far
pub record AreSeen (IsSeen : Contents → Type 0) (paths : List DiskPath) (disks : DiskContents) : Type 0 where
  pub held : Contents
  pub seen : IsSeen held
  pub same : (disk sector : ℕ) → disks disk sector ≡ listed_disks paths held disk sector

-- ---- what a list of images opens

-- the message about a listed disk whose head is refused
abbrev pub disk_message : Option DiskPath → HeadFault → List ℕ
disk_message (Some path) fault = head_message path.disk fault
disk_message None fault = []

-- the outcomes of checking a stack of devices and disks
abbrev pub StackGives : Description → Load → Type 0
StackGives stack (RefusedBy fault) = IsRefusedBy stack fault
StackGives stack (SoundAs description) = (description ≡ stack) × IsSound stack

-- the fault of a disk's head if the LVM2 text refuses the disk
abbrev pub by_text : DiskFault → HeadFault
by_text taken.Foreign = faults.Foreign
by_text taken.Missing = faults.Missing
by_text taken.Array = faults.Array

-- what the LVM2 text found in the heads opens: a load of the text's tables, or a message about a disk that the text refuses
abbrev pub SaidOpens : List DiskPath → Result Tables OwnedFault → Opening → Type 0
SaidOpens paths (Ok tables) (Loaded load) = StackGives (described tables.0 tables.1) load
SaidOpens paths (Ok tables) (Stops message) = ⊥
SaidOpens paths (Err (owned.Load fault)) opening = opening ≡ Loaded (RefusedBy fault)
SaidOpens paths (Err (owned.Disk disk fault)) opening = opening ≡ Stops (disk_message (slice_get paths disk) (by_text fault))

-- the ids found in the heads, and the names of their disks
abbrev pub owners_of : List DiskPath → AllSaid → Owners
owners_of paths all = record { ids = all.ids; names = map (λ path. path.disk) paths }

-- what the heads open: a load of their LVM2 text, or a message about the first head that is refused
abbrev pub HeadsOpen : List DiskPath → Result AllSaid HeadRefusal → Opening → Type 0
HeadsOpen paths (Ok all) opening = (said : Result Tables OwnedFault) × Gives (owners_of paths all) all.text said × SaidOpens paths said opening
HeadsOpen paths (Err refusal) opening = opening ≡ Stops (disk_message (slice_get paths refusal.disk) refusal.fault)

-- how many sectors the disk of this name has in a stack; 0 if the stack has no disk of this name
abbrev pub len_of : Description → (name : List ℕ) → ℕ
len_of stack name = option_map_or (disk_len stack) (position (λ disk. is_same disk.name name) stack.disks) 0

-- the number of the first listed disk, from number `disk` on, whose last sector can't be read; the stack says which sector is the last
unfoldable pub short_of : Description → DiskContents → (disk : ℕ) → List DiskPath → Option ℕ
short_of stack disks disk [] = None
short_of stack disks disk (path ∷ later) = if is_ok (disks disk (len_of stack path.disk - 1)) then short_of stack disks (disk + 1) later else Some disk

-- the stack is opened, or, if the last sector of a listed disk can't be read, a message about that disk
abbrev pub unless_short : List DiskPath → Description → Option ℕ → Opening
unless_short paths stack (Some disk) = Stops (disk_message (slice_get paths disk) faults.Ends)
unless_short paths stack None = Loaded (SoundAs stack)

abbrev pub ended_by : List DiskPath → DiskContents → Opening → Opening
ended_by paths disks (Loaded (SoundAs stack)) = unless_short paths stack (short_of stack disks 0 paths)
ended_by paths disks (Loaded (RefusedBy fault)) = Loaded (RefusedBy fault)
ended_by paths disks (Stops message) = Stops message

-- what the disks of a list open: what their heads open, unless a disk is too short
abbrev pub DisksOpen : List DiskPath → DiskContents → Opening → Type 0
DisksOpen paths disks opening = (before : Opening) × HeadsOpen paths (heads_of disks (length paths)) before × (opening ≡ ended_by paths disks before)

abbrev pub ListOpens : List DiskPath → Contents → Opening → Type 0
ListOpens paths held = DisksOpen paths (listed_disks paths held)

-- refuses a list of more than 1024 disks at its disk 1025, because a stack has at most 1024 disks
abbrev pub few : Result (List DiskPath) LoadFault → Result (List DiskPath) LoadFault
few (Ok paths) = if nat_lt 1024 (length paths) then Err (fault_at Paths Limit 1025) else Ok paths
few (Err fault) = Err fault

-- the list of paths in PATHS, or the fault that refuses the list; None if the delivered bytes don't determine either
abbrev pub list_in : PartRead → Option (Result (List DiskPath) LoadFault)
list_in (TextOf text) = Some (few (read_paths text))
list_in (Refuses fault) = Some (Err fault)
list_in Unread = None

abbrev pub OpensBy : Contents → Option (Result (List DiskPath) LoadFault) → Opening → Type 0
OpensBy held (Some (Ok paths)) opening = ListOpens paths held opening
OpensBy held (Some (Err fault)) opening = opening ≡ Loaded (RefusedBy fault)
OpensBy held None opening = ⊥

-- what the delivered bytes of PATHS open, if images hold `held`
abbrev pub ImagesOpen : (paths : Delivery) → Contents → Opening → Type 0
ImagesOpen paths held opening = OpensBy held (list_in (part_read Paths paths)) opening

-- ---- refusals

-- a fault in a disk's head refuses a run with the message of the fault, or because memory ran out
abbrev pub IsStoppedBy : Option DiskPath → HeadFault → Refusal → Type 0
IsStoppedBy path fault (refusals.Load found) = found.kind ≡ Memory
IsStoppedBy path fault (refusals.Head message) = (fault ≢ faults.Memory) × (message.items ≡ disk_message path fault)
IsStoppedBy path fault refusal = ⊥

-- a fault of the LVM2 text refuses a run with a message about a disk, or with a load fault
abbrev pub IsUnowned : List DiskPath → OwnedFault → Refusal → Type 0
IsUnowned paths (owned.Disk disk fault) why = IsStoppedBy (slice_get paths disk) (by_text fault) why
IsUnowned paths (owned.Load fault) why = why ≡ refusals.Load fault

-- ---- how PATHS and images were read

-- images are read only if PATHS delivered a list of paths
abbrev pub AreImagesUsed : {X : Type 0} → (paths : Delivery) → (old new : X) → Type 0
AreImagesUsed paths old new = (new ≡ old) ⊎ ((listed : List DiskPath) × (list_in (part_read Paths paths) ≡ Some (Ok listed)))

-- PATHS delivered a list of paths, and the heads of the listed disks opened this stack
pub record AreImagesOpened {P I : Type 0} (past : P → InputPast) (IsSeen : I → Contents → Type 0) (stack : Description) (old new : GroupImages P I) : Type 0 where
  pub listed : list_in (part_read Paths (delivery (past old.list) (past new.list))) ≡ Some (Ok new.disks.paths.items)
  pub opened : (held : Contents) → IsSeen new.disks.images held → ImagesOpen (delivery (past old.list) (past new.list)) held (Loaded (SoundAs stack))
  pub list : IsReadOn (past old.list) (past new.list)

-- PATHS was not read after its end or a fault, and images were read only if PATHS delivered a list
pub record AreImagesRead {P I : Type 0} (past : P → InputPast) (old new : GroupImages P I) : Type 0 where
  pub list : IsReadOn (past old.list) (past new.list)
  pub images : AreImagesUsed (delivery (past old.list) (past new.list)) old.disks.images new.disks.images
