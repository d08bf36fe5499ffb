-- The outcome of a load: a sound description, or the first fault of the first check that finds any.
use Rattle.dmremap.specs.Base.{ℕ, List, Some, Result, IfOk, IfErr, LoadFault, Memory, Source, Disks, Delivery, first_fault, PartRead, TextOf, Refuses, Unread, part_read, DescribesTable, table_checks, DescribesDisks, disk_checks, Description, IsSound, IsRefusedBy, DeviceSpec, DescribesConcise, concise_checks, Format, Lvm, Tables, TableForm, Concise, Table, DescribesGroup, IsRefusedText}
use Rattle.std.specs.Prelude.{◌≡◌, ◌≢◌, ◌⊎◌, ◌++◌}

-- the outcome of a load: refused with a fault, or sound as a description
pub data Load : Type 0 where
  RefusedBy : LoadFault → Load
  SoundAs : Description → Load

-- the result of a load is a sound stack or a fault that `Gives` allows; running out of memory is always allowed
pub record Loads (Gives : Load → Type 0) (result : Result Description LoadFault) : Type 0 where
  pub sound : IfOk result (λ stack. Gives (SoundAs stack))
  pub refused : IfErr result (λ fault. fault.kind ≢ Memory → Gives (RefusedBy fault))

-- ---- a text of devices and a disk list

-- the text describes these devices, in the given form
abbrev pub DescribesDevices : TableForm → List ℕ → List DeviceSpec → Type 0
DescribesDevices Table text devices = DescribesTable text devices
DescribesDevices Concise text devices = DescribesConcise text devices

-- the checks of the text of devices alone; the checks of the stack come later
abbrev pub device_checks : TableForm → List ℕ → List (List LoadFault)
device_checks Table text = table_checks text
device_checks Concise text = concise_checks text

-- the two texts describe a stack that is not checked yet
pub record Describes (form : TableForm) (source list : List ℕ) (description : Description) : Type 0 where
  pub devices : DescribesDevices form source description.devices
  pub disks : DescribesDisks list description.disks

-- the fault is either the first one in the two texts, of which the source is checked first, or a fault of the stack that they describe
abbrev pub GivesFault : TableForm → List ℕ → List ℕ → LoadFault → Type 0
GivesFault form source list fault =
    (first_fault (device_checks form source ++ disk_checks list) ≡ Some fault)
    ⊎ ((description : Description) × Describes form source list description × IsRefusedBy description fault)

-- the outcomes of loading the text of a source and the text of its disk list
abbrev pub TextsGive : TableForm → List ℕ → List ℕ → Load → Type 0
TextsGive form source list (RefusedBy fault) = GivesFault form source list fault
TextsGive form source list (SoundAs description) =
    Describes form source list description × IsSound description

-- the outcomes of loading a source and a disk list: if one of them can't be read, the load is refused before either text is checked
abbrev pub TextPartsGive : TableForm → PartRead → PartRead → Load → Type 0
TextPartsGive form (Refuses fault) list load = load ≡ RefusedBy fault
TextPartsGive form (TextOf source) (Refuses fault) load = load ≡ RefusedBy fault
TextPartsGive form (TextOf source) (TextOf list) load = TextsGive form source list load
TextPartsGive form (TextOf source) Unread load = ⊥
TextPartsGive form Unread list load = ⊥

-- ---- an LVM2 text

-- the text describes a volume group of these devices and disks, which are not checked yet
abbrev pub DescribesGroupAs : List ℕ → Description → Type 0
DescribesGroupAs source description = DescribesGroup source (description.devices, description.disks)

-- the outcomes of loading an LVM2 text: a fault of the text, a fault of the stack that it describes, or a sound stack
abbrev pub MetadataGives : List ℕ → Load → Type 0
MetadataGives source (RefusedBy fault) =
    IsRefusedText source fault
    ⊎ ((description : Description) × DescribesGroupAs source description × IsRefusedBy description fault)
MetadataGives source (SoundAs description) = DescribesGroupAs source description × IsSound description

-- the outcomes of loading an LVM2 text from a part: if the part can't be read, the load is refused, and no text is checked
abbrev pub MetadataPartGives : PartRead → Load → Type 0
MetadataPartGives (Refuses fault) load = load ≡ RefusedBy fault
MetadataPartGives (TextOf source) load = MetadataGives source load
MetadataPartGives Unread load = ⊥

-- ---- a load in any format

-- the outcomes of a load in this format, for the bytes that the source and the disk list delivered; an LVM2 text has no disk list
abbrev pub PartsGive : Format → Delivery → Delivery → Load → Type 0
PartsGive Lvm source disks load = MetadataPartGives (part_read Source source) load
PartsGive (Tables form) source disks load = TextPartsGive form (part_read Source source) (part_read Disks disks) load
