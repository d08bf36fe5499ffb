-- What is delivered determines one run: texts describe at most one stack, and none if a check of them finds a fault.
use Rattle.dmremap.proofs.Prelude.{inl, inr, Bool, ℕ, List, [], Option, Some, None, sym, ap, subst, ◌∙◌, DeviceSpec, Disk, Source, Disks, LoadFault, first_fault, disk_checks, Delivery, PartRead, TextOf, Unread, part_read, Format, Lvm, Tables, TableForm, Description, IsSound, never_both, Load, RefusedBy, SoundAs, Describes, DescribesDevices, DescribesGroupAs, device_checks, GivesFault, MetadataGives, MetadataPartGives, TextsGive, TextPartsGive, PartsGive, Answer, IsOne, Loaded, Opened, Opening, OpeningMakes, PartsOpen, Stops, Maps, MapsOver, Start, one_fault as one_refusal}
use Rattle.dm_table.proofs.FaultLemmas.{first_or-none}
use Rattle.dm_table.proofs.ConciseDescribed.{again as again_concise}
use Rattle.dm_table.proofs.TableDescribed.{again}
use Rattle.dm_table.proofs.DiskLemmas.{again as again_disks, DescribesDisks-unique}
use Rattle.dm_table.specs.load.PartInput.{Refuses}
use Rattle.dmremap.specs.declared.job.TableForm.TheVariants.{Concise, Table}
use Rattle.lvm_volume.proofs.OneGroup.{never_refused, one_group, one_refusal as one_text_refusal}
use Rattle.std.specs.Prelude.{◌≡◌, ◌∷◌, ◌++◌}

-- What two texts describe is determined

abbrev described_as : List DeviceSpec → List Disk → Description
described_as devices disks = record { devices = devices; disks = disks }

one_list : (form : TableForm) (text : List ℕ) (a b : List DeviceSpec) → DescribesDevices form text a → DescribesDevices form text b → a ≡ b
one_list Table text a b is_a is_b = sym (again text a is_a).1 ∙ (again text b is_b).1
one_list Concise text a b is_a is_b = sym (again_concise text a is_a).1 ∙ (again_concise text b is_b).1

no_fault_of_devices : (form : TableForm) (text : List ℕ) (devices : List DeviceSpec) → DescribesDevices form text devices → first_fault (device_checks form text) ≡ None
no_fault_of_devices Table text devices is = (again text devices is).0
no_fault_of_devices Concise text devices is = (again_concise text devices is).0

pub one_description_of : (form : TableForm) (source list : List ℕ) (a b : Description) → Describes form source list a → Describes form source list b → a ≡ b
one_description_of form source list a b is_a is_b =
    rw (one_list form source a.devices b.devices is_a.devices is_b.devices, DescribesDisks-unique list a.disks b.disks is_a.disks is_b.disks)

-- if neither the first nor the later checks find a fault, all checks find none
none_both : (checks more : List (List LoadFault)) → first_fault checks ≡ None → first_fault more ≡ None → first_fault (checks ++ more) ≡ None
none_both [] more a b = b
none_both (check ∷ checks) more a b =
    let first = first_or-none check (first_fault checks) a in
    cc (none_both checks more first.1 b)

-- texts that describe a stack have no fault of their own
pub no_fault_of_texts : (form : TableForm) (source list : List ℕ) (description : Description) → Describes form source list description → first_fault (device_checks form source ++ disk_checks list) ≡ None
no_fault_of_texts form source list description is =
    none_both (device_checks form source) (disk_checks list) (no_fault_of_devices form source description.devices is.devices)
    (again_disks list description.disks is.disks).0

-- The outcome of loading two texts is determined

one_fault : (form : TableForm) (source list : List ℕ) (f g : LoadFault) → GivesFault form source list f → GivesFault form source list g → f ≡ g
one_fault form source list f g (inl a) (inl b) = cc
one_fault form source list f g (inl a) (inr b) = let none = no_fault_of_texts form source list b.0 b.1 in absurd cc
one_fault form source list f g (inr a) (inl b) = let none = no_fault_of_texts form source list a.0 a.1 in absurd cc
one_fault form source list f g (inr a) (inr b) =
    let same = one_description_of form source list a.0 b.0 a.1 b.1 in
    one_refusal b.0 f g (rw same at a.2) b.2

-- texts that describe a sound stack give no fault
no_fault : (form : TableForm) (source list : List ℕ) (f : LoadFault) (description : Description) → GivesFault form source list f → Describes form source list description → IsSound description → ⊥
no_fault form source list f description (inl a) is sound = let none = no_fault_of_texts form source list description is in cc
no_fault form source list f description (inr a) is sound =
    let same = one_description_of form source list a.0 description a.1 is in
    never_both description f sound (rw same at a.2)

one_of_texts : (form : TableForm) (source list : List ℕ) (a b : Load) → TextsGive form source list a → TextsGive form source list b → a ≡ b
one_of_texts form source list (RefusedBy f) (RefusedBy g) is_a is_b = ap RefusedBy (one_fault form source list f g is_a is_b)
one_of_texts form source list (RefusedBy f) (SoundAs b) is_a is_b = absurd (no_fault form source list f b is_a is_b.0 is_b.1)
one_of_texts form source list (SoundAs a) (RefusedBy g) is_a is_b = absurd (no_fault form source list g a is_b is_a.0 is_a.1)
one_of_texts form source list (SoundAs a) (SoundAs b) is_a is_b = ap SoundAs (one_description_of form source list a b is_a.0 is_b.0)

one_of_parts : (form : TableForm) (source list : PartRead) (a b : Load) → TextPartsGive form source list a → TextPartsGive form source list b → a ≡ b
one_of_parts form (Refuses fault) list a b is_a is_b = is_a ∙ sym is_b
one_of_parts form (TextOf source) (Refuses fault) a b is_a is_b = is_a ∙ sym is_b
one_of_parts form (TextOf source) (TextOf list) a b is_a is_b = one_of_texts form source list a b is_a is_b
one_of_parts form source list a b is_a is_b = absurd is_a

-- The outcome of loading an LVM2 text is determined

one_described_group : (source : List ℕ) (a b : Description) → DescribesGroupAs source a → DescribesGroupAs source b → a ≡ b
one_described_group source a b is_a is_b =
    ap (λ (tables : List DeviceSpec × List Disk). described_as tables.0 tables.1) (one_group source (a.devices, a.disks) (b.devices, b.disks) is_a is_b)

one_of_metadata : (source : List ℕ) (a b : Load) → MetadataGives source a → MetadataGives source b → a ≡ b
one_of_metadata source (RefusedBy f) (RefusedBy g) (inl is_a) (inl is_b) = ap RefusedBy (one_text_refusal source f g is_a is_b)
one_of_metadata source (RefusedBy f) (RefusedBy g) (inl is_a) (inr is_b) = absurd (never_refused source _ f is_b.1 is_a)
one_of_metadata source (RefusedBy f) (RefusedBy g) (inr is_a) (inl is_b) = absurd (never_refused source _ g is_a.1 is_b)
one_of_metadata source (RefusedBy f) (RefusedBy g) (inr is_a) (inr is_b) =
    let same = one_described_group source is_a.0 is_b.0 is_a.1 is_b.1 in
    ap RefusedBy (one_refusal is_b.0 f g (rw same at is_a.2) is_b.2)
one_of_metadata source (RefusedBy f) (SoundAs b) (inl is_a) is_b = absurd (never_refused source _ f is_b.0 is_a)
one_of_metadata source (RefusedBy f) (SoundAs b) (inr is_a) is_b =
    let same = one_described_group source is_a.0 b is_a.1 is_b.0 in
    absurd (never_both b f is_b.1 (rw same at is_a.2))
one_of_metadata source (SoundAs a) (RefusedBy g) is_a (inl is_b) = absurd (never_refused source _ g is_a.0 is_b)
one_of_metadata source (SoundAs a) (RefusedBy g) is_a (inr is_b) =
    let same = one_described_group source is_b.0 a is_b.1 is_a.0 in
    absurd (never_both a g is_a.1 (rw same at is_b.2))
one_of_metadata source (SoundAs a) (SoundAs b) is_a is_b = ap SoundAs (one_described_group source a b is_a.0 is_b.0)

one_of_part : (source : PartRead) (a b : Load) → MetadataPartGives source a → MetadataPartGives source b → a ≡ b
one_of_part (Refuses fault) a b is_a is_b = is_a ∙ sym is_b
one_of_part (TextOf source) a b is_a is_b = one_of_metadata source a b is_a is_b
one_of_part Unread a b is_a is_b = absurd is_a

-- The outcome of a load in any format is determined

pub one_load : (format : Format) (source disks : Delivery) (a b : Load) → PartsGive format source disks a → PartsGive format source disks b → a ≡ b
one_load (Tables form) source disks a b is_a is_b = one_of_parts form (part_read Source source) (part_read Disks disks) a b is_a is_b
one_load Lvm source disks a b is_a is_b = one_of_part (part_read Source source) a b is_a is_b

-- The answer of a run is determined

pub one_opening : (format : Format) (source disks : Delivery) (a b : Opening) → PartsOpen format source disks a → PartsOpen format source disks b → a ≡ b
one_opening format source disks (Loaded a) (Loaded b) is_a is_b = ap Loaded (one_load format source disks a b is_a is_b)
one_opening format source disks (Stops message) b is_a is_b = absurd is_a
one_opening format source disks (Loaded a) (Stops message) is_a is_b = absurd is_b

-- at most one answer, if there is at most one opening and at most one answer for each stack
pub one_opened : (IsSuch : Answer → Type 0) (Opens : Opening → Type 0) → ((a b : Opening) → Opens a → Opens b → a ≡ b) → (Makes : Description → Answer → Type 0) → ((stack : Description) (a b : Answer) → IsSuch a → IsSuch b → Makes stack a → Makes stack b → a ≡ b)
    → (a b : Answer) → IsSuch a → IsSuch b → Opened Opens Makes a → Opened Opens Makes b → a ≡ b
one_opened IsSuch Opens one Makes each a b such such' x y = go y.opening (subst (λ (o : Opening). OpeningMakes Makes o a) (one x.opening y.opening x.opens y.opens) x.makes) y.makes
  where
    go : (o : Opening) → OpeningMakes Makes o a → OpeningMakes Makes o b → a ≡ b
    go (Loaded (RefusedBy fault)) p q = p ∙ sym q
    go (Loaded (SoundAs stack)) p q = each stack a b such such' p q
    go (Stops message) p q = p ∙ sym q

pub one_by : (Opens : Opening → Type 0) → ((a b : Opening) → Opens a → Opens b → a ≡ b) → (starts : Description → Start) (flag : Bool) (before : Option Delivery) (requests : Delivery) → IsOne (Maps Opens starts flag before requests)
one_by Opens one starts flag before requests a b x y =
    one_opened (λ answer. Unit {0}) Opens one (λ stack. MapsOver (starts stack) stack flag before requests)
    (λ stack c d such such' p q. let some : Some c ≡ Some d = sym p ∙ q in cc) a b tt tt x y
