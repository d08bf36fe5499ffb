-- What PATHS opens if it is a list of images, and where a run starts then.
use Rattle.dmremap.proofs.Prelude.{inl, inr, Bool, ℕ, List, [], Option, None, Some, Result, Ok, Err, IfOk, drop, length, map, slice_get, refl, sym, ap, ap₂, subst, is_ok, nat_lt, position, position-Some, cases_Bool, drop_all, LoadFault, Paths, Disk, DiskPath, DeviceSpec, Delivery, InputPast, delivery, IsReadOn, PartRead, TextOf, part_read, read_paths, Description, described, IsSound, OwnedFault, Owners, Gives, OwnedAnswers, images_of, Contents, HeadRefusal, AllSaid, heads_of, Refusal, AreImagesOpened, AreSeen, DisksOpen, HeadsOpen, ImagesOpen, IsStoppedBy, IsUnowned, ListOpens, OpensBy, SaidOpens, StackGives, by_text, disk_message, ended_by, few, len_of, list_in, listed_disks, owners_of, short_of, unless_short, RefusedBy, SoundAs, IsOpened, Loaded, Opening, Stops, images_in, start_over, stored_start}
use Rattle.dm_table.specs.declared.load.load_fault.LoadKind.TheVariants as kinds
use Rattle.lvm_volume.specs.declared.owned_metadata.OwnedFault.TheVariants as owned
use Rattle.lvm_volume.specs.OwnedMetadata.{Tables}
use Rattle.lvm_head.specs.declared.fault.HeadFault.{HeadFault}
use Rattle.lvm_head.specs.declared.fault.HeadFault.TheVariants as faults
use Rattle.lvm_head.specs.Disks.{Contents as DiskContents}
use Rattle.dmremap.specs.declared.exit.Refusal.TheVariants as refusals
use Rattle.dmremap.specs.declared.group_images.GroupImages.{GroupImages}
use Rattle.std.specs.Prelude.{◌≡◌, ◌≢◌, ◌+◌, ◌-◌, ◌<◌, ◌≤◌, ◌∷◌, if◌then◌else◌}

-- ---- a list of images that was read

few_ok : (paths : Result (List DiskPath) LoadFault) (listed : List DiskPath) → few paths ≡ Ok listed → paths ≡ Ok listed
few_ok (Ok paths) listed is = elim (cases_Bool (nat_lt 1024 (length paths))) as (λ _. (let r : Result (List DiskPath) LoadFault = Ok paths in r) ≡ Ok listed) [
  | inl many ↦ let no = rw many at is in absurd cc
  | inr short ↦ rw short at is
]
few_ok (Err fault) listed is = absurd cc

-- the places of a stack's disks, by PATHS, are those that the list names
pub images_listed : (stack : Description) (read : PartRead) (listed : List DiskPath) → list_in read ≡ Some (Ok listed) → images_in stack read ≡ Some (images_of stack listed)
images_listed stack (TextOf text) listed is =
    let small : few (read_paths text) ≡ Ok listed = cc in
    rw (few_ok (read_paths text) listed small) refl
images_listed stack read listed is = absurd cc

-- a run starts in the state that the stores hold in the listed images
pub listed_start : (paths : Delivery) (held : Contents) (stack : Description) (listed : List DiskPath) → list_in (part_read Paths paths) ≡ Some (Ok listed)
    → start_over held stack (Some (images_of stack listed)) ≡ stored_start (Some paths) held stack
listed_start paths held stack listed is = ap (start_over held stack) (sym (images_listed stack (part_read Paths paths) listed is))

-- what the list opens is what PATHS opens
pub listed_opens : (paths : Delivery) (held : Contents) (listed : List DiskPath) (opening : Opening) → list_in (part_read Paths paths) ≡ Some (Ok listed) → ListOpens listed held opening → ImagesOpen paths held opening
listed_opens paths held listed opening is opens = subst (λ (list : Option (Result (List DiskPath) LoadFault)). OpensBy held list opening) (sym is) opens

-- the disks of a list open what their heads open, unless a disk is too short
pub heads_open : (paths : List DiskPath) (disks : DiskContents) (heads : Result AllSaid HeadRefusal) (before after : Opening) → heads_of disks (length paths) ≡ heads → HeadsOpen paths heads before → after ≡ ended_by paths disks before → DisksOpen paths disks after
heads_open paths disks heads before after said opens is = (before, subst (λ (h : Result AllSaid HeadRefusal). HeadsOpen paths h before) (sym said) opens, is)

-- if the LVM2 text of the heads gives no stack, PATHS opens none
pub heads_unopened : (paths : Delivery) (held : Contents) (listed after : List DiskPath) (all : AllSaid) (why : Refusal) → list_in (part_read Paths paths) ≡ Some (Ok listed) → heads_of (listed_disks listed held) (length listed) ≡ Ok all → after ≡ listed
    → IsOpened (HeadsOpen after (Ok all)) (Err why) → IsOpened (ImagesOpen paths held) (Err why)
heads_unopened paths held listed after all (refusals.Load fault) is said same opened = λ other.
    listed_opens paths held listed (Loaded (RefusedBy fault)) is
    (heads_open listed (listed_disks listed held) (Ok all) (Loaded (RefusedBy fault)) (Loaded (RefusedBy fault)) said (subst (λ (l : List DiskPath). HeadsOpen l (Ok all) (Loaded (RefusedBy fault))) same (opened other)) refl)
heads_unopened paths held listed after all (refusals.Head message) is said same opened =
    listed_opens paths held listed (Stops message.items) is
    (heads_open listed (listed_disks listed held) (Ok all) (Stops message.items) (Stops message.items) said (subst (λ (l : List DiskPath). HeadsOpen l (Ok all) (Stops message.items)) same opened) refl)
heads_unopened paths held listed after all refusal is said same opened = absurd opened

-- if the LVM2 text of the heads gives a stack, PATHS opens it unless a disk is too short
pub heads_loaded : (paths : Delivery) (held : Contents) (listed after : List DiskPath) (all : AllSaid) (stack : Description) (short : Option ℕ) → list_in (part_read Paths paths) ≡ Some (Ok listed) → heads_of (listed_disks listed held) (length listed) ≡ Ok all → after ≡ listed
    → HeadsOpen after (Ok all) (Loaded (SoundAs stack)) → short ≡ short_of stack (listed_disks listed held) 0 listed → ImagesOpen paths held (unless_short listed stack short)
heads_loaded paths held listed after all stack short is said same opened found =
    listed_opens paths held listed (unless_short listed stack short) is
    (heads_open listed (listed_disks listed held) (Ok all) (Loaded (SoundAs stack)) (unless_short listed stack short) said (subst (λ (l : List DiskPath). HeadsOpen l (Ok all) (Loaded (SoundAs stack))) same opened) (ap (unless_short listed stack) found))

-- if a head is refused, PATHS opens with the message about it
pub head_refused : (paths : Delivery) (held : Contents) (listed after : List DiskPath) (refusal : HeadRefusal) → list_in (part_read Paths paths) ≡ Some (Ok listed)
    → heads_of (listed_disks listed held) (length listed) ≡ Err refusal → after ≡ listed → ImagesOpen paths held (Stops (disk_message (slice_get after refusal.disk) refusal.fault))
head_refused paths held listed after refusal is said same =
    let message = disk_message (slice_get listed refusal.disk) refusal.fault in
    rw same (listed_opens paths held listed (Stops message) is (heads_open listed (listed_disks listed held) (Err refusal) (Stops message) (Stops message) said refl refl))

-- ---- the last sectors of disks

pub position_below : {X : Type 0} (p : X → Bool) (xs : List X) (i : ℕ) → position p xs ≡ Some i → i < length xs
position_below p [] i e = absurd cc
position_below p (x ∷ xs) i e = (position-Some p (x ∷ xs) i x e).0

pub short_next : (stack : Description) (disks : DiskContents) (paths : List DiskPath) (path : DiskPath) (disk : ℕ) (has : Bool) → drop disk paths ≡ path ∷ drop (disk + 1) paths → is_ok (disks disk (len_of stack path.disk - 1)) ≡ has
    → short_of stack disks disk (drop disk paths) ≡ (if has then short_of stack disks (disk + 1) (drop (disk + 1) paths) else Some disk)
unfolding short_of
short_next stack disks paths path disk has here is = rw (here, is) refl

pub short_end : (stack : Description) (disks : DiskContents) (paths : List DiskPath) (disk : ℕ) → length paths ≤ disk → short_of stack disks disk (drop disk paths) ≡ None
unfolding short_of
short_end stack disks paths disk past = rw (drop_all disk paths past) refl

-- a disk's head that is refused stops the opening with its message, unless memory ran out
pub stopped_opens : (Opens : Opening → Type 0) (path : Option DiskPath) (fault : HeadFault) (why : Refusal) → IsStoppedBy path fault why → (fault ≢ faults.Memory → Opens (Stops (disk_message path fault))) → IsOpened Opens (Err why)
stopped_opens Opens path fault (refusals.Load found) stopped opens = λ other. absurd (other stopped)
stopped_opens Opens path fault (refusals.Head message) stopped opens = rw stopped.1 (opens stopped.0)
stopped_opens Opens path fault refusal stopped opens = absurd stopped

-- the LVM2 text of the heads opens the same when it was read with equal ids and names
pub text_opens : (paths : List DiskPath) (all : AllSaid) (owners : Owners) (source : List ℕ) (said : Result Tables OwnedFault) (opening : Opening) → owners ≡ owners_of paths all → source ≡ all.text
    → Gives owners source said → SaidOpens paths said opening → HeadsOpen paths (Ok all) opening
text_opens paths all owners source said opening same text gives opens = (said, subst (λ (o : Owners). Gives o all.text said) same (subst (λ (t : List ℕ). Gives owners t said) text gives), opens)

pub owners_same : (paths : List DiskPath) (all : AllSaid) (ids : List (List ℕ)) → ids ≡ all.ids → record { ids = ids; names = map (λ path. path.disk) paths } ≡ owners_of paths all
owners_same paths all ids same = ap (λ (i : List (List ℕ)). let owners : Owners = record { ids = i; names = map (λ path. path.disk) paths } in owners) same

pub unowned_opens : (paths : List DiskPath) (all : AllSaid) (owners : Owners) (source : List ℕ) (fault : OwnedFault) (why : Refusal) → owners ≡ owners_of paths all → source ≡ all.text
    → OwnedAnswers {X = Tables} (λ tables. tables) (Gives owners source) (Err fault) → IsUnowned paths fault why → IsOpened (HeadsOpen paths (Ok all)) (Err why)
unowned_opens paths all owners source (owned.Disk disk fault) why same text gives unowned =
    stopped_opens (HeadsOpen paths (Ok all)) (slice_get paths disk) (by_text fault) why unowned
    (λ other. text_opens paths all owners source (Err (owned.Disk disk fault)) (Stops (disk_message (slice_get paths disk) (by_text fault))) same text gives refl)
unowned_opens paths all owners source (owned.Load fault) why same text gives unowned =
    subst (λ (w : Refusal). IsOpened (HeadsOpen paths (Ok all)) (Err w)) (sym unowned)
    (λ other. text_opens paths all owners source (Err (owned.Load fault)) (Loaded (RefusedBy fault)) same text (gives.1 other) refl)

pub stack_loaded : (stack : Description) (devices : List DeviceSpec) (disks : List Disk) → stack.devices ≡ devices → stack.disks ≡ disks → IsSound (described devices disks) → StackGives (described devices disks) (SoundAs stack)
stack_loaded stack devices disks same also sound = (ap₂ described same also, sound)

-- listed disks hold what the images hold that agree with all reads
pub seen_disks : (IsSeen : Contents → Type 0) (paths before : List DiskPath) (held : Contents) → IsSeen held → paths ≡ before → AreSeen IsSeen paths (listed_disks before held)
seen_disks IsSeen paths before held seen same = record { held = held; seen = seen; same = λ disk sector. rw same refl }

-- a list of paths that is refused refuses the load
pub list_refused : (paths : Delivery) (held : Contents) (fault : LoadFault) → (fault.kind ≢ kinds.Memory → list_in (part_read Paths paths) ≡ Some (Err fault))
    → fault.kind ≢ kinds.Memory → ImagesOpen paths held (Loaded (RefusedBy fault))
list_refused paths held fault refused other = rw (refused other) refl

-- ---- a group that was loaded

-- PATHS still delivered the same list
pub listed_again : (read : PartRead) (listed after : List DiskPath) → list_in read ≡ Some (Ok listed) → after ≡ listed → list_in read ≡ Some (Ok after)
listed_again read listed after is same = rw same is

-- if the heads of a list opened a stack, the group was opened with it
pub list_opened : {P I : Type 0} (past : P → InputPast) (IsSeen : I → Contents → Type 0) (old new : GroupImages P I) (result : Result Description Refusal) → list_in (part_read Paths (delivery (past old.list) (past new.list))) ≡ Some (Ok new.disks.paths.items)
    → ((held : Contents) → IsSeen new.disks.images held → IsOpened (ImagesOpen (delivery (past old.list) (past new.list)) held) result) → IsReadOn (past old.list) (past new.list) → IfOk result (λ stack. AreImagesOpened past IsSeen stack old new)
list_opened past IsSeen old new (Ok stack) listed opened list = record { listed = listed; opened = opened; list = list }
list_opened past IsSeen old new (Err refusal) listed opened list = tt
