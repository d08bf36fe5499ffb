-- The state that a run starts in if exception stores are read: PATHS names the images of the disks, and the images hold the stores.
use Rattle.dmremap.specs.Base.{List, Option, None, Some, Result, Ok, Err, LoadFault, Paths, DiskPath, Delivery, load_message, PartRead, TextOf, Refuses, Unread, part_read, read_paths, Description, name_at, State, refused_ending, Place, Contents, disk_contents, images_of, store_message, stored_state, Refusal, Done}
use Rattle.dm_store.specs.declared.fault.StoreRefusal.{StoreRefusal}
use Rattle.dmremap.specs.declared.prepared.Prepared.{Prepared}
use Rattle.dmremap.specs.declared.exit.Refusal.TheVariants as refusals
use Rattle.dmremap.specs.declared.status.TheConstants.{STATUS_MEMORY}
use Rattle.dmremap.specs.Exit.{refusal_message, refusal_status}
use Rattle.dmremap.specs.Load.{SoundAs}
use Rattle.dmremap.specs.Opening.{Loaded, Opening}
use Rattle.dmremap.specs.Whole as start
use Rattle.dmremap.specs.Whole.{Start}
use Rattle.std.specs.Prelude.{◌≡◌, ◌≢◌, ◌⊎◌}

-- ---- the list of paths

-- the places of a stack's disks in images, according to a list of paths, or the fault of the list
abbrev pub images_by : Description → Result (List DiskPath) LoadFault → Result (List (Option Place)) LoadFault
images_by stack (Ok paths) = images_of stack paths
images_by stack (Err fault) = Err fault

-- the places of a stack's disks in images, according to PATHS, or a fault; None if the delivered bytes don't determine either
abbrev pub images_in : Description → PartRead → Option (Result (List (Option Place)) LoadFault)
images_in stack (TextOf text) = Some (images_by stack (read_paths text))
images_in stack (Refuses fault) = Some (Err fault)
images_in stack Unread = None

-- ---- exception stores

-- how a stack starts: in the state that its exception stores hold, or refused with a message about the first store that is bad
abbrev pub start_at : Description → Result State StoreRefusal → Start
start_at stack (Ok state) = start.Begins state
start_at stack (Err refusal) = start.Refuses (store_message (name_at stack refusal.snapshot) refusal.fault)

-- how a stack starts, given the places of its disks in images, and the contents of the images
abbrev pub start_over : Contents → Description → Option (Result (List (Option Place)) LoadFault) → Start
start_over held stack (Some (Ok images)) = start_at stack (stored_state stack (disk_contents images held))
start_over held stack (Some (Err fault)) = start.Refuses (load_message fault)
start_over held stack None = start.Unsettled

-- how a stack starts, given the bytes that PATHS delivered; without PATHS no exception store is read
abbrev pub stored_start : (paths : Option Delivery) → Contents → Description → Start
stored_start (Some paths) held stack = start_over held stack (images_in stack (part_read Paths paths))
stored_start None held stack = start.fresh_start stack

-- ---- the order of reads

-- images are read only if PATHS names the images of the stack's disks
abbrev pub AreImagesAsked : {X : Type 0} → Description → (paths : Option Delivery) → (old new : X) → Type 0
AreImagesAsked stack (Some paths) old new = (new ≡ old) ⊎ ((images : List (Option Place)) × images_in stack (part_read Paths paths) ≡ Some (Ok images))
AreImagesAsked stack None old new = new ≡ old

-- PATHS is read only after a load gave a stack, and images are read only after PATHS was accepted
pub record ReadInTurn {X Y : Type 0} (Opens : Opening → Type 0) (paths : Option Delivery) (paths_old paths_new : X) (images_old images_new : Y) : Type 0 where
  pub paths_asked : (paths_new ≡ paths_old) ⊎ ((stack : Description) × Opens (Loaded (SoundAs stack)))
  pub images_asked : (images_new ≡ images_old) ⊎ ((stack : Description) × Opens (Loaded (SoundAs stack)) × AreImagesAsked stack paths images_old images_new)

-- ---- how a run begins

-- how a run begins: in the state that earlier requests left, or refused for a bad start or a fault in earlier requests; running out of memory is always allowed
abbrev pub IsBegunAt : Description → (before : Option Delivery) → Start → Result Prepared Refusal → Type 0
IsBegunAt stack before at (Ok prepared) =
    (state : State) × (at ≡ start.Begins state) × ((start.earlier_from state stack before).ending ≡ Some Done) × (prepared.mapper.state ≡ (start.earlier_from state stack before).state)
IsBegunAt stack before at (Err (refusals.Earlier fault)) = (state : State) × (at ≡ start.Begins state) × ((start.earlier_from state stack before).ending ≡ Some (refused_ending fault))
IsBegunAt stack before at (Err refusal) = refusal_status refusal ≢ STATUS_MEMORY → at ≡ start.Refuses (refusal_message refusal)
