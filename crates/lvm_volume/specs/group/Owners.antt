-- Which disk image holds which physical volume: an image's header and a physical volume's section both have an id (format_text in lvm2).
use Rattle.lvm_volume.specs.Base.{ℕ, Bool, not, List, [], Option, Some, None, bytes_eq, codes, filter, find, map, nat_eq, option_map, slice_index_or, position_from, starts_with, zip, code, Tree, sections_of, DiskFault, Physical}
use Rattle.lvm_volume.specs.declared.group.owners.DiskFault.TheVariants.{Array, Foreign, Missing}
use Rattle.lvm_volume.specs.fields.Fields.{sections_at, text_at}
use Rattle.lvm_volume.specs.group.Group.{Group, Keyed, first_section, lists}
use Rattle.std.specs.Prelude.{◌+◌, ◌==◌, ◌&&◌, ◌||◌, ◌∷◌, if◌then◌else◌}

-- an id without dashes; the text has ids with dashes, and the header of an image has its id without them
unfoldable pub letters_of : (text : List ℕ) → List ℕ
letters_of text = filter (λ letter. not (letter == code "-")) text

-- the id of a physical volume without dashes, empty if its section has no id
abbrev pub id_in : Keyed → List ℕ
id_in physical = letters_of (text_at (codes "id") physical.1)

-- the physical volumes in a text, in order; `ids_of`, below, lists the ids of these volumes
abbrev pub physicals_of : Tree → List Keyed
physicals_of top = sections_at (codes "physical_volumes") (first_section (sections_of top.values)).1

abbrev pub ids_of : Tree → List (List ℕ)
ids_of top = map id_in (physicals_of top)

-- the ids in the headers of images, and the names of the disks in these images, in the same order
pub record Owners : Type 0 where
  pub ids : List (List ℕ)
  pub names : List (List ℕ)

-- the section of the physical volume with this id
abbrev pub section_of : List Keyed → (id : List ℕ) → Option Tree
section_of physicals id = option_map (λ physical. physical.1) (find (λ physical. bytes_eq id (id_in physical)) physicals)

-- according to the text, the physical volume was on an md array, and the disk has a name other than the array's device
abbrev pub lay_elsewhere : (name : List ℕ) → Tree → Bool
lay_elsewhere name physical = starts_with nat_eq (text_at (codes "device") physical) (codes "/dev/md") && not (bytes_eq (text_at (codes "device") physical) name)

-- why the disk can't be used for the physical volume whose id it carries; older releases of lvm2 wrote MISSING among the status
abbrev pub disk_fault : (name : List ℕ) → Option Tree → Option DiskFault
disk_fault name None = Some Foreign
disk_fault name (Some physical) = if lists (codes "flags") (codes "MISSING") physical || lists (codes "status") (codes "MISSING") physical then Some Missing else (if lay_elsewhere name physical then Some Array else None)

abbrev pub or_later : (disk : ℕ) → Option DiskFault → (later : Option (ℕ × DiskFault)) → Option (ℕ × DiskFault)
or_later disk (Some fault) later = Some (disk, fault)
or_later disk None later = later

-- the number of the first disk that can't be used, and the reason; `ids` are the ids of the disks from number `disk` on
unfoldable pub untaken : List Keyed → (names : List (List ℕ)) → (disk : ℕ) → (ids : List (List ℕ)) → Option (ℕ × DiskFault)
untaken physicals names disk [] = None
untaken physicals names disk (id ∷ later) = or_later disk (disk_fault (slice_index_or names disk []) (section_of physicals id)) (untaken physicals names (disk + 1) later)

-- the number of the first image with this id
abbrev pub owner_of : (owners : List (List ℕ)) → (id : List ℕ) → Option ℕ
owner_of owners id = position_from (λ owner. bytes_eq owner id) 0 owners

-- the name of the disk with this number, or `other` if there is none
abbrev pub name_at : (names : List (List ℕ)) → (other : List ℕ) → Option ℕ → List ℕ
name_at names other (Some disk) = slice_index_or names disk other
name_at names other None = other

abbrev pub name_by : Owners → (id other : List ℕ) → List ℕ
name_by owners id other = name_at owners.names other (owner_of owners.ids id)

-- a physical volume, renamed to the disk whose image has the given id, if there is one
abbrev pub owned : Owners → List ℕ × Physical → Physical
owned owners (id, physical) = record { disk = name_by owners id physical.disk; size = physical.size; start = physical.start; count = physical.count; line = physical.line }

-- physical volumes, each renamed to the disk whose image has the volume's id, if there is one
abbrev pub all_owned : Owners → (ids : List (List ℕ)) → List Physical → List Physical
all_owned owners ids physicals = map (owned owners) (zip ids physicals)

-- a group with its physical volumes, each renamed to the disk whose image has the volume's id, if there is one
abbrev pub owned_group : Owners → (ids : List (List ℕ)) → Group → Group
owned_group owners ids group = record { name = group.name; extent_size = group.extent_size; physicals = all_owned owners ids group.physicals; volumes = group.volumes }
