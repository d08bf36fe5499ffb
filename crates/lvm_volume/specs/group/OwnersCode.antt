-- The code's values for ids, and for the disks whose images have these ids, as contracts see them.
use Rattle.lvm_volume.specs.Base.{ℕ, List, map}
use Rattle.lvm_volume.specs.declared.group.owners.Owners.{Owners as code}
use Rattle.lvm_volume.specs.group.Owners.{Owners, letters_of}
use denote.Ref.{Bor}

-- the ids in a text, without dashes
abbrev pub ids_view : List (Bor (List ℕ)) → List (List ℕ)
ids_view = map (λ id. letters_of id.now)

-- the ids in the headers of images, and the names of the disks in these images
abbrev pub owners_view : code → Owners
owners_view owners = record { ids = owners.ids.now; names = map (λ path. path.disk) owners.disks.now }
