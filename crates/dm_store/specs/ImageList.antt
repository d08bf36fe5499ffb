-- The image file in which each disk of a stack is, given a list of paths.
use Rattle.dm_store.specs.Base.{ℕ, List, Option, Result, find, map, option_map, first_fault, unless, Description, is_same, path_faults}
use Rattle.dm_table.specs.declared.load.load_fault.LoadFault.{LoadFault}
use Rattle.dm_table.specs.declared.tables.disk_path.DiskPath.{DiskPath}
use Rattle.dm_store.specs.Places.{Place}

-- the image of the disk with this name; None if the list has no path for the disk
abbrev pub image_in : List DiskPath → (name : List ℕ) → Option Place
image_in paths name = option_map (λ path. record { line = path.at.number; path = path.file; extent = path.extent }) (find (λ path. is_same path.disk name) paths)

-- the image of each disk of a stack, in the order of the disks' ids; or the first fault of the list
abbrev pub images_of : Description → List DiskPath → Result (List (Option Place)) LoadFault
images_of stack paths = unless (first_fault (path_faults stack paths)) (map (λ disk. image_in paths disk.name) stack.disks)
