-- The contents of image files, and of the disks in them.
use Rattle.dm_store.specs.Base.{ℕ, List, Option, Some, None, Result, Ok, Err, nat_lt, slice_index_or, SectorFault, Missing, Read, Extent}
use Rattle.dm_table.specs.declared.io.sectors.ReadFault.{ReadFault}
use Rattle.dm_store.specs.Places.{Place}
use Rattle.dm_store.specs.Pairs.{Sectors}
use Rattle.std.specs.Prelude.{◌+◌, if◌then◌else◌}

-- the bytes of each sector of each image, or why the sector can't be read; an image is identified by the number of its line in the list and by its path
abbrev pub Contents : Type 0
Contents = (line : ℕ) → (path : List ℕ) → (sector : ℕ) → Result (List ℕ) ReadFault

-- the sectors of an extent of an image; none past the end of the extent can be read
abbrev pub in_extent : Extent → (image : ℕ → Result (List ℕ) ReadFault) → (sector : ℕ) → Result (List ℕ) ReadFault
in_extent extent image sector = if nat_lt sector extent.len then image (extent.start + sector) else Err (record {})

-- the bytes of each sector of each disk, or why the sector can't be read
abbrev pub DiskContents : Type 0
DiskContents = (disk : ℕ) → Sectors

-- the result of reading a sector of an image, as the result of reading a sector of a disk
abbrev pub on_disk : Result (List ℕ) ReadFault → Result (List ℕ) SectorFault
on_disk (Ok bytes) = Ok bytes
on_disk (Err fault) = Err Read

-- the result of reading a sector of the disk at this place in an image; missing if the disk is in no image
abbrev pub in_image : Contents → Option Place → Sectors
in_image held (Some place) sector = on_disk (in_extent place.extent (held place.line place.path) sector)
in_image held None sector = Err Missing

-- the place of the disk with this id in an image; None if it is in no image
abbrev pub place_of : List (Option Place) → (disk : ℕ) → Option Place
place_of places disk = slice_index_or places disk None

-- the contents of disks at these places, if images have the contents `held`
abbrev pub disk_contents : List (Option Place) → Contents → DiskContents
disk_contents places held disk sector = in_image held (place_of places disk) sector
