-- The label of a physical volume, and the physical volume's header in the same sector (label_header and pv_header in lvm2).
use Rattle.lvm_head.specs.Base.{ℕ, Bool, not, List, Option, Some, None, Result, Ok, Err, length, map, nat_le, slice_index, slice_range, range_with_len, slice_split, Area, ReadFault, HeadFault, Array, Header, Label, Partitions, Unread, eight_at, four_at}
use Rattle.lvm_head.specs.Disks.{Sectors, ◌>>=◌, needed}
use Rattle.lvm_head.specs.FirstFound.{first_found}
use Rattle.lvm_head.specs.Sums.{sum_of}
use Rattle.std.specs.Prelude.{◌+◌, ◌*◌, ◌-◌, ◌/◌, ◌%◌, ◌==◌, ◌&&◌, ◌||◌, ◌∷◌, if◌then◌else◌}

-- ---- disks that aren't physical volumes as a whole

-- the partition table entry at offset `at` is valid: its first byte is 0 or 0x80
abbrev pub is_entry : (sector : List ℕ) → (at : ℕ) → Bool
is_entry sector at = slice_index sector at % 128 == 0

-- the partition table entry at offset `at` describes a partition: its number of sectors isn't 0
abbrev pub has_sectors : (sector : List ℕ) → (at : ℕ) → Bool
has_sectors sector at = not (four_at sector (at + 12) == 0)

-- the first sector of a disk contains a partition table: 55 AA at its end, and four valid entries, at least one of which has sectors
abbrev pub is_partitioned : (sector : List ℕ) → Bool
is_partitioned sector =
    (slice_index sector 510 == 0x55) && (slice_index sector 511 == 0xAA)
    && is_entry sector 446 && is_entry sector 462 && is_entry sector 478 && is_entry sector 494
    && (has_sectors sector 446 || has_sectors sector 462 || has_sectors sector 478 || has_sectors sector 494)

-- the sector begins with the magic number of the superblock that a member of an md array has
abbrev pub is_member : (sector : List ℕ) → Bool
is_member sector = four_at sector 0 == 0xA92B4EFC

-- the disk has no partitions and isn't a member of an md array; the superblock of a member is in sector 0 (version 1.1) or 8 (version 1.2)
abbrev pub undivided : Sectors → Result (Unit {0}) HeadFault
undivided sectors =
    needed (sectors 0) >>= (λ first. if is_partitioned first then Err Partitions
    else (needed (sectors 8) >>= (λ later. if is_member first || is_member later then Err Array else Ok tt)))

-- ---- the label

-- the offset in the label's sector at which the physical volume's header begins, in bytes
abbrev pub header_at : (label : List ℕ) → ℕ
header_at label = four_at label 20

-- the sector begins with `LABELONE`
abbrev pub is_named : (sector : List ℕ) → Bool
is_named sector = eight_at sector 0 == 0x454E4F4C4542414C

-- lvm2 regards the sector as a label: it contains `LVM2 001` and, if it begins with `LABELONE`, also its own number and the right checksum of all bytes after the checksum
abbrev pub is_taken : (place : ℕ) → (sector : List ℕ) → Bool
is_taken place sector =
    (eight_at sector 24 == 0x31303020324D564C) && (not (is_named sector) || ((eight_at sector 8 == place) && (four_at sector 16 == sum_of (slice_range sector 20 512))))

-- a sector that lvm2 regards as a label is valid: it begins with `LABELONE`, and the header comes after the label, with room for at least 40 bytes
abbrev pub is_sound : (sector : List ℕ) → Bool
is_sound sector = is_named sector && nat_le 32 (header_at sector) && nat_le (header_at sector) 472

-- what the search for the label finds in sector `place`: None if the sector isn't a label, else the label or a fault
abbrev pub label_in : (place : ℕ) → Result (List ℕ) ReadFault → Option (Result (List ℕ) HeadFault)
label_in place (Ok sector) = if is_taken place sector then Some (if is_sound sector then Ok sector else Err Label) else None
label_in place (Err fault) = Some (Err Unread)

abbrev pub or_no_label : Option (Result (List ℕ) HeadFault) → Result (List ℕ) HeadFault
or_no_label (Some found) = found
or_no_label None = Err Label

-- the label of a disk: the first of sectors 0 to 3 that lvm2 regards as a label
abbrev pub label_of : Sectors → Result (List ℕ) HeadFault
label_of sectors = or_no_label (first_found (λ place. label_in place (sectors place)) 4)

-- ---- the header: the physical volume's id, and lists of areas

abbrev pub id_of : (label : List ℕ) → List ℕ
id_of label = slice_range label (header_at label) (header_at label + 32)

-- pair number `number` in the header's lists: the start and the size of an area, both in bytes
abbrev pub area_at : (label : List ℕ) → (number : ℕ) → Area
area_at label number = record { start = eight_at label (header_at label + 40 + 16 * number); size = eight_at label (header_at label + 48 + 16 * number) }

-- all pairs of the header's lists: as many as fit between the header's fixed part and the end of the sector
abbrev pub pairs_of : (label : List ℕ) → List Area
pairs_of label = map (area_at label) (range_with_len 0 ((472 - header_at label) / 16))

-- the metadata areas, at most two: the second list in the header, after the list of data areas; a pair with start 0 must end each of the two lists
abbrev pub areas_in : (lists : List (List Area)) → Result (List Area) HeadFault
areas_in (data_areas ∷ areas ∷ rest ∷ more) = if nat_le (length areas) 2 then Ok areas else Err Header
areas_in _ = Err Header

abbrev pub areas_of : (label : List ℕ) → Result (List Area) HeadFault
areas_of label = areas_in (slice_split (λ area. area.start == 0) (pairs_of label))
