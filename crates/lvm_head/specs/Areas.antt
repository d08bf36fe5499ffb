-- A metadata area: its header, and where the text is in the ring buffer that follows the header (mda_header and raw_locn in lvm2's format_text).
use Rattle.lvm_head.specs.Base.{ℕ, Bool, List, nat_le, nat_lt, slice_range, Area, Location, eight_at, four_at}
use Rattle.lvm_head.specs.Sums.{sum_of}
use Rattle.std.specs.Prelude.{◌+◌, ◌-◌, ◌%◌, ◌==◌, ◌&&◌, ◌||◌, if◌then◌else◌}

-- the area begins on a sector boundary, and its start and its size in bytes are at most 2^57
abbrev pub is_near : Area → Bool
is_near area = (area.start % 512 == 0) && nat_le area.start 0x200000000000000 && nat_le area.size 0x200000000000000

-- the sector is a valid header of the area: the checksum of all bytes after the checksum, ` LVM2 x[5A%r0N*>`, version 1, the area's start, and at most the area's size
abbrev pub is_header : Area → (bytes : List ℕ) → Bool
is_header area bytes =
    (four_at bytes 0 == sum_of (slice_range bytes 4 512)) && (eight_at bytes 4 == 0x5B7820324D564C20) && (eight_at bytes 12 == 0x3E2A4E3072254135)
    && (four_at bytes 20 == 1) && (eight_at bytes 24 == area.start) && nat_le (eight_at bytes 32) area.size

-- where the current metadata text is, by the first location in an area's header; all offsets count from the start of the area
abbrev pub location_in : (bytes : List ℕ) → Location
location_in bytes = record { ring = eight_at bytes 32; offset = eight_at bytes 40; size = eight_at bytes 48; sum = four_at bytes 56; flags = four_at bytes 60 }

-- the location names no text, because the area is to be ignored or contains no text yet
abbrev pub is_none : Location → Bool
is_none location = (location.flags % 2 == 1) || (location.offset == 0)

-- the text begins inside the ring buffer, after the header, and is no longer than the ring buffer
abbrev pub is_within : Location → Bool
is_within location = nat_le 512 location.offset && nat_lt location.offset location.ring && nat_le (location.size + 512) location.ring

-- where byte `number` of a text is on the disk, in bytes; a text that reaches the end of the ring buffer continues at the ring buffer's start
abbrev pub ring_place : (start : ℕ) → Location → (number : ℕ) → ℕ
ring_place start location number =
    if nat_lt (location.offset + number) location.ring then start + (location.offset + number) else start + (location.offset + number - location.ring + 512)
