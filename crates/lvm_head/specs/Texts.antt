-- The metadata text in a metadata area.
use Rattle.lvm_head.specs.Base.{ℕ, zero, suc, not, List, [], Result, Ok, Err, length, take, nat_lt, slice_index, Area, Location, HeadFault, Header, Long, Text}
use Rattle.lvm_head.specs.Areas.{is_header, is_near, is_none, is_within, location_in, ring_place}
use Rattle.lvm_head.specs.Disks.{Sectors, ◌>>=◌, needed}
use Rattle.lvm_head.specs.Sums.{sum_of}
use Rattle.std.specs.Prelude.{◌-◌, ◌/◌, ◌%◌, ◌==◌, ◌∷◌, ◌++◌, if◌then◌else◌}

-- the byte at offset `place` of a disk, or a fault if the sector with that byte can't be read
abbrev pub byte_at : Sectors → (place : ℕ) → Result ℕ HeadFault
byte_at sectors place = needed (sectors (place / 512)) >>= (λ sector. Ok (slice_index sector (place % 512)))

-- the first `count` values of the function `byte` as a list, or the first fault among these values
unfoldable pub gathered : (ℕ → Result ℕ HeadFault) → (count : ℕ) → Result (List ℕ) HeadFault
gathered byte zero = Ok []
gathered byte (suc number) = gathered byte number >>= (λ bytes. byte number >>= (λ next. Ok (bytes ++ next ∷ [])))

abbrev pub ring_bytes : Sectors → (start : ℕ) → Location → (count : ℕ) → Result (List ℕ) HeadFault
ring_bytes sectors start location count = gathered (λ number. byte_at sectors (ring_place start location number)) count

abbrev pub last_byte : (bytes : List ℕ) → ℕ
last_byte bytes = slice_index bytes (length bytes - 1)

-- the text in the bytes of a location: without the NUL if the bytes end with one, or all of them if they end with a newline, else a fault
abbrev pub ended : (bytes : List ℕ) → Result (List ℕ) HeadFault
ended bytes = if last_byte bytes == 0 then Ok (take (length bytes - 1) bytes) else (if last_byte bytes == 10 then Ok bytes else Err Text)

-- the text at a location in the area that begins at byte `start` of the disk, [] if the location names no text, or a fault
abbrev pub text_at : Sectors → (start : ℕ) → Location → Result (List ℕ) HeadFault
text_at sectors start location =
    if is_none location then Ok []
    else (if not (is_within location) then Err Header
    else (if nat_lt 1048576 location.size then Err Long
    else (if location.size == 0 then Err Text
    else (ring_bytes sectors start location location.size >>= (λ bytes. if sum_of bytes == location.sum then ended bytes else Err Text)))))

-- the text of an area, whose header is in the area's first sector, or a fault
abbrev pub area_text : Sectors → Area → Result (List ℕ) HeadFault
area_text sectors area =
    if is_near area then (needed (sectors (area.start / 512)) >>= (λ header. if is_header area header then text_at sectors area.start (location_in header) else Err Header))
    else Err Header
