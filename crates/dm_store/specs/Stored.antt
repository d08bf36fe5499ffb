-- What a store with given sectors holds, or why it is refused (the kernel's dm-snap-persistent).
use Rattle.dm_store.specs.Base.{ℕ, zero, suc, Bool, false, not, List, Option, Some, None, Result, Ok, Err, is_some, nat_lt, nat_le, Persistent, place, number_in, ListFault, Order, Range, Again, SectorFault, StoreFault, Unread, Magic, Version, Chunk, Gap, Listed, Pair, Store, four_at}
use Rattle.dm_store.specs.Pairs.{Sectors, pair, pair_in, each, count_of, old_chunks}
use Rattle.dm_store.specs.Layout.{row_sector, pair_count, rest_count}
use Rattle.std.specs.Prelude.{◌+◌, ◌/◌, ◌%◌, ◌==◌, ◌||◌, ◌&&◌, if◌then◌else◌}

-- what a store holds: nothing yet, a lost snapshot, the taken chunks in order, or a reason to refuse the store
pub data Stored : Type 0 where
  Fresh : Stored
  Lost : Stored
  Holds : (chunks : List ℕ) → Stored
  Refused : StoreFault → Stored

-- ---- the list

-- the pair is in use, because its store chunk isn't 0; the list ends before the first free pair
abbrev pub is_listed : Pair → Bool
is_listed pair = not (pair.new == 0)

-- the pair's store chunk is the one that belongs to its number, and the store has that chunk; all kinds of stores that keep a list have the same layout
abbrev pub is_placed : Store → (number : ℕ) → Pair → Bool
is_placed store number pair = nat_lt number store.places && (pair.new == place Persistent store.chunk number)

-- the pair's snapshot chunk is one that the snapshot's device has
abbrev pub is_near : Store → Pair → Bool
is_near store pair = nat_le pair.old store.last

-- one of the first `count` pairs repeats the snapshot chunk of an earlier one
unfoldable pub is_any_again : (ℕ → Pair) → (count : ℕ) → Bool
is_any_again pairs zero = false
is_any_again pairs (suc number) = is_any_again pairs number || is_some (number_in (pairs number).old (old_chunks pairs number))

-- the fault to report, if there is one: `Order` before `Range`, and `Range` before `Again`
abbrev pub fault_of : (placed near again : Bool) → Option ListFault
fault_of placed near again = if not placed then Some Order else (if not near then Some Range else (if again then Some Again else None))

-- why a list of the first `count` pairs is refused; None if it isn't
abbrev pub list_fault : Store → (ℕ → Pair) → (count : ℕ) → Option ListFault
list_fault store pairs count =
    fault_of (each (λ i. is_placed store i (pairs i)) count) (each (λ i. is_near store (pairs i)) count) (is_any_again pairs count)

-- what a list holds: its chunks or, if it has a fault, that the store is refused for that fault
abbrev pub of_list : Option ListFault → (chunks : List ℕ) → Stored
of_list (Some fault) chunks = Refused (Listed fault)
of_list None chunks = Holds chunks

-- both chunks of the pair are 0, as in the unused part of an area: a kernel clears an area first, and writes it as a whole
abbrev pub are_zeros : Pair → Bool
are_zeros pair = pair.old == 0 && pair.new == 0

-- the sector can be read, and the pair at this index in it is zero
abbrev pub is_clear_in : Result (List ℕ) SectorFault → (index : ℕ) → Bool
is_clear_in (Ok bytes) index = are_zeros (pair_in bytes index)
is_clear_in (Err fault) index = false

abbrev pub is_clear : Sectors → (chunk number : ℕ) → Bool
is_clear sectors chunk number = is_clear_in (sectors (row_sector chunk (number / 32))) (number % 32)

-- why a pair that should be zero isn't: its sector can't be read, or it has other numbers
abbrev pub rest_fault : Result (List ℕ) SectorFault → StoreFault
rest_fault (Ok bytes) = Gap
rest_fault (Err fault) = Unread fault

-- what a list of `count` pairs holds if `clear` zero pairs follow it: the store is refused unless these pairs reach the end of the area
abbrev pub ended_by : Sectors → (chunk count clear : ℕ) → (held : Stored) → Stored
ended_by sectors chunk count clear held =
    if clear == rest_count chunk count then held else Refused (rest_fault (sectors (row_sector chunk ((count + clear) / 32))))

-- how many consecutive zero pairs follow the list, up to the end of its metadata area
abbrev pub clear_count : Sectors → (chunk count : ℕ) → ℕ
clear_count sectors chunk count = count_of (λ i. is_clear sectors chunk (count + i)) (rest_count chunk count)

-- what a list of `count` pairs holds if it ends within an area
abbrev pub ended : Sectors → (chunk count : ℕ) → (held : Stored) → Stored
ended sectors chunk count held = ended_by sectors chunk count (clear_count sectors chunk count) held

-- the number of pairs in the list, which ends before the first free pair
abbrev pub list_count : Sectors → Store → ℕ
list_count sectors store = count_of (λ i. is_listed (pair sectors store.chunk i)) (pair_count store.chunk store.len)

-- what a list of `count` pairs holds; the store is refused unless the list fills all areas or the later pairs in its last area are zero
abbrev pub of_count : Sectors → Store → (count : ℕ) → Stored
of_count sectors store count =
    if count == pair_count store.chunk store.len then of_list (list_fault store (pair sectors store.chunk) count) (old_chunks (pair sectors store.chunk) count)
    else ended sectors store.chunk count (of_list (list_fault store (pair sectors store.chunk) count) (old_chunks (pair sectors store.chunk) count))

-- what the list of a store holds
abbrev pub listed : Sectors → Store → Stored
listed sectors store = of_count sectors store (list_count sectors store)

-- ---- the header

-- what a store holds, given the four numbers in its header; `used` is what its list holds
abbrev pub by_numbers : (used : Stored) → (in_table magic valid version chunk : ℕ) → Stored
by_numbers used in_table magic valid version chunk =
    if magic == 0 then Fresh
    else (if not (magic == 0x70416e53) then Refused Magic
    else (if not (version == 1) then Refused Version
    else (if not (chunk == in_table) then Refused Chunk
    else (if valid == 0 then Lost
    else used))))

-- what a store holds, given its header sector, which begins with magic, valid, version and chunk, 4 bytes each
abbrev pub by_header : (used : Stored) → (in_table : ℕ) → Result (List ℕ) SectorFault → Stored
by_header used in_table (Err fault) = Refused (Unread fault)
by_header used in_table (Ok header) = by_numbers used in_table (four_at header 0) (four_at header 4) (four_at header 8) (four_at header 12)

-- what a store with these sectors holds
abbrev pub stored : Sectors → Store → Stored
stored sectors store = by_header (listed sectors store) store.chunk (sectors 0)
