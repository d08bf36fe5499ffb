-- Examples of a store's sectors that check the definitions, worked out by hand.
use Rattle.dm_store.proofs.Prelude.{ℕ, zero, suc, List, [], Result, Ok, Err, refl, Disk, SectorFault, Unread, Gap, Listed, Order, Store, area_count, row_sector, Sectors, count_of, each, old_chunks, Fresh, Lost, Holds, Refused, is_any_again, stored, Missing}
use Rattle.dm_table.specs.io.LittleEndian.{eight_at, four_at}
use Rattle.std.specs.Prelude.{◌≡◌, ◌∷◌, ◌++◌}

-- chunks of one sector, with room for two areas: the header, area 0, 32 places, area 1, and 29 places
abbrev store : Store
store = record { lower = Disk 0; chunk = 1; len = 64; places = 61; last = 99 }

areas : area_count 1 64 ≡ 2
areas = refl

second_area : row_sector 1 1 ≡ 34
second_area = refl

-- the header of the store: SnAp, valid, version 1, chunks of 1 sector
abbrev pub header : (valid : ℕ) → List ℕ
header valid = 83 ∷ 110 ∷ 65 ∷ 112 ∷ valid ∷ 0 ∷ 0 ∷ 0 ∷ 1 ∷ 0 ∷ 0 ∷ 0 ∷ 1 ∷ 0 ∷ 0 ∷ 0 ∷ []

-- a pair of chunk numbers below 256, as bytes
abbrev pub entry : (old new : ℕ) → List ℕ
entry old new = old ∷ 0 ∷ 0 ∷ 0 ∷ 0 ∷ 0 ∷ 0 ∷ 0 ∷ new ∷ 0 ∷ 0 ∷ 0 ∷ 0 ∷ 0 ∷ 0 ∷ 0 ∷ []

-- three pairs in use, and a free one
abbrev rows : List ℕ
rows = entry 7 2 ++ entry 0 3 ++ entry 99 4 ++ entry 0 0

-- a store with this header and area 0, whose other sectors are missing; its list ends before area 1
abbrev of_sectors : (header : List ℕ) → (area : Result (List ℕ) SectorFault) → Sectors
of_sectors header area zero = Ok header
of_sectors header area (suc zero) = area
of_sectors header area sector = Err Missing

holds : stored (of_sectors (header 1) (Ok rows)) store ≡ Holds (7 ∷ 0 ∷ 99 ∷ [])
unfolding count_of each eight_at four_at is_any_again old_chunks
holds = refl

-- a header that isn't valid means a lost snapshot, whatever is in the list
lost : stored (of_sectors (header 0) (Ok rows)) store ≡ Lost
unfolding count_of each eight_at four_at is_any_again old_chunks
lost = refl

-- a header that is all zeros means that nothing was written yet
fresh : stored (of_sectors (0 ∷ 0 ∷ 0 ∷ 0 ∷ []) (Err Missing)) store ≡ Fresh
unfolding count_of each eight_at four_at is_any_again old_chunks
fresh = refl

-- the sector with the first pair is missing
unread : stored (of_sectors (header 1) (Err Missing)) store ≡ Refused (Unread Missing)
unfolding count_of each eight_at four_at is_any_again old_chunks
unread = refl

-- a pair that isn't in its place
misplaced : stored (of_sectors (header 1) (Ok (entry 7 2 ++ entry 0 4 ++ entry 0 0))) store ≡ Refused (Listed Order)
unfolding count_of each eight_at four_at is_any_again old_chunks
misplaced = refl

-- a pair after the end of the list
gap : stored (of_sectors (header 1) (Ok (entry 7 2 ++ entry 0 0 ++ entry 99 4))) store ≡ Refused Gap
unfolding count_of each eight_at four_at is_any_again old_chunks
gap = refl
