-- Stores that spell a list of chunks: a condition on a store's sectors alone, which is true exactly if `stored` returns that list.
use Rattle.dm_store.specs.Base.{ℕ, List, Ok, length, slice_index, Persistent, place, Store, four_at}
use Rattle.dm_store.specs.Fitting.{Fit}
use Rattle.dm_store.specs.Layout.{row_sector, pair_count, rest_count}
use Rattle.dm_store.specs.Pairs.{Sectors, pair, pair_in}
use Rattle.dm_store.specs.Stored.{Holds, stored}
use Rattle.std.specs.Prelude.{◌≡◌, ◌≢◌, ◌<◌, ◌≤◌, ◌⊎◌, ◌+◌, ◌/◌, ◌%◌}

-- the header of a store in use: the magic number, a valid snapshot, version 1, and the right chunk size
pub record IsUsed (chunk : ℕ) (header : List ℕ) : Type 0 where
  pub magic : four_at header 0 ≡ 0x70416e53
  pub valid : four_at header 4 ≢ 0
  pub version : four_at header 8 ≡ 1
  pub chunk_len : four_at header 12 ≡ chunk

-- the pair with this number can be read, and both of its chunks are 0
pub record IsClear (sectors : Sectors) (chunk number : ℕ) : Type 0 where
  pub row : List ℕ
  pub read : sectors (row_sector chunk (number / 32)) ≡ Ok row
  pub zeros : pair_in row (number % 32) ≡ record { old = 0; new = 0 }

-- the store's areas have room for more than `count` pairs, and all pairs from number `count` on to the end of its area are zero
pub record AreClearFrom (sectors : Sectors) (chunk store_len count : ℕ) : Type 0 where
  pub inside : count < pair_count chunk store_len
  pub clear : (i : ℕ) → i < rest_count chunk count → IsClear sectors chunk (count + i)

-- the sectors spell these chunks: a right header, a pair for each chunk with its place in the store, and then zero pairs to the end of the area, unless all areas are full
pub record Spells (sectors : Sectors) (store : Store) (chunks : List ℕ) : Type 0 where
  pub header : List ℕ
  pub begins : sectors 0 ≡ Ok header
  pub used : IsUsed store.chunk header
  pub pairs : (number : ℕ) → number < length chunks → pair sectors store.chunk number ≡ record { old = slice_index chunks number; new = place Persistent store.chunk number }
  pub ends : (length chunks ≡ pair_count store.chunk store.len) ⊎ AreClearFrom sectors store.chunk store.len (length chunks)
  pub fit : Fit store chunks
  pub near : (number : ℕ) → number < length chunks → slice_index chunks number ≤ store.last

-- reading a store returns the list that the store spells
abbrev pub ReadsBack : Store → Type 0
ReadsBack store = (sectors : Sectors) (chunks : List ℕ) → Spells sectors store chunks → stored sectors store ≡ Holds chunks

-- a store spells the list that reading the store returns
abbrev pub IsSpelled : Store → Type 0
IsSpelled store = (sectors : Sectors) (chunks : List ℕ) → stored sectors store ≡ Holds chunks → Spells sectors store chunks
