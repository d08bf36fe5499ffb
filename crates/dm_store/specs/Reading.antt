-- What is known while a store is read.
use Rattle.dm_store.specs.Base.{ℕ, Bool, true, not, List, Option, Some, None, Result, Ok, Err, length, nat_lt, IsStore, Description, lower_len, has_room, ListFault, Order, Range, Again, SectorFault, StoreFault, Pair, Store, sector_in}
use Rattle.dm_store.specs.declared.header.Header.{Header}
use Rattle.dm_store.specs.declared.header.Header.TheVariants as headers
use Rattle.dm_store.specs.declared.row_range.RowRange.{RowRange}
use Rattle.dm_store.specs.Layout.{row_sector}
use Rattle.dm_store.specs.Pairs.{Sectors, pair, pair_in, each, old_chunks}
use Rattle.dm_store.specs.Stored.{Stored, Fresh, Lost, Refused, is_listed, list_fault}
use Rattle.std.specs.Prelude.{◌≡◌, ◌+◌, ◌/◌, ◌%◌, ◌<◌, ◌≤◌, ◌^◌, if◌then◌else◌}

-- the stack allows this store, and the store's length in sectors is right and at least one
pub record IsStoreIn (stack : Description) (store : Store) : Type 0 where
  pub lower : IsStore stack store.lower
  pub some : 1 ≤ store.len
  pub len : store.len ≡ lower_len stack store.lower
  pub short : store.len ≤ 2 ^ 50

-- this store is that of the snapshot `device`, and has the right number of places
pub record IsStoreOf (stack : Description) (device : ℕ) (store : Store) : Type 0 where
  pub there : device < length stack.devices
  pub lies : IsStoreIn stack store
  pub room : (number : ℕ) → nat_lt number store.places ≡ has_room stack device number

-- ---- the fault of a list, found pair by pair

-- the fault of the list after one more pair: the fault so far or, if there is none, `Again` if the pair repeats a chunk
abbrev pub next_again : (again : Bool) → Option ListFault → Option ListFault
next_again again (Some fault) = Some fault
next_again again None = if again then Some Again else None

abbrev pub next_near : (near again : Bool) → Option ListFault → Option ListFault
next_near near again (Some Order) = Some Order
next_near near again fault = if not near then Some Range else next_again again fault

abbrev pub next_fault : (placed near again : Bool) → Option ListFault → Option ListFault
next_fault placed near again fault = if not placed then Some Order else next_near near again fault

-- ---- rows

-- the block contains these rows of the list, as read from their sectors
abbrev pub HasRows : Sectors → (chunk : ℕ) → RowRange → (block : List ℕ) → Type 0
HasRows sectors chunk rows block = (i : ℕ) → i < rows.count → sectors (row_sector chunk (rows.first + i)) ≡ Ok (sector_in block i)

-- this is the pair with this number in the list, taken from the row that contains it
pub record IsPair (sectors : Sectors) (chunk number : ℕ) (pair : Pair) : Type 0 where
  pub row : List ℕ
  pub read : sectors (row_sector chunk (number / 32)) ≡ Ok row
  pub is : pair ≡ pair_in row (number % 32)

-- after an attempt to read the pair with this number: the block contains the rows `new`, and the pair is the right one; or the pair's sector can't be read, because of this fault
abbrev pub HasRead : Sectors → (chunk number : ℕ) → (old : RowRange) → (had : List ℕ) → Result Pair SectorFault → (new : RowRange) → (has : List ℕ) → Type 0
HasRead sectors chunk number old had (Ok pair) new has = HasRows sectors chunk old had → HasRows sectors chunk new has × IsPair sectors chunk number pair
HasRead sectors chunk number old had (Err fault) new has = sectors (row_sector chunk (number / 32)) ≡ Err fault

-- the row is in this range of rows
abbrev pub IsRowOf : RowRange → (row : ℕ) → Type 0
IsRowOf rows row = (rows.first ≤ row) × (row < rows.first + rows.count)

-- ---- the results of the reader as definitions use them

-- what a store holds, given the reader's result for its list: `held`, or that the store is refused with the reader's fault
abbrev pub told_list : Result (Unit {0}) StoreFault → (held : Stored) → Stored
told_list (Ok done) held = held
told_list (Err fault) held = Refused fault

-- what a store holds, given the reader's result for its header; `used` is what its list says
abbrev pub told_header : (used : Stored) → Result Header StoreFault → Stored
told_header used (Ok headers.Fresh) = Fresh
told_header used (Ok headers.Lost) = Lost
told_header used (Ok headers.Used) = used
told_header used (Err fault) = Refused fault

-- the result of the reader: the value `reached` if it succeeded, or else its fault
abbrev pub told : {X F : Type 0} → Result (Unit {0}) F → X → Result X F
told (Ok done) reached = Ok reached
told (Err fault) reached = Err fault

-- what is known after the first `number` pairs of the list: all are in use, and either the list has a fault so far or `chunks` are those taken
pub record Walked (sectors : Sectors) (store : Store) (number : ℕ) (fault : Option ListFault) (chunks : List ℕ) : Type 0 where
  pub so_far : each (λ i. is_listed (pair sectors store.chunk i)) number ≡ true
  pub faulty : fault ≡ list_fault store (pair sectors store.chunk) number
  pub taken : fault ≡ None → chunks ≡ old_chunks (pair sectors store.chunk) number
