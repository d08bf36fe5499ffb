-- Properties of the state that is read from exception stores.
use Rattle.dm_store.specs.Base.{ℕ, false, List, Some, Ok, length, nat_eq, IsDistinct, Description, AreExact, IsAmple, IsIntact, TookOwn, Values, AreOwn, rows_in, IsFitting, State, taken_at, Store}
use Rattle.dm_store.specs.Images.{DiskContents}
use Rattle.dm_store.specs.Pairs.{Sectors}
use Rattle.dm_store.specs.Start.{store_at, store_sectors, stored_state}
use Rattle.dm_store.specs.Stored.{Holds, Lost, stored}
use Rattle.std.specs.Prelude.{◌≡◌, ◌≤◌, ◌↔◌}

-- the store has room for all these chunks, and no chunk is listed twice
pub record Fit (store : Store) (chunks : List ℕ) : Type 0 where
  pub places : length chunks ≤ store.places
  pub once : IsDistinct nat_eq chunks

-- whatever the store's sectors contain, it has room for the chunks that are read from it, and none of them is listed twice
abbrev pub AlwaysFit : Store → Type 0
AlwaysFit store = (sectors : Sectors) (chunks : List ℕ) → stored sectors store ≡ Holds chunks → Fit store chunks

-- ---- the state that a stack's stores hold

-- the device is a snapshot whose store keeps a list, and the store marks the snapshot as lost
pub record IsLostInStore (stack : Description) (disks : DiskContents) (device : ℕ) : Type 0 where
  pub store : Store
  pub of : store_at stack device ≡ Some store
  pub says : stored (store_sectors stack disks store) store ≡ Lost

-- the state was read from the stores, and requests can go on from it
pub record IsStart (stack : Description) (disks : DiskContents) (state : State) : Type 0 where
  -- the stack can be in this state
  pub fits : IsFitting stack state
  -- each snapshot took only chunks that its device has, and no chunk twice
  pub chunks : TookOwn stack state
  -- a snapshot is lost exactly if its store marks it as lost
  pub lost : (device : ℕ) → ((taken_at state device).valid ≡ false) ↔ IsLostInStore stack disks device
  -- if no store marks its snapshot as lost, no snapshot is lost
  pub intact : ((device : ℕ) → IsLostInStore stack disks device → ⊥) → IsIntact stack state

-- whatever the disks contain, a state that is read from them without a refusal has all properties of `IsStart`
abbrev pub AlwaysStart : Description → Type 0
AlwaysStart stack = (disks : DiskContents) (state : State) → stored_state stack disks ≡ Ok state → IsStart stack disks state

-- ---- what devices read as after the stores are read

-- in a state read from the stores, each top device reads as its row at that moment and, if the stack is ample and no store marks its snapshot as lost, without errors
pub record AlwaysHaveRows (V : Type 0) (stack : Description) : Type 0 where
  pub own : (zeros : V) (values : Values V) (disks : DiskContents) (state : State) → stored_state stack disks ≡ Ok state → AreOwn zeros stack state values (rows_in zeros stack state values)
  pub exact : (zeros : V) (values : Values V) (disks : DiskContents) (state : State) → IsAmple stack → ((device : ℕ) → IsLostInStore stack disks device → ⊥) → stored_state stack disks ≡ Ok state
      → AreExact zeros stack state values (rows_in zeros stack state values)
