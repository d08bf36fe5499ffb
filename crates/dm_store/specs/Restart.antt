-- A restart: the power is cut during requests to top devices, and then the stores are read again.
use Rattle.dm_store.specs.Base.{ℕ, zero, suc, true, false, List, [], Option, Some, None, Result, Ok, length, AllByRecursion, Transient, ResolvedSnapshot, IsTidy, IsTop, Description, AreExact, HaveSameData, IsAmple, IsOfSnapshot, IsOwnAt, Moment, after_asked, played, take_chunks, Due, State, Taken, lost, none_taken, put, taken_at, snapshot_at, SectorFault, Store, Asked, four_at}
use Rattle.dm_store.specs.Fitting.{IsLostInStore}
use Rattle.dm_store.specs.Images.{DiskContents}
use Rattle.dm_store.specs.Pairs.{Sectors}
use Rattle.dm_store.specs.Spelled.{Spells}
use Rattle.dm_store.specs.Start.{store_at, store_sectors, stored_state}
use Rattle.std.specs.Prelude.{◌≡◌, ◌≢◌, ◌<◌, ◌∷◌, ◌++◌, if◌then◌else◌}

-- ---- what stores keep of a state

-- a header that marks the store's snapshot as lost: magic, version and chunk size are right, but the snapshot isn't valid
pub record IsGone (chunk : ℕ) (header : List ℕ) : Type 0 where
  pub magic : four_at header 0 ≡ 0x70416e53
  pub valid : four_at header 4 ≡ 0
  pub version : four_at header 8 ≡ 1
  pub chunk_len : four_at header 12 ≡ chunk

-- the store's sectors agree with what its snapshot took: they list the chunks, or are unused because it took none, or mark it as lost
pub data Lists (sectors : Sectors) (store : Store) (taken : Taken) : Type 0 where
  Spelled : taken.valid ≡ true → Spells sectors store taken.chunks → Lists sectors store taken
  Unused : (header : List ℕ) → sectors 0 ≡ Ok header → four_at header 0 ≡ 0 → taken ≡ none_taken → Lists sectors store taken
  Gone : (header : List ℕ) → sectors 0 ≡ Ok header → IsGone store.chunk header → taken.valid ≡ false → Lists sectors store taken

-- each store that keeps a list agrees with what its snapshot took
abbrev pub AreListed : Description → DiskContents → State → Type 0
AreListed stack disks state = (device : ℕ) (store : Store) → store_at stack device ≡ Some store → Lists (store_sectors stack disks store) store (taken_at state device)

-- what a restart reads back of a snapshot's entry: of a lost snapshot only that it is lost, and nothing if its store keeps no list
abbrev pub kept_in : Option Store → Taken → Taken
kept_in None taken = none_taken
kept_in (Some store) taken = if taken.valid then taken else lost none_taken

-- what a restart reads back of the entries of the first `count` devices
unfoldable pub kept_first : Description → State → (count : ℕ) → State
kept_first stack state zero = []
kept_first stack state (suc device) = kept_first stack state device ++ kept_in (store_at stack device) (taken_at state device) ∷ []

-- what a restart reads back of a state
abbrev pub kept : Description → State → State
kept stack state = kept_first stack state (length stack.devices)

-- each snapshot's store keeps a list, so no store is transient
abbrev pub AllKeepLists : Description → Type 0
AllKeepLists stack = (device : ℕ) (snapshot : ResolvedSnapshot) → snapshot_at stack device ≡ Some snapshot → snapshot.kind ≢ Transient

-- for each store that keeps a list, the entry in `found` is what a restart reads back of the entry in `left`
abbrev pub AreKept : Description → (left found : State) → Type 0
AreKept stack left found = (device : ℕ) (store : Store) → store_at stack device ≡ Some store → taken_at found device ≡ kept_in (Some store) (taken_at left device)

-- ---- what a power cut leaves

-- the bytes of a disk's sector, or why the sector can't be read
abbrev pub Held : Type 0
Held = Result (List ℕ) SectorFault

-- an event before a power cut: a request that was completed or halted; chunks that were taken before the writes that need them; or a snapshot that was lost, for any reason that a kernel has (a full store, an error, no memory, no room for the next area)
pub data Event : Type 0 where
  Plays : Asked Held → Event
  Ahead : (chunks : List Due) → Event
  Loses : (device : ℕ) → Event

-- the moment after one more event
abbrev pub after_event : (zeros : Held) → Description → Moment Held → Event → Moment Held
after_event zeros stack moment (Plays asked) = after_asked zeros stack moment asked
after_event zeros stack moment (Ahead chunks) = record {
  values = played zeros (λ sector. zeros) 0 (take_chunks stack chunks moment.state).units moment.values;
  state = (take_chunks stack chunks moment.state).state;
  rows = moment.rows;
}
after_event zeros stack moment (Loses device) = record { values = moment.values; state = put moment.state device (lost (taken_at moment.state device)); rows = moment.rows }

-- the moment after these events, in order
unfoldable pub after_events : (zeros : Held) → Description → Moment Held → List Event → Moment Held
after_events zeros stack moment [] = moment
after_events zeros stack moment (event ∷ later) = after_events zeros stack (after_event zeros stack moment event) later

-- a request is to a top device; chunks taken in advance belong to snapshots of the stack, and a lost snapshot is a device of the stack
abbrev pub IsOfTop : Description → Event → Type 0
IsOfTop stack (Plays asked) = IsTop stack asked.device
IsOfTop stack (Ahead chunks) = AllByRecursion (IsOfSnapshot stack) chunks
IsOfTop stack (Loses device) = device < length stack.devices

-- ---- restarts

-- `new` is the moment after a restart: some events and a power cut came after `old`, the lists agree with the state at the cut, the new state is what lists keep of it, and all sectors with data are unchanged
pub record IsRestart (zeros : Held) (stack : Description) (old new : Moment Held) : Type 0 where
  pub events : List Event
  pub tops : AllByRecursion (IsOfTop stack) events
  pub data_kept : HaveSameData stack new.state (after_events zeros stack old events).values new.values
  pub lists : AreListed stack new.values (after_events zeros stack old events).state
  pub state : new.state ≡ kept stack (after_events zeros stack old events).state
  pub rows : new.rows ≡ (after_events zeros stack old events).rows

-- the stores hold the moment's state, and each sector of a top device reads as in the device's row, or as an error
pub record IsFound (zeros : Held) (stack : Description) (moment : Moment Held) : Type 0 where
  pub found : stored_state stack moment.values ≡ Ok moment.state
  pub own : IsOwnAt zeros stack moment

-- if the lists agree with a state, reading the stores returns what a restart reads back of that state
abbrev pub AreListsRead : Description → Type 0
AreListsRead stack = (disks : DiskContents) (state : State) → AreListed stack disks state → stored_state stack disks ≡ Ok (kept stack state)

-- if reading the stores returns what a restart would read back of a state, the lists agree with that state
abbrev pub AreListsSaid : Description → Type 0
AreListsSaid stack = (disks : DiskContents) (left found : State) → stored_state stack disks ≡ Ok found → AreKept stack left found → AreListed stack disks left

-- each sector that can be read on `disks` can be read on `others`, with the same bytes
abbrev pub HoldMore : (disks others : DiskContents) → Type 0
HoldMore disks others = (disk sector : ℕ) (bytes : List ℕ) → disks disk sector ≡ Ok bytes → others disk sector ≡ Ok bytes

-- if the lists agree with a state, they still do on disks where more sectors can be read
abbrev pub AreListsEnough : Description → Type 0
AreListsEnough stack = (disks others : DiskContents) (state : State) → HoldMore disks others → AreListed stack disks state → AreListed stack others state

-- if no claims clash, then after a restart reading the stores returns the state, and each sector of a top device reads as in the device's row, or as an error
abbrev pub IsAlwaysFound : Description → Type 0
IsAlwaysFound stack = (zeros : Held) (old new : Moment Held) → IsTidy stack → AllKeepLists stack → IsOwnAt zeros stack old → IsRestart zeros stack old new → IsFound zeros stack new

-- if the stack is ample and no store marks its snapshot as lost, each sector of a top device reads as in the device's row after a restart
abbrev pub IsAlwaysExact : Description → Type 0
IsAlwaysExact stack = (zeros : Held) (moment : Moment Held) → IsAmple stack → IsFound zeros stack moment → ((device : ℕ) → IsLostInStore stack moment.values device → ⊥) → AreExact zeros stack moment.state moment.values moment.rows

-- each moment in the list is a possible result of a restart after the one before it
unfoldable pub AreRestarts : (zeros : Held) → Description → Moment Held → List (Moment Held) → Type 0
AreRestarts zeros stack old [] = Unit {0}
AreRestarts zeros stack old (new ∷ later) = IsRestart zeros stack old new × AreRestarts zeros stack new later

-- after any number of restarts, the stores hold the state, and each sector of a top device reads as in the device's row, or as an error
abbrev pub AreAllFound : Description → Type 0
AreAllFound stack = (zeros : Held) (first : Moment Held) (later : List (Moment Held)) → IsTidy stack → AllKeepLists stack → IsOwnAt zeros stack first → AreRestarts zeros stack first later → AllByRecursion (IsFound zeros stack) later
