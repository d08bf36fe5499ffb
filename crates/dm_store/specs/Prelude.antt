-- Names that contracts of dm_store and of crates above it import, re-exported from one place.
pub use Rattle.dm_store.specs.Base.{AreRead, Chunk, Description, Err, Gap, GoOn, IfErr, IfNone, IfOk, IfSome, IsMemoryFault, IsSnapshot, IsWithinPlaces, List, ListFault, Listed, Magic, Missing, None, Ok, OnErr, OnOk, Order, Pair, Persistent, Range, ResolvedSnapshot, SectorFault, Some, Store, StoreFault, Transient, Unread, Version, [], find, four_at, home, is_same, is_some, length, map, name_at, none_taken, number_in, option_map, put, sector_in, slice_range, start_state, string_bytes, taken_at, true, with_chunk, with_looked, ℕ}
pub use Rattle.dm_store.specs.Fitting.{AlwaysFit, AlwaysHaveRows, AlwaysStart, Fit, IsLostInStore, IsStart}
pub use Rattle.dm_store.specs.ImageList.{image_in, images_of}
pub use Rattle.dm_store.specs.Images.{Contents, DiskContents, disk_contents, place_of, in_extent}
pub use Rattle.dm_store.specs.Layout.{area_count, pair_count, rest_count, row_sector}
pub use Rattle.dm_store.specs.Message.{fault_word, store_message}
pub use Rattle.dm_store.specs.Pairs.{Sectors, bytes_or_none, pair, pair_in}
unfoldable pub use Rattle.dm_store.specs.Pairs.{count_of, each, old_chunks}
pub use Rattle.dm_store.specs.Places.{Place}
pub use Rattle.dm_store.specs.ReadLog.{AgreesWith}
unfoldable pub use Rattle.dm_store.specs.ReadLog.{Agrees, given_total, path_total}
pub use Rattle.dm_store.specs.Reading.{HasRead, HasRows, IsPair, IsRowOf, IsStoreIn, IsStoreOf, Walked, next_fault, told, told_header, told_list}
pub use Rattle.dm_store.specs.Restart.{Ahead, AllKeepLists, AreAllFound, AreKept, AreListed, AreListsEnough, AreListsRead, AreListsSaid, Event, Gone, Held, HoldMore, IsAlwaysExact, IsAlwaysFound, IsFound, IsGone, IsOfTop, IsRestart, Lists, Loses, Plays, Spelled, Unused, after_event, kept, kept_in}
unfoldable pub use Rattle.dm_store.specs.Restart.{AreRestarts, after_events, kept_first}
pub use Rattle.dm_store.specs.Spelled.{AreClearFrom, IsClear, IsSpelled, IsUsed, ReadsBack, Spells}
pub use Rattle.dm_store.specs.Start.{if_listing, snapshot_store, start_of, store_at, store_if, store_sectors, stored_state, taken_if, taken_in, with_next}
unfoldable pub use Rattle.dm_store.specs.Start.{state_of_first}
pub use Rattle.dm_store.specs.Stored.{Fresh, Holds, Lost, Refused, Stored, are_zeros, by_header, clear_count, ended, ended_by, fault_of, is_clear, is_clear_in, is_listed, is_near, is_placed, list_count, list_fault, listed, of_count, of_list, rest_fault, stored}
unfoldable pub use Rattle.dm_store.specs.Stored.{is_any_again}
pub use Rattle.dm_store.specs.declared.asked.Asked.{Asked}
pub use Rattle.dm_store.specs.declared.fault.StoreRefusal.{StoreRefusal}
