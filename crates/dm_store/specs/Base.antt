-- Names of std and of lower crates that the specs of dm_store import, re-exported from one place.
pub use Rattle.dm_map.specs.Prelude.{AreExact, AreOwn, Asked, Due, GoOn, HaveSameData, IsAmple, IsFitting, IsIntact, IsOfSnapshot, IsOwnAt, IsWithinPlaces, Moment, State, Taken, TookOwn, Values, after_asked, has_room, home, lost, none_taken, number_in, put, rows_in, snapshot_at, start_state, taken_at, with_chunk, with_looked}
unfoldable pub use Rattle.dm_map.specs.Prelude.{played, take_chunks}
pub use Rattle.dm_stack.specs.Prelude.{Description, IsMemoryFault, IsSnapshot, IsStore, IsTidy, IsTop, device_len, first_fault, is_same, lower_len, name_at, path_faults, place, place_count, unless}
pub use Rattle.dm_stack.specs.declared.lines.resolved_line.ResolvedSnapshot.{ResolvedSnapshot}
pub use Rattle.dm_store.specs.declared.fault.ListFault.{ListFault}
pub use Rattle.dm_store.specs.declared.fault.ListFault.TheVariants.{Again, Order, Range}
pub use Rattle.dm_store.specs.declared.fault.SectorFault.{SectorFault}
pub use Rattle.dm_store.specs.declared.fault.SectorFault.TheVariants.{Missing, Read}
pub use Rattle.dm_store.specs.declared.fault.StoreFault.{StoreFault}
pub use Rattle.dm_store.specs.declared.fault.StoreFault.TheVariants.{Chunk, Gap, Listed, Magic, Unread, Version}
pub use Rattle.dm_store.specs.declared.pair.Pair.{Pair}
pub use Rattle.dm_store.specs.declared.store.Store.{Store}
pub use Rattle.dm_table.specs.Std.{AllByRecursion, Bool, Err, IfErr, IfNone, IfOk, IfSome, List, None, Ok, OnErr, OnOk, Option, Result, Some, [], codes, drop, false, find, is_some, length, map, nat_eq, nat_le, nat_lt, not, option_map, slice_index, slice_index_or, slice_range, string_bytes, suc, take, true, zero, ℕ}
unfoldable pub use Rattle.dm_table.specs.Std.{IsDistinct}
pub use Rattle.dm_table.specs.declared.tables.table.StoreKind.TheVariants.{Persistent, Transient}
pub use Rattle.dm_table.specs.io.LittleEndian.{eight_at, four_at}
pub use Rattle.dm_table.specs.io.Sectors.{AreRead, sector_in}
pub use Rattle.dm_table.specs.Prelude.{Extent}
