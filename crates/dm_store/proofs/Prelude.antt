-- Names and lemmas that the proofs of dm_store import, gathered in one module.
pub use Rattle.dm_map.proofs.ChunkTaking.{none_at, none_of, taken_same}
pub use Rattle.dm_map.proofs.NeverLost.{chunk_inside, exact}
pub use Rattle.dm_map.proofs.Prelude.{All-from_recursion, All-get_or, AllByRecursion, AreExact, AreOwn, AreOwnChunks, AreSnapshots, Below, BlockUnit, Bool, Contains, Description, Err, Fails, GoOn, HaveSameData, Home, IfErr, IfOk, IsAmple, IsError, IsFitting, IsLineOf, IsOwnAt, IsSnapshot, IsSnapshotSound, IsSound, IsSpareSector, IsTidy, IsTop, Lies, List, MapperView, Moment, None, Ok, OnOk, Option, Result, Rows, Some, State, Stays, Taken, Values, Zeros, [], after_played, and-false, and_from, and_parts, ap, arith, at_index, below_line, below_target, by_below, bytes_eq-Decides, cases_Bool, cases_lt, cases_order, chunk_count, claims, cond, content, device_len, device_some, div-add-mod', div-mul-add, drop, drop-append-le, drop_more, eq-eqb, eqb-true, false, false_from_ne_true, filter, find, first_rows, found_at, found_of, get_or, get_or-append_seam, get_or-set_other, get_or_append_left, get_or_default, get_or_past, get_or_read, has_snapshot, home, inl, inr, is_same, is_some, le-div_iff_mul-le, le-leb, le-suc_iff, leb-true, length, length-append, length-drop, length-replicate, length-set, lines_at, lost, lower_len, lt-ltb, ltb-true, map, mod-mul-add, mul-le-mul_right, nat_eq, nat_lt, ne_eqb, none-some, none_taken, not, number_in, option_and_then, or_parts, place, put, range_with_len, read_below, read_over, refl, rows_in, set-get_or, set-set, slice_get-get_or, slice_index, snapshot_at, snapshot_of, snapshots, start_state, subst, suc, sym, take, take-append-le, take-suc, take_all, taken_at, true, true≢false, value_read, with_chunk, zero, ℕ, ◌∙◌}
unfoldable pub use Rattle.dm_map.proofs.Prelude.{IsDistinct, home_to, played, read_unit, sector_past, write_step}
pub use Rattle.dm_map.proofs.ResolvedLines.{line_snapshot, line_there, snapshot_sound}
pub use Rattle.dm_stack.specs.declared.id.Lower.TheVariants.{Device, Disk}
pub use Rattle.dm_stack.specs.declared.lines.resolved_line.ResolvedLine.{ResolvedLine}
pub use Rattle.dm_stack.specs.declared.lines.resolved_line.ResolvedTarget.{ResolvedTarget}
pub use Rattle.dm_stack.specs.declared.lines.resolved_line.ResolvedTarget.TheVariants.{Snapshot}
pub use Rattle.dm_store.specs.Prelude.{Ahead, AllKeepLists, AlwaysFit, AreClearFrom, AreKept, AreListed, AreRead, Asked, Chunk, Contents, DiskContents, Event, Fit, Fresh, Gap, Gone, HasRead, HasRows, Held, HoldMore, Holds, IsClear, IsFound, IsGone, IsLostInStore, IsOfTop, IsPair, IsRestart, IsSpelled, IsStart, IsUsed, ListFault, Listed, Lists, Loses, Lost, Magic, Missing, Order, Pair, Persistent, Plays, Range, ReadsBack, Refused, ResolvedSnapshot, SectorFault, Sectors, Spelled, Spells, Store, StoreFault, StoreRefusal, Stored, Transient, Unread, Unused, Version, Walked, after_event, are_zeros, area_count, by_header, bytes_or_none, clear_count, disk_contents, ended, ended_by, fault_of, four_at, if_listing, image_in, is_clear, is_clear_in, is_listed, is_near, is_placed, kept, kept_in, list_count, list_fault, listed, next_fault, of_count, of_list, pair, pair_count, pair_in, rest_count, rest_fault, row_sector, sector_in, snapshot_store, start_of, store_at, store_if, store_sectors, stored, stored_state, taken_if, taken_in, told, told_list, with_looked, with_next}
unfoldable pub use Rattle.dm_store.specs.Prelude.{Agrees, AreRestarts, after_events, count_of, each, given_total, is_any_again, kept_first, old_chunks, path_total, state_of_first}
pub use Rattle.dm_table.specs.declared.tables.table.StoreKind.{StoreKind}
