-- Names that contracts import, in dm_map and in the crates above it, gathered in one module.
pub use Rattle.dm_map.specs.Base.{All, AllByRecursion, AreOnDisks, Bool, Description, Device, Disk, Empty, Fork, HomeStretch, IfNone, IfOk, IfSome, IsDistinct, IsDistinct-prop, IsLine, IsLineOf, IsSnapshot, IsSound, IsStore, IsTidy, IsTop, List, Lower, MatchBool, None, Number, OnOk, Op, Piece, Read, ResolvedLine, ResolvedOrigin, ResolvedOver, ResolvedSnapshot, ResolvedTarget, Some, Write, [], allocated, binary_digits, bit_at, device_len, false, flat_map, is_none, is_ro_at, is_some, is_striped, length, lower_len, metadata, min, nat_eq, nat_lt, not, place, refl, replicate, snapshots, stack_depth, true, vec_capacity, zero, ℕ}
pub use Rattle.dm_map.specs.Mapper.{HasMapped, MapperView, OnSinkFault, with_looked}
pub use Rattle.dm_map.specs.declared.state.run_taken.run.Run.{Run}
pub use Rattle.dm_map.specs.declared.walk.chunk.ReadAt.{ReadAt}
pub use Rattle.dm_map.specs.declared.walk.stretch.Ground.{Ground}
pub use Rattle.dm_map.specs.declared.walk.stretch.Stretch.{Stretch}
pub use Rattle.dm_map.specs.laws.Contents.{past-append, unit_cong}
pub use Rattle.dm_map.specs.own.Ample.{AreAlwaysExact, AreExact, AreNeverLost, AreOwnChunks, IsAmple, IsAmpleTarget, IsIntact, TookOwn, chunk_count}
pub use Rattle.dm_map.specs.own.Contents.{Stays, Values, answers, content, played_unit, sector_after, stored, value_read}
unfoldable pub use Rattle.dm_map.specs.own.Contents.{played, sector_past}
pub use Rattle.dm_map.specs.own.Cuts.{AreCutAlone, HaveSameData, IsOfSnapshot, IsSpareSector}
unfoldable pub use Rattle.dm_map.specs.own.Cuts.{take_chunks}
pub use Rattle.dm_map.specs.own.Errors.{AtError, AtLost, EndsHere, HaveCauses, MeetsError}
pub use Rattle.dm_map.specs.own.Halts.{halted_state, halted_units, state_past}
pub use Rattle.dm_map.specs.own.Histories.{Asked, IsOwnAt, Moment, after_asked, after_played, asked_units, left_state, played_of}
pub use Rattle.dm_map.specs.own.Lists.{IsListSector, LeaveLists}
pub use Rattle.dm_map.specs.own.Losses.{AreLosing, Due, HasError, IsLosing, IsLostIn, due, due_at_line, due_at_target, due_over}
unfoldable pub use Rattle.dm_map.specs.own.Losses.{due_in}
pub use Rattle.dm_map.specs.own.Requests.{AreAlone}
pub use Rattle.dm_map.specs.own.Rows.{AreOwn, Rows, first_rows, row_unit, rows_in}
unfoldable pub use Rattle.dm_map.specs.own.Rows.{rows_played}
pub use Rattle.dm_map.specs.own.Tops.{IsOwnWrite, write}
pub use Rattle.dm_map.specs.own.Ways.{IsWay, Leads, Node, Touches, node}
pub use Rattle.dm_map.specs.pieces.Sink.{AreHanded, IsHanded, IsLawful, OfBeginning, SinkPast}
pub use Rattle.dm_map.specs.pieces.Units.{BlockUnit, CopyOf, Drops, Fails, FillOf, IsOnDisk, IsOnDisks, ReadOf, WriteOf, Zeros, below_unit, disk_unit, diskless_len, first_unit, legs_units, line_units, next_unit, piece_len, units_in, units_of}
pub use Rattle.dm_map.specs.state.Counts.{AreAdded, Counts, counts_of, no_counts}
pub use Rattle.dm_map.specs.state.Fitting.{IsFitting, IsWithinPlaces}
pub use Rattle.dm_map.specs.state.Runs.{AreBegunBy, AreRuns, GoesOn, IsRun, begins, no_run, run_at, run_count, runs_after}
pub use Rattle.dm_map.specs.state.Snapshots.{has_place, number_in, read_numbered, read_over, store_sector}
pub use Rattle.dm_map.specs.state.State.{State, Taken, lost, none_taken, put, start_state, taken_at, with_chunk}
pub use Rattle.dm_map.specs.state.Tables.{AreTables, device_chunks, has_room, origin_at, origin_of, room_of, snapshot_at, snapshot_of, state_of}
pub use Rattle.dm_map.specs.state.Trie.{Agree, AreInOwnSlots, Fits, HasMarks, IsFork, IsNumber, IsSide, IsTrie, Marks, chunk_at, end_of, is_fork, next_at, node_at, slot_of}
unfoldable pub use Rattle.dm_map.specs.state.Trie.{way}
pub use Rattle.dm_map.specs.state.Usage.{usage_of}
pub use Rattle.dm_map.specs.state.Walker.{StackState, WalkerView, stack_state}
pub use Rattle.dm_map.specs.walk.Bound.{IsMapped, Mapping, found_mapping, origin_mapping, range_mapping, target_mapping, target_path}
pub use Rattle.dm_map.specs.walk.Chunk.{AreInChunk, AreInSnapshot, AreReadAt, IsTakenAs}
pub use Rattle.dm_map.specs.walk.Home.{HasTakenOrIsHome, IsHome, handed, or_home}
pub use Rattle.dm_map.specs.walk.Homes.{AreHomesFreeOfLevels, GoOn, Home, IsFirstHomes, home, nowhere}
unfoldable pub use Rattle.dm_map.specs.walk.Homes.{home_to}
pub use Rattle.dm_map.specs.walk.Levels.{AreLevelsEnough}
pub use Rattle.dm_map.specs.walk.Mapping.{IsFreeOfLevels, request_step, sector_step, step_for, write_line, write_target}
unfoldable pub use Rattle.dm_map.specs.walk.Mapping.{write_step}
pub use Rattle.dm_map.specs.walk.Path.{PathStep, changes, is_same_path, is_same_step, read_stretches, stretches}
unfoldable pub use Rattle.dm_map.specs.walk.Path.{path}
pub use Rattle.dm_map.specs.walk.Range.{AreAsked, AreAskedOfChunk, AreAskedOfOrigin, AreAskedOfSnapshot, HasRoomFor, IsAtLine, IsLegOf, IsSnapshotWritten, IsWalked, below_step, line_step, origin_step, range_step, refuses, served_sector, target_step, zero_unit}
pub use Rattle.dm_map.specs.walk.Reads.{by_below, read_below}
unfoldable pub use Rattle.dm_map.specs.walk.Reads.{read_unit}
pub use Rattle.dm_map.specs.walk.Serving.{AreSettled, IsLongest, IsOver, served_step}
unfoldable pub use Rattle.dm_map.specs.walk.Serving.{serve}
pub use Rattle.dm_map.specs.walk.SnapshotWrites.{any_error, can_take, copies, copy_to, count_of, first_of, home_in_store, is_error, is_keeping, is_refused, is_settled, read, reads_all, row, store_writes, take_chunk, unit_in_store, write_numbered, write_snapshot, write_to}
pub use Rattle.dm_map.specs.walk.Steps.{Step, and_then, keep, steps}
pub use Rattle.dm_map.specs.walk.Stretch.{IsFirst, IsFirstOf, IsFirstRead, IsGroundInStack, IsGroundNear, ground_unit, unit_at}
