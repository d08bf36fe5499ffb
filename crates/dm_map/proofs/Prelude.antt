-- Names and lemmas that the proofs of dm_map import, gathered in one module.
pub use Rattle.dm_map.specs.Prelude.{Agree, AreAdded, AreAlone, AreAlwaysExact, AreAsked, AreAskedOfOrigin, AreAskedOfSnapshot, AreBegunBy, AreExact, AreHanded, AreHomesFreeOfLevels, AreInChunk, AreInOwnSlots, AreInSnapshot, AreLosing, AreNeverLost, AreOwn, AreOwnChunks, AreReadAt, AreRuns, AreSettled, AreTables, AtError, AtLost, BlockUnit, CopyOf, Counts, Device, Disk, Drops, Due, Empty, EndsHere, Fails, FillOf, Fits, Fork, GoOn, GoesOn, Ground, HasError, HasMarks, HasRoomFor, HasTakenOrIsHome, HaveSameData, Home, HomeStretch, IsAmple, IsAmpleTarget, IsAtLine, IsFirst, IsFirstHomes, IsFirstOf, IsFirstRead, IsFitting, IsFork, IsFreeOfLevels, IsGroundInStack, IsGroundNear, IsHanded, IsHome, IsIntact, IsLawful, IsLegOf, IsLine, IsListSector, IsLongest, IsLosing, IsLostIn, IsMapped, IsNumber, IsOfSnapshot, IsOver, IsOwnAt, IsOwnWrite, IsRun, IsSide, IsSnapshotWritten, IsSpareSector, IsStore, IsTakenAs, IsTrie, IsWalked, IsWay, IsWithinPlaces, Leads, Lower, MapperView, Mapping, Marks, MeetsError, Moment, Node, Number, OfBeginning, OnSinkFault, Op, PathStep, Read, ReadAt, ReadOf, ResolvedLine, ResolvedOrigin, ResolvedOver, ResolvedSnapshot, ResolvedTarget, Rows, Run, SinkPast, StackState, State, Stays, Step, Stretch, Taken, TookOwn, Touches, Values, WalkerView, Write, WriteOf, Zeros, after_played, and_then, answers, any_error, begins, below_step, below_unit, by_below, can_take, changes, chunk_at, chunk_count, content, copies, copy_to, count_of, disk_unit, due, due_at_line, due_at_target, due_over, end_of, first_of, first_rows, first_unit, found_mapping, ground_unit, halted_state, halted_units, handed, has_place, has_room, home, home_in_store, is_error, is_fork, is_keeping, is_refused, is_same_path, is_same_step, is_settled, keep, left_state, legs_units, line_step, line_units, lost, next_at, next_unit, no_run, node, node_at, none_taken, nowhere, number_in, or_home, origin_at, origin_mapping, origin_of, origin_step, past-append, played_of, played_unit, put, range_mapping, range_step, read, read_below, read_numbered, read_over, read_stretches, reads_all, refuses, request_step, room_of, row, row_unit, rows_in, run_at, run_count, runs_after, sector_after, sector_step, served_sector, served_step, slot_of, snapshot_at, snapshot_of, stack_state, start_state, state_of, state_past, steps, store_sector, store_writes, stored, stretches, take_chunk, taken_at, target_mapping, target_path, target_step, unit_at, unit_in_store, units_in, units_of, usage_of, value_read, with_chunk, write, write_line, write_numbered, write_snapshot, write_target, write_to, zero_unit}
unfoldable pub use Rattle.dm_map.specs.Prelude.{due_in, home_to, path, played, read_unit, rows_played, sector_past, serve, take_chunks, way, write_step}
pub use Rattle.dm_stack.proofs.Apart.{IsNamed, IsVia, one_via, top_named}
pub use Rattle.dm_stack.proofs.DepthRule.{none_at, shallow_device}
pub use Rattle.dm_stack.proofs.InStack.{device_there, disk_there, lower_small}
pub use Rattle.dm_stack.proofs.LegLemmas.{IsDiskLeg, IsOnADisk, leg_lies_inside, leg_lies_on, leg_on_disk, legs_after, plain_inside, sector_on_disk, shorter}
pub use Rattle.dm_stack.proofs.Passes.{faults_by_none, passes_all}
pub use Rattle.dm_stack.proofs.Prelude.{All, All-contains, All-contains_itself, All-filter, All-from_get_or, All-from_recursion, All-get_or, All-push, AllByRecursion, AreInside, AreOnDisks, AreSnapshots, AreStripes, BTreeMap, Below, Bool, Contains, Description, Err, HasGoodChunk, HasSectors, IfErr, IfOk, IfSome, IsBeneath, IsDistinct-cons, IsErr, IsError, IsLeg, IsLineOf, IsOrdered, IsOriginSound, IsSnapshot, IsSnapshotSound, IsSome, IsSound, IsTargetSound, IsTidy, IsTop, IsZero, LegsView, Less, Lies, List, None, Ok, OnOk, Option, Result, Some, Updates, [], add-one, after_leg, all_append, all_front, all_lines, all_parts, and-false, and_from, and_le_r, and_parts, and_right, apart_from_distinct, append_cancel_left, arith, at_index, below, below_column, below_line, below_plain, below_target, binary_digits, bit_at, bit_at-lt, bit_at-trailing_zeros, bit_at-zero, bit_at_xor, bit_xor, both_ways, bytes_eq-Decides, cases_Bool, cases_eq, cases_lt, cases_order, claims, column_of, common_steps, depth_of, device_id, device_len, device_links, disk_id, div-add-mod', div-mul-add, div-mul-le_self, drop, drop-append-le, drop-cons, drop_more, eq-eqb, eqb-true, err_from_is_err_and, false, false_from_ne_true, filter, find, find_at, flat_map-append, found_at, ge_from_not_lt, get, get_or, get_or-append_seam, get_or-insert_above, get_or-insert_at, get_or-insert_below, get_or-range_with_len, get_or-replicate, get_or-set_other, get_or-set_same, get_or_append_left, get_or_default, get_or_from_slice_get, get_or_past, get_or_push, get_or_read, greatest, has_disk_columns, has_snapshot, has_state, holds, in_column, inl, inr, is_at, is_gt, is_metadata, is_none, is_plain, is_ro_at, is_same, is_same_chunk, is_snapshot, is_some, is_unknown, is_unknown_ref, le-div_iff_mul-le, le-leb, le-ltb, le-suc_iff, le_from_not_gt, leb-true, length, length-append, length-drop, length-insert, length-le_from_distinct_below, length-map, length-range_with_len, length-replicate, length-set, length_push, line_links, line_of, lines_at, lines_or_none, links, links_of, list_any, list_any_at, lower_depth, lower_len, lower_of, lt-ltb, ltb-false, ltb-true, ltb_from_iff, map, map-set, merely, min, mod-mul-add, mul-div_cancel_left, mul-le-mul, mul-le-mul_left, mul-le-mul_right, nat_cmp, nat_eq, nat_le, nat_lt, nat_tests, ne_eqb, none-some, not, not-false, not-true, on_err, on_err_weaker, on_ok, on_ok_weaker, option_and_then, option_map, or_cases, or_parts, or_right, place, place_count, position-Some, position_or_len, pow_pos, range_with_len, recursion_from_All, ref_link, replicate, replicate-append-replicate, resolved_columns, resolved_line, resolved_snapshot, resolved_target, rules, same_Some, same_from_bits, same_from_place, set, set-get_or, set-set, set_past, slice_get, slice_get-get_or, slice_get-map, slice_get_past, slice_get_read, slice_get_within, slice_index, snapshots, span_end, stack_depth, suc, take, take-append-add, take-append-drop, take-append-le, take-nil, take-suc, take_all, take_more, trailing_zeros, true, true_from_ne_false, true≢false, vec_capacity, w64, xor_lt, zero, ℕ, ∥∥₁_elim, ∥∥₁_map}
unfoldable pub use Rattle.dm_stack.proofs.Prelude.{IsDistinct, all_over, copied, depth_to, is_store_to, origin_over, snapshots_over}
pub use Rattle.dm_stack.proofs.SameLine.{found_of, same_found}
pub use Rattle.dm_stack.proofs.SoundLines.{HoldsSoundly, device_some, device_sound, disk_some, found, lines_there, of_device, sector_found, there}
pub use Rattle.dm_stack.proofs.StoreLayoutLemmas.{allocated_small, place_data, place_one, place_within}
pub use Rattle.dm_stack.proofs.StripeLemmas.{in_chunk, in_column_room, other_chunk}
pub use Rattle.dm_stack.specs.declared.checks.graph.TheConstants.{MOST_DEPTH}
pub use Rattle.dm_stack.specs.declared.lines.leg.Beneath.{Beneath}
pub use Rattle.dm_stack.specs.declared.lines.leg.Leg.{Leg}
pub use Rattle.dm_stack.specs.declared.lines.resolved_columns.ResolvedColumn.{ResolvedColumn}
pub use Rattle.dm_stack.specs.declared.lines.resolved_line.ResolvedTarget.TheVariants.{Error, Origin, Snapshot, Striped}
pub use Rattle.dm_table.specs.Prelude.{Clean, Delivery, DescribesRequest, HasGrown, IfNone, InputPast, IsBeginning, IsCutShort, Open, OutputPast, RequestValues, Span, Stand, Wrote, all_but_last, ap, append-nil, append_assoc, closed_as, column_span, cond, drop_at, flat_map, grows-same, grows_more, insert, list_all, map-append, refl, since-same, since_is, since_more, spans, stand_of, subst, sym, take_at, target_spans, values_of, whole_span, written_more, ◌∙◌}
pub use Rattle.dm_table.specs.declared.tables.table.DevRef.{DevRef}
pub use Rattle.dm_table.specs.declared.tables.table.DeviceSpec.{DeviceSpec}
pub use Rattle.dm_table.specs.declared.tables.table.Line.{Line}
pub use Rattle.dm_table.specs.declared.tables.table.Target.{Target}
pub use Rattle.dm_table.specs.declared.tables.table.Use.{Use}
pub use Rattle.dm_table.specs.declared.tables.table.Use.TheVariants.{Own, Reading, Serving}
