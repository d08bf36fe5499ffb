-- Names that contracts import, in dm_stack and in the crates above it, gathered in one module.
pub use Rattle.dm_stack.specs.Base.{All, Answers, Bool, Contains, Deep, FnReturns, FnReturnsAt, Gap, IfErr, IfNone, IfOk, IfSome, IsMemoryFault, IsNonDecreasingBy, IsPermutation, IsTrue, Limit, Line, List, LoadFault, Memory, None, OnOk, Option, Overlap, Place, Some, Source, StoreKind, Unknown, YieldsFirst, [], code, drop, false, faults_by, filter, first_fault, first_or, flat_map, get_or, is_device_name, is_disk_name, is_none, item_count, length, list_all, list_any, map, nat_le, nat_lt, not, option_copied, option_map_or, position, replicate, result_err, slice_get, slice_index_or, string_bytes, take, to_le_bytes, true, unless, w64, ℕ}
pub use Rattle.dm_stack.specs.Description.{Description, described, device_id, device_len, device_links, disk_id, disk_len, disk_name_at, end_of, is_ro_at, is_same, is_same_lower, line_links, lines_at, lines_or_none, links, lower_len, lower_link, lower_of, name_at, ref_link}
pub use Rattle.dm_stack.specs.Looker.{Looking, next_count}
pub use Rattle.dm_stack.specs.Report.{IsReport, SaysTidiness, lower_text, report_text, tidiness_text}
pub use Rattle.dm_stack.specs.Stack.{IsLength, IsLoaded, resolved_device}
pub use Rattle.dm_stack.specs.checks.BadLines.{AreFirst, no_bad_lines, noted_device, noted_devices, noted_line, noted_lines, or_bad}
pub use Rattle.dm_stack.specs.checks.Depth.{IsDeeperByOne, lower_depth, stack_depth}
pub use Rattle.dm_stack.specs.checks.Graph.{IsClosed, IsFirstRing, IsPath, IsVisited, Names, Reaches, Visits, depth_over, depths_to, greatest, links_in, links_of, unvisited}
unfoldable pub use Rattle.dm_stack.specs.checks.Graph.{depth_to}
pub use Rattle.dm_stack.specs.checks.Paths.{is_unknown_path, path_faults}
pub use Rattle.dm_stack.specs.checks.Snapshots.{AreSnapshots, IsSnapshot, has_snapshot, is_snapshot, snapshots}
pub use Rattle.dm_stack.specs.checks.Soundness.{Early, HasGoodChunk, HasNoCycle, HaveGoodChunks, HaveSmallEnds, IsFirstCycle, IsRefusedBy, IsSound, Late, OnCycle, WithBefore, all_lines, bad_snapshots_in, checks_after, checks_before, crowded, deep, depth_of, device_faults, empty, empty_in, faults_by_id, has_bad_store, has_bad_stripes, is_bad_chunk, is_bad_snapshot, is_bad_stripe, is_far, is_large, is_misplaced, is_repeated, is_unknown, is_unknown_ref, line_faults, misplaced, misplaced_in, misplaced_kind, passes, passes_end, past, range, snapshot, store, stripe, target_places, too_large, too_many, twice, twice_in, unknown, with_before, without_lines}
pub use Rattle.dm_stack.specs.checks.Store.{IsStore, has_deep_store, is_plain, is_shallow, may_store, store_links, store_links_at, store_links_of}
unfoldable pub use Rattle.dm_stack.specs.checks.Store.{is_store_to}
pub use Rattle.dm_stack.specs.checks.StoreLimit.{all_places, places_of}
pub use Rattle.dm_stack.specs.claims.Claims.{AreTops, HasSector, IsClash, IsFirstClash, IsLower, IsThere, IsTidy, IsTop, MeetAt, NeverMeet, claims, device_claims, may_share, span_claim}
pub use Rattle.dm_stack.specs.claims.Naming.{is_device, is_named, line_names}
pub use Rattle.dm_stack.specs.claims.Sweep.{IsCounted, clash_of, clash_with, has_pair, held_end, is_tidy_to, meets, no_reach, numbered, own_end, reach_at, reach_meets, reach_next, reach_of, reach_with, rival_end, rivals}
pub use Rattle.dm_stack.specs.declared.claims.claim.Claim.{Claim}
pub use Rattle.dm_stack.specs.declared.claims.clash.Clash.{Clash}
pub use Rattle.dm_stack.specs.declared.claims.tidy.Numbered.{Numbered}
pub use Rattle.dm_stack.specs.declared.id.Lower.{Lower}
pub use Rattle.dm_stack.specs.declared.id.Lower.TheVariants.{Device, Disk}
pub use Rattle.dm_stack.specs.declared.lines.leg.Beneath.{Beneath}
pub use Rattle.dm_stack.specs.declared.lines.leg.Leg.{Leg}
pub use Rattle.dm_stack.specs.declared.lines.resolved_columns.ResolvedColumn.{ResolvedColumn}
pub use Rattle.dm_stack.specs.declared.lines.resolved_line.ResolvedLine.{ResolvedLine}
pub use Rattle.dm_stack.specs.declared.lines.resolved_line.ResolvedOver.{ResolvedOver}
pub use Rattle.dm_stack.specs.declared.lines.resolved_line.ResolvedSnapshot.{ResolvedSnapshot}
pub use Rattle.dm_stack.specs.declared.lines.resolved_line.ResolvedTarget.{ResolvedTarget}
pub use Rattle.dm_stack.specs.declared.lines.resolved_table.ResolvedDevice.{ResolvedDevice}
pub use Rattle.dm_stack.specs.lines.Below.{AreStripes, Below, IsError, IsLine, IsLineOf, IsOriginSound, IsSnapshotSound, IsTargetSound, IsZero, Lies, LiesIn, below, below_column, below_line, below_plain, below_stripes, below_target, chunk_at, column_of, found_at, has_state, holds, in_column, is_same_chunk, is_striped, line_of, resolved_columns, resolved_line, resolved_lines, resolved_target}
pub use Rattle.dm_stack.specs.lines.Leg.{AreInside, AreLeft, AreOnDisks, GoesOn, HasSectors, IsBeneath, IsLeg, LegsView, LiesOnDisk, after_leg, has_disk_columns}
pub use Rattle.dm_stack.specs.lines.LineSearch.{AreFirsts, EndsAreSmall, EndsAt, Finds, IsLast, IsStartOf, StartsAfter, StartsBy, binary_digits, digits_to}
pub use Rattle.dm_stack.specs.lines.Over.{IsSnapshotOf, device_over, fit_chunk, has_crowd, is_whole, over_of, resolved_snapshot}
unfoldable pub use Rattle.dm_stack.specs.lines.Over.{all_over, copied, origin_over, snapshots_over}
pub use Rattle.dm_stack.specs.lines.ResolvedColumns.{are_on_disks, is_disk}
pub use Rattle.dm_stack.specs.lines.Span.{column_span, is_missing, is_past, line_claims, names_missing, span_end, spans, target_spans, whole_span}
pub use Rattle.dm_stack.specs.lines.StoreLayout.{allocated, is_metadata, metadata, place, place_count, places_in}
pub use Rattle.dm_stack.specs.lines.StripePosition.{IsStripePosition}
pub use Rattle.dm_stack.specs.names.NameIndex.{ArePlaces, IsKeyOf, IsPlaceOf, names_in}
