-- Names and lemmas that the proofs of dm_stack import, gathered in one module.
pub use Rattle.dm_stack.specs.Base.{Cycle, Deep, DevRef, DeviceSpec, Empty, Gap, IsMemoryFault, Limit, Line, LoadFault, LoadKind, Memory, Overlap, Own, Place, Range, Reading, Serving, Snapshot, Source, Span, Store, StoreKind, Stripe, StripePosition, Target, Twice, Unknown, Use, column_span, either, fault, faults_by, first_fault, first_or, is_device_name, spans, unless}
pub use Rattle.dm_stack.specs.Prelude.{AreFirst, AreFirsts, AreInside, AreLeft, AreOnDisks, ArePlaces, AreSnapshots, AreStripes, AreTops, Below, Beneath, Claim, Clash, Description, Device, Disk, Early, EndsAreSmall, EndsAt, GoesOn, HasGoodChunk, HasNoCycle, HasSector, HasSectors, HaveGoodChunks, HaveSmallEnds, IsBeneath, IsClash, IsClosed, IsCounted, IsDeeperByOne, IsError, IsFirstClash, IsFirstCycle, IsFirstRing, IsKeyOf, IsLast, IsLeg, IsLineOf, IsLower, IsOriginSound, IsPath, IsPlaceOf, IsRefusedBy, IsReport, IsSnapshot, IsSnapshotOf, IsSnapshotSound, IsSound, IsStartOf, IsStripePosition, IsTargetSound, IsThere, IsTidy, IsTop, IsVisited, IsZero, Late, Leg, LegsView, Lies, LiesIn, LiesOnDisk, Lower, MeetAt, Names, NeverMeet, Numbered, OnCycle, Reaches, ResolvedColumn, ResolvedDevice, ResolvedLine, ResolvedOver, ResolvedSnapshot, ResolvedTarget, SaysTidiness, StartsAfter, StartsBy, Visits, WithBefore, after_leg, all_lines, all_places, allocated, bad_snapshots_in, below, below_column, below_line, below_plain, below_stripes, below_target, binary_digits, checks_after, checks_before, chunk_at, claims, clash_of, clash_with, column_of, crowded, deep, depth_of, depth_over, depths_to, described, device_claims, device_faults, device_id, device_len, device_links, device_over, digits_to, disk_id, disk_len, empty, empty_in, end_of, faults_by_id, found_at, greatest, has_bad_store, has_bad_stripes, has_crowd, has_deep_store, has_disk_columns, has_pair, has_snapshot, has_state, held_end, holds, in_column, is_bad_chunk, is_bad_snapshot, is_bad_stripe, is_device, is_disk, is_far, is_large, is_metadata, is_misplaced, is_missing, is_named, is_past, is_plain, is_repeated, is_ro_at, is_same, is_same_chunk, is_same_lower, is_shallow, is_snapshot, is_tidy_to, is_unknown, is_unknown_path, is_unknown_ref, is_whole, line_claims, line_faults, line_links, line_names, line_of, lines_at, lines_or_none, links, links_in, links_of, lower_depth, lower_len, lower_link, lower_of, lower_text, may_share, may_store, meets, metadata, misplaced, misplaced_in, misplaced_kind, names_in, names_missing, no_bad_lines, no_reach, noted_device, noted_devices, noted_line, noted_lines, numbered, or_bad, over_of, own_end, passes, passes_end, past, place, place_count, places_in, places_of, range, reach_at, reach_meets, reach_next, reach_of, reach_with, ref_link, report_text, resolved_columns, resolved_device, resolved_line, resolved_lines, resolved_snapshot, resolved_target, rival_end, rivals, snapshot, snapshots, span_claim, span_end, stack_depth, store, store_links, store_links_at, store_links_of, stripe, target_places, target_spans, tidiness_text, too_large, too_many, twice, twice_in, unknown, unvisited, with_before, without_lines}
unfoldable pub use Rattle.dm_stack.specs.Prelude.{all_over, copied, depth_to, is_store_to, origin_over, snapshots_over}
pub use Rattle.dm_table.proofs.FaultLemmas.{cond_none, first_fault-none, first_or-found, first_or-none, first_or-passed, unless-ok}
pub use Rattle.dm_table.proofs.Lists.{all_append, all_changed, all_front, all_parts, append-nil_both, at_index, mapped, on_err, on_ok}
pub use Rattle.dm_table.proofs.Std.{All, All-cons, All-contains, All-contains_itself, All-drop, All-filter, All-from_get_or, All-from_recursion, All-get_or, All-map, All-nil, All-permutation, All-push, All-same, All-take, All-weaker, AllByRecursion, AllPairs, AllPass-from_list_all, Any-from_list_any, BTreeMap, Bool, Bor, Contains, Contains-append_cases, Contains-append_left, Contains-append_right, Contains-get_or, Contains-push, Contains-push_cases, Decides-eqb, Err, FnReturns, FnReturnsAt, Global, IfErr, IfNone, IfOk, IfOk-weaker, IfSome, IfSome_then, IsDistinct-cons, IsDistinct-head, IsDistinct-tail, IsErr, IsErrAnd, IsNonDecreasingBy, IsNonDecreasingBy-from_sort_by_key, IsOrdered, IsPermutation, IsPermutation-keeps, IsPermutation-sym, IsSome, IsTrue, Less, List, None, Ok, OnOk, Option, Result, Some, String, Updates, Vec, [], add-one, after_first, all_pairs_push, and-false, and-true, and_assoc, and_comm, and_from, and_le_r, and_mask, and_parts, and_right, ap, apart_from_distinct, append-nil, append_assoc, append_cancel_left, arith, below_more, bit_and, bit_at, bit_at-lt, bit_at-trailing_zeros, bit_at-zero, bit_at_xor, bit_xor, both_ways, bytes_eq, bytes_eq-Decides, cases_Bool, cases_eq, cases_lt, cases_order, codes, common_steps, cond, count_ones, decimal, div-add-mod, div-add-mod', div-lt_iff_lt-mul, div-mul-add, div-mul-le_self, drop, drop-append-le, drop-cons, drop_all, drop_more, eq-eqb, eqb-false, eqb-true, err_from_is_err_and, fails_before_first, false, false_from_ne_true, fill_by_all, filter, filter-append, filter_passes, find, find_at, flat_map, flat_map-append, flat_map-map, fold, fold-append, from_le_bytes, fun_ext, ge_from_not_lt, get, get_or, get_or-append_seam, get_or-chunk, get_or-insert_above, get_or-insert_at, get_or-insert_below, get_or-map, get_or-map-range_with_len, get_or-range_with_len, get_or-replicate, get_or-set_other, get_or-set_same, get_or-take, get_or_append_left, get_or_default, get_or_from_slice_get, get_or_past, get_or_push, get_or_read, inl, inr, is_at, is_gt, is_none, is_power_of_two, is_some, le-div_iff_mul-le, le-leb, le-ltb, le-suc_iff, le_bytes_8, le_from_not_gt, le_of_mul-le-mul_right, leb-false, leb-suc-suc, leb-suc-zero, leb-true, length, length-append, length-drop, length-insert, length-le_from_distinct_below, length-map, length-map-range_with_len, length-range_with_len, length-replicate, length-set, length-swap, length-take, length-take-le, length_permutation, length_push, list_all, list_all-append, list_any, list_any-append, list_any-from_Any, list_any_at, list_any_none, lt-leb, lt-ltb, lt_of_mul-lt-mul_right, ltb-false, ltb-true, ltb_from_iff, map, map-append, map-id, map-map, map-range_with_len_more, map-set, mask_l-mod, max, merely, min, mod-eq_of_lt, mod-lt, mod-mul-add, mod_below, mul-div_cancel_left, mul-le-mul, mul-le-mul_left, mul-le-mul_right, mul_comm, nat_cmp, nat_eq, nat_le, nat_lt, nat_tests, ne_eqb, nil_from_length, none-some, not, not-false, not-true, not_from_false, on_err_weaker, on_ok_weaker, one-le-pow, one_shl, ones-ones, ones_cat, ones_le_self, option_and_then, option_map, option_map_or, or-false, or_cases, or_left, or_parts, or_right, passes_at_first, pos_of_ne-zero, position, position-Some, position_or_len, pow-add, pow-le-pow_right, pow-succ', pow_below, pow_mono, pow_pos, prefix_len, prefix_len-le-length, prefix_len_stops, range_with_len, recursion_from_All, refl, replicate, replicate-append-replicate, result_err, row_fits, rules, same_Some, same_from_bits, same_from_place, set, set-get_or, set-set, set_past, slice_eq-Decides, slice_get, slice_get-get_or, slice_get-map, slice_get_cases, slice_get_past, slice_get_read, slice_get_within, slice_index, slice_index_or, slice_range, split_at_first, string_bytes, subst, suc, sum_by, sum_by-cons, sum_by-set, swap, swapped_from_swap, sym, take, take-append-add, take-append-drop, take-append-le, take-append_seam, take-nil, take-suc, take-take, take_all, take_more, tests, tops_compared, trailing_mask_l, trailing_zeros, true, true_from_ne_false, true≢false, unwrap_or, vec_capacity, w64, w8, xor_lt, zero, zero-add, zero_from_ones, zip2_splat, ℕ, ∥∥₁_elim, ∥∥₁_map, ◌∙◌}
unfoldable pub use Rattle.dm_table.proofs.Std.{IsDistinct}
