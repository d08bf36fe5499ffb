-- The names and lemmas from std that proofs use, in this crate and in crates above, in one place.
pub use Rattle.dm_table.specs.Std.{AllBelowBase, AllByRecursion, AllPairs, Any, BTreeMap, Contains, FindsText, FnReturns, FnReturnsAt, HasTextAt, IsInRange, IsNonDecreasingBy, IsOrdered, IsPermutation, IsUtf8, LacksTextAt, SplitsAroundMatch, Updates, after_first, before_first, bit_at, cons_option, digit_value, digits_value, enumerate_from, flat_map, from_le_bytes, get, get_by, is_ascii_digit, is_at, is_gt, is_power_of_two, iter_rest, join_with_byte, list_all, list_any, nat_cmp, number_from_digits, number_from_digits_after, ones-ones, onto_first, option_map_or, option_to_list, pointwise, position_from, position_or_len, prefix_len, range_with_len, result_err, slice_cmp, sum_by, swap, trailing_zeros, zip, zip_first, zip_second}
unfoldable pub use Rattle.dm_table.specs.Std.{IsDistinct, is_utf8}
pub use Rattle.std.proofs.Common.{All, Bool, Bor, Err, Global, IfErr, IfOk, IfSome, IsErr, IsErrAnd, Less, List, MatchOption, None, Ok, OnErr, OnOk, Option, Result, Some, String, Vec, [], add-mul, add-one, add-zero, ap, append_assoc, ap₂, arith, below_more, bit_and, bytes_eq, codes, cond, count_by, count_ones, decimal, drop, drop-cons, eqb, false, filter, fold, get_or, get_or-set_other, get_or-set_same, inl, inr, is_some, length, length-append, length-drop, length-set, length-take, length-take-le, ltb, map, max, min, mul-le-mul_right, mul_assoc, nat_eq, nat_le, nat_lt, not, option_map, pos_of_ne-zero, pow_mono, pow_pos, refl, replicate, rules, set, slice_get, slice_index, slice_index_or, slice_range, subst, suc, sym, take, take-append-drop, take_all, tests, true, true≢false, unwrap_or, vec_capacity, vec_len, w64, w8, zero, zero-add, ℕ, ◌∙◌}
pub use Rattle.std.proofs.Math.Bool.{and-false, and-true, and_assoc, and_comm, or-false}
pub use Rattle.std.proofs.Math.Dec.{eqb-suc-zero, leb-suc-suc, leb-suc-zero}
pub use Rattle.std.proofs.Math.Logic.{∥∥₁_elim, ∥∥₁_map}
pub use Rattle.std.proofs.Math.Nat.{add-mul-div_left, div-add-mod, div-eq_of_lt, div-lt_iff_lt-mul, div-mul-le_self, le-div_iff_mul-le, le-suc_iff, le_of_mul-le-mul_right, lt_of_mul-lt-mul_right, mod-eq_of_lt, mod-lt, mul-div_cancel_left, mul-le-mul, mul-le-mul_left, mul_comm, one-le-pow, pow-le-pow_right, pow-succ'}
pub use Rattle.std.proofs.Math.Path.{fun_ext, subst₂}
pub use Rattle.std.proofs.Math.Seq.{drop-append-add, drop-append_seam, drop_at, get_or-append_seam, set-append_seam, take-add, take-append-add, take-append_seam, take-length, take-nil, take-set-lt, take-suc, take_at}
pub use Rattle.std.proofs.lemmas.Bool.{agree_below_at, and_from, and_parts, and_right, both_ways, cases_Bool, cases_eq, cases_lt, cases_order, cond-false, cond_both, eq-eqb, eqb-false, eqb-true, false_from_ne_true, le-leb, le-ltb, leb-false, leb-true, lt-leb, lt-ltb, ltb-false, ltb-true, ltb_from_iff, ne_eqb, not-false, not-true, not_from_false, not_from_true, or_cases, or_left, or_parts, or_right, true_from_ne_false}
pub use Rattle.std.proofs.lemmas.Bool.Decides.{Decides-eqb, nat_tests}
pub use Rattle.std.proofs.lemmas.Fmt.{decimal-digits_value, decimal_digit, decimal_nonempty, decimal_step, digits_decimal, digits_value-decimal, first_decimal, length-decimal-le}
pub use Rattle.std.proofs.lemmas.Grind.{common_steps, elements, flat_map-append, merely, text_counts}
pub use Rattle.std.proofs.lemmas.Int.Digits.{digits_value_is, digits_value_more, number_after_append, number_lt}
pub use Rattle.std.proofs.lemmas.List.{append-nil, append_cancel_left, drop-append-le, drop-drop, drop-map, drop-take, drop_all, drop_more, get_or-map, get_or-replicate, get_or-take, get_or_append_left, get_or_default, get_or_past, get_or_push, get_or_read, length-map, length-replicate, length_push, map-append, map-id, map-set, map_push, nil_from_length, replicate-append-replicate, set-get_or, set-set, set_past, take-append-le, take-map, take-set-le, take-take, take_more, take_rest}
pub use Rattle.std.proofs.lemmas.List.Edits.{get_or-insert_above, get_or-insert_at, get_or-insert_below, length-insert, length-swap, swapped_from_swap}
pub use Rattle.std.proofs.lemmas.List.Elements.{All-cons, All-contains, All-contains_itself, All-drop, All-filter, All-from_get_or, All-from_recursion, All-get_or, All-map, All-nil, All-push, All-same, All-tail, All-take, All-weaker, Contains-append_cases, Contains-append_left, Contains-append_right, Contains-get_or, Contains-push, Contains-push_cases, filter-append, filter_passes, recursion_from_All}
pub use Rattle.std.proofs.lemmas.List.Folds.{Any-from_list_any, find_at, flat_map-map, length-prefix_len, list_all-append, list_all_at, list_all_more, list_any-append, list_any-from_Any, list_any_at, list_any_none}
pub use Rattle.std.proofs.lemmas.List.FromFn.{fill_by_all, get_or-map-range_with_len, get_or-range_with_len, length-map-range_with_len, length-range_with_len, map-range_with_len_more}
pub use Rattle.std.proofs.lemmas.List.Quantifiers.{all_pairs_push, position-Some}
pub use Rattle.std.proofs.lemmas.List.Sorted.{All-permutation, IsNonDecreasingBy-from_sort_by_key, IsPermutation-keeps, IsPermutation-sym, length_permutation}
pub use Rattle.std.proofs.lemmas.List.Splits.{join_with_byte-slice_split, length-slice_split, slice_split-cons_no, slice_split-cons_yes, slice_split_at, slice_split_none}
pub use Rattle.std.proofs.lemmas.List.Sums.{AllPass-from_list_all, fails_before_first, fold-append, list_all-from_AllPass, passes_at_first, prefix_len-drop_all, prefix_len-drop_no, prefix_len-drop_yes, prefix_len-le-length, prefix_len_passes, prefix_len_stops, split_at_first, sum_by-cons, sum_by-set, take_while-cons}
pub use Rattle.std.proofs.lemmas.Map.Keys.{IsDistinct-cons, IsDistinct-head, IsDistinct-tail, apart_from_distinct, ge_from_not_lt, le_from_not_gt}
pub use Rattle.std.proofs.lemmas.Map.Steps.{length-le_from_distinct_below}
pub use Rattle.std.proofs.lemmas.Nat.{and_block, and_le_r, and_mask, div-add-mod', div-mul-add, le_bytes_8, mod-mul-add, mod_below, one_shl, ones_cat, ones_le_self, or_shifted, pow-add, pow_below, row_fits, same_from_place, shr_split, xor_lt, zero_from_ones}
pub use Rattle.std.proofs.lemmas.Nat.Bits.{bit_at-lt, bit_at-trailing_zeros, bit_at-zero, bit_at_xor, same_from_bits}
pub use Rattle.std.proofs.lemmas.Option.{IfSome_then, MatchOption-at_none, cond_some, get_or_from_slice_get, same_Some, slice_get-get_or, slice_get-map, slice_get_cases, slice_get_past, slice_get_read, slice_get_within, none-some}
pub use Rattle.std.proofs.lemmas.Result.{IfErr-at_err, IfOk-weaker, err_from_is_err_and, on_err_weaker, on_ok_weaker}
pub use Rattle.std.proofs.lemmas.Simd.{bitmask_splat, get_or-chunk, leading_from_mask_l, map-map, mask_l-lt, mask_l-mod, tops_compared, trailing_mask_l, zip2_splat, zip2_splat_left}
pub use Rattle.std.proofs.lemmas.Slice.Eq.{bytes_eq-Decides, slice_eq-Decides, starts_is}
pub use Rattle.std.proofs.lemmas.Slice.Zip.{either_empty_from_Zip}
pub use Rattle.std.proofs.lemmas.Str.{IsUtf8-from_ascii, IsUtf8-from_is_utf8, IsUtf8-nil, digit_value_digit, is_utf8-from_IsUtf8}
pub use Rattle.std.proofs.lemmas.Str.Parse.{IsNumeralModel, digits_value_short, numerals_by_value}
pub use Rattle.std.proofs.raw_atomic.Walks.{proved}
pub use Rattle.std.specs.Int.Bits.{bit_xor}
pub use Rattle.std.specs.Prelude.{IfNone, IsSome, IsTrue, MatchResult, bit_or, find, is_none, is_ok, option_and_then, position, slice_set, string_bytes}
