-- The names from std that definitions and contracts in this crate and in the crates above use, collected in one place.
pub use Rattle.std.specs.BTreeMap.{BTreeMap, IsOrdered, Updates, get, get_by, is_at}
pub use Rattle.std.specs.Bool.{OnFalse, OnTrue}
pub use Rattle.std.specs.Borrow.{Bor, Fml, Lends, MutBor, RattleType, ftrue, sem}
pub use Rattle.std.specs.Char.{digit_value, is_ascii_alphanumeric, is_ascii_digit}
pub use Rattle.std.specs.Cmp.Lexicographic.{pointwise, slice_cmp}
pub use Rattle.std.specs.Fn.{FnReturns, FnReturnsAt}
pub use Rattle.std.specs.Int.{IsInRange, bit_at, from_le_bytes, is_power_of_two, to_le_bytes, trailing_zeros, w64}
pub use Rattle.std.specs.Int.Count.{ones-ones}
pub use Rattle.std.specs.Int.Digits.{AllBelowBase, number_from_digits, number_from_digits_after}
pub use Rattle.std.specs.Io.KnownBytes.{Keeps, ReadConsumes, WriteAppends}
pub use Rattle.std.specs.Iterator.{YieldsFirst, item_count}
pub use Rattle.std.specs.Iterator.Adapters.{zip_first, zip_second}
pub use Rattle.std.specs.List.{All, AllByRecursion, AllPairs, Any, Contains, after_first, before_first, cons_option, ends_with, enumerate_from, filter_map, flat_map, insert, join_with_byte, list_all, list_any, onto_first, position_from, position_or_len, prefix_len, range_with_len, slice_split, starts_with, sum_by, swap, zip}
unfoldable pub use Rattle.std.specs.List.{IsDistinct}
pub use Rattle.std.specs.List.Sorted.{IsNonDecreasingBy, IsPermutation}
pub use Rattle.std.specs.Option.{ok_or, option_map_or, option_to_list}
pub use Rattle.std.specs.Ordering.{is_gt, nat_cmp}
pub use Rattle.std.specs.Prelude.{Bool, Err, IfErr, IfNone, IfOk, IfSome, IsErr, IsOkAnd, IsTrue, List, MatchBool, MatchOption, MatchResult, None, Ok, OnErr, OnOk, Option, Result, Some, String, [], bit_xor, bytes_eq, codes, count_by, count_ones, decimal, drop, false, filter, find, fold, get_or, is_err, is_none, is_ok, is_some, length, map, max, min, nat_eq, nat_le, nat_lt, not, option_and_then, option_copied, option_map, position, replicate, slice_get, slice_index, slice_index_or, slice_range, slice_set, string_bytes, suc, take, true, unwrap_or, vec_capacity, vec_len, zero, ℕ, ⊤}
pub use Rattle.std.specs.Result.{IsErrAnd, result_err}
pub use Rattle.std.specs.Slice.Iter.{iter_rest}
pub use Rattle.std.specs.Str.{IsAscii, IsUtf8}
unfoldable pub use Rattle.std.specs.Str.{is_utf8}
pub use Rattle.std.specs.Str.Parse.{digits_value}
pub use Rattle.std.specs.Str.Pattern.{FindsText, HasTextAt, LacksTextAt, SplitsAroundMatch}
