-- The names from std that this crate uses, collected in one place.
pub use Rattle.std.specs.BTreeMap.{BTreeMap, Updates, get_by}
pub use Rattle.std.specs.Char.{digit_value, is_ascii, is_ascii_alphanumeric, is_ascii_digit}
pub use Rattle.std.specs.Cmp.Lexicographic.{slice_cmp}
pub use Rattle.std.specs.List.{list_all, list_any}
pub use Rattle.std.specs.Ordering.{nat_cmp}
pub use Rattle.std.specs.Prelude.{All, AllPairs, Bool, Err, IfErr, IfOk, IfSome, IsTrue, List, MatchOption, MatchResult, None, Ok, OnOk, Option, Result, Some, [], bytes_eq, codes, drop, false, get_or, is_none, is_some, length, map, max, nat_le, nat_lt, not, option_and_then, option_map, refl, slice_index, suc, take, true, unwrap_or, ℕ}
pub use Rattle.std.specs.Str.Parse.{digits_value}
