-- The names and lemmas from std that this crate's proofs use, in one place.
pub use Rattle.lvm_text.specs.Std.{BTreeMap, Updates, digit_value, digits_value, list_all, nat_cmp, slice_cmp}
pub use Rattle.std.proofs.Common.{All, AllPairs, Bool, List, None, Option, Some, [], add-one, add-zero, ap, append_assoc, arith, cond, drop, eqb, false, get_or, inl, inr, length, length-append, length-drop, min, nat_lt, not, refl, rules, subst, suc, sym, take, true, true≢false, zero, zero-add, ℕ, ◌∙◌}
pub use Rattle.std.proofs.lemmas.Bool.{and_from, and_parts, cases_Bool, cases_lt, cond_both, eq-eqb, eqb-true, false_from_ne_true, lt-ltb, ne_eqb, not-true, not_from_false, or_cases, or_left, or_right}
pub use Rattle.std.proofs.lemmas.Bool.Decides.{nat_tests}
pub use Rattle.std.proofs.lemmas.List.{append-nil, drop-append-le, drop-drop, drop_all, map_push, take_all, take_rest}
pub use Rattle.std.proofs.lemmas.Option.{MatchOption-at_some, same_Some, some_pair_parts}
pub use Rattle.std.proofs.lemmas.Result.{err_from_is_err_and}
pub use Rattle.std.proofs.lemmas.Slice.Eq.{bytes_eq-Decides}
pub use Rattle.std.proofs.lemmas.Str.{IsCharBoundary-after_ascii, IsCharBoundary-before_ascii, IsCharBoundary-start, IsUtf8-drop, digit_value_digit}
pub use Rattle.std.specs.Prelude.{Err, IfErr, IfOk, IsCharBoundary, IsUtf8, MatchOption, Ok, Result, bytes_eq, is_none, is_some, nat_le, option_and_then, option_map, unwrap_or}
