-- The names from std and from lower crates, and this crate's types, that this crate's definitions use.
pub use Rattle.lvm_text.specs.Std.{All, AllPairs, BTreeMap, Bool, Err, IfErr, IfOk, IfSome, IsTrue, List, MatchOption, MatchResult, None, Ok, OnOk, Option, Result, Some, [], bytes_eq, codes, digits_value, drop, false, get_by, get_or, is_ascii, is_ascii_alphanumeric, is_ascii_digit, is_none, is_some, length, list_all, list_any, map, max, nat_cmp, nat_le, nat_lt, not, option_and_then, option_map, refl, slice_cmp, slice_index, suc, take, true, unwrap_or, ℕ}
pub use Rattle.lvm_text.specs.declared.fault.TextFault.{TextFault}
pub use Rattle.lvm_text.specs.declared.fault.TextFault.TheVariants.{Deep, KeyTwice, Memory, Number, Syntax, Token}
pub use Rattle.lvm_text.specs.declared.tree.Scalar.{Scalar}
pub use Rattle.std.proofs.Common.{ap, append_assoc, arith, inl, inr, sym, ◌∙◌}
pub use Rattle.std.proofs.lemmas.List.{append-nil}
