-- The names from std and from lower crates, and this crate's types, that this crate's definitions use.
pub use Rattle.dm_table.specs.Std.{All, AllByRecursion, Bool, Err, Fml, IfErr, IfNone, IfOk, IfSome, IsAscii, IsErr, IsOkAnd, IsTrue, Keeps, Lends, List, MatchOption, MutBor, None, Ok, OnErr, OnFalse, OnOk, OnTrue, Option, RattleType, ReadConsumes, Result, Some, WriteAppends, [], codes, cons_option, decimal, digits_value, drop, ends_with, false, filter_map, flat_map, ftrue, get_or, insert, is_ascii_digit, is_err, is_some, join_with_byte, length, list_all, map, min, nat_eq, nat_le, nat_lt, not, number_from_digits, ok_or, option_map, option_to_list, pointwise, prefix_len, sem, slice_index, slice_index_or, slice_range, slice_set, slice_split, starts_with, string_bytes, suc, take, true, unwrap_or, vec_capacity, vec_len, ℕ}
unfoldable pub use Rattle.dm_table.specs.Std.{is_utf8}
pub use Rattle.dm_table.specs.declared.load.load_fault.LoadFault.{LoadFault}
pub use Rattle.dm_table.specs.declared.load.load_fault.LoadKind.{LoadKind}
pub use Rattle.dm_table.specs.declared.load.load_fault.LoadKind.TheVariants.{Long, Memory, NotText, Read}
pub use Rattle.dm_table.specs.declared.load.place.Part.{Part}
pub use Rattle.dm_table.specs.declared.load.place.Part.TheVariants.{Disks, Paths, Source}
pub use Rattle.dm_table.specs.declared.load.place.Place.{Place}
pub use Rattle.dm_table.specs.declared.load.row_faults.RowFault.{RowFault}
pub use Rattle.dm_table.specs.declared.load.row_faults.RowFault.TheVariants.{Field, Name, Syntax}
pub use Rattle.std.proofs.Common.{add-zero, ap, append_assoc, arith, cond, refl, subst, sym, ◌∙◌}
pub use Rattle.std.proofs.lemmas.List.{append-nil, drop_at, length-append, map-append, take_at}
