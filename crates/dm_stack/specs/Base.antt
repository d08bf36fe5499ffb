-- Names of std and of lower crates that the specs of dm_stack import, gathered in one module.
pub use Rattle.dm_stack.specs.declared.lines.stripe_position.StripePosition.{StripePosition}
pub use Rattle.dm_table.specs.Prelude.{Answers, IsMemoryFault, Span, code, column_span, either, fault, faults_by, first_fault, first_or, is_device_name, is_disk_name, spans, unless}
pub use Rattle.dm_table.specs.Std.{All, AllByRecursion, AllPairs, Bool, Contains, FnReturns, FnReturnsAt, IfErr, IfNone, IfOk, IfSome, IsNonDecreasingBy, IsPermutation, IsTrue, List, MatchOption, None, OnOk, Option, Some, String, YieldsFirst, [], codes, count_by, count_ones, decimal, drop, false, filter, find, flat_map, fold, get_or, is_none, is_power_of_two, item_count, length, list_all, list_any, map, max, min, nat_eq, nat_le, nat_lt, not, ones-ones, option_copied, option_map, option_map_or, pointwise, position, position_or_len, range_with_len, replicate, result_err, slice_get, slice_index_or, string_bytes, suc, sum_by, take, to_le_bytes, true, w64, zero, ℕ, ⊤}
unfoldable pub use Rattle.dm_table.specs.Std.{IsDistinct}
pub use Rattle.dm_table.specs.declared.load.load_fault.LoadFault.{LoadFault}
pub use Rattle.dm_table.specs.declared.load.load_fault.LoadKind.{LoadKind}
pub use Rattle.dm_table.specs.declared.load.load_fault.LoadKind.TheVariants.{Cycle, Deep, Empty, Gap, Limit, Memory, Overlap, Range, Snapshot, Store, Stripe, Twice, Unknown}
pub use Rattle.dm_table.specs.declared.load.place.Part.TheVariants.{Source}
pub use Rattle.dm_table.specs.declared.load.place.Place.{Place}
pub use Rattle.dm_table.specs.declared.tables.table.DevRef.{DevRef}
pub use Rattle.dm_table.specs.declared.tables.table.DeviceSpec.{DeviceSpec}
pub use Rattle.dm_table.specs.declared.tables.table.Line.{Line}
pub use Rattle.dm_table.specs.declared.tables.table.StoreKind.{StoreKind}
pub use Rattle.dm_table.specs.declared.tables.table.Target.{Target}
pub use Rattle.dm_table.specs.declared.tables.table.Use.{Use}
pub use Rattle.dm_table.specs.declared.tables.table.Use.TheVariants.{Own, Reading, Serving}
