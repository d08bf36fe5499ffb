-- Names of std, of lower crates and of this crate's types, re-exported from one place.
pub use Rattle.dm_map.specs.Prelude.{AllByRecursion, BlockUnit, CopyOf, Drops, Fails, FillOf, IsLawful, IsOnDisk, IsOnDisks, MapperView, ReadOf, SinkPast, State, Step, WriteOf, Zeros, disk_unit, diskless_len, first_unit, next_unit, piece_len, request_step, snapshot_at, taken_at, units_in, units_of, usage_of, with_looked}
pub use Rattle.dm_stack.specs.Prelude.{Description, IsSound, LiesOnDisk, device_len, disk_name_at, is_same, name_at, position, snapshots}
pub use Rattle.dm_stream.specs.declared.runs.earlier.EarlierFault.{EarlierFault}
pub use Rattle.dm_stream.specs.declared.runs.ending.Ending.{Ending}
pub use Rattle.dm_stream.specs.declared.runs.ending.Ending.TheVariants.{BadRequest, Done, ReadFault, WriteFault}
pub use Rattle.dm_stream.specs.declared.runs.ending.NotMapped.{NotMapped}
pub use Rattle.dm_stream.specs.declared.runs.ending.RequestWord.{RequestWord}
pub use Rattle.dm_stream.specs.declared.runs.ending.RequestWord.TheVariants.{Form, Length, Long, Many, Number, Unended, Unknown}
pub use Rattle.dm_table.specs.Prelude.{Bool, Clean, Delivery, Err, Failed, HasGrown, HasRead, HasWritten, HasWrittenTo, IfErr, IfOk, InputPast, IsBeginning, IsClosedAfter, IsCutShort, IsPut, IsReadOn, IsSameReference, List, MetNothing, None, Ok, OnOk, Open, Option, OutputPast, RequestValues, Result, Some, Stand, Wrote, [], after_read, all_but_last, ap, append-nil, append_assoc, code, codes, cond, decimal, delivery, drop, false, fault_of, flat_map, get_or, given, length, map, nat_lt, parts_at, refl, request_reading, since, since-same, since_more, slice_range, subst, suc, sym, take, true, values_of, written_since, written_to_more, written_to_none, ℕ, ◌∙◌}
