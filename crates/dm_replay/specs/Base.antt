-- Names of std, of lower crates and of this crate's types, re-exported from one place.
pub use Rattle.dm_map.specs.Prelude.{BlockUnit, CopyOf, Drops, Fails, FillOf, IsAmple, IsFitting, IsIntact, IsOnDisk, IsOnDisks, MapperView, Moment, ReadOf, Rows, State, WriteOf, Zeros, after_asked, asked_units, halted_units, past-append, piece_len, request_step, rows_in, sector_after, start_state, step_for, unit_cong, units_in, units_of}
unfoldable pub use Rattle.dm_map.specs.Prelude.{played, sector_past}
pub use Rattle.dm_replay.specs.declared.kept_write.KeptWrite.{KeptWrite}
pub use Rattle.dm_replay.specs.declared.value.Value.{Value}
pub use Rattle.dm_replay.specs.declared.value_run.ValueRun.{ValueRun}
pub use Rattle.dm_stack.specs.Prelude.{AreTops, Description, IsClash, IsTidy, IsTop, claims, device_id, device_len, disk_name_at, is_same}
pub use Rattle.dm_table.specs.Prelude.{IsPut, Wrote, ap, append-nil, append_assoc, code, length-append, refl, subst, sym, ◌∙◌}
pub use Rattle.dm_table.specs.Std.{AllByRecursion, BTreeMap, Bool, IfErr, IfOk, IfSome, IsOrdered, List, None, OnErr, OnFalse, OnOk, OnTrue, Option, Some, [], codes, decimal, false, flat_map, get, get_or, length, map, min, nat_cmp, nat_le, nat_lt, position, suc, take, true, zero, ℕ}
pub use Rattle.dm_table.specs.declared.requests.request.Op.{Op}
pub use Rattle.dm_table.specs.declared.requests.request.Request.{Request}
