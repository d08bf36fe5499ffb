-- The names from std and from lower crates, and this crate's types, that this crate's definitions use.
pub use Rattle.dm_table.specs.Prelude.{memory_message}
pub use Rattle.dm_table.specs.Std.{All, Any, Bool, Err, IfErr, IfOk, List, None, Ok, OnOk, Option, Result, Some, [], bit_xor, bytes_eq, codes, false, fold, length, list_any, map, nat_le, nat_lt, not, range_with_len, slice_index, slice_range, slice_split, suc, take, true, zero, ℕ}
pub use Rattle.dm_table.specs.declared.io.sectors.ReadFault.{ReadFault}
pub use Rattle.dm_table.specs.io.LittleEndian.{eight_at, four_at}
pub use Rattle.dm_table.specs.io.Sectors.{AreRead, sector_in}
pub use Rattle.lvm_head.specs.declared.area.Area.{Area}
pub use Rattle.lvm_head.specs.declared.area.Location.{Location}
pub use Rattle.lvm_head.specs.declared.fault.HeadFault.{HeadFault}
pub use Rattle.lvm_head.specs.declared.fault.HeadFault.TheVariants.{Array, Differ, Ends, Foreign, Header, Label, Long, Memory, Missing, Partitions, Text, Twice, Unread}
