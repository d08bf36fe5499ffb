-- The names from std and from lower crates, and the types of this crate, that the definitions use.
pub use Rattle.dm_table.specs.Prelude.{Answers, IsMemoryFault, code, fault, fault_at, faults_by, first_fault, first_or, is_device_byte, is_device_name, is_disk_name, memory_message, unless}
pub use Rattle.dm_table.specs.Std.{AllByRecursion, BTreeMap, Bool, Err, IfErr, IfNone, IfOk, IfSome, IsTrue, IsUtf8, List, MatchOption, MatchResult, None, Ok, OnOk, Option, Result, Some, [], bytes_eq, codes, count_by, decimal, drop, enumerate_from, false, filter, find, flat_map, get, get_by, get_or, is_ascii_alphanumeric, is_none, is_some, length, list_all, list_any, map, min, nat_cmp, nat_eq, nat_le, nat_lt, not, option_and_then, option_map, position_from, position_or_len, range_with_len, result_err, slice_cmp, slice_get, slice_index, slice_index_or, starts_with, string_bytes, suc, take, true, unwrap_or, zip, ℕ, ⊤}
pub use Rattle.dm_table.specs.declared.load.load_fault.LoadFault.{LoadFault}
pub use Rattle.dm_table.specs.declared.load.load_fault.LoadKind.{LoadKind}
pub use Rattle.dm_table.specs.declared.load.load_fault.LoadKind.TheVariants.{Deep, Extents, Field, Memory, Name, NotText, Syntax, Twice, Unknown}
pub use Rattle.dm_table.specs.declared.load.place.Part.TheVariants.{Source}
pub use Rattle.dm_table.specs.declared.tables.disk.Disk.{Disk}
pub use Rattle.dm_table.specs.declared.tables.table.DeviceSpec.{DeviceSpec}
pub use Rattle.lvm_text.specs.Prelude.{Content, Describes, HasFault, Inner, Int, Items, Nothing, Scalar, Section, Several, Shown, Single, Tree, Values, Whole, content_view, item_view, keys_of, newlines, node_of, node_view, scalar_view, scalar_views, sections_left, sections_of}
pub use Rattle.lvm_text.specs.Tree.{Text}
pub use Rattle.lvm_text.specs.declared.fault.TextFault.{TextFault}
pub use Rattle.lvm_volume.specs.declared.fault.NameFault.{NameFault}
pub use Rattle.lvm_volume.specs.declared.fault.NameFault.TheVariants.{Empty, HyphenFirst, Letter, Long}
pub use Rattle.lvm_volume.specs.declared.group.owners.DiskFault.{DiskFault}
pub use Rattle.lvm_volume.specs.declared.group.physical.Physical.{Physical}
pub use Rattle.lvm_volume.specs.declared.group.roles.Record.{Record}
pub use Rattle.lvm_volume.specs.declared.group.roles.Role.{Role}
pub use Rattle.lvm_volume.specs.declared.group.segment.Segment.{Segment}
pub use Rattle.lvm_volume.specs.declared.group.segment.SegmentType.{SegmentType}
pub use Rattle.lvm_volume.specs.declared.group.segment.SegmentType.TheVariants.{Error, Snapshot, Striped, Zero}
pub use Rattle.lvm_volume.specs.declared.group.segment.Stripe.{Stripe}
