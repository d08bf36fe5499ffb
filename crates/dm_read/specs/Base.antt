-- Names of std, of lower crates and of this crate's types, re-exported from one place.
pub use Rattle.dm_map.specs.Prelude.{BlockUnit, Description, IsGroundNear, ReadOf, State, Zeros, device_len, read, replicate, unit_at, with_looked, zero}
pub use Rattle.dm_read.specs.declared.fault.ByteFault.{ByteFault}
pub use Rattle.dm_read.specs.declared.fault.ByteFault.TheVariants.{Error, Unread}
pub use Rattle.dm_read.specs.declared.fault.Stop.{Stop}
pub use Rattle.dm_store.specs.Prelude.{AreRead, Contents, DiskContents, Sectors, disk_contents, sector_in}
pub use Rattle.dm_table.specs.Prelude.{Err, HasWritten, IfErr, IfNone, IfSome, IsCutShort, List, None, Ok, OnOk, Option, Result, Some, [], codes, decimal, fault_of, length, suc, written_since, ℕ}
