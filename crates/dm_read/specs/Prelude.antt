-- Names that contracts of this crate and of crates above cite, re-exported from one place.
pub use Rattle.dm_read.specs.Base.{AreRead, ByteFault, Contents, DiskContents, Err, HasWritten, IfErr, IsGroundNear, Ok, OnOk, ReadOf, Sectors, Stop, device_len, disk_contents, fault_of, length, replicate, sector_in, unit_at, with_looked, written_since, ℕ}
pub use Rattle.dm_read.specs.Bytes.{IsWritten, Reading, after, device_bytes, of_disk, unit_bytes, zeros}
unfoldable pub use Rattle.dm_read.specs.Bytes.{bytes_of}
pub use Rattle.dm_read.specs.Filled.{AreCounted, AreFilled, AreKept}
pub use Rattle.dm_read.specs.Message.{fault_word, stop_message}
pub use Rattle.dm_read.specs.declared.filled.Filled.{Filled}
