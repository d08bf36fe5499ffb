-- Names and lemmas that proofs cite, re-exported from one place.
pub use Rattle.dm_map.proofs.Prelude.{BlockUnit, IsCutShort, IsFirstRead, MapperView, OutputPast, ReadOf, Wrote, drop_at, read, since_more, take_at, unit_at, written_more}
pub use Rattle.dm_read.specs.Prelude.{AreCounted, AreFilled, AreKept, AreRead, ByteFault, Contents, DiskContents, Filled, HasWritten, Reading, Sectors, Stop, after, device_bytes, disk_contents, of_disk, sector_in, unit_bytes, with_looked, written_since, zeros}
unfoldable pub use Rattle.dm_read.specs.Prelude.{bytes_of}
pub use Rattle.dm_table.proofs.Std.{Err, IfNone, IfSome, List, None, Ok, OnOk, Option, Result, Some, [], ap, append-nil, append_assoc, arith, cases_lt, drop, drop-append-le, drop-drop, drop-take, err_from_is_err_and, inl, inr, length, length-append, length-drop, length-replicate, length-take-le, refl, replicate, replicate-append-replicate, subst, suc, sym, take, take-add, take-append-le, zero, ℕ, ◌∙◌}
