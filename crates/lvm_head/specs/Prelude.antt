-- The names that contracts in this crate and in the crates above use, collected in one place.
pub use Rattle.lvm_head.specs.Areas.{is_header, is_near, is_none, is_within, location_in, ring_place}
pub use Rattle.lvm_head.specs.Base.{AreRead, Area, Array, Differ, Err, HeadFault, Header, IfErr, IfOk, Label, Long, Memory, Ok, OnOk, Partitions, ReadFault, Text, Unread, [], bytes_eq, eight_at, false, length, list_any, map, nat_le, nat_lt, not, sector_in, slice_index, slice_range, slice_split, true, ℕ}
pub use Rattle.lvm_head.specs.Disks.{Contents, Sectors, answer, needed, ◌>>=◌}
pub use Rattle.lvm_head.specs.FirstFound.{earlier}
unfoldable pub use Rattle.lvm_head.specs.FirstFound.{first_found}
pub use Rattle.lvm_head.specs.Heads.{AllSaid, Returns, Said, at_disk, head_of, heads_of, joined, same_text}
unfoldable pub use Rattle.lvm_head.specs.Heads.{areas_text, heads_from}
pub use Rattle.lvm_head.specs.Labels.{area_at, areas_in, areas_of, has_sectors, header_at, id_of, is_entry, is_member, is_partitioned, is_sound, is_taken, label_in, label_of, or_no_label, pairs_of, undivided}
pub use Rattle.lvm_head.specs.Laws.{HasBytes, IsEnded, IsTheLabel, IsUndivided, ReadsBack, SpellsArea, SpellsText}
pub use Rattle.lvm_head.specs.Message.{fault_word, head_message}
pub use Rattle.lvm_head.specs.Sums.{sum_of}
unfoldable pub use Rattle.lvm_head.specs.Sums.{sum_bit, sum_byte}
pub use Rattle.lvm_head.specs.Texts.{area_text, byte_at, ended, ring_bytes, text_at}
unfoldable pub use Rattle.lvm_head.specs.Texts.{gathered}
