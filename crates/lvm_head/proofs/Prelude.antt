-- The names and lemmas that proofs use, in one place.
pub use Rattle.dm_table.proofs.Std.{All, All-cons, All-nil, All-tail, Any, Bool, Err, List, None, Ok, Option, Result, Some, [], ap, append-nil, append_assoc, ap₂, arith, bit_xor, bytes_eq, bytes_eq-Decides, common_steps, drop, drop_all, drop_more, elements, eq-eqb, eqb-true, false, fold, get_or, get_or-append_seam, get_or-map-range_with_len, inl, inr, le-ltb, le-suc_iff, length, length-append, length-map-range_with_len, ltb-false, map, nat_lt, ne_eqb, not, not-false, or_parts, range_with_len, refl, rules, slice_range, subst, suc, sym, take, take-append-le, take-suc, take_all, tests, true, zero, ℕ, ◌∙◌}
pub use Rattle.lvm_head.specs.Prelude.{AllSaid, AreRead, Area, Array, Contents, Differ, HasBytes, HeadFault, Header, IsEnded, IsTheLabel, IsUndivided, Label, Long, Partitions, ReadFault, ReadsBack, Returns, Said, Sectors, SpellsArea, SpellsText, Text, Unread, answer, area_at, area_text, areas_of, at_disk, byte_at, earlier, ended, head_of, heads_of, id_of, is_header, is_member, is_near, is_none, is_partitioned, is_sound, is_taken, is_within, joined, label_in, label_of, location_in, needed, or_no_label, ring_bytes, ring_place, same_text, sector_in, sum_of, text_at, undivided, ◌>>=◌}
unfoldable pub use Rattle.lvm_head.specs.Prelude.{areas_text, first_found, gathered, heads_from, sum_bit, sum_byte}
pub use Rattle.std.proofs.Math.Seq.{get_or-drop, get_or-take}
