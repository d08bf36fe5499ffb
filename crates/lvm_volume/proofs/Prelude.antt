-- The names and lemmas that proofs use, in one place.
pub use Rattle.dm_table.proofs.FaultLemmas.{first_or-found, first_or-none, first_or-passed, unless-err, unless-ok}
pub use Rattle.dm_table.proofs.Lists.{all_append, all_changed, append-nil_both}
pub use Rattle.dm_table.proofs.Std.{AllByRecursion, AllPairs, BTreeMap, Bool, Err, HasTextAt, IfErr, IfOk, IfSome, IsErrAnd, IsSome, IsTrue, IsUtf8, IsUtf8-from_is_utf8, LacksTextAt, Less, List, MatchOption, None, Ok, Option, Result, Some, Updates, [], and_from, and_parts, and_right, ap, append-nil, append_assoc, ap₂, arith, bytes_eq, bytes_eq-Decides, cases_lt, cases_order, codes, common_steps, cond, cond_both, count_by, decimal, drop, drop-append_seam, drop-cons, drop_all, drop_more, either_empty_from_Zip, enumerate_from, eq-eqb, eqb, eqb-false, eqb-true, err_from_is_err_and, false, filter, flat_map, ge_from_not_lt, get, get_by, get_or, get_or-append_seam, get_or-set_other, get_or-set_same, get_or_append_left, inl, inr, is_at, is_none, is_some, is_utf8-from_IsUtf8, iter_rest, le-leb, le-ltb, leb-true, length, length-append, length-set, list_all, list_any, lt-leb, lt-ltb, ltb-false, ltb-true, map, map_push, mul-le-mul_right, nat_cmp, nat_le, nat_lt, nat_tests, ne_eqb, none-some, not, not-false, option_and_then, option_map, or_parts, or_right, position, position_from, position_or_len, prefix_len-le-length, range_with_len, refl, result_err, rules, same_Some, set, slice_cmp, slice_get, slice_index_or, string_bytes, subst, suc, sum_by-cons, sym, take, take-append-drop, take-append_seam, take_more, text_counts, true, unwrap_or, zero, zip, zip_first, zip_second, ℕ, ◌∙◌}
unfoldable pub use Rattle.dm_table.proofs.Std.{IsDistinct, is_utf8}
pub use Rattle.lvm_text.proofs.Unique.{no_fault, one_fault, one_tree}
pub use Rattle.lvm_text.proofs.Whole.{every_text}
pub use Rattle.lvm_volume.specs.Base.{Answers, Content, Describes, DeviceSpec, Disk, DiskFault, Extents, Field, HasFault, Int, IsMemoryFault, LoadFault, LoadKind, Memory, Name, NameFault, NotText, Nothing, Physical, Record, Role, Scalar, Section, Segment, SegmentType, Several, Shown, Single, Snapshot, Source, Stripe, Text, TextFault, Tree, Unknown, Values, Whole, code, fault, fault_at, faults_by, first_fault, first_or, is_device_byte, is_device_name, is_disk_name, item_view, keys_of, node_of, scalar_views, sections_left, sections_of, unless}
pub use Rattle.lvm_volume.specs.Prelude.{Always, Builds, Check, Claim, Claimed, Cow, DescribesGroup, FieldReader, Fields, Gives, GivesOneThing, Group, HasRanges, Holds, IsChecked, IsMadeIn, IsPlainStep, IsRefusedText, IsSaid, IsSegmentIn, IsSnapshotIn, IsSoundGroup, IsSplit, IsStep, IsStripeIn, Keyed, Kind, Limits, NameParts, NotUtf8, OfGroup, OfText, OfTree, OwnedAnswers, OwnedFault, Owners, PhysicalFields, Real, Returns, SaysOneThing, SaysTree, Tables, Volume, after, after_hyphen, all_named, all_owned, are_pairs, at_key, at_line, bad_byte_line, begins_with, built, changed, checks_of_parts, claims_by, claims_of, column_of, device_of, device_parts, devices_in, disk_fault, doubled, doubled_parts, end_of, extent_faults, extents_at, fault_of, faults_of_fields, field, fields_faults, fields_of, fields_view, first_of, first_section, first_slice, group_checks, group_fields, group_in, group_of, group_view, group_with, have_clash, held, hit, id_in, ids_of, ids_view, is_asked, is_bad_snapshot, is_bad_target, is_far, is_far_scalar, is_letter, is_misplaced, is_record, is_store, is_text, is_text_of, is_too_long, is_unknown, is_wrong, joined, keys_in, later_fields, later_slices, layer_fault, layers_of, least_line, least_line_of, length_of, lesser, load_kind, meets, members_of, metadata_checks, missing, most, name_at, name_faults, name_parts, node_faults, number_at, number_in, numbers_faults, of_load, or_first, or_later, owned, owned_group, owned_tables, owner_of, owners_view, part_fault, parts_of, parts_view, physical_at, physical_fields, physicals_faults, physicals_in, physicals_of, position_of, positions_in, ranges_of, reaches, record_list, recorded, records_of, role_at, role_by, role_of, roles_among, roles_of, section_at, section_of, section_view, sections_at, segment_faults, segment_field, segment_fields, segments_at, segments_faults, segments_of, size_faults, slice_length, slices_of, snapshot_faults, snapshot_faults_in, snapshot_of, source_faults, source_line, spaced, stripes_in, stripes_of, tables_of, test_of, text_at, text_fault, texts, top_fields, type_text, undoubled, undoubled_parts, unknown_faults, unless_recorded, unless_untaken, unnamed, unnamed_layer, used_after, used_by, volume_fields, volumes_faults, volumes_named, with_disk_name, with_hyphen, with_layer, with_origin, with_store}
unfoldable pub use Rattle.lvm_volume.specs.Prelude.{chosen, field_faults, group_faults, letters_of, line_of, one_group_faults, physical_disk, physical_of, segment_of, unnamed_volume, untaken, volume_faults, volume_of}
