-- The names that contracts cite, in this crate and in crates above, re-exported from one place.
pub use Rattle.lvm_volume.specs.Base.{AllByRecursion, Answers, Bool, Err, IfErr, IfNone, IfOk, IfSome, IsMemoryFault, IsTrue, IsUtf8, List, MatchOption, MatchResult, Memory, None, NotText, OnOk, Some, Source, Tree, Unknown, [], bytes_eq, codes, content_view, decimal, false, fault_at, first_fault, first_or, flat_map, get_by, is_disk_name, item_view, length, list_all, list_any, map, nat_cmp, nat_lt, node_of, node_view, not, option_and_then, option_map, range_with_len, result_err, scalar_view, scalar_views, sections_of, slice_cmp, slice_index_or, string_bytes, true, unless, unwrap_or, zip, ℕ, ⊤}
pub use Rattle.lvm_volume.specs.Cuts.{after_hyphen, first_slice, later_slices, slice_length, slices_of, with_layer}
pub use Rattle.lvm_volume.specs.Metadata.{DescribesGroup, IsRefusedText, NotUtf8, OfGroup, OfText, SaysOneThing, SaysTree, bad_byte_line, metadata_checks}
pub use Rattle.lvm_volume.specs.NameMessage.{name_message, name_refusal}
pub use Rattle.lvm_volume.specs.Names.{Builds, IsSpaced, IsSplit, NameParts, Returns, begins_with, built, doubled, doubled_parts, fault_of, is_letter, joined, layer_fault, name_parts, or_later, part_fault, parts_view, spaced, undoubled, undoubled_parts, with_hyphen}
pub use Rattle.lvm_volume.specs.OwnedMetadata.{Gives, GivesOneThing, OfTree, OwnedAnswers, Tables, of_load, owned_tables, unless_untaken}
pub use Rattle.lvm_volume.specs.checks.Extents.{Claim, at_line, claim_on, claims_of, extents_at, have_clash, hit, is_misplaced, is_too_long, is_unknown, least_line, least_line_of, lesser, meets, name_faults, parts_of, segment_faults, size_faults, snapshot_faults, snapshot_faults_in, source_line, stripes_of, unknown_faults, used_after, used_by, volumes_named}
pub use Rattle.lvm_volume.specs.checks.SegmentCheck.{test_of}
pub use Rattle.lvm_volume.specs.checks.Used.{Claimed, HasRanges, Holds, claims_by, ranges_of, reaches}
pub use Rattle.lvm_volume.specs.declared.fields.reader.FieldReader.{FieldReader}
pub use Rattle.lvm_volume.specs.declared.group.physical.PhysicalFields.{PhysicalFields}
pub use Rattle.lvm_volume.specs.declared.group.volume.Volume.{Volume}
pub use Rattle.lvm_volume.specs.declared.owned_metadata.OwnedFault.{OwnedFault}
pub use Rattle.lvm_volume.specs.declared.tables.device_names.Layer.TheVariants.{Cow, Real}
pub use Rattle.lvm_volume.specs.fields.Checks.{Check, Fields, Limits}
pub use Rattle.lvm_volume.specs.fields.Fields.{IsChecked, are_pairs, faults_of_fields, field, fields_faults, first_of, group_fields, held, inner_sections, is_asked, is_far, is_far_scalar, is_text, is_wrong, items_at, items_view, load_kind, missing, most, node_faults, number_at, number_in, physical_fields, physicals_faults, section_at, section_view, sections_at, segment_field, segment_fields, segments_of, source_faults, text_at, top_fields, volume_fields, volumes_faults}
unfoldable pub use Rattle.lvm_volume.specs.fields.Fields.{field_faults, group_faults, one_group_faults, volume_faults}
pub use Rattle.lvm_volume.specs.fields.Kinds.{Always, Kind}
pub use Rattle.lvm_volume.specs.fields.Steps.{IsPlainStep, IsStep, after, at_key, later_fields, number_kind, numbers_faults, or_first, segments_faults, type_fields}
pub use Rattle.lvm_volume.specs.group.Group.{Group, Keyed, device_of, first_section, group_in, group_of, group_with, is_text_of, is_writable, keys_in, lists, physicals_in, position_of, positions_in, snapshot_in, striped_in, stripes_in, target_of}
unfoldable pub use Rattle.lvm_volume.specs.group.Group.{chosen, physical_of, segment_of, volume_of}
pub use Rattle.lvm_volume.specs.group.GroupCode.{Counts, texts}
pub use Rattle.lvm_volume.specs.group.GroupFields.{IsSaid, volumes_said}
pub use Rattle.lvm_volume.specs.group.Owners.{Owners, all_owned, disk_fault, id_in, ids_of, lay_elsewhere, name_by, owned, owned_group, owner_of, physicals_of, section_of}
unfoldable pub use Rattle.lvm_volume.specs.group.Owners.{letters_of, untaken}
pub use Rattle.lvm_volume.specs.group.OwnersCode.{ids_view, owners_view}
pub use Rattle.lvm_volume.specs.group.PhysicalFields.{all_named, devices_in, fields_of, fields_view, with_disk_name}
pub use Rattle.lvm_volume.specs.group.RoleCode.{changed, record_list, with_origin, with_store}
pub use Rattle.lvm_volume.specs.group.Roles.{end_of, extents_of, is_bad_snapshot, is_bad_target, is_record, is_store, name_at, recorded, records_of, role_at, role_by, role_of, roles_among, roles_of, segments_at, snapshot_of, unless_recorded}
pub use Rattle.lvm_volume.specs.group.TypeName.{named_type, type_text}
pub use Rattle.lvm_volume.specs.tables.GroupRef.{group_view}
pub use Rattle.lvm_volume.specs.tables.Tables.{AreSegmentsIn, IsMadeIn, IsNamed, IsSegmentIn, IsSnapshotIn, IsSoundGroup, IsStripeIn, checks_of_parts, column_of, columns_target, device_name, device_parts, extent_faults, group_checks, layer_text, layers_of, length_of, line_target, members_of, origin_line, over_device, own_device, physical_at, snapshot_line, tables_of, text_fault, unnamed, unnamed_layer}
unfoldable pub use Rattle.lvm_volume.specs.tables.Tables.{line_of, physical_disk, unnamed_volume}
