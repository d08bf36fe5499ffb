-- The names and lemmas that proofs use, in one place.
pub use Rattle.dm_table.proofs.Std.{All, AllBelowBase, AllByRecursion, Bool, Decides-eqb, Err, IsErr, IsErrAnd, IsInRange, IsNumeralModel, IsUtf8, IsUtf8-from_ascii, IsUtf8-from_is_utf8, IsUtf8-nil, List, MatchOption-at_none, MatchResult, None, Ok, OnErr, OnOk, Option, Result, Some, [], add-mul, add-mul-div_left, add-zero, agree_below_at, and-false, and_block, and_from, and_mask, and_parts, and_right, ap, append-nil, append_assoc, arith, bit_and, bit_or, bitmask_splat, bytes_eq-Decides, cases_Bool, cases_eq, cases_lt, codes, common_steps, cond, cond-false, cond_some, cons_option, decimal, decimal-digits_value, decimal_digit, decimal_nonempty, digit_value, digit_value_digit, digits_decimal, digits_value, digits_value-decimal, digits_value_is, digits_value_more, digits_value_short, div-eq_of_lt, drop, drop-append-add, drop-append_seam, drop-drop, drop-map, drop_all, drop_more, elements, eq-eqb, eqb, eqb-false, eqb-suc-zero, eqb-true, err_from_is_err_and, false, false_from_ne_true, first_decimal, flat_map, flat_map-append, from_le_bytes, get_or, inl, inr, is_ascii_digit, is_ok, is_some, is_utf8-from_IsUtf8, join_with_byte, join_with_byte-slice_split, le-leb, le-ltb, leading_from_mask_l, leb-true, length, length-append, length-decimal-le, length-drop, length-map, length-prefix_len, length-slice_split, length-take, length-take-le, list_all, list_all-from_AllPass, list_all_at, list_all_more, lt-ltb, ltb-true, map, map-append, map-id, map_push, mask_l-lt, mask_l-mod, mul_assoc, mul_comm, nat_eq, nat_le, nat_lt, nat_tests, ne_eqb, nil_from_length, not, not-false, not-true, not_from_false, not_from_true, number_after_append, number_from_digits, number_from_digits_after, number_lt, numerals_by_value, onto_first, option_map, option_to_list, or_cases, or_left, or_right, or_shifted, pointwise, pos_of_ne-zero, pow-succ', pow_mono, pow_pos, prefix_len, prefix_len-drop_all, prefix_len-drop_no, prefix_len-drop_yes, prefix_len-le-length, prefix_len_passes, prefix_len_stops, proved, refl, replicate, rules, shr_split, slice_get, slice_index_or, slice_range, slice_set, slice_split-cons_no, slice_split-cons_yes, slice_split_at, slice_split_none, starts_is, subst, suc, sym, take, take-add, take-append-add, take-append-drop, take-append_seam, take-map, take-take, take_all, take_at, take_rest, tops_compared, trailing_mask_l, true, unwrap_or, vec_len, w64, w8, zero, zip2_splat, zip2_splat_left, ℕ, ◌∙◌}
unfoldable pub use Rattle.dm_table.proofs.Std.{is_utf8}
pub use Rattle.dm_table.specs.Prelude.{All-list_all, Amount, Answers, AreNumbers, Argument, Body, Column, DescribesConcise, DescribesDisks, DescribesPaths, DescribesRequest, DescribesTable, DevRef, DeviceSpec, DifferInName, Disk, DiskPath, Disks, Error, Field, FirstFaults, Flag, Form, Gathering, HasPlaceOf, HasWritten, IsArgument, IsBeginning, IsBody, IsClosedAfter, IsCutShort, IsDescribed, IsDevRef, IsDiskOf, IsFront, IsParsed, IsPathOf, IsReadTo, IsSaid, IsTarget, Keeping, Length, Line, Linear, LinesSay, LoadFault, LoadKind, Lower, Memory, Name, NamedLine, NotText, Number, OnTrue, Op, Origin, OutFault, OutputPast, Part, Paths, Persistent, Place, Read, Reads, ReadsBack, RequestFault, RequestValues, RowFault, SayEach, SaysDevice, SaysLine, SaysLines, Source, Spells, StoreKind, Striped, Syntax, Target, Transient, Write, Writes, WritesBody, Wrote, Zero, add_line, add_said, after_flush, after_write, all_but_last, alone, are_two, argument_text, arguments_in, as_concise, as_table, bodies_reading, body_fields, body_head, body_in, body_reading, body_text, column_arguments, column_text, columns_in, columns_of, columns_reading, concise_checks, concise_device, concise_text, dev_in, dev_reading, dev_text, device_in, device_reading, devices_from, devices_of, disk_at, disk_checks, disk_in, disk_line, earlier_of, either, ends_added, ends_empty, entries, entries_reading, fault_at, fault_before, fault_in, fault_of_bodies, fault_of_body, fault_of_device, fault_of_entries, fault_of_label, faults_from, fields, first_failed, first_fault, first_noted, first_or, flag_text, has_body_names, has_column_names, has_form, has_label_names, has_label_values, has_line_names, has_name, has_names, has_place, has_sectors, has_target_names, has_values, if_both, is_body, is_body_row, is_count, is_dev_ref, is_device, is_device_byte, is_device_name, is_disk_byte, is_disk_name, is_flags, is_label, is_length, is_minor, is_number, is_op, is_pair, is_path_text, is_printable, is_ro, is_row, is_uuid, join_line, joined, kind_in, kind_text, lacks, last_or, line_at, line_in, line_of, line_text, linear_in, lines_at, lines_in, lines_of, lines_text, lower_in, made_of, mapper, marks_of, name_and_path, name_in, named_in, named_lines, named_reading, names_device, no_faults, not_text, noted, noted_at, noted_rest, noted_rows, nothing_in, number_in, op_text, pair_in, part_word, parts_at, parts_of, parts_reading, path_at, path_checks, path_in, place_of, placed_lines, reading_of, request_reading, request_text, rest_of, row, row_checks, row_fault, row_fields, row_of, row_reading, rows_of, said_unless, same_input, same_output, since, since_is, since_more, striped_in, table_checks, table_row_fault, table_text, target_fields, target_head, target_in, target_reading, target_row, target_text, texts, the_row, then_in, unended, unless, untexts, values_from, values_in, values_reading, with_fault, with_line, with_rows, with_target, without_first_space, without_last_space, without_newline, written_more, after_mark, bytes_in, cut_at, extent_by, extent_of, is_of_part, sectors_in, whole_file}
unfoldable pub use Rattle.dm_table.specs.Prelude.{number_of, read_concise, read_paths, place_in}
pub use Rattle.dm_table.specs.declared.requests.request.TheConstants.{MOST_SECTORS}
pub use Rattle.memchr.specs.Find.{IsFirstByte, IsLastByte, Nowhere, Passes, is_byte}
pub use Rattle.std.specs.Global.{Vec}
