-- The names that contracts in this crate and in the crates above use, collected in one place.
pub use Rattle.dm_table.specs.Base.{Bool, Disks, Err, IfErr, IfNone, IfOk, IfSome, IsErr, IsOkAnd, IsTrue, Keeps, List, LoadFault, LoadKind, Memory, None, NotText, Ok, OnErr, OnFalse, OnOk, OnTrue, Option, Part, Paths, Place, ReadConsumes, Result, RowFault, Some, Source, WriteAppends, [], ap, append-nil, append_assoc, codes, cond, decimal, digits_value, drop, drop_at, false, flat_map, get_or, insert, is_ascii_digit, is_err, is_some, join_with_byte, length, length-append, list_all, map, map-append, min, nat_lt, number_from_digits, option_map, option_to_list, prefix_len, refl, sem, slice_index_or, slice_range, string_bytes, subst, suc, sym, take, take_at, true, vec_capacity, vec_len, ℕ, ◌∙◌}
pub use Rattle.dm_table.specs.contracts.io.ghost_list.GhostList.{the_row}
pub use Rattle.dm_table.specs.declared.io.device_io.OutFault.{OutFault}
pub use Rattle.dm_table.specs.declared.load.load_fault.LoadKind.TheVariants.{Field, Name, Syntax}
pub use Rattle.dm_table.specs.declared.load.row_faults.FirstFaults.{FirstFaults}
pub use Rattle.dm_table.specs.declared.requests.request.Op.{Op}
pub use Rattle.dm_table.specs.declared.requests.request.Op.TheVariants.{Read, Write}
pub use Rattle.dm_table.specs.declared.requests.request.RequestFault.{RequestFault}
pub use Rattle.dm_table.specs.declared.requests.request.RequestFault.TheVariants.{Form, Length, Number}
pub use Rattle.dm_table.specs.declared.tables.disk.Disk.{Disk}
pub use Rattle.dm_table.specs.declared.tables.disk_path.DiskPath.{DiskPath}
pub use Rattle.dm_table.specs.declared.tables.table.Column.{Column}
pub use Rattle.dm_table.specs.declared.tables.table.DevRef.{DevRef}
pub use Rattle.dm_table.specs.declared.tables.table.DeviceSpec.{DeviceSpec}
pub use Rattle.dm_table.specs.declared.tables.table.Line.{Line}
pub use Rattle.dm_table.specs.declared.tables.table.StoreKind.{StoreKind}
pub use Rattle.dm_table.specs.declared.tables.table.StoreKind.TheVariants.{Keeping, Persistent, Transient}
pub use Rattle.dm_table.specs.declared.tables.table.Target.{Target}
pub use Rattle.dm_table.specs.declared.tables.table.Target.TheVariants.{Error, Linear, Origin, Striped, Zero}
pub use Rattle.dm_table.specs.io.Block.{IsPut}
pub use Rattle.dm_table.specs.io.DeviceIo.{Clean, Delivery, Failed, InputPast, Open, OutputPast, Stand, after_flush, after_read, after_write, delivery, ends_added, fault_of, given, since, stand_of, unflushed, with_fault, written_since}
pub use Rattle.dm_table.specs.io.Gathered.{Gathering, MindsFaults, past_of}
pub use Rattle.dm_table.specs.io.Progress.{FailedOutput, FailedWhere, HasGrown, HasRead, HasWritten, HasWrittenTo, IsClosedAfter, IsFinished, IsFlushed, IsReadOn, IsSameReference, MetNothing, Wrote}
pub use Rattle.dm_table.specs.io.WriteAll.{IsBeginning, IsCutShort}
pub use Rattle.dm_table.specs.laws.NameLaws.{All-list_all, ascii-device_name, ascii-disk_name}
pub use Rattle.dm_table.specs.laws.Progress.{closed_as, finished_as, grows-same, grows_more, same_input, same_output, since-same, since_is, since_more, written_more, written_none, written_to_more, written_to_none}
pub use Rattle.dm_table.specs.load.LoadFault.{Answers, IsMemoryFault, fault, fault_at, faults_by, faults_from, first_fault, first_or, is_printable, not_text, row_checks, unended, unless, untexts}
pub use Rattle.dm_table.specs.load.LoadMessage.{kind_message, kind_word, load_message, memory_message, part_word}
pub use Rattle.dm_table.specs.load.Parsed.{IsParsed}
pub use Rattle.dm_table.specs.load.PartInput.{PartRead, Refuses, TextOf, Unread, part_read}
pub use Rattle.dm_table.specs.load.Reading.{LinesSay, SayEach, line_checks, values_from, with_rows}
pub use Rattle.dm_table.specs.load.RowFaults.{Reads, either, fault_in, first_failed, first_noted, no_faults, noted, noted_at, noted_rest, noted_rows, row_fault, said_unless}
pub use Rattle.dm_table.specs.requests.RequestLine.{AreNumbers, DescribesRequest, IsFront, RequestValues, are_two, has_form, is_length, is_op, op_text, request_reading, request_text, row_of, values_in, values_of, values_reading}
pub use Rattle.dm_table.specs.tables.CanonicalText.{ReadsBack, as_concise, as_table, concise_device, concise_text, flag_text, lines_at, lines_text, placed_lines, table_text}
pub use Rattle.dm_table.specs.tables.ConciseReading.{bodies_reading, device_in, device_reading, devices_from, earlier_of, entries_reading, fault_of_bodies, fault_of_body, fault_of_device, fault_of_entries, fault_of_label, lines_in, parts_reading}
unfoldable pub use Rattle.dm_table.specs.tables.ConciseReading.{read_concise}
pub use Rattle.dm_table.specs.tables.ConciseText.{DescribesConcise, SaysDevice, SaysLines, WritesBody, body_fields, concise_checks, devices_of, entries, has_label_names, has_label_values, has_names, has_values, is_device, is_flags, is_label, is_minor, is_ro, is_uuid, lacks, parts_of, place_of, without_first_space, without_newline}
pub use Rattle.dm_table.specs.tables.DiskList.{DescribesDisks, IsDiskOf, disk_at, disk_checks, disk_in, disk_line, disk_reading, has_name, has_sectors, is_pair, pair_in}
pub use Rattle.dm_table.specs.tables.Extent.{Extent, whole_file}
pub use Rattle.dm_table.specs.tables.LineBody.{Amount, Argument, Body, Flag, IsArgument, IsBody, IsDevRef, IsTarget, Lower, argument_text, arguments_in, body_in, body_text, column_arguments, column_text, columns_in, dev_in, dev_text, has_body_names, has_target_names, if_both, is_body, is_body_row, is_count, is_dev_ref, kind_in, kind_text, linear_in, lower_in, nothing_in, row, striped_in, target_fields, target_in, target_row, target_text, then_in}
pub use Rattle.dm_table.specs.tables.LineHead.{body_head, columns_of, target_head}
pub use Rattle.dm_table.specs.tables.LineReading.{body_reading, columns_reading, dev_reading, fault_before, has_column_names, line_at, line_in, line_of, made_of, reading_of, target_reading, with_line, with_target}
pub use Rattle.dm_table.specs.tables.PathList.{DescribesPaths, IsPathOf, after_mark, bytes_in, cut_at, extent_by, extent_of, has_place, is_of_part, is_path_text, name_and_path, path_at, path_checks, path_in, path_reading, sectors_in}
unfoldable pub use Rattle.dm_table.specs.tables.PathList.{place_in, read_paths}
pub use Rattle.dm_table.specs.tables.Span.{Span, column_span, spans, target_spans, whole_span}
pub use Rattle.dm_table.specs.tables.TableReading.{add_line, add_said, alone, has_line_names, join_line, joined, named_in, named_reading, row_reading, rows_of, table_row_fault}
pub use Rattle.dm_table.specs.tables.TableText.{DescribesTable, DifferInName, HasPlaceOf, IsDescribed, IsSaid, NamedLine, SaysLine, Writes, is_row, line_text, name_in, named_lines, table_checks}
pub use Rattle.dm_table.specs.words.Bytes.{code}
pub use Rattle.dm_table.specs.words.Fields.{all_but_last, ends_empty, fields, last_or, lines_of, parts_at, rest_of, row_fields, texts, without_last_space}
pub use Rattle.dm_table.specs.words.Marks.{marks_of}
pub use Rattle.dm_table.specs.words.Name.{is_device_byte, is_device_name, is_disk_byte, is_disk_name, mapper, names_device}
pub use Rattle.dm_table.specs.words.Number.{IsReadTo, Spells, is_number, number_in}
unfoldable pub use Rattle.dm_table.specs.words.Number.{number_of}
