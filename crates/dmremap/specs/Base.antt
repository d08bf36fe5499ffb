-- Names of std, of lower crates and of this crate's types, re-exported from one place.
pub use Rattle.clap.specs.Words.{App, Row, Rule, Text, app_of, fault_of, first_of, kind_of, new_app, new_rule, subcommand_of, with_rule, with_subcommand}
pub use Rattle.dm_read.specs.Prelude.{IsWritten, Reading, device_bytes, stop_message}
unfoldable pub use Rattle.dm_read.specs.Prelude.{bytes_of}
pub use Rattle.dm_replay.specs.Prelude.{AreMaximal, Asked, HasTop, IsUnanswered, asked_answers, flat, replay_from, runs_text, world_after}
pub use Rattle.dm_stack.specs.Prelude.{Description, IsClash, IsRefusedBy, IsReport, IsSound, IsTidy, claims, described, device_id, device_len, disk_len, filter, is_same, name_at, option_map_or, position, slice_get}
pub use Rattle.dm_store.specs.Prelude.{AgreesWith, Contents, DiskContents, Place, disk_contents, images_of, start_state, store_message, stored_state, in_extent}
pub use Rattle.dm_stream.specs.Prelude.{AreFewest, Bor, CanMap, HasMet, HasTold, IsTold, NumberedRequest, Outcome, Requests, State, before_first, earlier_message, ending_message, fewest, is_ok, refused_ending, refused_request, requests_of, requests_outcome, run_outcome, write_faults, write_message}
pub use Rattle.dm_stream.specs.declared.runs.ending.Ending.{Ending}
pub use Rattle.dm_stream.specs.declared.runs.ending.Ending.TheVariants.{BadRequest, Done, ReadFault, WriteFault}
pub use Rattle.dm_table.specs.Prelude.{Bool, Delivery, DescribesConcise, DescribesDisks, DescribesTable, Err, Failed, FailedWhere, HasWritten, HasWrittenTo, IfErr, IfOk, InputPast, IsCutShort, IsFinished, IsFlushed, IsReadOn, List, MetNothing, None, Ok, Option, OutputPast, PartRead, Refuses, Result, Some, TextOf, Unread, [], ap, append-nil, append_assoc, code, codes, concise_checks, concise_text, delivery, digits_value, disk_checks, drop, false, fault_at, first_fault, join_with_byte, length, load_message, map, map-append, memory_message, nat_lt, option_map, part_read, since, since-same, since_more, subst, sym, table_checks, table_text, take, true, written_since, written_to_more, written_to_none, ℕ, ◌∙◌}
unfoldable pub use Rattle.dm_table.specs.Prelude.{read_paths}
pub use Rattle.dm_table.specs.declared.load.load_fault.LoadFault.{LoadFault}
pub use Rattle.dm_table.specs.declared.load.load_fault.LoadKind.TheVariants.{Limit, Memory, Read}
pub use Rattle.dm_table.specs.declared.load.place.Part.TheVariants.{Disks, Paths, Source}
pub use Rattle.dm_table.specs.declared.tables.disk_path.DiskPath.{DiskPath}
pub use Rattle.dm_table.specs.declared.tables.table.DeviceSpec.{DeviceSpec}
pub use Rattle.dmremap.specs.declared.exit.Exit.{Exit}
pub use Rattle.dmremap.specs.declared.exit.Exit.TheVariants.{Ended, NotTop, Refused, Stopped}
pub use Rattle.dmremap.specs.declared.exit.Refusal.{Refusal}
pub use Rattle.dmremap.specs.declared.job.Format.{Format}
pub use Rattle.dmremap.specs.declared.job.Format.TheVariants.{Lvm, Tables}
pub use Rattle.dmremap.specs.declared.job.Job.{Job}
pub use Rattle.dmremap.specs.declared.job.TableForm.{TableForm}
pub use Rattle.dmremap.specs.declared.job.TableForm.TheVariants.{Concise, Table}
pub use Rattle.lvm_head.specs.Prelude.{AllSaid, AreRead, Sectors, head_message, heads_of, nat_le}
pub use Rattle.lvm_head.specs.declared.fault.HeadRefusal.{HeadRefusal}
pub use Rattle.lvm_volume.specs.Prelude.{Builds, DescribesGroup, Gives, IsRefusedText, IsSpaced, NameParts, OwnedAnswers, Owners, built, bytes_eq, list_any, name_message, name_refusal, not, option_and_then, spaced, unwrap_or, ⊤}
pub use Rattle.lvm_volume.specs.declared.fault.NameFault.{NameFault}
