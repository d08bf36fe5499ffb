-- Names and lemmas that proofs cite, re-exported from one place.
pub use Rattle.clap.specs.Walk.{texts}
pub use Rattle.clap.specs.Words.{Row, Text, app_of, first_of, found_of, rows_of}
pub use Rattle.dm_replay.proofs.NamedLemmas.{named_id, named_top, none_named, top_named}
pub use Rattle.dm_stack.proofs.OneFault.{never_both, one_fault}
pub use Rattle.dm_stream.proofs.Prelude.{AllByRecursion, Bool, Bor, Description, Err, FindsText, HasMet, HasRun, HasTold, IfErr, IfErr-at_err, IfOk, IfSome, IsAmong, IsErr, IsErrAnd, IsSound, IsTidy, IsTop, LacksTextAt, List, MatchOption, None, NumberedRequest, Ok, OnErr, OnOk, Option, Outcome, Requests, Result, Some, SplitsAroundMatch, State, [], add-one, and_then, ap₂, arith, before_first, bytes_eq, bytes_eq-Decides, cases_Bool, claims, codes, device_of, drop, drop_all, drop_at, drop_more, ending_message, err_from_is_err_and, false, filter, filter-append, get_or, get_or-map, inl, inr, is_ok, length, length-append, length-drop, length-map, map, nat_lt, not, numbered, option_and_then, option_map, position, position-Some, refused_ending, requests_of, rules, run_outcome, slice_get, slice_get_read, stopped, suc, take, take-append-drop, take-length, take_at, take_while-cons, true, true≢false, zero, ℕ}
pub use Rattle.dm_stream.specs.declared.runs.earlier.EarlierFault.{EarlierFault}
pub use Rattle.dm_table.specs.Prelude.{Delivery, FailedOutput, HasWritten, IfNone, InputPast, IsClosedAfter, IsCutShort, IsFinished, IsReadOn, MetNothing, OutputPast, PartRead, TextOf, Unread, Wrote, ap, append-nil, append_assoc, cond, delivery, digits_value, disk_checks, fault_of, finished_as, first_fault, grows-same, join_with_byte, kind_message, load_message, map-append, memory_message, part_read, refl, since, since-same, string_bytes, subst, sym, written_none, written_since, written_to_none, ◌∙◌}
pub use Rattle.dm_table.specs.declared.io.sectors.ReadFault.{ReadFault}
pub use Rattle.dm_table.specs.declared.load.load_fault.LoadKind.{LoadKind}
pub use Rattle.dm_table.specs.declared.tables.disk.Disk.{Disk}
unfoldable pub use Rattle.dmremap.specs.Base.{bytes_of, read_paths}
pub use Rattle.dmremap.specs.Prelude.{AllSaid, Answer, Answers, AreAnswered, AreImagesAsked, AreImagesOpened, AreMaximal, ArePartsOpened, ArePartsRead, ArePlayedIf, ArePlayedOver, AreRead, AreSeen, AreSettled, Asked, AskedBy, Begins, Builds, Contents, Describes, DescribesDevices, DescribesGroupAs, DeviceSpec, DiskContents, DiskPath, Disks, DisksOpen, Does, Done, EarlierRead, End, Ended, Ending, EndsAs, Entry, Exit, Exits, Failed, FailedAfter, Format, Gives, GivesFault, HasApp, HasDone, HasMetBy, HasPlayed, HasStopped, HasTop, HeadRefusal, HeadsOpen, ImagesOpen, IsAnswer, IsBegunAt, IsClash, IsClosedAs, IsCutReplay, IsOfKind, IsOfNone, IsOfTop, IsOne, IsOneSettled, IsOpened, IsOut, IsOutOfMemory, IsPlain, IsPlayed, IsReadOnIf, IsRefusedFor, IsReport, IsSettled, IsSpaced, IsStoppedBy, IsTaken, IsUnanswered, IsUnasked, IsUnowned, IsUntaken, IsWhole, IsWritten, JobAnswers, JobMakes, JobWords, ListOpens, Load, LoadFault, Loaded, Lvm, Maps, MapsOver, Memory, MessagesTold, MetadataGives, MetadataPartGives, Moved, NameFault, NameParts, Opened, Opening, OpeningMakes, OpensBy, OutOfMemory, OutputWritten, OwnedAnswers, Owners, Parsers, PartsGive, PartsOpen, Paths, Place, Prints, PrintsImages, RangeWords, Reading, Refusal, Refused, RefusedBy, Refuses, ReplaysOver, ReplaysStack, ReportSays, RequestsRead, Said, SaidBy, SaidOpens, SoundAs, Source, SplitSays, StackGives, Start, Stops, StopsAt, StreamsLeft, TableForm, Tables, TakeFormats, Tells, TextPartsGive, TextsGive, Told, WriteFault, Writes, answer_after, answer_from, answer_over, answer_said, asked_answers, asked_of, built, by_text, check_words, command_line, delivered_if, delivery_if, described, device_bytes, device_checks, disk_contents, disk_message, earlier_from, end_of, ended_by, ending_status, exit_after, exit_message, exit_status, explain_words, extent_answer, failed_writes, fault_from, few, fits, flat, fresh_start, has_lone_hyphen, has_requests, heads_of, heads_text, images_in, images_of, images_text, is_flushed, is_invalid, is_loading, is_memory, is_refused, is_unknown, job_in, job_words, last_of, len_of, line, list_any, list_in, listed_disks, load_status, lone_hyphen_in, name_said, name_status, name_words, number_of, outcome_from, owners_of, places_in, print_words, range_answer, range_at, range_job, range_words, read_job, read_words, reading_answer, refusal_message, refusal_status, refused_by, replay_words, runs_text, said_by, sectors_parser, spaced, split_words, start_at, start_over, start_state, stop_exit, stored_start, stored_state, table_of, text_answer, texts_of, unless_short, unread, world_after, written_exit}
unfoldable pub use Rattle.dmremap.specs.Prelude.{cut_at, explanation, first_entries, is_explained, later_entries, short_of}
pub use Rattle.dmremap.specs.declared.status.TheConstants.{STATUS_BAD_REQUEST, STATUS_DONE, STATUS_MEMORY, STATUS_READ_FAULT, STATUS_REFUSED, STATUS_WRITE_FAULT}
pub use Rattle.lvm_volume.specs.declared.owned_metadata.OwnedFault.{OwnedFault}
pub use Rattle.std.proofs.Math.Seq.{drop-cons}
pub use Rattle.dm_store.specs.Prelude.{in_extent}
