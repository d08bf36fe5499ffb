-- Names that contracts cite, in this crate and in crates above, re-exported from one place.
pub use Rattle.dm_map.specs.Prelude.{AreLevelsEnough, BlockUnit, Description, IsSound, refl, start_state}
pub use Rattle.dm_table.specs.Std.{Bool, Err, IfErr, IfOk, IfSome, IsErr, IsErrAnd, List, None, Ok, OnErr, OnOk, Option, ReadConsumes, Result, Some, [], codes, false, length, list_any, map, option_map, slice_get, true}
pub use Rattle.dmremap.specs.Answers.{Answer, Answers, End, Failed, FailedAfter, IsOne, IsOneSettled, IsSettled, OutOfMemory, Tells, Told, Writes, end_of, refused_by, unread}
pub use Rattle.dmremap.specs.Base.{AgreesWith, AllSaid, AreFewest, AreMaximal, AreRead, Asked, Builds, CanMap, Contents, Delivery, DeviceSpec, DiskContents, DiskPath, Disks, Done, Ended, Ending, Exit, Format, Gives, HasTop, HasWritten, HasWrittenTo, HeadRefusal, InputPast, IsClash, IsReadOn, IsReport, IsSpaced, IsUnanswered, IsWritten, LoadFault, Lvm, Memory, NameFault, NameParts, NumberedRequest, OwnedAnswers, Owners, Paths, Place, Read, Reading, Refusal, Refused, Source, State, TableForm, Tables, TextOf, WriteFault, ap, append-nil, append_assoc, asked_answers, built, delivery, described, device_bytes, disk_contents, disk_len, fault_at, fewest, first_fault, flat, heads_of, images_of, map-append, part_read, replay_from, requests_of, runs_text, since, since-same, since_more, spaced, stored_state, subst, sym, world_after, written_since, written_to_more, written_to_none, ℕ, ◌∙◌}
pub use Rattle.dmremap.specs.Done.{Does, HasDone}
pub use Rattle.dmremap.specs.Exit.{IsOutOfMemory, IsPlain, ending_status, exit_after, exit_message, exit_status, failed_writes, is_flushed, is_refused, load_status, name_status, refusal_message, refusal_status}
pub use Rattle.dmremap.specs.Explanation.{Entry, after, before, fits, part_in, part_meant, table_of, texts_of, word_in}
unfoldable pub use Rattle.dmremap.specs.Explanation.{cut_at, explanation, first_entries, is_explained, later_entries}
pub use Rattle.dmremap.specs.ImagesLoad.{AreImagesOpened, AreImagesRead, AreImagesUsed, AreSeen, DisksOpen, HeadsOpen, ImagesOpen, IsStoppedBy, IsUnowned, ListOpens, OpensBy, SaidOpens, StackGives, by_text, disk_message, ended_by, few, len_of, list_in, listed_disks, owners_of, unless_short}
unfoldable pub use Rattle.dmremap.specs.ImagesLoad.{short_of}
pub use Rattle.dmremap.specs.ImagesText.{PrintsImages, heads_text, images_text, text_answer}
pub use Rattle.dmremap.specs.Inputs.{IsReadOnIf, IsUnasked, delivered_if, delivery_if}
pub use Rattle.dmremap.specs.Job.{JobWords, RangeWords, check_words, explain_words, job_words, name_words, print_words, range_words, read_words, replay_words, source_words, split_words}
pub use Rattle.dmremap.specs.Load.{Describes, DescribesDevices, DescribesGroupAs, GivesFault, Load, Loads, MetadataGives, MetadataPartGives, PartsGive, RefusedBy, SoundAs, TextPartsGive, TextsGive, device_checks}
pub use Rattle.dmremap.specs.Opening.{IsOpened, Loaded, Opened, Opening, OpeningMakes, PartsOpen, Stops}
pub use Rattle.dmremap.specs.OtherWhole.{JobAnswers, JobMakes, has_requests, is_loading, is_other, is_reading}
pub use Rattle.dmremap.specs.Parts.{ArePartsOpened, ArePartsRead}
pub use Rattle.dmremap.specs.Printing.{Prints, Refuses, ReportSays, Said, SaidBy, SplitSays, answer_said, line, name_said, written_as}
pub use Rattle.dmremap.specs.ReadWhole.{AreSettled, IsExtentOf, answer_from, count_in, extent_answer, extent_of, places_in, range_answer, reading_answer, stop_exit, written_exit}
pub use Rattle.dmremap.specs.ReplayOutcome.{AreAnswered, HasPlayed, HasStopped, IsAnswer, IsCutReplay, IsOfNone, IsOfTop, IsPlayed, IsWhole, StopsAt, asked_of}
pub use Rattle.dmremap.specs.ReplayWhole.{ReplaysOver, ReplaysStack}
pub use Rattle.dmremap.specs.StoredStart.{AreImagesAsked, IsBegunAt, images_in, start_at, start_over, stored_start}
pub use Rattle.dmremap.specs.Streams.{AskedBy, EndsAs, Exits, HasMetBy, IsClosedAs, IsOut, MessagesTold, Moved, OutputWritten, RequestsRead, StreamsLeft, moved}
pub use Rattle.dmremap.specs.Whole.{ArePlayedIf, ArePlayedOver, Begins, EarlierRead, Maps, MapsOver, Start, answer_after, answer_over, earlier_from, fresh_start, outcome_from}
pub use Rattle.dmremap.specs.Words.{HasApp, IsCommandOf, IsFaultOf, IsJobOf, IsOfKind, IsRefusedFor, IsTaken, IsUntaken, Parsers, TakeFormats, TakesNames, asked_word, bare_app, before_rule, command_line, fault_from, files_at, flag_rule, format_named, format_rule, formats, has_flag, has_lone_hyphen, images_at, is_command, is_invalid, is_memory, is_unknown, job_in, last_of, loading_app, loading_job, lone_hyphen_in, map_app, metadata_app, name_app, name_job, number_at, number_of, optional_rule, paths_rule, range_at, range_job, read_app, read_from, read_job, replay_app, required_rule, said_by, sectors_parser, sectors_rule, source_in, source_job, split_app, status_of, version_rule, word_of}
