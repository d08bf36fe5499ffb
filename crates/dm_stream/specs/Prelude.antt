-- Names that contracts of this crate and of crates above cite, re-exported from one place.
pub use Rattle.dm_stream.specs.Base.{BadRequest, BlockUnit, CopyOf, Description, Done, Ending, FillOf, HasRead, HasWritten, HasWrittenTo, InputPast, IsClosedAfter, IsOnDisk, IsOnDisks, IsPut, IsReadOn, IsSameReference, IsSound, LiesOnDisk, Long, MapperView, MetNothing, NotMapped, Option, OutputPast, ReadFault, RequestWord, Stand, State, Unended, Unknown, WriteFault, Wrote, after_read, ap, append_assoc, code, delivery, device_len, disk_name_at, disk_unit, diskless_len, fault_of, first_unit, given, name_at, parts_at, piece_len, refl, since, since-same, since_more, sym, units_in, units_of, with_looked, written_since, written_to_more, written_to_none, ◌∙◌}
pub use Rattle.dm_stream.specs.declared.pieces.disk_range.DiskRange.{DiskRange}
pub use Rattle.dm_stream.specs.declared.requests.front.Front.{Front}
pub use Rattle.dm_stream.specs.laws.Join.{beginning-before, join_lawful, last_of_units, onto_begins, some_before}
pub use Rattle.dm_stream.specs.pieces.DiskText.{disk_text, line_head}
pub use Rattle.dm_stream.specs.pieces.Join.{HasLeft, HasTaken, HasUnits, join_past}
pub use Rattle.dm_stream.specs.pieces.LineEnds.{AreMade, IsLineEnd, line_end}
pub use Rattle.dm_stream.specs.pieces.NumberPrefix.{number_prefix}
pub use Rattle.dm_stream.specs.pieces.Pending.{AreApart, Fits, HoldsNoRange, IsHeld, IsNoRange, Pending, goes_on, held_diskless, held_of, held_units, holding, piece_of, piece_view, range_piece}
pub use Rattle.dm_stream.specs.pieces.PieceText.{IsDiskless, IsOther, diskless_word, piece_text, pieces_text, sector_text, unit_text}
pub use Rattle.dm_stream.specs.pieces.Pieces.{AreFewest, ArePiecesOf, NoneContinues, UnitRun, fewest, further, is_after, is_unit, joins, onto, piece_units}
pub use Rattle.dm_stream.specs.pieces.RangeText.{IsKept, range_text}
pub use Rattle.dm_stream.specs.requests.Batch.{AnswersFronts, AreFirst, AreFirstAnswered, IsAmongFirst, front_requests}
pub use Rattle.dm_stream.specs.requests.Lines.{AFault, ALine, ALong, AnEnd, AnUnended, Answer, line_parts, next_answer, rest_answer}
pub use Rattle.dm_stream.specs.requests.Requests.{HasMet, IsAmong, NumberedRequest, Requests, after_requests, is_bad, line_requests, next_requests, numbered, requests_from, requests_of, word_for}
pub use Rattle.dm_stream.specs.runs.Earlier.{HasMoved, HasPlayed, HasStoppedAt, played_ending, refused_ending}
pub use Rattle.dm_stream.specs.runs.Mapped.{HasAnswered, HasStopped, IsReady, failed_writes}
pub use Rattle.dm_stream.specs.runs.Messages.{HasTold, IsTold, earlier_message, ending_message, refused_request, request_word, told_at_close, write_message}
pub use Rattle.dm_stream.specs.runs.Outcome.{Outcome, after_text, device_of, if_done, outcome_from, request_answer, requests_outcome, run_outcome, step_of, with_status}
pub use Rattle.dm_stream.specs.runs.Run.{CanMap, HasMappedAll, HasRun, IsLeft, IsMapped, ending_for, write_faults}
pub use Rattle.dm_stream.specs.runs.StatusLines.{after_name, status_line, status_text, usage_text}
pub use Rattle.dm_table.specs.Std.{All, Bor, IfErr, IfOk, IfSome, IsErr, List, MatchOption, None, Ok, OnErr, OnFalse, OnOk, OnTrue, Some, [], before_first, decimal, drop, false, is_ok, length, map, not, sem, slice_range, take, ℕ}
