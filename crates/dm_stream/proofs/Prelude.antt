-- Names and lemmas that proofs cite, re-exported from one place.
pub use Rattle.dm_map.proofs.LegUnits.{HasTakenTo, failed_at_leg, took_leg, took_no_leg}
pub use Rattle.dm_map.proofs.Prelude.{AreOnDisks, BlockUnit, Clean, CopyOf, Delivery, DescribesRequest, Description, Drops, Fails, FillOf, HasGrown, HasTakenOrIsHome, InputPast, IsBeginning, IsCutShort, IsDiskLeg, IsHanded, IsHome, IsLeg, IsSnapshot, IsSound, IsTidy, IsTop, LegsView, MapperView, OnSinkFault, Open, OutputPast, ReadOf, RequestValues, SinkPast, Stand, State, WriteOf, Wrote, Zeros, all_but_last, claims, closed_as, device_len, disk_unit, first_unit, grows-same, grows_more, leg_lies_on, leg_on_disk, lower_small, next_unit, on_err, on_ok, since-same, since_is, since_more, snapshot_at, stand_of, taken_at, units_in, units_of, usage_of, values_of}
pub use Rattle.dm_map.specs.declared.pieces.piece.Piece.{Piece}
pub use Rattle.dm_stream.specs.Prelude.{AFault, ALine, ALong, AnEnd, AnUnended, Answer, AreApart, AreFewest, AreFirst, AreFirstAnswered, AreMade, ArePiecesOf, BadRequest, DiskRange, Done, Ending, Fits, Front, HasAnswered, HasLeft, HasMappedAll, HasMet, HasMoved, HasRun, HasStopped, HasTaken, HasTold, HasUnits, HasWritten, HoldsNoRange, IsAmong, IsAmongFirst, IsClosedAfter, IsHeld, IsLineEnd, IsMapped, IsNoRange, IsOnDisk, IsOnDisks, IsPut, IsSameReference, LiesOnDisk, Long, MetNothing, NoneContinues, NumberedRequest, Outcome, Pending, ReadFault, RequestWord, Requests, Unended, UnitRun, WriteFault, after_name, after_requests, beginning-before, delivery, device_of, disk_text, diskless_len, ending_for, ending_message, fewest, front_requests, further, goes_on, held_diskless, held_of, held_units, holding, if_done, is_after, is_unit, join_lawful, join_past, joins, last_of_units, line_end, line_parts, line_requests, name_at, next_answer, next_requests, number_prefix, numbered, onto, onto_begins, outcome_from, piece_len, piece_of, piece_text, piece_units, piece_view, pieces_text, range_piece, refused_ending, request_answer, requests_from, requests_of, requests_outcome, rest_answer, run_outcome, since, some_before, status_line, status_text, step_of, unit_text, with_looked, with_status, write_faults, written_since}
pub use Rattle.dm_stream.specs.declared.requests.handling.TheConstants.{MOST_REQUESTS}
pub use Rattle.dm_stream.specs.declared.requests.lines.TheConstants.{BUFFER_BYTES, MOST_LINE_BYTES}
pub use Rattle.dm_table.proofs.Std.{All, All-push, All-same, AllByRecursion, Bool, Bor, Err, FindsText, IfErr, IfErr-at_err, IfOk, IfSome, IsErr, IsErrAnd, LacksTextAt, List, MatchOption, None, Ok, OnErr, OnOk, Option, Result, Some, SplitsAroundMatch, [], add-one, and_from, and_parts, ap, append-nil, append_assoc, ap₂, arith, before_first, bytes_eq, bytes_eq-Decides, cases_Bool, cases_eq, cases_lt, codes, cond, decimal, decimal_digit, decimal_nonempty, decimal_step, div-eq_of_lt, drop, drop-drop, drop-take, drop_all, drop_at, drop_more, eq-eqb, eqb, eqb-true, err_from_is_err_and, false, false_from_ne_true, filter, filter-append, flat_map, flat_map-append, get_or, get_or-map, get_or-set_other, get_or-set_same, inl, inr, is_ok, le-ltb, length, length-append, length-decimal-le, length-drop, length-map, length-set, length-take, length-take-le, ltb, ltb-false, map, map-append, mod-eq_of_lt, nat_lt, not, onto_first, option_and_then, option_map, position, position-Some, refl, rules, set, set-append_seam, slice_get, slice_get_read, slice_range, slice_split-cons_no, slice_split-cons_yes, subst, subst₂, suc, sym, take, take-add, take-append-add, take-append-drop, take-append_seam, take-length, take-set-le, take-set-lt, take-take, take_at, take_rest, take_while-cons, true, true≢false, zero, ℕ, ◌∙◌}
pub use Rattle.dm_table.proofs.WriteLemmas.{and_then, flat_map_at, stopped}
pub use Rattle.dm_table.specs.declared.io.device_io.OutFault.{OutFault}
pub use Rattle.dm_table.specs.declared.requests.request.Op.{Op}
