-- Names and lemmas that proofs cite, re-exported from one place.
pub use Rattle.dm_map.proofs.ChunkOutcomes.{Fault, IsRead, Nothing, Sector, is_read}
pub use Rattle.dm_map.proofs.Prelude.{AllByRecursion, AreAlone, AreAlwaysExact, AreExact, AreNeverLost, BTreeMap, BlockUnit, Bool, CopyOf, Description, Drops, Err, Fails, FillOf, IfErr, IsAmple, IsFitting, IsIntact, IsOrdered, IsOwnAt, IsSome, IsTidy, IsTop, Less, List, MapperView, None, OfBeginning, Ok, Option, ReadOf, Result, Rows, Some, State, Stays, Updates, WriteOf, Wrote, Zeros, [], after_played, all_append, answers, ap, append-nil, append_assoc, append_cancel_left, arith, at_index, cases_eq, cases_lt, cases_order, common_steps, cond, content, device_id, device_len, drop, err_from_is_err_and, false, first_unit, flat_map, flat_map-append, ge_from_not_lt, get, get_or, get_or_past, get_or_read, halted_state, halted_units, inl, inr, is_at, is_gt, is_same, keep, le-ltb, le_from_not_gt, left_state, length, min, nat_cmp, nat_le, nat_lt, nat_tests, next_unit, on_ok_weaker, played_of, position-Some, read, refl, replicate, request_step, rules, sector_after, sector_step, slice_get, slice_get_read, start_state, steps, stored, subst, suc, sym, take, take-append-le, take_all, take_more, true, units_in, units_of, value_read, zero, ℕ, ◌∙◌}
pub use Rattle.dm_map.specs.declared.pieces.piece.Piece.{Piece}
pub use Rattle.dm_replay.specs.Prelude.{Answer, AreApart, AreFirst, AreMaximal, AreOfTops, AreSame, AreTops, AreUnitsOf, AreValuesOf, Asked, CanCopyAtOnce, Failed, Gives, Halting, Has, HasHalted, HasPlayed, HasTaken, HasTop, HoldOn, IsAnswerOf, IsBare, IsCleared, IsCut, IsGoing, IsKept, IsLastBefore, IsOnDisk, IsOnDisks, IsRoomMade, IsRunOf, IsUnanswered, IsUnitOf, IsValueOf, Joins, KeepsStored, KeptWrite, NoneFrom, NoneJoins, Op, Playing, RangeValues, ReplayFault, Replaying, Request, Shows, Stored, Value, ValueRun, Values, World, answers_cong, answers_in, asked_answers, first_answer, first_world, flat, further, further_answer, held, kept_request, next_answer, next_value, next_world, old_values, piece_len, played, played_both, played_cong, played_nothing, played_unit, position, ranged, rerun_step, run_answers, run_len, run_line, runs_text, spanned, step_for, unit_answers, values_of, whole_request, with_request, with_values, world_after}
unfoldable pub use Rattle.dm_replay.specs.Prelude.{played_answers, rerun_from, sector_past, stored_in, world_from}
pub use Rattle.dm_stack.specs.declared.checks.graph.TheConstants.{MOST_DEPTH}
pub use Rattle.dm_stack.specs.declared.id.Lower.TheVariants.{Device}
pub use Rattle.dm_table.specs.declared.requests.request.Op.TheVariants.{Read, Write}
