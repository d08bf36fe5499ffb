-- Names that contracts of this crate and of crates above cite, re-exported from one place.
pub use Rattle.dm_replay.specs.Base.{AllByRecursion, AreTops, BlockUnit, CopyOf, Description, FillOf, IfErr, IfOk, IfSome, IsFitting, IsIntact, IsOnDisk, IsOnDisks, IsPut, IsTidy, IsTop, KeptWrite, List, MapperView, None, OnErr, OnFalse, OnOk, OnTrue, Op, Option, ReadOf, Request, Some, Value, ValueRun, WriteOf, Wrote, [], code, decimal, device_len, false, halted_units, is_same, length, min, nat_lt, piece_len, position, start_state, step_for, true, units_in, units_of, ℕ}
unfoldable pub use Rattle.dm_replay.specs.Base.{sector_past}
pub use Rattle.dm_replay.specs.Halting.{HasHalted, HasTaken}
pub use Rattle.dm_replay.specs.Histories.{Asked, World, asked_answers, first_world, next_world, with_values, world_after}
unfoldable pub use Rattle.dm_replay.specs.Histories.{world_from}
pub use Rattle.dm_replay.specs.OfDisks.{AreRunsOf, AreUnitsOf, AreValuesOf, IsAnswerOf, IsRunOf, IsUnitOf, IsValueOf}
pub use Rattle.dm_replay.specs.Player.{HasPlayed}
pub use Rattle.dm_replay.specs.Ranges.{AreFirst, CanCopyAtOnce, HoldOn, ranged}
pub use Rattle.dm_replay.specs.Replay.{AreOfTops, HasTop, IsAnswered, IsGoing, IsKept, IsNotAnswered, IsNotBegun, IsNotHalted, IsUnanswered, Replaying, asked_request, halted_request, new_replay, replay_from, whole_request}
pub use Rattle.dm_replay.specs.Reruns.{asked_of, kept_request, rerun_step, with_request}
unfoldable pub use Rattle.dm_replay.specs.Reruns.{rerun_from}
pub use Rattle.dm_replay.specs.RunText.{run_line, run_text, runs_text}
pub use Rattle.dm_replay.specs.Runs.{AreMaximal, Joins, NoneJoins, answers_in, first_answer, flat, further_answer, next_answer, run_answers, run_len}
pub use Rattle.dm_replay.specs.Stored.{AreApart, Has, IsBare, IsCleared, IsCut, IsFirstFrom, IsLastBefore, IsRoomMade, KeepsCuts, KeepsStored, NoneFrom, Shows, Stored, held, spanned, values_of}
unfoldable pub use Rattle.dm_replay.specs.Stored.{stored_in}
pub use Rattle.dm_replay.specs.Values.{Answer, Failed, Gives, Values, further, next_value, old_values, played, played_unit, unit_answers, value_end}
unfoldable pub use Rattle.dm_replay.specs.Values.{played_answers}
pub use Rattle.dm_replay.specs.declared.halting.Halting.{Halting}
pub use Rattle.dm_replay.specs.declared.playing.Playing.{Playing}
pub use Rattle.dm_replay.specs.declared.range_values.RangeValues.{RangeValues}
pub use Rattle.dm_replay.specs.declared.replay_fault.ReplayFault.{ReplayFault}
pub use Rattle.dm_replay.specs.laws.Play.{AreSame, answers_cong, played_both, played_cong, played_nothing}
