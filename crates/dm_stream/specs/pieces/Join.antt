-- What a join does with the units it takes: which piece it holds, and what it writes.
use Rattle.dm_stream.specs.Base.{ℕ, List, [], None, OutputPast, since, HasWrittenTo, SinkPast, BlockUnit, all_but_last, IsBeginning}
use Rattle.dm_stream.specs.declared.pieces.join.Join.{Join}
use Rattle.dm_stream.specs.pieces.Pending.{Pending, held_diskless, held_units}
use Rattle.dm_stream.specs.pieces.Pieces.{UnitRun, fewest}
use Rattle.dm_stream.specs.pieces.PieceText.{pieces_text}
use Rattle.std.specs.Prelude.{◌≡◌, ◌-◌, ◌^◌, ◌∷◌, ◌++◌}

-- whatever units follow, the pieces in `settled` are complete and were written, and the held piece is the start of the others
pub record HasTaken (old new : Pending) (units : List BlockUnit) (before after : List ℕ) : Type 0 where
  pub settled : List UnitRun
  pub told : (rest : List BlockUnit) → fewest (held_units old.piece ++ units ++ rest) ≡ settled ++ fewest (held_units new.piece ++ rest)
  pub wrote : since before after ≡ pieces_text old.stack old.number settled
  pub stack : new.stack ≡ old.stack
  pub number : new.number ≡ old.number

-- there is at least one unit
abbrev pub HasUnits : List BlockUnit → Type 0
HasUnits [] = ⊥
HasUnits (unit ∷ units) = Unit {0}

-- the join failed and holds no piece: whatever units follow, it wrote a prefix of the lines of all pieces but the last
pub record HasLeft (old new : Pending) (units : List BlockUnit) (before after : List ℕ) : Type 0 where
  pub some : HasUnits units
  pub beginning : (rest : List BlockUnit) → IsBeginning (pieces_text old.stack old.number (all_but_last (fewest (held_units old.piece ++ units ++ rest)))) (since before after)
  pub nothing : new.piece ≡ None
  pub stack : new.stack ≡ old.stack
  pub number : new.number ≡ old.number

-- a join as a sink. Its room is how many sectors a held piece without a disk can grow before its length exceeds 64 bits; a join writes to its writer
abbrev pub join_past : {W : Type 0} → (W → OutputPast) → SinkPast (Join W)
join_past past = record {
  view = λ join. record { stack = join.held.stack; room = 2 ^ 64 - 1 - held_diskless join.held.piece; faults = (past join.writer.now).faults };
  took = λ old units new. HasTaken old.held new.held units (past old.writer.now).written (past new.writer.now).written × HasWrittenTo past old.writer new.writer 0;
  left = λ old units new. HasLeft old.held new.held units (past old.writer.now).written (past new.writer.now).written × HasWrittenTo past old.writer new.writer 1;
}
