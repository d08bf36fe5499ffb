use Rattle.dm_stream.proofs.Prelude.{ℕ, List, rules, Result, Ok, Err, IsErr, IsHanded, SinkPast, BlockUnit}
use Rattle.dm_stream.proofs.pieces.JoinLemmas.{left_apart}
use Rattle.dm_stream.proofs.pieces.join.JoinSink.piece.Goals as goal
use Rattle.std.specs.Prelude.{◌≡◌, ◌+◌}

-- what the sink's contract asks of a failed call
failed_at : {S R F : Type 0} {past : SinkPast S} (result : Result R F) {old new : S} {units : List BlockUnit} {len : ℕ} → IsErr result → past.left old units new → (past.view new).faults ≡ (past.view old).faults + 1 → IsHanded past result old new units len
failed_at (Ok done) is_err left one = absurd cc
failed_at (Err fault) is_err left one = record { took = tt; left = left; faults = one; stack = tt; room = tt }

pub returns-in_err-replace : goal.returns-in_err-replace
returns-in_err-replace g c =
    let apart = c.if-lengthen.ensures in
    let failed = c.in_err-replace.ensures in
    let past = g.W.Output.past in
    failed_at c.from_residual.result c.from_residual.ensures.0 (
      left_apart c.args.self.now.held c.lengthen.new.self c.replace.new.self c.args.piece (past c.args.self.now.writer.now).written (past c.replace.new.writer).written
          c.requires.some apart.same failed.nothing apart.apart failed.wrote.left,
      record { moved = failed.wrote.moved; same_reference = search rules },
    ) failed.wrote.moved.fails
