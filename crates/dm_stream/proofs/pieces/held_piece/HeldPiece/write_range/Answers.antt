use Rattle.dm_stream.proofs.Prelude.{List, ℕ, subst, Wrote}
use Rattle.dm_stream.proofs.pieces.JoinLemmas.{line_beside}
use Rattle.dm_stream.proofs.pieces.held_piece.HeldPiece.write_range.Goals as goal

pub returns : goal.returns
returns g c =
    subst (λ (text : List ℕ). Wrote (g.W.Output.past c.args.writer.now) (g.W.Output.past c.put_range.new.writer) c.put_range.result text) (line_beside _ c.args.self.now _ c.self.view_is c.requires.0) c.put_range.ensures
