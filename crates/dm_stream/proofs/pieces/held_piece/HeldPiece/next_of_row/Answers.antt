use Rattle.dm_stream.proofs.Prelude.{◌∙◌, ℕ, List, Option, Some, refl, ap, subst, Piece, since, IsCutShort, on_err, holding, piece_of}
use Rattle.dm_stream.proofs.pieces.JoinLemmas.{goes_on-range, held_apart, held_joined, left_apart, line_beside, piece_len-range, took_apart, took_joined}
use Rattle.dm_stream.proofs.pieces.held_piece.HeldPiece.next_of_row.Goals as goal

pub returns-then-goes_on-clause-took : goal.returns-then-goes_on-clause-took
returns-then-goes_on-clause-took g c =
    let h = c.args.self.now in let range = c.args.range.now in let next = c.args.next in let both = c.longer.result in
    took_joined (holding h range) (holding h both) (piece_of next) _ refl refl
    (held_joined (Some (piece_of range)) (piece_of range) (piece_of next) (piece_of both) refl (goes_on-range range next c.goes_on.result c.goes_on.ensures ∙ c.if-goes_on.true) c.longer.ensures.first
    (rw (piece_len-range both.letter both.disk both.start both.len, piece_len-range range.letter range.disk range.start range.len, piece_len-range next.letter next.disk next.start next.len) c.longer.ensures.len))

pub returns-in_err-put_range-clause-left : goal.returns-in_err-put_range-clause-left
returns-in_err-put_range-clause-left g c =
    let h = c.args.self.now in let range = c.args.range.now in let next = c.args.next in
    let old = (g.W.Output.past c.args.writer.now).written in let new = (g.W.Output.past c.put_range.new.writer).written in
    let cut = subst (λ (text : List ℕ). IsCutShort text (since old new)) (line_beside _ h (piece_of range) c.self.view_is c.requires.held.0) c.in_err-put_range.ensures.left in
    on_err c.from_residual.result _
    (left_apart (holding h range) (holding h range) _ (piece_of next) old new c.requires.next.0 refl (c.self.view_is ∙ ap (λ (p : Option Piece). record h { piece = p }) c.requires.nothing)
    (held_apart h.stack (Some (piece_of range)) (piece_of next) c.requires.held c.requires.next.0 (goes_on-range range next c.goes_on.result c.goes_on.ensures ∙ c.if-goes_on.false)) cut)

pub returns-clause-took : goal.returns-clause-took
returns-clause-took g c =
    let h = c.args.self.now in let range = c.args.range.now in let next = c.args.next in
    took_apart (holding h range) (holding h next) (piece_of next) _ _ refl refl refl c.requires.held c.requires.next.0 (goes_on-range range next c.goes_on.result c.goes_on.ensures ∙ c.if-goes_on.false)
    (c.in_ok-put_range.ensures.ok ∙ line_beside _ h (piece_of range) c.self.view_is c.requires.held.0)
