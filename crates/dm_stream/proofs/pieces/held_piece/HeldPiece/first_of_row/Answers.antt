use Rattle.dm_stream.proofs.Prelude.{refl, subst, Pending, HoldsNoRange, IsHeld, holding, piece_of, on_err}
use Rattle.dm_stream.proofs.pieces.JoinLemmas.{apart_from, held_apart, holds_none, left_apart, took_apart}
use Rattle.dm_stream.proofs.pieces.held_piece.HeldPiece.first_of_row.Goals as goal

pub returns-in_err-write_other-in-None-clause-left : goal.returns-in_err-write_other-in-None-clause-left
returns-in_err-write_other-in-None-clause-left g c =
    let h = c.args.self.now in let next = c.args.next in
    let fits = subst (λ (p : Pending). IsHeld p.stack p.piece) c.self.view_is c.self.invariant.0 in
    let none = subst (λ (p : Pending). HoldsNoRange p.piece) c.self.view_is (holds_none c.self.inside.range c.self.inside.other c.in-None.is c.self.invariant.1) in
    let failed = c.in_err-write_other-in-None.ensures in
    on_err c.from_residual.result _ (left_apart h h _ (piece_of next) _ _ c.requires.0 refl failed.nothing (held_apart h.stack h.piece (piece_of next) fits c.requires.0 (apart_from h.piece next none)) failed.wrote.left)

pub returns-in_ok-write_other-in-None-clause-took : goal.returns-in_ok-write_other-in-None-clause-took
returns-in_ok-write_other-in-None-clause-took g c =
    let h = c.args.self.now in let next = c.args.next in
    let fits = subst (λ (p : Pending). IsHeld p.stack p.piece) c.self.view_is c.self.invariant.0 in
    let none = subst (λ (p : Pending). HoldsNoRange p.piece) c.self.view_is (holds_none c.self.inside.range c.self.inside.other c.in-None.is c.self.invariant.1) in
    took_apart h (holding h next) (piece_of next) _ _ refl refl refl fits c.requires.0 (apart_from h.piece next none) c.in_ok-write_other-in-None.ensures.wrote.ok
