use Rattle.dm_stream.proofs.Prelude.{◌∙◌, ℕ, Option, Some, sym, ap, subst, piece_len, Pending, IsHeld, held_of, held_units, piece_of, DiskRange}
use Rattle.dm_stream.proofs.pieces.JoinLemmas.{held_apart, held_joined, piece_len-range}
use Rattle.dm_stream.proofs.pieces.held_piece.HeldPiece.lengthen.Goals as goal
use Rattle.std.specs.Prelude.{◌≡◌, ◌+◌}

pub returns-then-not-goes_on-clause-apart : goal.returns-then-not-goes_on-clause-apart
returns-then-not-goes_on-clause-apart c =
    let held = c.args.self.now in
    held_apart held.stack held.piece c.args.piece.now (subst (λ (h : Pending). IsHeld h.stack h.piece) c.self.view_is c.self.invariant.0) c.requires.some (sym c.goes_on.ensures ∙ c.if-not-goes_on.true)

pub returns-in-Some-clause-joined : goal.returns-in-Some-clause-joined
returns-in-Some-clause-joined c =
    let range = c.in-Some.range in
    let longer = c.longer.result in
    let is : c.args.self.now.piece ≡ Some (piece_of range) = sym (ap (λ (h : Pending). h.piece) c.self.view_is) ∙ ap (λ (r : Option DiskRange). held_of r c.self.inside.other) c.in-Some.is in
    held_joined c.args.self.now.piece (piece_of range) c.args.piece.now (piece_of longer) is (sym c.goes_on.ensures ∙ c.if-not-goes_on.false) c.longer.ensures.first
    (piece_len-range longer.letter longer.disk longer.start longer.len ∙ c.longer.ensures.len ∙ ap (λ (n : ℕ). range.len + n) c.len-more.ensures
    ∙ ap (λ (n : ℕ). n + piece_len c.args.piece.now) (sym (piece_len-range range.letter range.disk range.start range.len)))

pub returns-in-Some-other-clause-joined : goal.returns-in-Some-other-clause-joined
returns-in-Some-other-clause-joined c =
    let other = c.in-Some-other.other in
    let longer = c.longer-in-Some-other.result in
    let is : c.args.self.now.piece ≡ Some other = sym (ap (λ (h : Pending). h.piece) c.self.view_is) ∙ ap (λ (r : Option DiskRange). held_of r c.self.inside.other) c.in_default.is ∙ c.in-Some-other.is in
    ap (λ (r : Option DiskRange). held_units (held_of r (Some longer))) c.in_default.is
    ∙ held_joined c.args.self.now.piece other c.args.piece.now longer is (sym c.goes_on.ensures ∙ c.if-not-goes_on.false) c.longer-in-Some-other.ensures.first
    (c.longer-in-Some-other.ensures.len ∙ ap (λ (n : ℕ). piece_len other + n) c.len-more.ensures)
