use Rattle.dm_stream.proofs.Prelude.{ℕ, sym, subst, ◌∙◌, ap, arith, Description, BlockUnit, IsOnDisks, first_unit, piece_len, Piece, Fits}
use Rattle.dm_map.specs.declared.pieces.piece.Piece.TheVariants as coded
use Rattle.dm_stream.proofs.pieces.FitsLemmas.{fits_few}
use Rattle.dm_stream.proofs.pieces.held_piece.longer.Goals as goal
use Rattle.std.specs.Prelude.{◌+◌}

fits_there : (stack : Description) (piece : Piece) → Fits stack (first_unit piece) (piece_len piece) → IsOnDisks stack piece
fits_there stack (coded.Read disk start len) fits = fits
fits_there stack (coded.Write disk start len) fits = fits
fits_there stack (coded.Copy disk start len to to_start) fits = fits
fits_there stack (coded.Fill len disk start) fits = fits
fits_there stack _ fits = tt

pub overflow_add-len : goal.overflow_add-len
overflow_add-len c =
    let fits = fits_few c.args.disks.now (first_unit c.args.held.now) _ c.recall_soundness.ensures c.requires in
    omega (arith, fits, c.len.ensures)

pub returns-clause-lies : goal.returns-clause-lies
returns-clause-lies c =
    fits_there c.args.disks.now c.with_len.result
    (subst (λ (u : BlockUnit). Fits c.args.disks.now u (piece_len c.with_len.result)) (sym c.with_len.ensures.first)
    (subst (λ (n : ℕ). Fits c.args.disks.now (first_unit c.args.held.now) n) (sym (c.with_len.ensures.len ∙ ap (λ (n : ℕ). n + c.args.more) c.len.ensures)) c.requires))
