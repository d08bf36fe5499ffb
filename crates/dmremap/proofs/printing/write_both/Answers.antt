use Rattle.dmremap.proofs.Prelude.{refl, err_from_is_err_and, stopped}
use Rattle.dmremap.proofs.printing.write_both.Goals as goal

pub returns-in_err-write_all : goal.returns-in_err-write_all
returns-in_err-write_all g c =
    let p = err_from_is_err_and c.from_residual.result c.from_residual.ensures.1 in
    rw (p.1, p.2) (stopped c.args.first.now c.args.text.now refl c.in_err-write_all.ensures.wrote)
