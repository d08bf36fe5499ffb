use Rattle.lvm_text.proofs.Prelude.{drop, err_from_is_err_and, views}
use Rattle.lvm_text.proofs.Trees.{tree_twice, tree_read}
use Rattle.lvm_text.proofs.reading.tree_of.Goals as goal

pub returns-in_err-section : goal.returns-in_err-section
returns-in_err-section c =
    let p = err_from_is_err_and c.from_residual.result c.from_residual.ensures.1 in
    rw (p.1, p.2) (tree_twice (views c.args.tokens.now) c.in_err-section.field-0.0 c.in_default.ensures c.in_default-number_line.ensures c.in_err-section.ensures.twice)

pub returns : goal.returns
returns c =
    tree_read (views c.args.tokens.now) (views (drop c.in_ok-section.field-0-1 c.args.tokens.now)) c.in_ok-section.section c.in_default.ensures c.in_default-number_line.ensures
    c.in_ok-section.ensures.line c.in_ok-section.ensures.differ c.in_ok-section.ensures.read
