use Rattle.dm_table.proofs.Prelude.{ap, sym, length, arith, nat_tests, err_from_is_err_and, with_target}
use Rattle.dm_table.proofs.tables.TargetRows.{linear_none, linear_made}
use Rattle.dm_table.proofs.tables.line_body.read_linear.Goals as goal
use Rattle.std.specs.Prelude.{◌≡◌}

pub returns-in_default : goal.returns-in_default
returns-in_default c = λ other.
    ap (with_target _ _) (linear_none c.args.arguments.now (λ two. grind (arith, nat_tests)))

pub returns-in_default-2 : goal.returns-in_default-2
returns-in_default-2 c = λ other.
    ap (with_target _ _) (linear_none c.args.arguments.now (λ two. grind (arith, nat_tests)))

pub returns-in_err-to : goal.returns-in_err-to
returns-in_err-to c =
    let p = err_from_is_err_and c.from_residual.result c.from_residual.ensures.1 in
    let two : length c.args.arguments.now ≡ 2 = omega (arith, c.in-len2.len_at_least, c.in-len2.len_below) in
    rw (p.1, p.2, linear_made c.args.arguments.now _ c.in-Some.offset two (sym c.in-Some.ensures)) (λ other. rw (c.in_err-to.ensures other))

pub returns : goal.returns
returns c =
    let two : length c.args.arguments.now ≡ 2 = omega (arith, c.in-len2.len_at_least, c.in-len2.len_below) in
    rw (linear_made c.args.arguments.now _ c.in-Some.offset two (sym c.in-Some.ensures), c.in_ok-to.ensures) c.push.ensures
