use Rattle.dm_table.proofs.Prelude.{◌∙◌, ap, length, rules, append-nil, err_from_is_err_and, OutputPast}
use Rattle.dm_table.proofs.io.Growth.{before, sent_cut, sent_further, sent_whole, front_beginning}
use Rattle.dm_table.proofs.io.writing.write_all.Goals as goal
use Rattle.dm_table.proofs.Lists.{on_err}
use Rattle.std.specs.Prelude.{◌≡◌, ◌<◌}

pub returns-in_err-taken-clause-err : goal.returns-in_err-taken-clause-err
returns-in_err-taken-clause-err g c =
    on_err c.from_residual.result _ (front_beginning _ _ c.args.bytes.now (before c.args.bytes.now c.loop-rest.rest.now) (ap (λ (past : OutputPast). past.written) c.in_err-taken.ensures.past ∙ append-nil _ ∙ c.loop-rest.invariant.written))

pub returns-in_err-taken-clause-wrote : goal.returns-in_err-taken-clause-wrote
returns-in_err-taken-clause-wrote g c =
    let some : 0 < length c.loop-rest.rest.now = search rules in
    let is = err_from_is_err_and c.from_residual.result c.from_residual.ensures.1 in
    let failed = c.in_err-taken.ensures in
    rw (is.1, is.2) (sent_cut _ _ _ is.0 c.args.bytes.now c.loop-rest.rest.now c.loop-rest.invariant some failed.past)

pub loop-rest-preserved : goal.loop-rest-preserved
loop-rest-preserved g c =
    let taken = c.in_ok-taken.ensures in
    sent_further _ _ _ c.args.bytes.now c.loop-rest.rest.now c.in_ok-taken.taken c.loop-rest.invariant taken.within taken.past

pub returns-clause-wrote : goal.returns-clause-wrote
returns-clause-wrote g c =
    let none : length c.loop-rest.rest.now ≡ 0 = search rules in
    sent_whole _ _ c.args.bytes.now c.loop-rest.rest.now c.loop-rest.invariant none
