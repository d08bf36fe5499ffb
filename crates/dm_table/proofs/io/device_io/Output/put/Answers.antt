use Rattle.dm_table.proofs.Prelude.{length, rules, err_from_is_err_and}
use Rattle.dm_table.proofs.io.Growth.{sent_cut, sent_further, sent_whole}
use Rattle.dm_table.proofs.io.device_io.Output.put.Goals as goal
use Rattle.std.specs.Prelude.{◌≡◌, ◌<◌}

pub returns-in_err-taken : goal.returns-in_err-taken
returns-in_err-taken g c =
    let some : 0 < length c.rest.rest.now = search rules in
    let is = err_from_is_err_and c.from_residual.result c.from_residual.ensures.1 in
    let failed = c.in_err-taken.ensures in
    rw (is.1, is.2) (sent_cut _ _ _ is.0 (g.T.Text.text c.args.text.now) c.rest.rest.now c.rest.invariant some failed.past)

pub returns : goal.returns
returns g c =
    let none : length c.rest.rest.now ≡ 0 = search rules in
    sent_whole _ _ (g.T.Text.text c.args.text.now) c.rest.rest.now c.rest.invariant none

pub rest-preserved : goal.rest-preserved
rest-preserved g c =
    let taken = c.in_ok-taken.ensures in
    sent_further _ _ _ (g.T.Text.text c.args.text.now) c.rest.rest.now c.in_ok-taken.taken c.rest.invariant taken.within taken.past
