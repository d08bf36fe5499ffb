use Rattle.dm_map.proofs.Prelude.{false, true, arith, nat_lt, device_len}
use Rattle.dm_map.proofs.walk.Bounds.{request_bound}
use Rattle.dm_map.proofs.walk.HomeLemmas.{walked_over}
use Rattle.dm_map.proofs.walk.Rows.{step_past_end, walked_piece}
use Rattle.dm_map.proofs.mapper.pieces_or_home.Goals as goal
use Rattle.std.specs.Prelude.{◌≡◌, ◌+◌}

pub returns-then-passes_end-clause-walked : goal.returns-then-passes_end-clause-walked
returns-then-passes_end-clause-walked g c =
    let a = c.args in let m = a.walker.now in let f = c.fail in
    let past : nat_lt (device_len m.stack a.device) (a.start + a.len) ≡ true = rw (c.if-passes_end.ensures, c.len-end.ensures.len) in
    walked_over m.stack a.op a.len c.handed.ensures (walked_piece (step_past_end m.stack a.op a.device a.start a.len m.state past) (omega arith)
    f.ensures)

pub returns-clause-walked : goal.returns-clause-walked
returns-clause-walked g c =
    let a = c.args in
    let inside : nat_lt (device_len a.walker.now.stack a.device) (a.start + a.len) ≡ false = rw (← c.if-passes_end.false, c.passes_end.ensures, c.len-end.ensures.len) in
    rw inside c.map_top.ensures.walked

pub returns-clause-bounded : goal.returns-clause-bounded
returns-clause-bounded g c =
    let a = c.args in
    let inside : nat_lt (device_len a.walker.now.stack a.device) (a.start + a.len) ≡ false = rw (← c.if-passes_end.false, c.passes_end.ensures, c.len-end.ensures.len) in
    request_bound a.op a.device a.start a.len c.recall_soundness.ensures c.requires.device inside c.map_top.ensures
