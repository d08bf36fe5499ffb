use Rattle.dm_stack.proofs.Prelude.{length, arith, get_or-take, get_or-chunk}
use Rattle.dm_stack.proofs.names.name_index.space_ahead.Goals as goal
use Rattle.std.specs.Prelude.{◌≡◌, ◌+◌, ◌-◌}

pub returns-in-Some-clause-space : goal.returns-in-Some-clause-space
returns-in-Some-clause-space c =
    let text = c.args.text.now in
    let from = c.steps.from in
    let at = c.in-Some.at in
    let rest = c.in_ok-get.field-0.now in
    let shown = c.in_ok-get.ensures.lookup.0 in
    let chunk = c.in_ok-array.ensures.cases in
    let size : length rest + from ≡ length text = shown.3 in
    rw (← get_or-chunk from (length text - from) text at 0 (omega (arith, size, chunk.enough, c.in-Some.ensures.within)), ← shown.2, ← get_or-take 16 rest at 0 c.in-Some.ensures.within, ← chunk.same) c.in-Some.ensures.space
