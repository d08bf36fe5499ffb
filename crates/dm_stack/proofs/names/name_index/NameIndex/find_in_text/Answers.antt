use Rattle.dm_stack.proofs.Prelude.{get_or, length, take, arith, get_or-take, length-take, take-take}
use Rattle.dm_stack.proofs.names.KeyLemmas.{space_cut}
use Rattle.dm_stack.proofs.names.name_index.NameIndex.find_in_text.Goals as goal
use Rattle.std.specs.Prelude.{◌≡◌, ◌<◌}

pub returns-clause-number : goal.returns-clause-number
returns-clause-number c =
    let text = c.args.text.now in
    let array = c.in_ok-array.array.now in
    let len = c.in-Some.len in
    let within = c.in-Some.ensures.within in
    let same : take len array ≡ take len text = rw c.in_ok-array.ensures.cases.same (take-take len 16 text (omega (arith, within))) in
    let short : length (take len array) < 16 = omega (arith, within, length-take len array) in
    rw (← same) (c.in_ok-number.ensures (take len array) short c.short.ensures)

pub returns-clause-space : goal.returns-clause-space
returns-clause-space c =
    let text = c.args.text.now in
    let len = c.in-Some.len in
    let array = c.in_ok-array.ensures.cases in
    let within = c.in-Some.ensures.within in
    let is : get_or text len 0 ≡ 32 = rw (← c.in-Some.ensures.space, array.same, get_or-take) in
    space_cut text len (omega (arith, within, array.enough)) is
