use Rattle.lvm_text.proofs.Prelude.{ap, ◌∙◌, length, drop, arith, add-one, drop-drop, nat_tests}
use Rattle.lvm_text.proofs.Boundaries.{after_byte, first_of_drop}
use Rattle.lvm_text.proofs.element.around.Goals as goal
use Rattle.std.specs.Prelude.{◌<◌}

pub split_at-requires-2 : goal.split_at-requires-2
split_at-requires-2 c =
    let lt : 0 < length c.split_at.result.1.now = omega (arith, c.split_at.ensures.back_len, c.requires.within) in
    after_byte c.args.text.now c.split_at.result.1.now c.args.at c.utf8.text c.requires.within (grind (arith, nat_tests, c.requires.ascii)) c.split_at.ensures.back
    (rw c.split_at.ensures.back (first_of_drop c.args.text.now c.args.at)) lt

pub returns-clause-after : goal.returns-clause-after
returns-clause-after c =
    rw (← add-one c.args.at) (c.split_at-2.ensures.back ∙ ap (drop 1) c.split_at.ensures.back ∙ drop-drop 1 c.args.at c.args.text.now)
