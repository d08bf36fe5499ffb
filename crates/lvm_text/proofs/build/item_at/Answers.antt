use Rattle.lvm_text.proofs.Prelude.{sym, ◌∙◌, drop}
use Rattle.lvm_text.proofs.Building.{item_none}
use Rattle.lvm_text.proofs.build.item_at.Goals as goal
use Rattle.std.specs.Prelude.{◌+◌}

pub returns-in-None-clause-item : goal.returns-in-None-clause-item
returns-in-None-clause-item c =
    item_none (drop c.position_after_comma-position.result c.args.tokens.now) c.in_ok-first.first (drop (c.position_after_comma-position.result + 1) c.args.tokens.now) c.in_ok-first.ensures.0 c.in-None.ensures
    ∙ sym c.position_after_comma-position.ensures.same
