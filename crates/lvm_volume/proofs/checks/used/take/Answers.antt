use Rattle.lvm_volume.proofs.Prelude.{sym, ◌∙◌}
use Rattle.lvm_volume.proofs.checks.UsedLemmas.{adds, keeps_more}
use Rattle.lvm_volume.proofs.checks.used.take.Goals as goal

pub returns-clause-taken : goal.returns-clause-taken
returns-clause-taken c = λ ranges keeps free.
    keeps_more c.args.used.now c.insert.new.self ranges c.args.first c.args.end keeps c.requires (sym (c.is_used.ensures ranges keeps) ∙ c.if-is_used.false) (adds c.args.used.now c.insert.new.self c.args.first c.args.end c.in_ok-insert.ensures.updates)
