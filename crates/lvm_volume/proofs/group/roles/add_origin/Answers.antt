use Rattle.lvm_volume.proofs.Prelude.{sym, ap, arith, with_origin}
use Rattle.lvm_volume.proofs.group.RoleLemmas.{changed_one, not_after}
use Rattle.lvm_volume.proofs.group.roles.add_origin.Goals as goal

pub returns-then-position-len : goal.returns-then-position-len
returns-then-position-len c =
    let all = c.args.roles.now.items in
    rw (c.with_origin.ensures, ap with_origin c.index.ensures) (sym (changed_one with_origin c.args.position all c.index.result.now (omega (arith, c.if-position-len.true, c.len.ensures))))

pub returns-else-position-len : goal.returns-else-position-len
returns-else-position-len c = sym (not_after with_origin c.args.position 0 c.args.roles.now.items (omega (arith, c.if-position-len.false, c.len.ensures)))
