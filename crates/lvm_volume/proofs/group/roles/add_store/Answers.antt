use Rattle.lvm_volume.proofs.Prelude.{sym, ap, arith, with_store}
use Rattle.lvm_volume.proofs.group.RoleLemmas.{changed_one, not_after}
use Rattle.lvm_volume.proofs.group.roles.add_store.Goals as goal

pub returns-then-snapshot-len : goal.returns-then-snapshot-len
returns-then-snapshot-len c =
    let all = c.args.roles.now.items in
    let change = with_store c.args.snapshot in
    rw (c.with_store.ensures, ap change c.index.ensures) (sym (changed_one change c.args.snapshot.store all c.index.result.now (omega (arith, c.if-snapshot-len.true, c.len.ensures))))

pub returns-else-snapshot-len : goal.returns-else-snapshot-len
returns-else-snapshot-len c = sym (not_after (with_store c.args.snapshot) c.args.snapshot.store 0 c.args.roles.now.items (omega (arith, c.if-snapshot-len.false, c.len.ensures)))
