use Rattle.lvm_text.proofs.Prelude.{◌∙◌, arith}
use Rattle.lvm_text.proofs.KeyPositions.{finds_few, finds_put}
use Rattle.lvm_text.proofs.index.add_entry.Goals as goal
use Rattle.lvm_text.proofs.index.add_entry.Goals.{then-len-ge-FEW+in_ok-insert, else-len-ge-FEW}

pub returns-clause-finds : goal.returns-clause-finds
returns-clause-finds c =
    rw c.in_ok-push.ensures.items (elim c.if-len-ge-FEW.branch [
      | then-len-ge-FEW+in_ok-insert w ↦ rw w.index-is (finds_put c.args.entries.now.items c.args.entry c.args.index.now w.insert.new.self w.len-then-len-ge-FEW.result (w.len-then-len-ge-FEW.ensures ∙ c.args.entries.now.ok.0) (omega (arith, w.if-len-ge-FEW.true, c.len.ensures)) c.requires.fresh c.requires.finds w.in_ok-insert.ensures.updates)
      | else-len-ge-FEW w ↦ rw w.index-is (finds_few c.args.entries.now.items c.args.entry c.args.index.now (omega (arith, w.if-len-ge-FEW.false, c.len.ensures)) c.requires.finds)
    ])
