use Rattle.lvm_text.proofs.Prelude.{sym, ◌∙◌, views}
use Rattle.lvm_text.proofs.Trees.{tree_accepted, tree_fault}
use Rattle.lvm_text.proofs.reading.read.Goals as goal

pub returns : goal.returns
returns c =
    let tokens = views c.deref-2.result.now in
    let spelled = rw (← c.deref-2.ensures.value) at c.in_ok-tokens.ensures in
    let ran = rw (c.deref.ensures.value ∙ sym c.deref-2.ensures.value) at c.in_default.ensures in
    record {
      accepted = tree_accepted c.args.text.now tokens c.tree_of.result spelled ran c.tree_of.ensures;
      fault = tree_fault c.args.text.now tokens c.tree_of.result spelled ran c.tree_of.ensures;
    }
