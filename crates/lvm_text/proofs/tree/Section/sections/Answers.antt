use Rattle.lvm_text.proofs.Prelude.{[], sym, ap, ◌∙◌, sections_in}
use Rattle.lvm_text.proofs.Looks.{sections_are}
use Rattle.lvm_text.proofs.Keys.{keys_differ, sections_found}
use Rattle.lvm_text.proofs.tree.Section.sections.Goals as goal

pub returns-clause-sections : goal.returns-clause-sections
returns-clause-sections c =
    rw (← c.self.view_is) (ap sections_in c.deref.ensures.value ∙ sym (sections_are c.self.inside.entries.items c.self.invariant.lines))

pub returns-clause-differ : goal.returns-clause-differ
returns-clause-differ c = keys_differ c.args.self.now.values [] (rw (← c.self.view_is) c.self.invariant.differ)

pub returns-clause-found : goal.returns-clause-found
returns-clause-found c = sections_found c.args.self.now.values [] (rw (← c.self.view_is) c.self.invariant.differ)
