use Rattle.lvm_text.proofs.Unique.{only_tree, only_fault}
use Rattle.lvm_text.proofs.parse.Goals as goal

pub returns-clause-only : goal.returns-clause-only
returns-clause-only c = only_tree c.args.text.now c.read.result c.read.ensures.accepted c.read.ensures.fault

pub returns-clause-only_fault : goal.returns-clause-only_fault
returns-clause-only_fault c = only_fault c.args.text.now c.read.result c.read.ensures.accepted c.read.ensures.fault
