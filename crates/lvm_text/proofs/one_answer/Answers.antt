use Rattle.lvm_text.proofs.Unique.{one_tree, one_fault, no_fault}
use Rattle.lvm_text.proofs.Whole.{every_text}
use Rattle.lvm_text.proofs.one_answer.Goals as goal

pub returns-clause-tree : goal.returns-clause-tree
returns-clause-tree c = one_tree

pub returns-clause-fault : goal.returns-clause-fault
returns-clause-fault c = one_fault

pub returns-clause-not_both : goal.returns-clause-not_both
returns-clause-not_both c = no_fault

pub returns-clause-every : goal.returns-clause-every
returns-clause-every c = every_text
