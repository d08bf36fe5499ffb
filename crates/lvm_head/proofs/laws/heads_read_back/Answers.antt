use Rattle.lvm_head.proofs.LawLemmas.{reads_back}
use Rattle.lvm_head.proofs.laws.heads_read_back.Goals as goal

pub returns : goal.returns
returns c = reads_back
