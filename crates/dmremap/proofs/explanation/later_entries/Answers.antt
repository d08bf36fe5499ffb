use Rattle.dmremap.proofs.Prelude.{refl, later_entries}
use Rattle.dmremap.proofs.explanation.later_entries.Goals as goal

pub returns : goal.returns
unfolding later_entries
returns c = refl
