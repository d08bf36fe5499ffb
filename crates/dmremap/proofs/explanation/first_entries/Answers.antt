use Rattle.dmremap.proofs.Prelude.{refl, first_entries}
use Rattle.dmremap.proofs.explanation.first_entries.Goals as goal

pub returns : goal.returns
unfolding first_entries
returns c = refl
