use Rattle.dmremap.proofs.Prelude.{ap, refl, LoadFault, start_state, load_status}
use Rattle.dmremap.proofs.prepared.begin.Goals as goal

pub returns-in-Ok-clause-begun : goal.returns-in-Ok-clause-begun
returns-in-Ok-clause-begun c = (start_state c.args.stack.now, refl, refl, c.in-Ok.ensures.state)

pub returns-in-Err-clause-begun : goal.returns-in-Err-clause-begun
returns-in-Err-clause-begun c = λ other. absurd (other (ap (λ (fault : LoadFault). load_status fault.kind) c.memory.ensures))

pub returns-in-Err-clause-memory : goal.returns-in-Err-clause-memory
returns-in-Err-clause-memory c = ap (λ (fault : LoadFault). load_status fault.kind) c.memory.ensures
