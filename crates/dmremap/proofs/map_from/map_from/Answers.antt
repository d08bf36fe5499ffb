use Rattle.dmremap.proofs.Prelude.{sym, ◌∙◌}
use Rattle.dmremap.proofs.ExitLemmas.{never_memory}
use Rattle.dmremap.proofs.AnswerLemmas.{refusal_left, refused_out}
use Rattle.dmremap.proofs.MapLemmas.{ran_left, ran_maps, unbegun_maps}
use Rattle.dmremap.proofs.map_from.map_from.Goals as goal

pub returns-in-Ok-clause-answers : goal.returns-in-Ok-clause-answers
returns-in-Ok-clause-answers g c = λ start before begun.
    let at = rw c.in-Ok.is at begun in
    ran_maps start at.0 _ _ before _ _ c.run-ending.result at.1 at.2 at.3 c.run-ending.ensures.ran c.status.ensures c.run-ending.ensures.told

pub returns-in-Ok-clause-left : goal.returns-in-Ok-clause-left
returns-in-Ok-clause-left g c =
    ran_left c.run-ending.result _ _ c.status.ensures c.run-ending.ensures.left.reads c.run-ending.ensures.left.met c.run-ending.ensures.ran c.run-ending.ensures.told

pub returns-in-Ok-clause-memory : goal.returns-in-Ok-clause-memory
returns-in-Ok-clause-memory g c = λ six. absurd (never_memory c.run-ending.result (sym c.status.ensures ∙ six))

pub returns-in-Err-clause-answers : goal.returns-in-Err-clause-answers
returns-in-Err-clause-answers g c = λ start before begun. unbegun_maps start _ _ before c.in-Err.refusal (rw c.in-Err.is at begun) c.tell.ensures

pub returns-in-Err-clause-left : goal.returns-in-Err-clause-left
returns-in-Err-clause-left g c = refusal_left c.in-Err.refusal c.tell.ensures

pub returns-in-Err-clause-memory : goal.returns-in-Err-clause-memory
returns-in-Err-clause-memory g c = λ six.
    rw (c.in-Err.is) (sym c.tell.ensures.is ∙ six, refused_out c.in-Err.refusal c.tell.ensures six)
