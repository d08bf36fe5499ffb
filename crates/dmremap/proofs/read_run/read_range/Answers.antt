use Rattle.dmremap.proofs.Prelude.{Ok, Some, ap, sym, ◌∙◌, disk_contents, load_status, range_words, extent_answer, range_answer}
use Rattle.dmremap.specs.declared.exit.Refusal.TheVariants as refusals
use Rattle.dmremap.proofs.AnswerLemmas.{asked_refused, does_more, refused_does}
use Rattle.dmremap.proofs.read_run.read_range.Goals as goal
use Rattle.std.specs.Prelude.{◌≡◌}

-- ---- the places of disks are unknown

pub returns-in-Err-clause-did : goal.returns-in-Err-clause-did
returns-in-Err-clause-did g c = λ held at settled seen.
    let a = c.args in let there = rw c.in-Err.is at settled in
    refused_does (λ answer. range_answer held a.stack.now (range_words a.range) at ≡ Some answer) (g.W.Output.past a.output.now) (refusals.Load c.in-Err.fault) (λ other. ap (range_answer held a.stack.now (range_words a.range)) (there (λ memory. other (ap load_status memory))))

pub returns-in-Err-clause-asked : goal.returns-in-Err-clause-asked
returns-in-Err-clause-asked g c = λ past. asked_refused past (refusals.Load c.in-Err.fault)

-- ---- the range is refused

pub returns-in-Err-extent_of-clause-did : goal.returns-in-Err-extent_of-clause-did
returns-in-Err-extent_of-clause-did g c = λ held at settled seen.
    let a = c.args in let there = rw c.in-Ok.is at settled in
    refused_does (λ answer. range_answer held a.stack.now (range_words a.range) at ≡ Some answer) (g.W.Output.past a.output.now) c.in-Err-extent_of.refusal (λ other. ap (range_answer held a.stack.now (range_words a.range)) there ∙ ap (extent_answer a.stack.now (disk_contents c.in-Ok.places held)) (sym c.in-Err-extent_of.ensures.is))

pub returns-in-Err-extent_of-clause-asked : goal.returns-in-Err-extent_of-clause-asked
returns-in-Err-extent_of-clause-asked g c = λ past. asked_refused past c.in-Err-extent_of.refusal

-- ---- the sectors are read

pub returns-in-Ok-extent_of-clause-did : goal.returns-in-Ok-extent_of-clause-did
returns-in-Ok-extent_of-clause-did g c = λ held at settled seen.
    let a = c.args in let there = rw c.in-Ok.is at settled in
    does_more {Is = λ answer. extent_answer a.stack.now (disk_contents c.in-Ok.places held) (Ok c.in-Ok-extent_of.extent) ≡ Some answer} {More = λ answer. range_answer held a.stack.now (range_words a.range) at ≡ Some answer} (λ answer is. ap (range_answer held a.stack.now (range_words a.range)) there ∙ ap (extent_answer a.stack.now (disk_contents c.in-Ok.places held)) (sym c.in-Ok-extent_of.ensures.is) ∙ is) _ _ (c.read_extent-exit.ensures.did held seen)
