use Rattle.dmremap.proofs.Prelude.{◌∙◌, ap, delivery, AllSaid, listed_disks, PrintsImages}
use Rattle.dmremap.specs.declared.exit.Refusal.TheVariants as refusals
use Rattle.dmremap.proofs.AnswerLemmas.{asked_refused, does_more, refused_does}
use Rattle.dmremap.proofs.ImagesLemmas.{seen_disks}
use Rattle.dmremap.proofs.PrintLemmas.{asked_none}
use Rattle.dmremap.proofs.TextLemmas.{head_tells, heads_say, list_tells}
use Rattle.dmremap.proofs.images_text.answer.Goals as goal

-- ---- the heads were read

pub returns-in-Ok-listed_heads-clause-did : goal.returns-in-Ok-listed_heads-clause-did
returns-in-Ok-listed_heads-clause-did g c = λ held seen.
    let paths = delivery (g.P.Input.past c.args.paths.now) (g.P.Input.past c.read_list.new.paths) in
    let text = c.deref.ensures.value ∙ ap (λ (all : AllSaid). all.text) c.heads.view_is in
    does_more (heads_say paths held c.in-Ok.listed.items _ c.deref.result.now c.in-Ok.ensures.given (c.in-Ok-listed_heads.ensures.given (listed_disks c.in-Ok.listed.items held) (seen_disks _ _ _ held seen c.in-Ok-listed_heads.ensures.paths)) text) _ c.print_text.result c.print_text.ensures.did

pub returns-in-Ok-listed_heads-clause-asked : goal.returns-in-Ok-listed_heads-clause-asked
returns-in-Ok-listed_heads-clause-asked g c = λ past. asked_none _ _ c.print_text.result past c.print_text.ensures.did

-- ---- a head was refused

pub returns-in-Err-listed_heads-clause-did : goal.returns-in-Err-listed_heads-clause-did
returns-in-Err-listed_heads-clause-did g c = λ held seen.
    let paths = delivery (g.P.Input.past c.args.paths.now) (g.P.Input.past c.read_list.new.paths) in
    refused_does (PrintsImages paths held) (g.W.Output.past c.args.output.now) c.stopped.result (head_tells paths held c.in-Ok.listed.items c.deref-in-Err-listed_heads.result.now c.in-Err-listed_heads.refusal c.stopped.result c.in-Ok.ensures.given (c.in-Err-listed_heads.ensures.refused (listed_disks c.in-Ok.listed.items held) (seen_disks _ _ _ held seen c.in-Err-listed_heads.ensures.paths))
    (c.deref-in-Err-listed_heads.ensures.value ∙ c.in-Err-listed_heads.ensures.paths) c.stopped.ensures)

pub returns-in-Err-listed_heads-clause-asked : goal.returns-in-Err-listed_heads-clause-asked
returns-in-Err-listed_heads-clause-asked g c = λ past. asked_refused past c.stopped.result

-- ---- the list was refused

pub returns-in-Err-clause-did : goal.returns-in-Err-clause-did
returns-in-Err-clause-did g c = λ held seen.
    let paths = delivery (g.P.Input.past c.args.paths.now) (g.P.Input.past c.read_list.new.paths) in
    rw c.unloaded.ensures (refused_does (PrintsImages paths held) (g.W.Output.past c.args.output.now) (refusals.Load c.in-Err.fault) (list_tells paths held c.in-Err.fault c.in-Err.ensures.refused))
