use Rattle.dmremap.proofs.Prelude.{◌∙◌, Ok, ap, AllSaid, RefusedBy, SoundAs, Loaded}
use Rattle.dmremap.proofs.ImagesLemmas.{owners_same, stack_loaded, text_opens, unowned_opens}
use Rattle.dmremap.proofs.images_load.load_owned.Goals as goal

pub returns-in-Ok-load : goal.returns-in-Ok-load
returns-in-Ok-load c =
    let k = c.in-Ok-load.ensures in
    text_opens c.args.paths.now c.args.heads.now _ c.deref-2.result.now (Ok (c.in-Ok.devices.items, c.in-Ok.disks.items)) (Loaded (SoundAs c.in-Ok-load.stack))
    (owners_same c.args.paths.now c.args.heads.now c.deref.result.now (c.deref.ensures.value ∙ ap (λ (all : AllSaid). all.ids) c.heads.view_is)) (c.deref-2.ensures.value ∙ ap (λ (all : AllSaid). all.text) c.heads.view_is)
    c.in-Ok.ensures.given (stack_loaded c.in-Ok-load.stack c.in-Ok.devices.items c.in-Ok.disks.items k.devices k.disks k.sound)

pub returns-in-Err-load : goal.returns-in-Err-load
returns-in-Err-load c = λ other.
    text_opens c.args.paths.now c.args.heads.now _ c.deref-2.result.now (Ok (c.in-Ok.devices.items, c.in-Ok.disks.items)) (Loaded (RefusedBy c.in-Err-load.fault))
    (owners_same c.args.paths.now c.args.heads.now c.deref.result.now (c.deref.ensures.value ∙ ap (λ (all : AllSaid). all.ids) c.heads.view_is)) (c.deref-2.ensures.value ∙ ap (λ (all : AllSaid). all.text) c.heads.view_is)
    c.in-Ok.ensures.given (c.in-Err-load.ensures.fault other)

pub returns-in-Err : goal.returns-in-Err
returns-in-Err c =
    unowned_opens c.args.paths.now c.args.heads.now _ c.deref-2.result.now c.in-Err.fault c.unowned.result
    (owners_same c.args.paths.now c.args.heads.now c.deref.result.now (c.deref.ensures.value ∙ ap (λ (all : AllSaid). all.ids) c.heads.view_is)) (c.deref-2.ensures.value ∙ ap (λ (all : AllSaid). all.text) c.heads.view_is)
    c.in-Err.ensures.given c.unowned.ensures
