use Rattle.dmremap.proofs.Prelude.{List, None, Some, ap, slice_get, subst, sym, ◌∙◌, DiskPath, ImagesOpen, disk_message, listed_disks, short_of, Stops}
use Rattle.lvm_head.specs.declared.fault.HeadFault.TheVariants.{Ends}
use Rattle.dmremap.proofs.ImagesLemmas.{head_refused, heads_loaded, heads_unopened, seen_disks, stopped_opens}
use Rattle.dmremap.proofs.images_load.load_images.Goals as goal

-- ---- a head is refused

pub returns-in-Err-clause-opened : goal.returns-in-Err-clause-opened
returns-in-Err-clause-opened g c = λ p held is seen.
    let listed : List DiskPath = c.args.disks.now.paths.items in
    stopped_opens (ImagesOpen p held) _ c.in-Err.refusal.fault c.stopped.result c.stopped.ensures
    (λ other. head_refused p held listed c.deref.result.now c.in-Err.refusal is (c.in-Err.ensures.refused (listed_disks listed held) (seen_disks _ _ _ held seen c.listed_heads.ensures.paths) other) (c.deref.ensures.value ∙ c.listed_heads.ensures.paths))

-- ---- the LVM2 text or the stack is refused

pub returns-in-Err-load_owned-clause-opened : goal.returns-in-Err-load_owned-clause-opened
returns-in-Err-load_owned-clause-opened g c = λ p held is seen.
    let listed : List DiskPath = c.args.disks.now.paths.items in
    heads_unopened p held listed c.deref-2.result.now c.in-Ok.heads c.in-Err-load_owned.refusal is (c.in-Ok.ensures.given (listed_disks listed held) (seen_disks _ _ _ held seen c.listed_heads.ensures.paths))
    (c.deref-2.ensures.value ∙ c.listed_heads.ensures.paths) c.in-Err-load_owned.ensures

-- ---- a disk is too short

pub returns-in-Some-clause-opened : goal.returns-in-Some-clause-opened
returns-in-Some-clause-opened g c = λ p held is seen.
    let listed : List DiskPath = c.args.disks.now.paths.items in
    let disks = listed_disks listed held in
    let whole = seen_disks _ _ _ held seen (c.first_short.ensures.paths ∙ c.listed_heads.ensures.paths) in
    let found = c.in-Some.ensures.is disks whole ∙ ap (λ (xs : List DiskPath). short_of c.in-Ok-load_owned.stack disks 0 xs) c.listed_heads.ensures.paths in
    let opens = heads_loaded p held listed c.deref-2.result.now c.in-Ok.heads c.in-Ok-load_owned.stack (Some c.in-Some.disk) is (c.in-Ok.ensures.given disks (c.first_short.ensures.still disks whole))
    (c.deref-2.ensures.value ∙ c.listed_heads.ensures.paths) c.in-Ok-load_owned.ensures found in
    let same = c.deref-in-Some.ensures.value ∙ c.first_short.ensures.paths ∙ c.listed_heads.ensures.paths in
    stopped_opens (ImagesOpen p held) _ Ends c.stopped-in-Some.result c.stopped-in-Some.ensures
    (λ other. subst (λ (xs : List DiskPath). ImagesOpen p held (Stops (disk_message (slice_get xs c.in-Some.disk) Ends))) (sym same) opens)

-- ---- no disk is too short

pub returns-clause-opened : goal.returns-clause-opened
returns-clause-opened g c = λ p held is seen.
    let listed : List DiskPath = c.args.disks.now.paths.items in
    let disks = listed_disks listed held in
    let whole = seen_disks _ _ _ held seen (c.first_short.ensures.paths ∙ c.listed_heads.ensures.paths) in
    let found = c.in-None.ensures.is disks whole ∙ ap (λ (xs : List DiskPath). short_of c.in-Ok-load_owned.stack disks 0 xs) c.listed_heads.ensures.paths in
    heads_loaded p held listed c.deref-2.result.now c.in-Ok.heads c.in-Ok-load_owned.stack None is (c.in-Ok.ensures.given disks (c.first_short.ensures.still disks whole))
    (c.deref-2.ensures.value ∙ c.listed_heads.ensures.paths) c.in-Ok-load_owned.ensures found
