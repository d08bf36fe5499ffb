use Rattle.dmremap.proofs.Prelude.{None, delivery, delivery_if, PartsOpen, fresh_start}
use Rattle.dm_map.proofs.LevelLemmas.{homes_free, reads_free, writes_free}
use Rattle.dm_stream.proofs.FewestLemmas.{fewest_is}
use Rattle.dmremap.specs.declared.exit.Refusal.TheVariants as refusals
use Rattle.dmremap.proofs.AnswerLemmas.{refusal_left}
use Rattle.dmremap.proofs.MapLemmas.{loaded_maps, unopened_maps}
use Rattle.dmremap.proofs.OneWhole.{one_by, one_opening}
use Rattle.dmremap.proofs.map_whole.map_whole.Goals as goal

-- ---- the load was refused

pub returns-in-Err-clause-answers : goal.returns-in-Err-clause-answers
returns-in-Err-clause-answers g c =
    unopened_maps (PartsOpen c.args.format (delivery (g.S.Input.past c.args.source.now) (g.S.Input.past c.load.new.source)) (delivery_if g.D.Input.past c.args.disks.now c.load.new.disks)) fresh_start _ None (refusals.Load c.in-Err.fault) c.in-Err.ensures.gives.refused
    (rw (c.unloaded.ensures) at c.tell.ensures)

pub returns-in-Err-clause-left : goal.returns-in-Err-clause-left
returns-in-Err-clause-left g c = refusal_left (refusals.Load c.in-Err.fault) (rw (c.unloaded.ensures) at c.tell.ensures)

-- ---- the requests were run

pub returns-in-Ok-clause-answers : goal.returns-in-Ok-clause-answers
returns-in-Ok-clause-answers g c =
    loaded_maps (PartsOpen c.args.format (delivery (g.S.Input.past c.args.source.now) (g.S.Input.past c.load.new.source)) (delivery_if g.D.Input.past c.args.disks.now c.load.new.disks)) fresh_start _ None c.in-Ok.stack c.in-Ok.ensures.gives.sound
    (c.map_from-status.ensures.answers (fresh_start c.in-Ok.stack) None c.begin-begun.ensures.begun)

-- ---- clauses about no run, which are laws of the definitions

pub returns-in-Err-clause-one : goal.returns-in-Err-clause-one
returns-in-Err-clause-one g c = λ f flag s d. one_by (PartsOpen f s d) (one_opening f s d) fresh_start flag None

pub returns-in-Ok-clause-one : goal.returns-in-Ok-clause-one
returns-in-Ok-clause-one g c = λ f flag s d. one_by (PartsOpen f s d) (one_opening f s d) fresh_start flag None

pub returns-in-Err-clause-fewest : goal.returns-in-Err-clause-fewest
returns-in-Err-clause-fewest g c = fewest_is

pub returns-in-Ok-clause-fewest : goal.returns-in-Ok-clause-fewest
returns-in-Ok-clause-fewest g c = fewest_is

pub returns-in-Err-clause-levels : goal.returns-in-Err-clause-levels
returns-in-Err-clause-levels g c = λ description sound. (reads_free description sound, writes_free description sound, homes_free description sound)

pub returns-in-Ok-clause-levels : goal.returns-in-Ok-clause-levels
returns-in-Ok-clause-levels g c = λ description sound. (reads_free description sound, writes_free description sound, homes_free description sound)
