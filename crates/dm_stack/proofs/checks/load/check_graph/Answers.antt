-- Each check fails with its first fault when the checks before it found nothing.
use Rattle.dm_stack.proofs.Prelude.{List, None, sym, ap, ◌∙◌, get_or, nat_lt, Deep, LoadFault, first_or, first_or-none, links, depths_to, OnCycle, deep, faults_by_id, snapshot}
use Rattle.dm_stack.proofs.checks.ChunkLemmas.{good_chunks}
use Rattle.dm_stack.proofs.checks.DepthTests.{depth_each, told_depths}
use Rattle.dm_stack.proofs.checks.LoadLemmas.{handed, refused_last, refused_late, sound_last}
use Rattle.dm_stack.proofs.checks.load.check_graph.Goals as goal
use Rattle.dm_stack.proofs.checks.load.check_graph.Goals.{After-deref}
use Rattle.std.specs.Prelude.{◌≡◌}

pub returns-in_err-check_cycles-clause-fault : goal.returns-in_err-check_cycles-clause-fault
returns-in_err-check_cycles-clause-fault c = handed _ _ _ c.from_residual.ensures.1 (OnCycle c.requires.before c.in_err-check_cycles.ensures.fault)

-- the depths are those of the stack's devices
depths_are : (c : After-deref) → c.deref.result.now ≡ depths_to (links c.args.stack.now) 33
depths_are c = c.deref.ensures.value ∙ c.requires.depths

told : (c : After-deref) → first_or (faults_by_id Deep (λ id. nat_lt 32 (get_or c.deref.result.now id 0)) 0 c.devices.result.now) None ≡ first_or (deep c.args.stack.now) None
told c = rw (c.devices.ensures) (ap (λ (faults : List LoadFault). first_or faults None) (told_depths c.args.stack.now c.deref.result.now (depths_are c)))

pub check_depths-requires : goal.check_depths-requires
check_depths-requires c = rw (depth_each c.args.stack.now c.deref.result.now (depths_are (goal.at.check_depths-requires c).After-deref), c.devices.ensures)

pub check_stores-requires : goal.check_stores-requires
check_stores-requires c = c.deref-2.ensures.value ∙ c.requires.stores

pub check_places-requires : goal.check_places-requires
check_places-requires c = good_chunks c.args.stack.now (first_or-none (snapshot c.args.stack.now) None (sym c.requires.lines.snapshot ∙ sym c.in_ok-refuse-3.ensures)).0

pub returns-in_err-check_depths-clause-fault : goal.returns-in_err-check_depths-clause-fault
returns-in_err-check_depths-clause-fault c = handed _ _ _ c.from_residual-in_err-check_depths.ensures.1 (refused_late _ 0 _ c.requires.before c.in_ok-check_cycles.ensures.passed tt (sym (told (goal.at.returns-in_err-check_depths-clause-fault c).After-deref) ∙ sym c.in_err-check_depths.ensures))

pub returns-in_err-refuse-clause-fault : goal.returns-in_err-refuse-clause-fault
returns-in_err-refuse-clause-fault c = handed _ _ _ c.from_residual-in_err-refuse.ensures.1 (refused_late _ 1 _ c.requires.before c.in_ok-check_cycles.ensures.passed (sym (told (goal.at.returns-in_err-refuse-clause-fault c).After-deref) ∙ sym c.in_ok-check_depths.ensures, tt) (sym c.requires.lines.stripe ∙ sym c.in_err-refuse.ensures))

pub returns-in_err-refuse-2-clause-fault : goal.returns-in_err-refuse-2-clause-fault
returns-in_err-refuse-2-clause-fault c = handed _ _ _ c.from_residual-in_err-refuse-2.ensures.1 (refused_late _ 2 _ c.requires.before c.in_ok-check_cycles.ensures.passed (sym (told (goal.at.returns-in_err-refuse-2-clause-fault c).After-deref) ∙ sym c.in_ok-check_depths.ensures, (sym c.requires.lines.stripe ∙ sym c.in_ok-refuse.ensures, tt)) (sym c.requires.lines.range ∙ sym c.in_err-refuse-2.ensures))

pub returns-in_err-refuse-3-clause-fault : goal.returns-in_err-refuse-3-clause-fault
returns-in_err-refuse-3-clause-fault c = handed _ _ _ c.from_residual-in_err-refuse-3.ensures.1 (refused_late _ 3 _ c.requires.before c.in_ok-check_cycles.ensures.passed (sym (told (goal.at.returns-in_err-refuse-3-clause-fault c).After-deref) ∙ sym c.in_ok-check_depths.ensures, (sym c.requires.lines.stripe ∙ sym c.in_ok-refuse.ensures, (sym c.requires.lines.range ∙ sym c.in_ok-refuse-2.ensures, tt))) (sym c.requires.lines.snapshot ∙ sym c.in_err-refuse-3.ensures))

pub returns-in_err-check_stores-clause-fault : goal.returns-in_err-check_stores-clause-fault
returns-in_err-check_stores-clause-fault c = handed _ _ _ c.from_residual-in_err-check_stores.ensures.1 (refused_late _ 4 _ c.requires.before c.in_ok-check_cycles.ensures.passed (sym (told (goal.at.returns-in_err-check_stores-clause-fault c).After-deref) ∙ sym c.in_ok-check_depths.ensures, (sym c.requires.lines.stripe ∙ sym c.in_ok-refuse.ensures, (sym c.requires.lines.range ∙ sym c.in_ok-refuse-2.ensures, (sym c.requires.lines.snapshot ∙ sym c.in_ok-refuse-3.ensures, tt)))) (sym c.in_err-check_stores.ensures))

pub returns-clause-sound : goal.returns-clause-sound
returns-clause-sound c = sound_last c.args.stack.now c.check_places.result c.requires.before c.in_ok-check_cycles.ensures.passed (sym (told (goal.at.returns-clause-sound c).After-deref) ∙ sym c.in_ok-check_depths.ensures, (sym c.requires.lines.stripe ∙ sym c.in_ok-refuse.ensures, (sym c.requires.lines.range ∙ sym c.in_ok-refuse-2.ensures, (sym c.requires.lines.snapshot ∙ sym c.in_ok-refuse-3.ensures, (sym c.in_ok-check_stores.ensures, tt))))) c.check_places.ensures

pub returns-clause-fault : goal.returns-clause-fault
returns-clause-fault c = refused_last c.args.stack.now c.check_places.result c.requires.before c.in_ok-check_cycles.ensures.passed (sym (told (goal.at.returns-clause-fault c).After-deref) ∙ sym c.in_ok-check_depths.ensures, (sym c.requires.lines.stripe ∙ sym c.in_ok-refuse.ensures, (sym c.requires.lines.range ∙ sym c.in_ok-refuse-2.ensures, (sym c.requires.lines.snapshot ∙ sym c.in_ok-refuse-3.ensures, (sym c.in_ok-check_stores.ensures, tt))))) c.check_places.ensures
