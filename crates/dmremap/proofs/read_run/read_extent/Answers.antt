use Rattle.dmremap.proofs.Prelude.{Some, disk_contents, stored_state, answer_from, start_at}
use Rattle.dmremap.proofs.AnswerLemmas.{asked_refused, refused_does}
use Rattle.dmremap.proofs.ReadLemmas.{read_does, unbegun_reads, written_asked, written_failed, written_no_memory}
use Rattle.dmremap.proofs.read_run.read_extent.Goals as goal
use Rattle.std.specs.Prelude.{◌≡◌}

-- ---- the run doesn't begin

pub returns-in-Err-clause-did : goal.returns-in-Err-clause-did
returns-in-Err-clause-did g c = λ held seen.
    let a = c.args in
    let start = start_at a.stack.now (stored_state a.stack.now (disk_contents a.places.now held)) in
    refused_does (λ answer. answer_from start a.stack.now (disk_contents a.places.now held) a.extent ≡ Some answer) (g.W.Output.past a.output.now) c.in-Err.refusal (unbegun_reads start a.stack.now (disk_contents a.places.now held) a.extent c.in-Err.refusal (c.in-Err.ensures.begun held seen))

pub returns-in-Err-clause-asked : goal.returns-in-Err-clause-asked
returns-in-Err-clause-asked g c = λ past. asked_refused past c.in-Err.refusal

-- ---- the run begins

pub returns-in-Ok-clause-did : goal.returns-in-Ok-clause-did
returns-in-Ok-clause-did g c = λ held seen.
    let a = c.args in
    let at = c.in-Ok.ensures.begun held (c.write_sectors.ensures.still held seen) in
    read_does _ a.stack.now _ at.0 _ (disk_contents a.places.now held) a.extent c.write_sectors.result _ _ at.1 c.in-Ok.ensures.going.stack at.3 c.written_exit.ensures (c.write_sectors.ensures.wrote held seen)

pub returns-in-Ok-clause-writes : goal.returns-in-Ok-clause-writes
returns-in-Ok-clause-writes g c = rw (← written_failed c.write_sectors.result _ c.written_exit.ensures) c.write_sectors.ensures.moved

pub returns-in-Ok-clause-asked : goal.returns-in-Ok-clause-asked
returns-in-Ok-clause-asked g c = written_asked c.write_sectors.result _ c.written_exit.ensures

pub returns-in-Ok-clause-memory : goal.returns-in-Ok-clause-memory
returns-in-Ok-clause-memory g c = λ six. absurd (written_no_memory c.write_sectors.result _ c.written_exit.ensures six)
