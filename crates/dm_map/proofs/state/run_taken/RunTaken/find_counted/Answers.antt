use Rattle.dm_map.proofs.Prelude.{sym, arith, AreBegunBy, run_at}
use Rattle.dm_map.proofs.state.RunLemmas.{number_in_run, number_missed}
use Rattle.dm_map.proofs.state.run_taken.RunTaken.find_counted.Goals as goal
use Rattle.std.specs.Prelude.{◌-◌, ◌<◌}

pub returns-then-begun-eq0-clause-found : goal.returns-then-begun-eq0-clause-found
returns-then-begun-eq0-clause-found c =
    let taken = c.args.self.now in
    let by = rw c.as_slice-runs.ensures at c.begun_by-begun.ensures.begun in
    sym (number_missed taken.runs.items taken.chunks.items c.args.chunk c.begun_by-begun.result.0 taken.kept by (λ some. absurd (omega (arith, some, c.if-begun-eq0.true))))

pub returns-then-offset-run-clause-found : goal.returns-then-offset-run-clause-found
returns-then-offset-run-clause-found c =
    let taken = c.args.self.now in
    let begun = c.begun_by-begun.result.0 in
    let by : AreBegunBy taken.runs.items c.args.chunk begun = rw c.as_slice-runs.ensures at c.begun_by-begun.ensures.begun in
    let some : 0 < begun = omega (arith, c.if-begun-eq0.false) in
    let inside = rw c.as_slice-runs.ensures at c.if-offset-run.true in
    rw c.as_slice-runs.ensures (sym (number_in_run taken.chunks.items (run_at taken.runs.items (begun - 1)) c.args.chunk (taken.kept.each (begun - 1) (omega (arith, some, by.within))) taken.once (by.from some) (omega (arith, inside, by.from some))))

pub returns-else-offset-run-clause-found : goal.returns-else-offset-run-clause-found
returns-else-offset-run-clause-found c =
    let taken = c.args.self.now in
    let begun = c.begun_by-begun.result.0 in
    let by : AreBegunBy taken.runs.items c.args.chunk begun = rw c.as_slice-runs.ensures at c.begun_by-begun.ensures.begun in
    let outside = rw c.as_slice-runs.ensures at c.if-offset-run.false in
    sym (number_missed taken.runs.items taken.chunks.items c.args.chunk begun taken.kept by (λ some. omega (arith, outside, by.from some)))
