use Rattle.dm_replay.proofs.Prelude.{ℕ, length, List, drop, take, refl, flat_map, err_from_is_err_and, slice_get_read, at_index, ValueRun, run_line, IsRunOf}
use Rattle.dm_table.proofs.WriteLemmas.{stopped, and_then, flat_map_at, flat_map_next}
use Rattle.dm_replay.proofs.run_text.write_runs.Goals as goal
use Rattle.std.specs.Prelude.{◌+◌, ◌++◌}

pub write_run-requires : goal.write_run-requires
write_run-requires g c = at_index (IsRunOf (length c.args.stack.now.disks)) c.args.runs.now c.loop-run.run-index c.run-item.result c.requires (slice_get_read c.args.runs.now _ c.loop-run.run-index c.run-item.result refl c.loop-run-test.true c.run-item.is)

pub returns-in_err-write_run : goal.returns-in_err-write_run
returns-in_err-write_run g c =
    let p = err_from_is_err_and c.from_residual.result c.from_residual.ensures.1 in
    let runs = c.args.runs.now in let i = c.loop-run.run-index in let run = c.run-item.result in
    let f : ValueRun → List ℕ = run_line c.args.stack.now c.args.number in
    let rest = flat_map f (drop (i + 1) runs) in
    rw (p.1, p.2) (and_then (flat_map f (take i runs)) (f run ++ rest) (flat_map_at f runs i run c.loop-run-test.true c.run-item.is) c.loop-run.invariant (stopped (f run) rest refl c.in_err-write_run.ensures))

pub loop-run-preserved : goal.loop-run-preserved
loop-run-preserved g c =
    let runs = c.args.runs.now in let i = c.loop-run.run-index in let run = c.run-item.result in
    let f : ValueRun → List ℕ = run_line c.args.stack.now c.args.number in
    and_then (flat_map f (take i runs)) (f run) (flat_map_next f runs i run c.loop-run-test.true c.run-item.is) c.loop-run.invariant c.in_ok-write_run.ensures
