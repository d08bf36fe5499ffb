-- How runs are written: one line for each, with the request's number.
use Rattle.dm_replay.specs.Base.{ℕ, List, [], codes, decimal, flat_map, code, Description, disk_name_at, ValueRun}
use Rattle.dm_replay.specs.declared.value_run.ValueRun.TheVariants as runs
use Rattle.std.specs.Prelude.{◌∷◌, ◌++◌}

-- the part of a run's line after the request's number, without the newline
abbrev pub run_text : Description → ValueRun → List ℕ
run_text stack (runs.Old disk start len) = codes "old " ++ disk_name_at stack disk ++ code " " ∷ decimal start ++ code " " ∷ decimal len
run_text stack (runs.Wrote request start len) = codes "wrote " ++ decimal request ++ code " " ∷ decimal start ++ code " " ∷ decimal len
run_text stack (runs.Zero len) = codes "zero " ++ decimal len
run_text stack (runs.Error len) = codes "error " ++ decimal len

-- the whole line of a run, with the request's number and a newline
abbrev pub run_line : Description → ℕ → ValueRun → List ℕ
run_line stack number run = decimal number ++ code " " ∷ run_text stack run ++ code "\n" ∷ []

-- the lines of all runs that answer a request
abbrev pub runs_text : Description → ℕ → List ValueRun → List ℕ
runs_text stack number all = flat_map (run_line stack number) all
