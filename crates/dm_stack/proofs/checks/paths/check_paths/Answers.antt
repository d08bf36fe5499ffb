use Rattle.dm_stack.proofs.Prelude.{Unknown, faults_by, is_unknown_path, twice_in, unless-ok}
use Rattle.dm_table.specs.declared.tables.disk_path.DiskPath.{DiskPath}
use Rattle.dm_stack.proofs.checks.PathFaults.{known_found, known_memory, known_passed}
use Rattle.dm_stack.proofs.checks.paths.check_paths.Goals as goal

pub returns-clause-passed : goal.returns-clause-passed
returns-clause-passed c =
    known_passed (twice_in (λ path. path.disk) (λ path. path.at) c.args.paths.now) (faults_by Unknown (λ path. path.at) (is_unknown_path c.args.stack.now) c.args.paths.now)
    c.check_known.result (unless-ok _ _ _ c.in_ok-_names.ensures).0 c.check_known.ensures

pub returns-clause-fault : goal.returns-clause-fault
returns-clause-fault c =
    known_found (twice_in (λ path. path.disk) (λ path. path.at) c.args.paths.now) (faults_by Unknown (λ path. path.at) (is_unknown_path c.args.stack.now) c.args.paths.now)
    c.check_known.result (unless-ok _ _ _ c.in_ok-_names.ensures).0 c.check_known.ensures

pub returns-clause-memory : goal.returns-clause-memory
returns-clause-memory c = known_memory (λ (path : DiskPath). path.at) (is_unknown_path c.args.stack.now) c.args.paths.now c.check_known.result c.check_known.ensures
