-- The checks of a list of image paths against the disks of a stack.
use Rattle.dm_stack.specs.Base.{Bool, List, [], is_none, position, LoadFault, Unknown, faults_by}
use Rattle.dm_table.specs.declared.tables.disk_path.DiskPath.{DiskPath}
use Rattle.dm_stack.specs.Description.{Description, is_same}
use Rattle.dm_stack.specs.checks.Soundness.{twice_in}
use Rattle.std.specs.Prelude.{◌∷◌}

-- the path is for a disk that the stack doesn't have
abbrev pub is_unknown_path : Description → DiskPath → Bool
is_unknown_path stack path = is_none (position (λ disk. is_same disk.name path.disk) stack.disks)

-- the faults of the two checks: first of paths for a disk that an earlier path is for, then of paths for unknown disks
abbrev pub path_faults : Description → List DiskPath → List (List LoadFault)
path_faults stack paths =
    twice_in (λ path. path.disk) (λ path. path.at) paths
    ∷ faults_by Unknown (λ path. path.at) (is_unknown_path stack) paths
    ∷ []
