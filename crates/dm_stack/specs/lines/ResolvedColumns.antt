-- Whether the columns of a striped line are all on disks.
use Rattle.dm_stack.specs.Base.{Bool, true, false, List, list_all}
use Rattle.dm_stack.specs.declared.id.Lower.{Lower}
use Rattle.dm_stack.specs.declared.id.Lower.TheVariants.{Device, Disk}
use Rattle.dm_stack.specs.declared.lines.resolved_columns.ResolvedColumn.{ResolvedColumn}

-- the lower device or disk is a disk
abbrev pub is_disk : Lower → Bool
is_disk (Device device) = false
is_disk (Disk disk) = true

-- all columns of the list are on disks
abbrev pub are_on_disks : List ResolvedColumn → Bool
are_on_disks columns = list_all (λ column. is_disk column.to) columns
