-- Which lines name a device, as tests that code can run.
use Rattle.dm_stack.specs.Base.{ℕ, Bool, false, map, list_any}
use Rattle.dm_stack.specs.declared.lines.resolved_line.ResolvedLine.{ResolvedLine}
use Rattle.dm_stack.specs.declared.id.Lower.{Lower}
use Rattle.dm_stack.specs.declared.id.Lower.TheVariants.{Device, Disk}
use Rattle.dm_stack.specs.Description.{Description}
use Rattle.dm_stack.specs.Stack.{resolved_device}
use Rattle.dm_stack.specs.lines.Span.{spans}
use Rattle.std.specs.Prelude.{◌==◌}

-- the device or disk is the device with this id
abbrev pub is_device : ℕ → Lower → Bool
is_device device (Device id) = id == device
is_device device (Disk id) = false

-- the line names the device with this id
abbrev pub line_names : ℕ → ResolvedLine → Bool
line_names device line = list_any (λ span. is_device device span.to) (spans line)

-- some line of the stack names the device with this id
abbrev pub is_named : Description → ℕ → Bool
is_named stack device = list_any (λ found. list_any (line_names device) found.table) (map (resolved_device stack) stack.devices)
