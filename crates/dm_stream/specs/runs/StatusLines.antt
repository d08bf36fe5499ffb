-- The status lines of snapshots, as `dmsetup status` prints them (the kernel's admin guide, device-mapper/snapshot; dmsetup(8)).
use Rattle.dm_stream.specs.Base.{ℕ, List, [], Option, None, Some, codes, decimal, flat_map, code, Description, device_len, name_at, snapshots, State, taken_at, snapshot_at, usage_of}
use Rattle.dm_stack.specs.declared.lines.resolved_line.ResolvedSnapshot.{ResolvedSnapshot}
use Rattle.dm_map.specs.declared.state.usage.Usage.{Usage}
use Rattle.std.specs.Prelude.{◌∷◌, ◌++◌, if◌then◌else◌}

-- how many sectors of an exception store are used, or that its snapshot is invalid
abbrev pub usage_text : Usage → List ℕ
usage_text usage =
    if usage.valid then decimal usage.allocated ++ code "/" ∷ decimal usage.total ++ code " " ∷ decimal usage.metadata else codes "Invalid"

-- the part of a status line after the device's name; the snapshot's table is one line, from sector 0 and with this length
abbrev pub after_name : (len : ℕ) → Usage → List ℕ
after_name len usage = codes ": 0 " ++ decimal len ++ codes " snapshot " ++ usage_text usage ++ code "\n" ∷ []

-- the status line of a snapshot, with the usage of its exception store
abbrev pub snapshot_line : Description → State → (device : ℕ) → ResolvedSnapshot → List ℕ
snapshot_line stack state device snapshot =
    name_at stack device ++ after_name (device_len stack device) (usage_of stack snapshot (taken_at state device))

-- the status line of a device that is a snapshot; empty if it isn't one
abbrev pub line_if : Description → State → (device : ℕ) → Option ResolvedSnapshot → List ℕ
line_if stack state device (Some snapshot) = snapshot_line stack state device snapshot
line_if stack state device None = []

-- the status line of the device with this id; empty if the device isn't a snapshot
abbrev pub status_line : Description → State → (device : ℕ) → List ℕ
status_line stack state device = line_if stack state device (snapshot_at stack device)

-- the status lines of all snapshots, in the order of the devices
abbrev pub status_text : Description → State → List ℕ
status_text stack state = flat_map (status_line stack state) (snapshots stack)
