-- What may be the exception store of a snapshot: a disk, or a writable device of linear and striped lines, down to disks.
use Rattle.dm_stack.specs.Base.{ℕ, zero, suc, Bool, true, false, not, List, [], length, map, nat_le, list_all, range_with_len, slice_index_or, Line, Target, spans}
use Rattle.dm_table.specs.declared.tables.table.Target.TheVariants as targets
use Rattle.dm_stack.specs.declared.checks.graph.TheConstants.{MOST_DEPTH}
use Rattle.dm_stack.specs.declared.id.Lower.{Lower}
use Rattle.dm_stack.specs.declared.id.Lower.TheVariants.{Device, Disk}
use Rattle.dm_stack.specs.declared.lines.resolved_line.ResolvedTarget.{ResolvedTarget}
use Rattle.dm_stack.specs.declared.lines.resolved_line.ResolvedTarget.TheVariants as found
use Rattle.dm_stack.specs.Description.{Description, is_ro_at, lines_at, links, lower_of}
use Rattle.dm_stack.specs.checks.Graph.{links_of}
use Rattle.std.specs.Prelude.{◌≡◌, ◌&&◌, ◌∷◌, ◌++◌, if◌then◌else◌}

-- the target maps every sector to a sector of a device or a disk that it names, so it may hold a store; a target not listed here may not
abbrev pub is_plain : Target → Bool
is_plain (targets.Linear to offset) = true
is_plain (targets.Striped chunk columns) = true
is_plain _ = false

-- the device or disk may be a store, as found by looking through at most this many levels of devices
unfoldable pub is_store_to : Description → ℕ → Lower → Bool
is_store_to stack levels (Disk disk) = true
is_store_to stack zero (Device device) = false
is_store_to stack (suc levels) (Device device) =
    not (is_ro_at stack device) && list_all (λ line. is_plain line.target && list_all (λ span. is_store_to stack levels (lower_of stack span.to)) (spans line)) (lines_at stack device)

-- the device or disk may be a store; `MOST_DEPTH` levels are enough for any stack
abbrev pub IsStore : Description → Lower → Type 0
IsStore stack lower = is_store_to stack MOST_DEPTH lower ≡ true

-- Stores by depths: a device that can't hold a store gets a link to itself, which makes the device and all devices above it too deep

-- the device is writable, and has only linear and striped lines
abbrev pub may_store : (ro : Bool) → List Line → Bool
may_store ro lines = not ro && list_all (λ line. is_plain line.target) lines

-- the ids of the devices that a device names, and also its own id if it can't hold a store
abbrev pub store_links_of : (may : Bool) → (device : ℕ) → List ℕ → List ℕ
store_links_of may device links = links ++ (if may then [] else device ∷ [])

-- the ids of the devices that the device with this id names, and also its own id if it can't hold a store
abbrev pub store_links_at : Description → ℕ → List ℕ
store_links_at stack device = store_links_of (may_store (is_ro_at stack device) (lines_at stack device)) device (links_of (links stack) device)

-- for each device, in order, the ids of the devices that it names, and also its own id if it can't hold a store
abbrev pub store_links : Description → List (List ℕ)
store_links stack = map (store_links_at stack) (range_with_len 0 (length stack.devices))

-- the device is within the limit on depth, according to these depths; a disk always is
abbrev pub is_shallow : List ℕ → Lower → Bool
is_shallow depths (Device device) = nat_le (slice_index_or depths device 0) MOST_DEPTH
is_shallow depths (Disk disk) = true

-- the target is a snapshot whose store is above the limit on depth, according to these depths
abbrev pub has_deep_store : List ℕ → ResolvedTarget → Bool
has_deep_store depths (found.Snapshot snapshot) = not (is_shallow depths snapshot.store)
has_deep_store depths _ = false
