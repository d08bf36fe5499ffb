-- Legs: runs of a line's sectors that have below them either consecutive sectors, zeros, errors, a snapshot or an origin.
use Rattle.dm_stack.specs.Base.{ℕ, Bool, false, true, List, length, StripePosition}
use Rattle.dm_stack.specs.declared.lines.resolved_columns.ResolvedColumn.{ResolvedColumn}
use Rattle.dm_stack.specs.declared.id.Lower.TheVariants.{Disk}
use Rattle.dm_stack.specs.declared.lines.resolved_line.ResolvedTarget.{ResolvedTarget}
use Rattle.dm_stack.specs.declared.lines.resolved_line.ResolvedTarget.TheVariants as found
use Rattle.dm_stack.specs.declared.lines.leg.Beneath.{Beneath}
use Rattle.dm_stack.specs.declared.lines.leg.Beneath.TheVariants as beneath
use Rattle.dm_stack.specs.declared.lines.leg.Leg.{Leg}
use Rattle.dm_stack.specs.declared.checks.limits.TheConstants.{MOST_LENGTH}
use Rattle.dm_stack.specs.lines.Below.{Below, Lies, IsZero, IsError, below_plain, chunk_at, has_state, is_same_chunk, is_striped, IsTargetSound}
use Rattle.dm_stack.specs.Description.{Description, lower_len}
use Rattle.dm_stack.specs.lines.ResolvedColumns.{are_on_disks}
use Rattle.dm_stack.specs.checks.Soundness.{IsSound}
use Rattle.dm_stack.specs.lines.StripePosition.{IsStripePosition}
use Rattle.std.specs.Prelude.{◌≡◌, ◌+◌, ◌-◌, ◌≤◌, ◌<◌}

-- a line with this target can be in a sound stack, and has len sectors from this distance into the line on
pub record HasSectors (target : ResolvedTarget) (distance len : ℕ) : Type 0 where
  pub stack : Description
  pub sound : IsSound stack
  pub device : ℕ
  pub start : ℕ
  pub line_len : ℕ
  pub lies : IsTargetSound stack device start line_len target
  pub inside : distance + len ≤ line_len
  pub small : line_len ≤ MOST_LENGTH

-- `row` returns what lies below each of len sectors of a line without state, and the sectors are all in one chunk
pub record GoesOn (target : ResolvedTarget) (distance len : ℕ) (row : ℕ → Below) : Type 0 where
  pub plain : has_state target ≡ false
  pub below : (i : ℕ) → i < len → below_plain target (distance + i) ≡ row i
  pub chunk : (i : ℕ) → i < len → chunk_at target (distance + i) ≡ chunk_at target distance

-- what lies below len sectors: consecutive sectors, zeros, or errors; or the target is a snapshot or an origin
abbrev pub IsBeneath : ResolvedTarget → (distance len : ℕ) → Beneath → Type 0
IsBeneath target distance len (beneath.Lies to sector) = GoesOn target distance len (λ i. Lies to (sector + i))
IsBeneath target distance len beneath.Zeros = GoesOn target distance len (λ i. IsZero)
IsBeneath target distance len beneath.Errors = GoesOn target distance len (λ i. IsError)
IsBeneath target distance len (beneath.Snapshot snapshot) = target ≡ found.Snapshot snapshot.now
IsBeneath target distance len (beneath.Origin origin) = target ≡ found.Origin origin.now

-- a leg of at most `most` sectors, from a distance into a line on; if the leg is shorter, the line is striped and the sector after the leg is in another chunk
pub record IsLeg (target : ResolvedTarget) (distance most : ℕ) (leg : Leg) : Type 0 where
  pub some : 1 ≤ leg.len
  pub within : leg.len ≤ most
  pub is : IsBeneath target distance leg.len leg.below
  pub striped : leg.len < most → is_striped target ≡ true
  pub next : leg.len < most → is_same_chunk (chunk_at target (distance + leg.len - 1)) (chunk_at target (distance + leg.len)) ≡ false

-- the device or disk below a leg has all sectors of the leg
abbrev pub AreInside : Description → (len : ℕ) → Beneath → Type 0
AreInside stack len (beneath.Lies to sector) = sector + len ≤ lower_len stack to
AreInside stack len _ = Unit {0}

-- what contracts see of an iterator over legs: the target, the distance of the next sector into the line, and how many sectors are left
pub record LegsView : Type 0 where
  pub target : ResolvedTarget
  pub distance : ℕ
  pub left : ℕ

-- the iterator after a leg of this length
abbrev pub after_leg : LegsView → (len : ℕ) → LegsView
after_leg legs len = record { target = legs.target; distance = legs.distance + len; left = legs.left - len }

-- the striped line has the sectors that are left, and `position` is that of the first of them
pub record AreLeft (chunk_size : ℕ) (columns : List ResolvedColumn) (position : StripePosition) (distance left : ℕ) : Type 0 where
  pub there : HasSectors (found.Striped chunk_size columns) distance left
  pub at : 0 < left → IsStripePosition chunk_size (length columns) distance position

-- the target is striped, and all its columns are on disks
abbrev pub has_disk_columns : ResolvedTarget → Bool
has_disk_columns (found.Striped chunk columns) = are_on_disks columns
has_disk_columns _ = false

-- the leg lies on a disk
abbrev pub LiesOnDisk : Beneath → Type 0
LiesOnDisk (beneath.Lies (Disk disk) sector) = Unit {0}
LiesOnDisk _ = ⊥

-- the legs that are left lie on disks, because the target is sound in this stack, is striped over disks, and has the sectors that are left
pub record AreOnDisks (stack : Description) (legs : LegsView) : Type 0 where
  pub device : ℕ
  pub start : ℕ
  pub len : ℕ
  pub sound : IsTargetSound stack device start len legs.target
  pub inside : legs.distance + legs.left ≤ len
  pub columns : has_disk_columns legs.target ≡ true
