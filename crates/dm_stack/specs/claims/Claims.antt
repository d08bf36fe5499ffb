-- Claims: which lower sectors each line of a stack relies on, and when two claims clash.
use Rattle.dm_stack.specs.Base.{ℕ, Bool, true, false, IsTrue, List, Option, Some, None, length, map, All, AllPairs, flat_map, range_with_len, slice_index_or, Line, Use, Reading, Serving, Span, spans}
use Rattle.dm_stack.specs.declared.claims.claim.Claim.{Claim}
use Rattle.dm_stack.specs.declared.claims.clash.Clash.{Clash}
use Rattle.dm_stack.specs.declared.id.Lower.{Lower}
use Rattle.dm_stack.specs.declared.id.Lower.TheVariants.{Device, Disk}
use Rattle.dm_stack.specs.Description.{Description, lines_at, lower_len}
use Rattle.dm_stack.specs.lines.Span as by_ids
use Rattle.std.specs.Prelude.{◌≡◌, ◌↔◌, ◌+◌, ◌≤◌, ◌<◌, ◌∷◌, ◌++◌}

-- the claim that a device makes with one span of a line
abbrev pub span_claim : Description → (device : ℕ) → Span → Claim
span_claim stack device span = by_ids.span_claim stack device (by_ids.by_id stack span)

-- the claims of a line: for a linear line its range, for a striped line a range for each column, for a snapshot all of the store and (for reading) all of the origin, and for an origin all of the device or disk that it names
abbrev pub line_claims : Description → (device : ℕ) → Line → List Claim
line_claims stack device line = map (span_claim stack device) (spans line)

-- the claims of a device, in the order of its lines
abbrev pub device_claims : Description → (device : ℕ) → List Claim
device_claims stack device = flat_map (line_claims stack device) (lines_at stack device)

-- all claims of a stack, in the order of its devices, their lines, and the spans of a line
abbrev pub claims : Description → List Claim
claims stack = flat_map (device_claims stack) (range_with_len 0 (length stack.devices))

-- the claim includes this sector of this device or disk
pub record HasSector (claim : Claim) (lower : Lower) (sector : ℕ) : Type 0 where
  pub on : claim.to ≡ lower
  pub from : claim.start ≤ sector
  pub before : sector < claim.end

-- two claims of these kinds may share a sector: both only read, or one reads and the other serves
abbrev pub may_share : Use → Use → Bool
may_share Reading Reading = true
may_share Reading Serving = true
may_share Serving Reading = true
may_share one other = false

-- both claims include the sector, and claims of their kinds may not share a sector
pub record MeetAt (one other : Claim) (lower : Lower) (sector : ℕ) : Type 0 where
  pub here : HasSector one lower sector
  pub there : HasSector other lower sector
  pub rivals : may_share one.kind other.kind ≡ false

-- the two claims clash at no sector
abbrev pub NeverMeet : Claim → Claim → Type 0
NeverMeet one other = (lower : Lower) (sector : ℕ) → MeetAt one other lower sector → ⊥

-- no two claims of the stack clash at any sector
abbrev pub IsTidy : Description → Type 0
IsTidy stack = AllPairs NeverMeet (claims stack)

-- no line claims any sector of the device
abbrev pub IsTop : Description → (device : ℕ) → Type 0
IsTop stack device = All (λ claim. claim.to ≡ Device device → ⊥) (claims stack)

-- for each device, in the order of ids, whether it is a top device
pub record AreTops (stack : Description) (tops : List Bool) : Type 0 where
  pub all : length tops ≡ length stack.devices
  pub each : (device : ℕ) → device < length stack.devices → IsTrue (slice_index_or tops device false) ↔ IsTop stack device

-- the clash of a list of claims: the first claim that clashes with an earlier one, the first claim that this one clashes with, and the least sector at which the two clash
pub record IsClash (all : List Claim) (clash : Clash) : Type 0 where
  pub before : List Claim
  pub earlier : Claim
  pub between : List Claim
  pub later : Claim
  pub after : List Claim
  pub split : all ≡ (before ++ earlier ∷ between) ++ later ∷ after
  -- no two claims of those before the later claim clash
  pub first : AllPairs NeverMeet (before ++ earlier ∷ between)
  -- the later claim clashes with no claim before the earlier one
  pub earliest : All (λ claim. NeverMeet claim later) before
  pub meet : MeetAt earlier later clash.lower clash.sector
  pub least : (sector : ℕ) → sector < clash.sector → MeetAt earlier later clash.lower sector → ⊥
  pub of_earlier : clash.first ≡ earlier.device
  pub of_later : clash.second ≡ later.device

-- the clash found in a list of claims; None exactly if no two claims clash
abbrev pub IsFirstClash : List Claim → Option Clash → Type 0
IsFirstClash all (Some clash) = IsClash all clash
IsFirstClash all None = AllPairs NeverMeet all

-- the stack has this device or disk
abbrev pub IsLower : Description → Lower → Type 0
IsLower stack (Device id) = id < length stack.devices
IsLower stack (Disk id) = id < length stack.disks

-- the devices and the sector that a clash names are in the stack
pub record IsThere (stack : Description) (clash : Clash) : Type 0 where
  pub lower : IsLower stack clash.lower
  pub inside : clash.sector < lower_len stack clash.lower
  pub first : clash.first < length stack.devices
  pub second : clash.second < length stack.devices
