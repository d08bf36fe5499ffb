-- The search for a clash: claims are visited in the order of their starts, and compared with how far earlier ones reach.
use Rattle.dm_stack.specs.Base.{ℕ, suc, Bool, false, not, List, [], Option, max, min, nat_lt, fold, find, option_map, slice_index_or, list_any, Use, Own, Reading, Serving}
use Rattle.dm_stack.specs.declared.claims.claim.Claim.{Claim}
use Rattle.dm_stack.specs.declared.claims.clash.Clash.{Clash}
use Rattle.dm_stack.specs.declared.id.Lower.{Lower}
use Rattle.dm_stack.specs.declared.id.Lower.TheVariants.{Device, Disk}
use Rattle.dm_stack.specs.declared.claims.reach.Reach.{Reach}
use Rattle.dm_stack.specs.declared.claims.reach.Reaches.{Reaches}
use Rattle.dm_stack.specs.declared.claims.tidy.Numbered.{Numbered}
use Rattle.dm_stack.specs.claims.Claims.{may_share}
use Rattle.dm_stack.specs.Description.{is_same_lower}
use Rattle.std.specs.Prelude.{◌&&◌, ◌||◌, ◌<◌, ◌∷◌, ◌++◌, if◌then◌else◌}

-- the two claims clash at some sector
abbrev pub meets : Claim → Claim → Bool
meets one other = is_same_lower one.to other.to && (nat_lt (max one.start other.start) (min one.end other.end) && not (may_share one.kind other.kind))

-- the clash of two claims, at the least sector that both include
abbrev pub clash_of : (earlier later : Claim) → Clash
clash_of earlier later = record { lower = later.to; sector = max earlier.start later.start; first = earlier.device; second = later.device }

-- the clash of a claim with the first claim before it that it clashes with, or None if it clashes with none
abbrev pub clash_with : (before : List Claim) → (later : Claim) → Option Clash
clash_with before later = option_map (λ earlier. clash_of earlier later) (find (λ earlier. meets earlier later) before)

-- the reach of no claims, which is 0 for each kind
abbrev pub no_reach : Reach
no_reach = record { own = 0; held = 0; all = 0 }

-- the end of a claim that shares sectors with no other, or 0 for a claim of another kind
abbrev pub own_end : Use → ℕ → ℕ
own_end Own end = end
own_end _ end = 0

-- the end of a claim that does more than read, or 0 for a claim that only reads
abbrev pub held_end : Use → ℕ → ℕ
held_end Reading end = 0
held_end _ end = end

-- the reach with one more claim: the greatest end for each kind
abbrev pub reach_with : Reach → Claim → Reach
reach_with reach claim = record {
  own = max reach.own (own_end claim.kind claim.end);
  held = max reach.held (held_end claim.kind claim.end);
  all = max reach.all claim.end;
}

-- the greatest end among the claims with which a claim of this kind can't share sectors; the claim clashes if it starts before that end
abbrev pub rival_end : Use → Reach → ℕ
rival_end Own reach = reach.all
rival_end Reading reach = reach.own
rival_end Serving reach = reach.held

-- a claim clashes with one of the claims that have this reach, if none of them starts after the claim
abbrev pub reach_meets : Reach → Claim → Bool
reach_meets reach claim = nat_lt claim.start claim.end && nat_lt claim.start (rival_end claim.kind reach)

-- how far the claims on this device or disk reach
abbrev pub reach_at : Reaches → Lower → Reach
reach_at reaches (Device id) = slice_index_or reaches.devices.items id no_reach
reach_at reaches (Disk id) = slice_index_or reaches.disks.items id no_reach

-- the id of the device or disk is below the number of devices or disks
abbrev pub IsCounted : (devices disks : ℕ) → Lower → Type 0
IsCounted devices disks (Device id) = id < devices
IsCounted devices disks (Disk id) = id < disks

-- each claim with its number; the first claim has the given number, the next ones follow
abbrev pub numbered : ℕ → List Claim → List Numbered
numbered number [] = []
numbered number (claim ∷ claims) = record { number = number; claim = claim } ∷ numbered (suc number) claims

-- the reach on this device or disk with one more claim, which counts only if it is on that device or disk and its number is below count
abbrev pub reach_next : (count : ℕ) → Lower → Reach → Numbered → Reach
reach_next count lower reach next = if nat_lt next.number count && is_same_lower next.claim.to lower then reach_with reach next.claim else reach

-- how far the claims with numbers below count reach on this device or disk
abbrev pub reach_of : (count : ℕ) → Lower → List Numbered → Reach
reach_of count lower claims = fold (reach_next count lower) no_reach claims

-- both claims have numbers below count, and they clash
abbrev pub rivals : (count : ℕ) → Numbered → Numbered → Bool
rivals count one other = (nat_lt one.number count && nat_lt other.number count) && meets one.claim other.claim

-- an element of the list passes the test together with an earlier element of the list or with an element of `before`
abbrev pub has_pair : {X : Type 0} → (X → X → Bool) → (before : List X) → List X → Bool
has_pair test before [] = false
has_pair test before (x ∷ xs) = list_any (λ earlier. test earlier x) before || has_pair test (before ++ x ∷ []) xs

-- no two claims with numbers below count clash
abbrev pub is_tidy_to : (count : ℕ) → List Numbered → Bool
is_tidy_to count order = not (has_pair (rivals count) [] order)
