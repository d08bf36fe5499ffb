-- Ranges of extents in use, as a map from the first extent of each range to the extent after its last.
use Rattle.lvm_volume.specs.Base.{ℕ, Bool, true, false, nat_lt, List, [], Some, length, map, get_or, list_any, AllByRecursion, nat_cmp, BTreeMap, get, Stripe, Physical}
use Rattle.lvm_volume.specs.checks.Extents.{Claim, claim_on, have_clash, used_by}
use Rattle.std.specs.Prelude.{◌≡◌, ◌+◌, ◌<◌, ◌≤◌, ◌==◌, ◌&&◌, ◌∷◌, if◌then◌else◌}

-- the range has an extent in common with the range from `first` up to but not including `end`
abbrev pub reaches : ℕ → ℕ → ℕ × ℕ → Bool
reaches first end range = nat_lt first range.1 && nat_lt range.0 end

-- the map contains exactly these ranges, and no two of them overlap
pub record HasRanges (used : BTreeMap ℕ ℕ) (ranges : List (ℕ × ℕ)) : Type 0 where
  pub all : AllByRecursion (λ range. get nat_cmp used range.0 ≡ Some range.1) ranges
  pub only : (first end : ℕ) → get nat_cmp used first ≡ Some end → (a b : ℕ) → reaches a b (first, end) ≡ true → list_any (reaches a b) ranges ≡ true
  pub some : (first end : ℕ) → get nat_cmp used first ≡ Some end → first < end
  pub apart : (a b c d : ℕ) → get nat_cmp used a ≡ Some b → get nat_cmp used c ≡ Some d → a < c → b ≤ c

-- the ranges of extents that are claimed on the physical volume at this position
abbrev pub ranges_of : ℕ → List Claim → List (ℕ × ℕ)
ranges_of physical [] = []
ranges_of physical (claim ∷ claims) = if physical == claim.physical then (claim.first, claim.end) ∷ ranges_of physical claims else ranges_of physical claims

-- for each physical volume, the map at its position contains exactly the ranges that are claimed on that volume
pub record Holds (maps : List (BTreeMap ℕ ℕ)) (claims : List Claim) : Type 0 where
  pub at : (physical : ℕ) (d : BTreeMap ℕ ℕ) → physical < length maps → HasRanges (get_or maps physical d) (ranges_of physical claims)

-- the ranges that stripes claim, of `share` extents each
abbrev pub claims_by : ℕ → List Stripe → List Claim
claims_by share stripes = map (λ stripe. claim_on stripe.physical stripe.extent (stripe.extent + share)) stripes

-- the result of claiming ranges in order: whether one of them clashes, and, if none does, maps that contain all claims
pub record Claimed (physicals : List Physical) (new : List (BTreeMap ℕ ℕ)) (claims used : List Claim) (clash : Bool) : Type 0 where
  pub value : clash ≡ have_clash physicals used claims
  pub held : clash ≡ false → Holds new (used_by used claims)
