-- The graph of which devices name which, by index: paths, reachability, and depths.
use Rattle.dm_stack.specs.Base.{ℕ, zero, suc, max, Bool, true, false, not, List, [], Option, Some, None, length, map, Contains, count_by, range_with_len, slice_index_or}
use Rattle.std.specs.Global.{Vec}
use Rattle.std.specs.Prelude.{◌≡◌, ◌⊎◌, ◌↔◌, ◌+◌, ◌<◌, ◌∷◌}

-- Which devices name which

-- a graph given as vectors of the indexes that each device names, as lists
abbrev pub links_in : List (Vec ℕ) → List (List ℕ)
links_in links = map (λ named. named.items) links

-- the indexes that device d names, or an empty list if d is past the end
abbrev pub links_of : List (List ℕ) → ℕ → List ℕ
links_of g d = slice_index_or g d []

-- device d names device e
abbrev pub Names : List (List ℕ) → ℕ → ℕ → Type 0
Names g d e = Contains (links_of g d) e

-- every named index is the index of a device
abbrev pub IsClosed : List (List ℕ) → Type 0
IsClosed g = (d e : ℕ) → Names g d e → e < length g

-- Which devices can be reached

-- the devices of the list are a path from d to e: each names the next one
abbrev pub IsPath : List (List ℕ) → ℕ → List ℕ → ℕ → Type 0
IsPath g d [] e = Names g d e
IsPath g d (m ∷ ms) e = Names g d m × IsPath g m ms e

-- there is a path of at least one step from d to e
pub record Reaches (g : List (List ℕ)) (d e : ℕ) : Type 0 where
  pub between : List ℕ
  pub path : IsPath g d between e

-- d is the first device with a path to itself; for None, there is no device with a path to itself
abbrev pub IsFirstRing : List (List ℕ) → Option ℕ → Type 0
IsFirstRing g (Some d) = (d < length g) × (Reaches g d d) × ((e : ℕ) → e < d → Reaches g e e → ⊥)
IsFirstRing g None = (d : ℕ) → d < length g → Reaches g d d → ⊥

-- Depths

-- the greatest number of a list, or 0 for an empty list
abbrev pub greatest : List ℕ → ℕ
greatest [] = 0
greatest (x ∷ xs) = max x (greatest xs)

-- 1 plus the greatest depth of the devices that d names, cut off after n levels
unfoldable pub depth_to : List (List ℕ) → ℕ → ℕ → ℕ
depth_to g zero d = zero
depth_to g (suc n) d = suc (greatest (map (λ e. depth_to g n e) (links_of g d)))

-- the depth of each device, cut off after n levels, in the order of their indexes
abbrev pub depths_to : List (List ℕ) → ℕ → List ℕ
depths_to g n = map (λ d. depth_to g n d) (range_with_len 0 (length g))

-- 1 plus the greatest of the depths at the named indexes
abbrev pub depth_over : List ℕ → List ℕ → ℕ
depth_over depths named = suc (greatest (map (λ e. slice_index_or depths e 0) named))

-- A search for all devices that can be reached

-- the search has visited device d
abbrev pub IsVisited : List Bool → ℕ → Type 0
IsVisited visited d = slice_index_or visited d false ≡ true

-- the number of devices that the search has not visited yet
abbrev pub unvisited : List Bool → ℕ
unvisited visited = count_by not visited

-- the effect of visiting all named devices: which devices are marked as visited afterwards, and which wait to be searched from
pub record Visits (named : List ℕ) (before after : List Bool) (waited waits : List ℕ) : Type 0 where
  pub marks : (e : ℕ) → IsVisited after e ↔ (IsVisited before e ⊎ Contains named e)
  pub still : (e : ℕ) → Contains waited e → Contains waits e
  pub fresh : (e : ℕ) → IsVisited after e → IsVisited before e ⊎ Contains waits e
  pub only : (e : ℕ) → Contains waits e → Contains waited e ⊎ IsVisited after e
  pub left : unvisited after + length waits ≡ unvisited before + length waited
