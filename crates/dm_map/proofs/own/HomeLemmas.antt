-- Homes of a store's sectors on disks: a read's way leads to each of them, and no other way does.
use Rattle.dm_map.proofs.Prelude.{ℕ, zero, suc, true, Some, refl, ap, ResolvedSnapshot, Lower, Device, Disk, IsError, below, IsTidy, Description, lower_len, IsSound, is_store_to, IsFitting, Home, home, home_to, store_sector, number_in, read_over, State, taken_at, snapshot_at, Node, node, Touches, MOST_DEPTH}
use Rattle.dm_map.proofs.own.UniqueSteps.{IsNoLines, IsRoot, only_by_line, only_by_store, goes_on_inside, store_no_lines}
use Rattle.dm_map.proofs.state.ResolvedLines.{snapshot_sound}
use Rattle.dm_map.proofs.walk.ReadSteps.{IsLineStep, read_step, line_step}
use Rattle.dm_map.proofs.walk.Stores.{LiesInStore, below_store, store_line}
use Rattle.dm_map.proofs.own.WayLemmas.{Here, Before, back, touch_first, touch_same, touch_self}
use Rattle.std.specs.Prelude.{◌≡◌, ◌/◌, ◌<◌}

abbrev pub home_node : Home → Node
home_node home = node (Disk home.disk) home.sector

-- A way leads from a store's sector to its home

home_suc : (stack : Description) (levels device sector : ℕ) (step : LiesInStore stack levels (λ over. below over stack device sector)) → home_to stack (suc levels) (Device device) sector ≡ home_to stack levels step.to step.at
unfolding home_to
home_suc stack levels device sector step = cc (step.is (λ snapshot sector. IsError))

pub store_touches : (stack : Description) (state : State) (levels : ℕ) (lower : Lower) (sector : ℕ) → IsSound stack → is_store_to stack levels lower ≡ true → sector < lower_len stack lower
    → Touches stack state (node lower sector) (home_node (home_to stack levels lower sector))
unfolding is_store_to home_to
store_touches stack state levels (Disk disk) sector sound store inside = touch_self stack state (node (Disk disk) sector)
store_touches stack state zero (Device device) sector sound store inside = absurd cc
store_touches stack state (suc levels) (Device device) sector sound store inside =
    let step = below_store stack levels device sector sound store inside in
    let later = store_touches stack state levels step.to step.at sound step.store step.inside in
    touch_first stack state (node (Device device) sector) (node step.to step.at) (home_node (home_to stack (suc levels) (Device device) sector)) (record { device = device; on = refl; below = step.is (read_over (taken_at state device)) })
    (rw (home_suc stack levels device sector step) later)

-- No other way leads to a sector's home

pub node_is : (c : Node) (e d t s : ℕ) → c.lower ≡ Device e → e ≡ d → t ≡ c.sector → t ≡ s → c ≡ node (Device d) s
node_is c e d t s lower same at is = rw (lower, same, ← at, is)

-- a way from a node that no line leads to, if it reaches the sector below a line without state, passes the line's own sector
pub touch_up : (stack : Description) (state : State) (a : Node) (device sector : ℕ) (lower : Lower) (at : ℕ) → IsSound stack → IsFitting stack state → IsTidy stack → IsNoLines stack a.lower
    → IsLineStep stack device sector lower at → Touches stack state a (node lower at) → Touches stack state a (node (Device device) sector)
touch_up stack state a device sector lower at sound fitting tidy free step touches = elim (back stack state a (node lower at) touches) [
  | Here e ↦ absurd (free_of cc)
  | Before c before leads ↦
      let is = only_by_line stack state device sector leads.device c.sector lower at step.line sound fitting tidy (goes_on_inside stack state leads.device c.sector lower at sound leads.below) step.is step.step
      (read_step stack state leads.device c.sector lower at sound leads.below) in
      rw (← node_is c leads.device device c.sector sector leads.on is.device refl is.sector) before
]
  where
    free_of : a.lower ≡ lower → ⊥
    free_of same = (rw same at free).none device sector step.line at step.is step.step

-- a way that reaches the home of a store's sector passes that sector
pub home_touched : (stack : Description) (state : State) (a : Node) (levels : ℕ) (lower : Lower) (sector : ℕ) → IsSound stack → IsFitting stack state → IsTidy stack → IsNoLines stack a.lower → is_store_to stack levels lower ≡ true → sector < lower_len stack lower
    → Touches stack state a (home_node (home_to stack levels lower sector)) → Touches stack state a (node lower sector)
unfolding is_store_to home_to
home_touched stack state a levels (Disk disk) sector sound fitting tidy free store inside touches = touches
home_touched stack state a zero (Device device) sector sound fitting tidy free store inside touches = absurd cc
home_touched stack state a (suc levels) (Device device) sector sound fitting tidy free store inside touches =
    let step = below_store stack levels device sector sound store inside in
    let later = home_touched stack state a levels step.to step.at sound fitting tidy free step.store step.inside
    (rw (← home_suc stack levels device sector step) touches) in
    touch_up stack state a device sector step.to step.at sound fitting tidy free (line_step stack device sector step.to step.at (λ held is. store_line stack levels device sector held store is) (step.is (λ snapshot sector. IsError))) later

-- different sectors of a store have different homes
pub homes_apart : (stack : Description) (state : State) (device : ℕ) (snapshot : ResolvedSnapshot) (x y : ℕ) → IsSound stack → IsFitting stack state → IsTidy stack → snapshot_at stack device ≡ Some snapshot
    → x < lower_len stack snapshot.store → y < lower_len stack snapshot.store → home stack snapshot.store x ≡ home stack snapshot.store y → x ≡ y
homes_apart stack state device snapshot x y sound fitting tidy over x_in y_in same =
    let store = (snapshot_sound stack device snapshot sound over).soundly.store in
    let there = store_touches stack state MOST_DEPTH snapshot.store x sound store x_in in
    let up = home_touched stack state (node snapshot.store x) MOST_DEPTH snapshot.store y sound fitting tidy (store_no_lines stack device snapshot sound tidy over) store y_in
    (rw same at there) in
    ap (λ (n : Node). n.sector) (touch_same stack state (node snapshot.store x) (node snapshot.store y) sound up refl)

-- no way from a root reaches the home of a store's sector that holds no taken chunk
pub fresh_apart : (stack : Description) (state : State) (a : Node) (device : ℕ) (snapshot : ResolvedSnapshot) (x : ℕ) → IsSound stack → IsFitting stack state → IsTidy stack → snapshot_at stack device ≡ Some snapshot → IsRoot stack a.lower
    → x < lower_len stack snapshot.store → ((t i : ℕ) → number_in (t / snapshot.chunk) (taken_at state device).chunks ≡ Some i → x ≡ store_sector snapshot i t → ⊥) → Touches stack state a (home_node (home stack snapshot.store x)) → ⊥
fresh_apart stack state a device snapshot x sound fitting tidy over root x_in fresh touches =
    let store = (snapshot_sound stack device snapshot sound over).soundly.store in
    let up = home_touched stack state a MOST_DEPTH snapshot.store x sound fitting tidy root.lines store x_in touches in
    elim (back stack state a (node snapshot.store x) up) [
      | Here e ↦ root.stores.none device snapshot over (cc)
      | Before c before leads ↦
          let kept = only_by_store stack state device leads.device c.sector x snapshot sound fitting tidy (goes_on_inside stack state leads.device c.sector snapshot.store x sound leads.below) over x_in
          (read_step stack state leads.device c.sector snapshot.store x sound leads.below) in
          fresh c.sector kept.number kept.is kept.sector
    ]
