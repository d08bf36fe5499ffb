-- Ways of reads: each can be continued, has a last step or none, leads to devices of less depth, and ends at the sector that is read.
use Rattle.dm_map.proofs.Prelude.{ℕ, List, [], refl, sym, ap, ◌∙◌, arith, Lower, Device, Disk, Below, Lies, Description, lower_depth, IsSound, by_below, read_below, read, State, ReadOf, Zeros, Fails, Node, node, Leads, IsWay, Touches}
use Rattle.dm_map.proofs.walk.OneLevel.{by_depth, next_depth, read_disk, read_down}
use Rattle.std.specs.Prelude.{◌≡◌, ◌<◌, ◌≤◌, ◌∷◌, ◌++◌}

pub touch_self : (stack : Description) (state : State) (a : Node) → Touches stack state a a
touch_self stack state a = record { between = []; way = refl }

pub touch_more : (stack : Description) (state : State) (a b c : Node) → Touches stack state a b → Leads stack state b c → Touches stack state a c
touch_more stack state a b c touches leads = record { between = b ∷ touches.between; way = (leads, touches.way) }

-- a way has no step, or it has a last one
pub data Back (stack : Description) (state : State) (a b : Node) : Type 0 where
  Here : a ≡ b → Back stack state a b
  Before : (c : Node) → Touches stack state a c → Leads stack state c b → Back stack state a b

back_way : (stack : Description) (state : State) (a b : Node) (between : List Node) → IsWay stack state a between b → Back stack state a b
back_way stack state a b [] way = Here way
back_way stack state a b (c ∷ cs) way = Before c (record { between = cs; way = way.1 }) way.0

pub back : (stack : Description) (state : State) (a b : Node) → Touches stack state a b → Back stack state a b
back stack state a b touches = back_way stack state a b touches.between touches.way

first_way : (stack : Description) (state : State) (a b c : Node) (between : List Node) → Leads stack state a b → IsWay stack state b between c → IsWay stack state a (between ++ a ∷ []) c
first_way stack state a b c [] leads way = (rw way at leads, refl)
first_way stack state a b c (x ∷ xs) leads way = (way.0, first_way stack state a b x xs leads way.1)

pub touch_first : (stack : Description) (state : State) (a b c : Node) → Leads stack state a b → Touches stack state b c → Touches stack state a c
touch_first stack state a b c leads touches = record { between = touches.between ++ a ∷ []; way = first_way stack state a b c touches.between leads touches.way }

-- Each step of a way leads to a device of less depth, or to a disk

leads_depth : (stack : Description) (state : State) (a b : Node) → IsSound stack → Leads stack state a b → lower_depth stack b.lower < lower_depth stack a.lower
leads_depth stack state a b sound leads = rw leads.on (next_depth stack state leads.device a.sector b.lower b.sector sound leads.below)

way_depth : (stack : Description) (state : State) (a b : Node) (between : List Node) → IsSound stack → IsWay stack state a between b → lower_depth stack b.lower ≤ lower_depth stack a.lower
way_depth stack state a b [] sound way = rw (← way) (omega arith)
way_depth stack state a b (c ∷ cs) sound way = let less = leads_depth stack state c b sound way.0 in let more = way_depth stack state a c cs sound way.1 in omega (arith, less, more)

-- a way between two sectors of one device has no step
pub touch_same : (stack : Description) (state : State) (a b : Node) → IsSound stack → Touches stack state a b → a.lower ≡ b.lower → a ≡ b
touch_same stack state a b sound touches same = elim (back stack state a b touches) [
  | Here e ↦ e
  | Before c before leads ↦ absurd (omega (arith, leads_depth stack state c b sound leads, way_depth stack state a c before.between sound before.way, ap (lower_depth stack) same))
]

-- The way of a read ends at the sector of its unit

disk_is : (disk sector k x : ℕ) → ReadOf disk sector ≡ ReadOf k x → node (Disk disk) sector ≡ node (Disk k) x
disk_is disk sector k x e = cc

touches_below : (stack : Description) (state : State) (device sector disk x : ℕ) (b : Below) → read_below stack state device sector ≡ b → ((to : Lower) (at : ℕ) → b ≡ Lies to at → read stack state to at ≡ ReadOf disk x → Touches stack state (node to at) (node (Disk disk) x))
    → by_below b Zeros Fails (λ to at. read stack state to at) ≡ ReadOf disk x → Touches stack state (node (Device device) sector) (node (Disk disk) x)
touches_below stack state device sector disk x (Lies to at) is each e = touch_first stack state _ _ _ (record { device = device; on = refl; below = is }) (each to at refl e)
touches_below stack state device sector disk x b is each e = absurd cc

Ends : Description → State → Lower → Type 0
Ends stack state lower = (sector disk x : ℕ) → read stack state lower sector ≡ ReadOf disk x → Touches stack state (node lower sector) (node (Disk disk) x)

ends_step : (stack : Description) (state : State) → IsSound stack → (lower : Lower) → ((other : Lower) → lower_depth stack other < lower_depth stack lower → Ends stack state other) → Ends stack state lower
unfolding Ends
ends_step stack state sound (Disk k) each sector disk x e = rw (← disk_is k sector disk x (sym (read_disk stack state k sector) ∙ e)) (touch_self stack state (node (Disk k) sector))
ends_step stack state sound (Device device) each sector disk x e =
    touches_below stack state device sector disk x (read_below stack state device sector) refl (λ to at is reads. each to (next_depth stack state device sector to at sound is) at disk x reads) (sym (read_down stack state device sector sound) ∙ e)

pub read_touches : (stack : Description) (state : State) (lower : Lower) (sector disk x : ℕ) → IsSound stack → read stack state lower sector ≡ ReadOf disk x → Touches stack state (node lower sector) (node (Disk disk) x)
unfolding Ends
read_touches stack state lower sector disk x sound e = by_depth stack (Ends stack state) (ends_step stack state sound) lower sector disk x e
