-- One level down a stack: what lies below is less deep, and a smaller limit on levels is enough for it.
use Rattle.dm_map.proofs.Prelude.{ℕ, zero, suc, inl, inr, cond, [], Option, Some, None, length, refl, ◌∙◌, arith, AllByRecursion, cases_lt, slice_get_past, Lower, Device, Disk, ResolvedLine, Lies, IsError, below, below_line, found_at, Description, is_ro_at, links, links_of, lower_depth, IsSound, depth_of, write_line, write_step, by_below, read_below, read_unit, read, read_over, State, taken_at, keep, ReadOf, Zeros, Fails, MOST_DEPTH}
use Rattle.dm_map.proofs.walk.Depths.{below_less, depth_some}
use Rattle.dm_map.proofs.walk.LevelLemmas.{IsShallow, OnBelow, named_shallow, on_below, over_read, same_below, same_line, same_read, same_write, shallow}
use Rattle.std.specs.Prelude.{◌≡◌, ◌-◌, ◌<◌, ◌≤◌, ◌∷◌}

-- What lies below a device is less deep than the device

none_past : (stack : Description) (device sector : ℕ) → length stack.devices ≤ device → found_at stack device sector ≡ None
none_past stack device sector past = cc (slice_get_past stack.devices device past)

pub below_past : (stack : Description) (state : State) (device sector : ℕ) → length stack.devices ≤ device → read_below stack state device sector ≡ IsError
below_past stack state device sector past = cc (none_past stack device sector past)

next_line : (stack : Description) (state : State) (device sector : ℕ) (to : Lower) (at : ℕ) (line : Option ResolvedLine) → IsSound stack → found_at stack device sector ≡ line → below_line (read_over (taken_at state device)) line sector ≡ Lies to at
    → lower_depth stack to < depth_of stack device
next_line stack state device sector to at None sound is e = absurd cc
next_line stack state device sector to at (Some line) sound is e =
    let less = below_less stack state device sector (sector - line.start) line to at sound is e in let some = depth_some stack device in omega (arith, less, some)

pub next_depth : (stack : Description) (state : State) (device sector : ℕ) (to : Lower) (at : ℕ) → IsSound stack → read_below stack state device sector ≡ Lies to at → lower_depth stack to < depth_of stack device
next_depth stack state device sector to at sound e = next_line stack state device sector to at (found_at stack device sector) sound refl e

-- The limit on levels for what lies below

shallow_named : (stack : Description) (device : ℕ) → IsSound stack → device < length stack.devices → AllByRecursion (IsShallow (links stack) 32 31 32) (links_of (links stack) device)
shallow_named stack device sound there =
    let most = shallow stack device sound there in
    named_shallow (links stack) 32 31 32 device (record { seen = omega (arith, most); first = most; second = omega (arith, most) })

shallow_below : (stack : Description) (state : State) (device sector : ℕ) → IsSound stack → OnBelow (IsShallow (links stack) 32 31 32) (read_below stack state device sector)
unfolding OnBelow
shallow_below stack state device sector sound = elim (cases_lt device (length stack.devices)) [
  | inl there ↦ on_below (read_over (taken_at state device)) stack (IsShallow (links stack) 32 31 32) device sector (over_read (IsShallow (links stack) 32 31 32) (taken_at state device)) (shallow_named stack device sound there)
  | inr past ↦ rw (below_past stack state device sector past) tt
]

read_suc : (stack : Description) (state : State) (n device sector : ℕ) → read_unit stack state (suc n) (Device device) sector ≡ by_below (read_below stack state device sector) Zeros Fails (λ to at. read_unit stack state n to at)
unfolding read_unit
read_suc stack state n device sector = refl

pub read_down : (stack : Description) (state : State) (device sector : ℕ) → IsSound stack → read stack state (Device device) sector ≡ by_below (read_below stack state device sector) Zeros Fails (λ to at. read stack state to at)
read_down stack state device sector sound =
    read_suc stack state 31 device sector
    ∙ same_below (IsShallow (links stack) 32 31 32) (read_below stack state device sector) Zeros Fails (λ to at. read_unit stack state 31 to at) (λ to at. read_unit stack state 32 to at)
    (shallow_below stack state device sector sound) (λ to at on. same_read stack state 32 31 32 to at on)

pub read_disk : (stack : Description) (state : State) (disk sector : ℕ) → read stack state (Disk disk) sector ≡ ReadOf disk sector
unfolding read_unit
read_disk stack state disk sector = refl

write_suc : (stack : Description) (n device sector : ℕ) (state : State) → write_step stack (suc n) (Device device) state sector
    ≡ cond (is_ro_at stack device) (keep (Fails ∷ []) state) (write_line stack state device (found_at stack device sector) sector (λ to after at. write_step stack n to after at))
unfolding write_step
write_suc stack n device sector state = refl

pub write_down : (stack : Description) (device sector : ℕ) (state : State) → IsSound stack → write_step stack MOST_DEPTH (Device device) state sector
    ≡ cond (is_ro_at stack device) (keep (Fails ∷ []) state) (write_line stack state device (found_at stack device sector) sector (λ to after at. write_step stack MOST_DEPTH to after at))
write_down stack device sector state sound =
    cc (write_suc stack 31 device sector state, same_line (IsShallow (links stack) 32 31 32) stack state device (found_at stack device sector) sector (λ to after at. write_step stack 31 to after at) (λ to after at. write_step stack 32 to after at) (shallow_below stack state device sector sound) (λ after to at on. same_write stack 32 31 32 to after at on))

-- Induction on the depth of a device or disk

up_to : (stack : Description) (P : Lower → Type 0) → ((lower : Lower) → ((other : Lower) → lower_depth stack other < lower_depth stack lower → P other) → P lower) → (n : ℕ) (lower : Lower) → lower_depth stack lower < n → P lower
up_to stack P step zero lower below = absurd (omega (arith, below))
up_to stack P step (suc n) lower below = step lower (λ other less. up_to stack P step n other (omega (arith, less, below)))

pub by_depth : (stack : Description) (P : Lower → Type 0) → ((lower : Lower) → ((other : Lower) → lower_depth stack other < lower_depth stack lower → P other) → P lower) → (lower : Lower) → P lower
by_depth stack P step lower = up_to stack P step (suc (lower_depth stack lower)) lower (omega arith)
