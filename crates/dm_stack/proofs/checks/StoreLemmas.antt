-- A device may be a store exactly if its depth is within the limit once devices that can't hold one have links to themselves.
use Rattle.dm_stack.proofs.Prelude.{ℕ, zero, suc, Bool, true, false, cond, not, nat_le, List, [], arith, inl, inr, refl, sym, ap, ◌∙◌, get_or, length, map, Some, Vec, Global, slice_get, Contains, flat_map, list_all, range_with_len, and-false, and-true, and_assoc, leb-suc-suc, fun_ext, cases_lt, le-leb, lt-leb, append-nil, get_or_past, length-map, map-append, Contains-append_cases, slice_get_past, slice_get_read, list_all-append, get_or-map-range_with_len, length-map-range_with_len, map-range_with_len_more, DevRef, DeviceSpec, Line, Target, Span, spans, Lower, Device, Disk, Description, device_links, is_ro_at, lines_at, lines_or_none, links, lower_of, ref_link, IsClosed, depth_to, depths_to, greatest, links_in, links_of, resolved_target, has_bad_store, has_deep_store, is_plain, is_shallow, is_store_to, may_store, store_links, store_links_at, store_links_of, line_links}
use Rattle.dm_table.specs.declared.tables.table.DevRef.TheVariants as refs
use Rattle.dm_table.specs.declared.tables.table.Target.TheVariants as targets
use Rattle.dm_stack.proofs.checks.PathLemmas.{links_of-at}
use Rattle.dm_stack.proofs.checks.RoundLemmas.{depths_to-at, depths_to-length}
use Rattle.std.specs.Prelude.{◌≡◌, ◌+◌, ◌<◌, ◌≤◌, ◌∷◌, ◌++◌, ◌⊎◌, ◌&&◌}

-- Tests of all elements of a list

all_flat : {X Y : Type 0} (p : Y → Bool) (f : X → List Y) (xs : List X) → list_all p (flat_map f xs) ≡ list_all (λ x. list_all p (f x)) xs
all_flat p f [] = refl
all_flat p f (x ∷ xs) = rw (← all_flat p f xs) (list_all-append p (f x) (flat_map f xs))

all_both : {X : Type 0} (p q : X → Bool) (xs : List X) → list_all (λ x. p x && q x) xs ≡ (list_all p xs && list_all q xs)
all_both p q [] = refl
all_both p q (x ∷ xs) = rw (all_both p q xs) (grind arith)

all_same : {X : Type 0} (p q : X → Bool) (xs : List X) → ((x : X) → p x ≡ q x) → list_all p xs ≡ list_all q xs
all_same p q xs same = ap (λ (test : _ → Bool). list_all test xs) (fun_ext same)

-- Whether the devices that a device names may be stores

-- the device may be a store, looked at through this many levels
abbrev pub is_store_device : Description → ℕ → ℕ → Bool
is_store_device stack levels device = is_store_to stack levels (Device device)

ref_store : (stack : Description) (levels : ℕ) (to : DevRef) → list_all (is_store_device stack levels) (ref_link stack to) ≡ is_store_to stack levels (lower_of stack to)
unfolding is_store_to
ref_store stack levels (refs.Device name) = and-true _
ref_store stack levels (refs.Disk name) = refl

line_store : (stack : Description) (levels : ℕ) (line : Line) → list_all (is_store_device stack levels) (line_links stack line) ≡ list_all (λ span. is_store_to stack levels (lower_of stack span.to)) (spans line)
line_store stack levels line =
    all_flat (is_store_device stack levels) (λ (span : Span). ref_link stack span.to) (spans line)
    ∙ all_same (λ (span : Span). list_all (is_store_device stack levels) (ref_link stack span.to)) (λ span. is_store_to stack levels (lower_of stack span.to)) (spans line) (λ span. ref_store stack levels span.to)

named_lines : (stack : Description) (devices : List DeviceSpec) (device : ℕ) → get_or (map (device_links stack) devices) device [] ≡ flat_map (line_links stack) (lines_or_none (slice_get devices device))
named_lines stack (first ∷ devices) (suc device) = named_lines stack devices device
named_lines stack devices device = refl

store_step : (stack : Description) (levels device : ℕ) → is_store_device stack (suc levels) device ≡ (may_store (is_ro_at stack device) (lines_at stack device) && list_all (is_store_device stack levels) (links_of (links stack) device))
unfolding is_store_to
store_step stack levels device =
    let lines = lines_at stack device in
    let named = named_lines stack stack.devices device in
    rw (all_both (λ line. is_plain line.target) (λ line. list_all (λ span. is_store_to stack levels (lower_of stack span.to)) (spans line)) lines
    ∙ ap (λ (all : Bool). list_all (λ line. is_plain line.target) lines && all)
    (all_same (λ line. list_all (λ span. is_store_to stack levels (lower_of stack span.to)) (spans line)) (λ line. list_all (is_store_device stack levels) (line_links stack line)) lines (λ line. sym (line_store stack levels line))
    ∙ sym (all_flat (is_store_device stack levels) (line_links stack) lines) ∙ ap (λ (ids : List ℕ). list_all (is_store_device stack levels) ids) (sym named))) (sym (and_assoc (not (is_ro_at stack device)) (list_all (λ line. is_plain line.target) lines) _))

-- Depths within a limit

greatest_within : (f : ℕ → ℕ) (xs : List ℕ) (n : ℕ) → nat_le (greatest (map f xs)) n ≡ list_all (λ x. nat_le (f x) n) xs
greatest_within f [] n = le-leb 0 n (omega arith)
greatest_within f (x ∷ xs) n = rw (← greatest_within f xs n) (grind arith)

depth_within : (g : List (List ℕ)) (n device : ℕ) → nat_le (depth_to g (suc (suc n)) device) (suc n) ≡ list_all (λ e. nat_le (depth_to g (suc n) e) n) (links_of g device)
unfolding depth_to
depth_within g n device = leb-suc-suc (greatest (map (λ e. depth_to g (suc n) e) (links_of g device))) n ∙ greatest_within (λ e. depth_to g (suc n) e) (links_of g device) n

depth_first : (g : List (List ℕ)) (device : ℕ) → nat_le (depth_to g 1 device) 0 ≡ false
unfolding depth_to
depth_first g device = lt-leb _ 0 (omega arith)

-- Links of devices, with a link to itself for each that can't hold a store

-- a link to itself makes a device fail the test
marked : (p : ℕ → Bool) (device : ℕ) (ids : List ℕ) (may : Bool) → (may ≡ false → p device ≡ false) → list_all p (ids ++ cond may [] (device ∷ [])) ≡ (may && list_all p ids)
marked p device ids true barred = rw (append-nil ids)
marked p device ids false barred =
    rw (list_all-append, barred, and-false)

barred_at : (stack : Description) (levels device : ℕ) → may_store (is_ro_at stack device) (lines_at stack device) ≡ false → is_store_device stack levels device ≡ false
unfolding is_store_to
barred_at stack zero device barred = refl
barred_at stack (suc levels) device barred = rw (store_step, barred)

links_there : (stack : Description) (device : ℕ) → device < length stack.devices → links_of (store_links stack) device ≡ store_links_at stack device
links_there stack device within = get_or-map-range_with_len (store_links_at stack) 0 (length stack.devices) device device [] within (omega arith)

links_count : (stack : Description) → length (store_links stack) ≡ length stack.devices
links_count stack = length-map-range_with_len (store_links_at stack) 0 (length stack.devices)

links_past : (stack : Description) (device : ℕ) → length stack.devices ≤ device → links_of (store_links stack) device ≡ []
links_past stack device past = get_or_past (store_links stack) device [] (omega (arith, past, links_count stack))

-- through any number of levels, a device that can't hold a store names one that may not be a store
all_marked : (stack : Description) (levels device : ℕ) → list_all (is_store_device stack levels) (links_of (store_links stack) device) ≡ (may_store (is_ro_at stack device) (lines_at stack device) && list_all (is_store_device stack levels) (links_of (links stack) device))
all_marked stack levels device = elim (cases_lt device (length stack.devices)) [
  | inl within ↦ rw links_there (marked (is_store_device stack levels) device (links_of (links stack) device) (may_store (is_ro_at stack device) (lines_at stack device)) (barred_at stack levels device))
  | inr past ↦ let none = slice_get_past stack.devices device past in let named = named_lines stack stack.devices device in rw (links_past, named, none)
]

pub store_depth : (stack : Description) (levels device : ℕ) → nat_le (depth_to (store_links stack) (suc levels) device) levels ≡ is_store_device stack levels device
unfolding is_store_to
store_depth stack zero device = depth_first (store_links stack) device
store_depth stack (suc levels) device =
    depth_within (store_links stack) levels device
    ∙ all_same (λ e. nat_le (depth_to (store_links stack) (suc levels) e) levels) (is_store_device stack levels) (links_of (store_links stack) device) (store_depth stack levels)
    ∙ all_marked stack levels device ∙ sym (store_step stack levels device)

-- Linked devices exist

closed_marked : (d e n : ℕ) (may : Bool) (ids : List ℕ) → d < n → ((e : ℕ) → Contains ids e → e < n) → Contains (store_links_of may d ids) e → e < n
closed_marked d e n may ids within inside named = elim (Contains-append_cases ids (cond may [] (d ∷ [])) e named) [ inl earlier ↦ inside e earlier | inr last ↦ itself may last ]
  where
    itself : (b : Bool) → Contains (cond b [] (d ∷ [])) e → e < n
    itself true (k, below, is) = absurd (omega (arith, below))
    itself false (zero, below, is) = omega (arith, is, within)
    itself false (suc k, below, is) = absurd (omega (arith, below))

pub closed_stores : (stack : Description) → IsClosed (links stack) → IsClosed (store_links stack)
closed_stores stack closed d e named =
    let count : length (store_links stack) ≡ length stack.devices = length-map-range_with_len (store_links_at stack) 0 (length stack.devices) in
    elim (cases_lt d (length stack.devices)) [
      | inl within ↦
          let here = rw links_there at named in
          let below = closed_marked d e (length stack.devices) _ (links_of (links stack) d) within (λ other is. let inside = closed d other is in omega (arith, inside, length-map stack.devices (device_links stack))) here in
          omega (arith, below, count)
      | inr past ↦ let here = rw links_past at named in absurd (omega (arith, here.1))
    ]

-- Depths along these links

past_store : (stack : Description) (device : ℕ) → length stack.devices ≤ device → is_store_device stack 32 device ≡ true
past_store stack device past =
    let none = slice_get_past stack.devices device past in
    let named = named_lines stack stack.devices device in
    store_step stack 31 device ∙ rw (named, none)

shallow_same : (stack : Description) (depths : List ℕ) (lower : Lower) → depths ≡ depths_to (store_links stack) 33 → is_shallow depths lower ≡ is_store_to stack 32 lower
unfolding is_store_to
shallow_same stack depths (Disk disk) is = refl
shallow_same stack depths (Device device) is = cc (by_place (cases_lt device (length stack.devices)))
  where
    by_place : (device < length stack.devices) ⊎ (length stack.devices ≤ device) → nat_le (get_or (depths_to (store_links stack) 33) device 0) 32 ≡ is_store_device stack 32 device
    by_place (inl within) = rw (depths_to-at (store_links stack) 33 device (omega (arith, within, links_count stack))) (store_depth stack 32 device)
    by_place (inr past) =
        rw (get_or_past (depths_to (store_links stack) 33) device 0 (omega (arith, past, links_count stack, depths_to-length (store_links stack) 33))) (sym (past_store stack device past))

-- a snapshot's store is bad exactly if it is too deep along these links
pub deep_same : (stack : Description) (depths : List ℕ) (target : Target) → depths ≡ depths_to (store_links stack) 33 → has_deep_store depths (resolved_target stack target) ≡ has_bad_store stack target
deep_same stack depths (targets.Snapshot origin store kind chunk) is = ap not (shallow_same stack depths (lower_of stack store) is)
deep_same stack depths _ is = refl

-- The links, device by device

pub store_links_next : (stack : Description) (id : ℕ) (device : DeviceSpec) (named before : List (Vec ℕ Global)) (links_at new : Vec ℕ Global) → id < length stack.devices → device ≡ get_or stack.devices id device → id < length named → links_at ≡ get_or named id links_at → links_in named ≡ links stack
    → links_in before ≡ map (store_links_at stack) (range_with_len 0 id) → new.items ≡ store_links_of (may_store device.ro device.lines) id links_at.items → links_in (before ++ new ∷ []) ≡ map (store_links_at stack) (range_with_len 0 (id + 1))
store_links_next stack id device named before links_at new within is below is_links are earlier made =
    let at : slice_get stack.devices id ≡ Some device = slice_get_read stack.devices (length stack.devices) id device refl within is in
    let links = sym (links_of-at named id links_at below is_links) ∙ ap (λ (g : List (List ℕ)). links_of g id) are in
    let here : store_links_of (may_store device.ro device.lines) id links_at.items ≡ store_links_at stack id = cc (links, at) in
    cc (map-append (λ (v : Vec ℕ Global). v.items) before (new ∷ []), here, map-range_with_len_more (store_links_at stack) 0 id id (omega arith))

pub links_length : (stack : Description) (named : List (Vec ℕ Global)) → links_in named ≡ links stack → length named ≡ length stack.devices
links_length stack named are =
    cc (sym (length-map named (λ v. v.items)), are, length-map stack.devices (device_links stack))
