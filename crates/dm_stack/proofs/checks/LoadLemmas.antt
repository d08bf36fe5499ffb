-- Checks made in order, named devices that exist, and the first device on a cycle.
use Rattle.dm_stack.proofs.Prelude.{ℕ, zero, suc, false, inl, inr, List, [], Option, Some, None, Result, Ok, Err, Vec, Global, arith, refl, sym, ap, ◌∙◌, drop, get_or, length, map, take, IfErr, IfOk, IfSome, IfNone, OnOk, IsErrAnd, result_err, AllByRecursion, flat_map, list_any, leb-false, or_parts, drop_more, length-map, length-take-le, take-append-drop, All-from_recursion, err_from_is_err_and, DevRef, DeviceSpec, LoadKind, Cycle, Memory, Unknown, LoadFault, Source, IsMemoryFault, fault, first_or, first_fault, Span, spans, Description, device_links, is_same, links, ref_link, IsClosed, IsFirstRing, Reaches, depths_to, greatest, links_in, links_of, stack_depth, Early, HasNoCycle, IsFirstCycle, IsRefusedBy, IsSound, Late, all_lines, checks_after, checks_before, crowded, is_unknown, is_unknown_ref, unknown, line_links, first_or-found, first_or-none, first_or-passed, all_append, all_parts}
use Rattle.dm_table.specs.declared.tables.table.DevRef.TheVariants as refs
use Rattle.dm_stack.proofs.checks.HandedOn.{each_in, refused_not_memory}
use Rattle.dm_stack.proofs.checks.Passes.{faults_by_none}
use Rattle.dm_stack.proofs.lines.SpanLemmas.{none_past}
use Rattle.std.specs.Prelude.{◌≡◌, ◌≢◌, ◌⊎◌, ◌+◌, ◌<◌, ◌∷◌}

-- Checks made in order

abbrev pub FindNothing : List (List LoadFault) → Type 0
FindNothing checks = AllByRecursion (λ faults. first_or faults None ≡ None) checks

pub nothing_found : (checks : List (List LoadFault)) → FindNothing checks → first_fault checks ≡ None
nothing_found [] none = refl
nothing_found (faults ∷ checks) none = first_or-passed faults _ none.0 ∙ nothing_found checks none.1

pub none_found : (checks : List (List LoadFault)) → first_fault checks ≡ None → FindNothing checks
none_found [] e = tt
none_found (faults ∷ checks) e = let parts = first_or-none faults (first_fault checks) e in (ap (λ (found : List LoadFault). first_or found None) parts.0, none_found checks parts.1)

-- the first fault of the check with this index is that of all checks, if the checks before it find nothing
first_at : (checks : List (List LoadFault)) (index : ℕ) (at : LoadFault) → FindNothing (take index checks) → first_or (get_or checks index []) None ≡ Some at → first_fault checks ≡ Some at
first_at [] index at none e = absurd cc
first_at (faults ∷ checks) zero at none e = first_or-found faults _ at e
first_at (faults ∷ checks) (suc index) at none e = first_or-passed faults _ none.0 ∙ first_at checks index at none.1 e

-- the load is refused with the first fault of one of the checks before the one for cycles
pub refused_early : (stack : Description) (index : ℕ) (at : LoadFault) → FindNothing (take index (checks_before stack)) → first_or (get_or (checks_before stack) index []) None ≡ Some at → IsRefusedBy stack at
refused_early stack index at none e = Early (first_at (checks_before stack) index at none e)

pub refused_late : (stack : Description) (index : ℕ) (at : LoadFault) → first_fault (checks_before stack) ≡ None → HasNoCycle stack → FindNothing (take index (checks_after stack)) → first_or (get_or (checks_after stack) index []) None ≡ Some at → IsRefusedBy stack at
refused_late stack index at before acyclic none e = Late before acyclic (first_at (checks_after stack) index at none e)

-- the load passes if its last check finds nothing, and the checks before it found nothing
pub sound_last : (stack : Description) (result : Result (Unit {0}) LoadFault) → first_fault (checks_before stack) ≡ None → HasNoCycle stack → FindNothing (take 5 (checks_after stack)) → result_err result ≡ first_or (crowded stack) None → OnOk result (IsSound stack)
sound_last stack (Ok done) before acyclic none e = record {
  before = before;
  acyclic = acyclic;
  after = nothing_found (checks_after stack) (none.0, (none.1.0, (none.1.1.0, (none.1.1.1.0, (none.1.1.1.1.0, (sym e, tt))))));
}
sound_last stack (Err at) before acyclic none e = tt

pub refused_last : (stack : Description) (result : Result (Unit {0}) LoadFault) → first_fault (checks_before stack) ≡ None → HasNoCycle stack → FindNothing (take 5 (checks_after stack)) → result_err result ≡ first_or (crowded stack) None → IfErr result (IsRefusedBy stack)
refused_last stack (Ok done) before acyclic none e = tt
refused_last stack (Err at) before acyclic none e = refused_late stack 5 at before acyclic none (sym e)

-- a fault returned by `?` has the properties that the callee promised
pub handed : {T : Type 0} (P : LoadFault → Type 0) (result : Result T LoadFault) (at : LoadFault) → IsErrAnd result (λ fault. fault ≡ at) → P at → IfErr result P
handed P result at is holds = let p = err_from_is_err_and result is in rw (p.1, p.2) holds

-- a fault is out of memory, or another one
pub found_or_memory : {P Q : Type 0} (kind : LoadKind) → (kind ≢ Memory → P) → (kind ≡ Memory → Q) → P ⊎ Q
found_or_memory Memory found memory = inr (memory refl)
found_or_memory _ found memory = inl (found (λ e. cc))

-- the load is refused for a fault other than out of memory
pub refused_if : (stack : Description) (at : LoadFault) → IsRefusedBy stack at ⊎ IsMemoryFault Source at → at.kind ≢ Memory → IsRefusedBy stack at
refused_if stack at (inl refused) other = refused
refused_if stack at (inr memory) other = absurd (other (cc))

pub memory_if : (stack : Description) (at : LoadFault) → IsRefusedBy stack at ⊎ IsMemoryFault Source at → at.kind ≡ Memory → IsMemoryFault Source at
memory_if stack at (inl refused) is = absurd (refused_not_memory stack at refused is)
memory_if stack at (inr memory) is = memory

-- a value that was made has the properties that were promised for it
pub made_ok : {T E : Type 0} (made : Result T E) (value : T) (P : T → Type 0) → made ≡ Ok value → IfOk made P → P value
made_ok {T} {E} made value P is holds = rw is at holds

-- Named devices exist

-- all of these ids are ids of devices of the stack
abbrev pub AreThere : Description → List ℕ → Type 0
AreThere stack ids = AllByRecursion (λ id. id < length stack.devices) ids

ref_there : (stack : Description) (to : DevRef) → is_unknown_ref stack to ≡ false → AreThere stack (ref_link stack to)
ref_there stack (refs.Device name) e = (leb-false _ _ (none_past (λ device. is_same device.name name) stack.devices ∙ e), tt)
ref_there stack (refs.Disk name) e = tt

spans_there : (stack : Description) (named : List Span) → list_any (λ span. is_unknown_ref stack span.to) named ≡ false → AreThere stack (flat_map (λ span. ref_link stack span.to) named)
spans_there stack [] e = tt
spans_there stack (span ∷ named) e =
    let parts = or_parts (is_unknown_ref stack span.to) (list_any (λ s. is_unknown_ref stack s.to) named) e in
    all_append (λ id. id < length stack.devices) (ref_link stack span.to) (flat_map (λ s. ref_link stack s.to) named) (ref_there stack span.to parts.0) (spans_there stack named parts.1)

devices_there : (stack : Description) (devices : List DeviceSpec) → AllByRecursion (λ line. is_unknown stack line ≡ false) (all_lines devices) → AllByRecursion (AreThere stack) (map (device_links stack) devices)
devices_there stack [] known = tt
devices_there stack (device ∷ devices) known =
    let parts = all_parts (λ line. is_unknown stack line ≡ false) device.lines (all_lines devices) known in
    (each_in (λ line. is_unknown stack line ≡ false) (λ id. id < length stack.devices) (line_links stack) device.lines parts.0 (λ line. spans_there stack (spans line)), devices_there stack devices parts.1)

at_or : {X : Type 0} (P : X → Type 0) (xs : List X) (i : ℕ) (other : X) → AllByRecursion P xs → P other → P (get_or xs i other)
at_or P [] i other each last = last
at_or P (x ∷ xs) zero other each last = each.0
at_or P (x ∷ xs) (suc i) other each last = at_or P xs i other each.1 last

pub closed_links : (stack : Description) → first_or (unknown stack) None ≡ None → IsClosed (links stack)
closed_links stack e =
    let known = faults_by_none Unknown (λ line. line.at) (is_unknown stack) (all_lines stack.devices) (first_or-none (unknown stack) None e).0 in
    let there = devices_there stack stack.devices known in
    λ d named is.
    let inside : AreThere stack (links_of (links stack) d) = at_or (AreThere stack) (links stack) d [] there tt in
    let below : get_or (links_of (links stack) d) is.0 named < length stack.devices = All-from_recursion (λ id. id < length stack.devices) (links_of (links stack) d) inside is.0 named is.1 in
    let same : get_or (links_of (links stack) d) is.0 named ≡ named = is.2 in
    omega (arith, below, same, length-map stack.devices (device_links stack))

-- The first device on a cycle

pub first_ring : (named : List (Vec ℕ Global)) (found : Option ℕ) → IfSome found (λ d. (d < length named) × Reaches (links_in named) d d) → IfSome found (λ d. (e : ℕ) → e < d → Reaches (links_in named) e e → ⊥) → IfNone found ((d : ℕ) → d < length named → Reaches (links_in named) d d → ⊥) → IsFirstRing (links_in named) found
first_ring named (Some d) found first none = (omega (arith, found.0, length-map named (λ ids. ids.items)), found.1, first)
first_ring named None found first none = λ d below. none d (omega (arith, length-map named (λ ids. ids.items)))

pub ring_fault : (stack : Description) (d : ℕ) (device other : DeviceSpec) → IsFirstRing (links stack) (Some d) → device ≡ get_or stack.devices d other → IsFirstCycle stack (fault Cycle device.at)
ring_fault stack d device other ring is =
    let within : d < length stack.devices = omega (arith, ring.0, length-map stack.devices (device_links stack)) in
    let here : length (take d stack.devices) ≡ d = length-take-le d stack.devices (omega arith) in
    record {
      before = take d stack.devices;
      device = device;
      after = drop (d + 1) stack.devices;
      split = rw (← (drop_more stack.devices d other within ∙ ap (λ (y : DeviceSpec). y ∷ drop (d + 1) stack.devices) (sym is))) (sym (take-append-drop d stack.devices));
      none_before = λ earlier below. ring.2 earlier (omega (arith, here));
      cycle = rw here ring.1;
      is = refl;
    }

pub no_ring : (stack : Description) → IsFirstRing (links stack) None → HasNoCycle stack
no_ring stack none = λ device below. none device (omega (arith, length-map stack.devices (device_links stack)))

pub deepest_is : (stack : Description) (depths : List ℕ) → depths ≡ depths_to (links stack) 33 → greatest depths ≡ stack_depth stack
deepest_is stack depths e =
    rw (← length-map stack.devices (device_links stack)) (ap greatest e)
