-- The checks of a group one after the other, and the faults that they find.
use Rattle.lvm_volume.proofs.Prelude.{inl, inr, List, [], Option, Some, None, Result, Ok, Err, refl, ◌∙◌, Tree, Source, Memory, LoadFault, IsMemoryFault, first_fault, first_or, unless, Fields, Limits, name_faults, snapshot_faults, unknown_faults, faults_of_fields, Group, group_of, members_of, checks_of_parts, extent_faults, group_checks, unnamed, first_or-found, first_or-passed, unless-err}
use Rattle.lvm_volume.proofs.checks.FaultKinds.{NoMemory, first_kind, of_walk, of_unknown, of_extents, of_snapshots, of_unnamed}
use Rattle.std.specs.Prelude.{◌≡◌, ◌≢◌, ◌⊎◌, ◌∷◌}

-- `said` is the error `fault`, unless the fault is that memory ran out
abbrev pub Refused : {X : Type 0} → LoadFault → Result X LoadFault → Type 0
Refused fault said = (fault.kind ≡ Memory → IsMemoryFault Source fault) × (fault.kind ≢ Memory → said ≡ Err fault)

-- if a step found the fault or ran out of memory, the whole call may return that fault
pub refused_by : {X : Type 0} {found : Option LoadFault} {fault : LoadFault} {said : Result X LoadFault} → (found ≡ Some fault → Refused fault said) → (found ≡ Some fault) ⊎ IsMemoryFault Source fault → Refused fault said
refused_by refused (inl is) = refused is
refused_by refused (inr memory) = (λ kind. memory, λ other. absurd (other (rw memory)))

-- ---- the two checks of fields

-- the first fault of the two checks of fields
abbrev pub of_both : Tree → Option LoadFault
of_both top = first_or (faults_of_fields Fields top) (first_or (faults_of_fields (Limits (group_of top).extent_size) top) None)

both_found : (fields limits : List LoadFault) (later : Option LoadFault) (fault : LoadFault) → first_or fields (first_or limits None) ≡ Some fault → first_or fields (first_or limits later) ≡ Some fault
both_found [] limits later fault e = first_or-found limits later fault e
both_found (f ∷ fields) limits later fault e = e

both_kind : (fields limits : List LoadFault) (fault : LoadFault) → NoMemory fields → NoMemory limits → first_or fields (first_or limits None) ≡ Some fault → fault.kind ≢ Memory
both_kind [] limits fault none more e = first_kind limits fault more e
both_kind (f ∷ fields) limits fault none more e = first_kind (f ∷ fields) fault none e

pub both_none : (fields limits : List LoadFault) → first_or fields (first_or limits None) ≡ None → (first_or fields None ≡ None) × (first_or limits None ≡ None)
both_none [] limits e = (refl, e)
both_none (f ∷ fields) limits e = absurd cc

pub at_fields : (top : Tree) (fault : LoadFault) → of_both top ≡ Some fault → Refused fault (unless (first_fault (group_checks top)) (group_of top))
at_fields top fault found =
    let limits = Limits (group_of top).extent_size in (
      λ memory. absurd (both_kind (faults_of_fields Fields top) (faults_of_fields limits top) fault (of_walk Fields top) (of_walk limits top) found memory),
      λ other. rw (both_found (faults_of_fields Fields top) (faults_of_fields limits top) _ fault found),
    )

-- ---- the checks after those of fields

-- the first fault that the later checks find in a group
abbrev of_group : Group → Option LoadFault
of_group group = first_or (name_faults group.physicals) (first_fault (checks_of_parts group))

past_fields : (top : Tree) → of_both top ≡ None → first_fault (group_checks top) ≡ of_group (group_of top)
past_fields top none =
    let h = both_none (faults_of_fields Fields top) (faults_of_fields (Limits (group_of top).extent_size) top) none in
    first_or-passed (faults_of_fields Fields top) _ h.0 ∙ first_or-passed (faults_of_fields (Limits (group_of top).extent_size) top) _ h.1

past_names : (top : Tree) → of_both top ≡ None → first_or (name_faults (group_of top).physicals) None ≡ None → first_fault (group_checks top) ≡ first_fault (checks_of_parts (group_of top))
past_names top none names = past_fields top none ∙ first_or-passed (name_faults (group_of top).physicals) _ names

pub at_names : {X : Type 0} (top : Tree) (x : X) (fault : LoadFault) → of_both top ≡ None → Refused fault (unless (first_or (name_faults (group_of top).physicals) None) x) → Refused fault (unless (first_fault (group_checks top)) (group_of top))
at_names top x fault none h = (
  h.0,
  λ other. rw (past_fields top none, first_or-found (name_faults (group_of top).physicals) _ fault (unless-err _ x fault (h.1 other))),
)

parts_kind : (group : Group) (fault : LoadFault) → first_fault (checks_of_parts group) ≡ Some fault → fault.kind ≢ Memory
parts_kind group fault found =
    by_first (unknown_faults group) (of_unknown group) (first_or (extent_faults group) (first_or (snapshot_faults group) None))
    (by_first (extent_faults group) (of_extents group) (first_or (snapshot_faults group) None) (first_kind (snapshot_faults group) fault (of_snapshots group))) found where
      by_first : (faults : List LoadFault) → NoMemory faults → (later : Option LoadFault) → (later ≡ Some fault → fault.kind ≢ Memory) → first_or faults later ≡ Some fault → fault.kind ≢ Memory
      by_first [] none later h e = h e
      by_first (f ∷ faults) none later h e = first_kind (f ∷ faults) fault none e

pub at_parts : (top : Tree) (fault : LoadFault) → of_both top ≡ None → first_or (name_faults (group_of top).physicals) None ≡ None → first_fault (checks_of_parts (group_of top)) ≡ Some fault
    → Refused fault (unless (first_fault (group_checks top)) (group_of top))
at_parts top fault none names found = (
  λ memory. absurd (parts_kind (group_of top) fault found memory),
  λ other. rw (past_names top none names, found),
)

pub accepted : (top : Tree) → of_both top ≡ None → first_or (name_faults (group_of top).physicals) None ≡ None → first_fault (checks_of_parts (group_of top)) ≡ None → unless (first_fault (group_checks top)) (group_of top) ≡ Ok (group_of top)
accepted top none names parts = rw (past_names top none names, parts)

-- a fault of the check of device names is a fault of the whole call
pub at_unnamed : {X : Type 0} (group : Group) (x : X) (fault : LoadFault) → first_or (unnamed group) None ≡ Some fault → Refused fault (unless (first_or (unnamed group) None) x)
at_unnamed group x fault found = (
  λ memory. absurd (first_kind (unnamed group) fault (of_unnamed group.name (members_of group)) found memory),
  λ other. rw found,
)
