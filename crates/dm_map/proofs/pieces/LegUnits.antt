-- Legs of a striped line on disks: their units leg by leg, and a sink that receives them one by one.
use Rattle.dm_map.proofs.Prelude.{ℕ, zero, suc, List, [], append_assoc, refl, sym, ap, ◌∙◌, arith, Result, Ok, Err, IsErr, Op, Disk, ResolvedTarget, Leg, Description, Lies, below_plain, after_leg, AreOnDisks, LegsView, legs_after, IsDiskLeg, AreHanded, IsHanded, IsLawful, SinkPast, BlockUnit, below_unit, disk_unit, legs_units, line_units, next_unit, units_in, Read, Write}
use Rattle.std.specs.Prelude.{◌≡◌, ◌+◌, ◌-◌, ◌<◌, ◌≤◌, ◌∷◌, ◌++◌}

-- Units of legs on disks

next_disk_unit : (op : Op) (disk sector : ℕ) → next_unit (disk_unit op disk sector) ≡ disk_unit op disk (suc sector)
next_disk_unit Read disk sector = refl
next_disk_unit Write disk sector = refl

-- the units of sectors that lie in a row on a disk
units_of_row : (op : Op) (target : ResolvedTarget) (distance disk sector n : ℕ) → ((i : ℕ) → i < n → below_plain target (distance + i) ≡ Lies (Disk disk) (sector + i)) → line_units op target distance n ≡ units_in (disk_unit op disk sector) n
units_of_row op target distance disk sector zero each = refl
units_of_row op target distance disk sector (suc n) each =
    let here : below_plain target distance ≡ Lies (Disk disk) sector = rw (let e : distance ≡ distance + 0 = omega arith in e, let f : sector ≡ sector + 0 = omega arith in f) (each 0 (omega arith)) in
    let later : (i : ℕ) → i < n → below_plain target (suc distance + i) ≡ Lies (Disk disk) (suc sector + i) = λ i within.
    rw (let e : suc distance + i ≡ distance + suc i = omega arith in e, let f : suc sector + i ≡ sector + suc i = omega arith in f) (each (suc i) (omega (arith, within))) in
    cc (ap (below_unit op) here, units_of_row op target (suc distance) disk (suc sector) n later, next_disk_unit op disk sector)

pub line_units-append : (op : Op) (target : ResolvedTarget) (distance m n : ℕ) → line_units op target distance (m + n) ≡ line_units op target distance m ++ line_units op target (distance + m) n
line_units-append op target distance zero n = let e : 0 + n ≡ n = omega arith in let f : distance + 0 ≡ distance = omega arith in rw (e, f) refl
line_units-append op target distance (suc m) n =
    let e : suc m + n ≡ suc (m + n) = omega arith in let f : distance + suc m ≡ suc distance + m = omega arith in
    rw (e, f) (ap (λ (us : List BlockUnit). below_unit op (below_plain target distance) ∷ us) (line_units-append op target (suc distance) m n))

-- the units of the legs left are those of the next leg, and then those after it
legs_cut : {stack : Description} {legs : LegsView} {leg : Leg} {disk sector : ℕ} (op : Op) → IsDiskLeg stack legs leg disk sector → leg.len ≤ legs.left → legs_units op legs ≡ units_in (disk_unit op disk sector) leg.len ++ legs_units op (after_leg legs leg.len)
legs_cut {stack} {legs} {leg} {disk} {sector} op on few =
    let e : legs.left ≡ leg.len + (legs.left - leg.len) = omega (arith, few) in
    ap (line_units op legs.target legs.distance) e ∙ line_units-append op legs.target legs.distance leg.len (legs.left - leg.len)
    ∙ ap (λ (us : List BlockUnit). us ++ legs_units op (after_leg legs leg.len)) (units_of_row op legs.target legs.distance disk sector leg.len on.on.below)

-- A sink that receives legs one by one

-- the sink received the units of the first legs, and these legs are left
pub record HasTakenTo {S : Type 0} (past : SinkPast S) (old new : S) (op : Op) (all rest : LegsView) : Type 0 where
  pub done : List BlockUnit
  pub took : past.took old done new
  pub whole : done ++ legs_units op rest ≡ legs_units op all
  pub faults : (past.view new).faults ≡ (past.view old).faults
  pub stack : (past.view new).stack ≡ (past.view old).stack
  pub room : (past.view old).room ≤ (past.view new).room
  pub on : AreOnDisks (past.view old).stack rest

pub took_no_leg : {S : Type 0} {past : SinkPast S} {sink : S} {op : Op} {legs : LegsView} → IsLawful past → AreOnDisks (past.view sink).stack legs → HasTakenTo past sink sink op legs legs
took_no_leg {sink} lawful on = record { done = []; took = lawful.nothing sink; whole = refl; faults = refl; stack = refl; room = omega arith; on = on }

-- the sink receives the next leg, too
pub took_leg : {S F : Type 0} {past : SinkPast S} {fine : Unit {0}} {old middle new : S} {op : Op} {all legs : LegsView} {leg : Leg} {stack : Description} {disk sector : ℕ} {units : List BlockUnit} → IsLawful past → HasTakenTo past old middle op all legs
    → IsDiskLeg stack legs leg disk sector → leg.len ≤ legs.left → units ≡ units_in (disk_unit op disk sector) leg.len → IsHanded {F = F} past (Ok fine) middle new units 0 → HasTakenTo past old new op all (after_leg legs leg.len)
took_leg {old} {middle} {new} {op} {legs} {leg} {units} lawful so_far on few same handed = record {
  done = so_far.done ++ units;
  took = lawful.took old middle new so_far.done units so_far.took handed.took;
  whole = append_assoc so_far.done units (legs_units op (after_leg legs leg.len)) ∙ ap (λ (us : List BlockUnit). so_far.done ++ (us ++ legs_units op (after_leg legs leg.len))) same
      ∙ ap (λ (us : List BlockUnit). so_far.done ++ us) (sym (legs_cut op on few)) ∙ so_far.whole;
  faults = let more = handed.faults in let before = so_far.faults in omega (arith, more, before);
  stack = handed.stack ∙ so_far.stack;
  room = let more = handed.room in let before = so_far.room in omega (arith, more, before);
  on = legs_after _ legs leg.len few so_far.on;
}

-- the sink fails at the next leg
pub failed_at_leg : {S R F : Type 0} {past : SinkPast S} {result : Result R F} {fault : F} {old middle new : S} {op : Op} {all legs : LegsView} {leg : Leg} {stack : Description} {disk sector : ℕ} {units : List BlockUnit} → IsErr result → IsLawful past → HasTakenTo past old middle op all legs
    → IsDiskLeg stack legs leg disk sector → leg.len ≤ legs.left → units ≡ units_in (disk_unit op disk sector) leg.len → IsHanded {R = Unit {0}} past (Err fault) middle new units 0 → AreHanded past result old new (legs_units op all)
failed_at_leg {result = Ok done} is_err lawful so_far on few same handed = absurd cc
failed_at_leg {result = Err other} {old} {middle} {new} {op} {legs} {leg} {units} is_err lawful so_far on few same handed = record {
  took = tt;
  left = record {
    front = so_far.done ++ units;
    rest = legs_units op (after_leg legs leg.len);
    whole = append_assoc so_far.done units (legs_units op (after_leg legs leg.len)) ∙ ap (λ (us : List BlockUnit). so_far.done ++ (us ++ legs_units op (after_leg legs leg.len))) same
        ∙ ap (λ (us : List BlockUnit). so_far.done ++ us) (sym (legs_cut op on few)) ∙ so_far.whole;
    holds = lawful.left old middle new so_far.done units so_far.took handed.left;
  };
  faults = let more = handed.faults in let before = so_far.faults in omega (arith, more, before);
  stack = tt;
  room = tt;
}
