-- Neighbouring lines with the same name, joined into devices: the devices have these lines, and no other devices have them.
use Rattle.dm_table.proofs.Prelude.{inl, inr, ℕ, Bool, true, false, nat_eq, List, [], map, refl, sym, ap, ◌∙◌, pointwise, AllByRecursion, bytes_eq-Decides, cases_Bool, false_from_ne_true, Line, DeviceSpec, Place, NamedLine, named_lines, HasPlaceOf, IsDescribed, DifferInName, alone, join_line, joined}
use Rattle.std.specs.Prelude.{◌≡◌, ◌≢◌, ◌∷◌, ◌++◌}

-- ---- the test whether two names are equal

pub same_name : (a b : List ℕ) → pointwise nat_eq a b ≡ true → a ≡ b
same_name a b e = (bytes_eq-Decides a b).0 e

pub is_same_name : (a b : List ℕ) → a ≡ b → pointwise nat_eq a b ≡ true
is_same_name a b e = (bytes_eq-Decides a b).1 e

pub other_name : (a b : List ℕ) → pointwise nat_eq a b ≡ false → a ≢ b
other_name a b e h = absurd (let t : true ≡ false = sym (is_same_name a b h) ∙ e in cc)

pub is_other_name : (a b : List ℕ) → a ≢ b → pointwise nat_eq a b ≡ false
is_other_name a b h = false_from_ne_true _ (λ e. h (same_name a b e))

-- the lines of a device, each with the device's name
abbrev pub named_of : List ℕ → List Line → List NamedLine
named_of name lines = map (λ line. record { name = name; line = line }) lines

-- ---- the lines of joined devices

name_taken : (named : NamedLine) (name : List ℕ) (lines : List Line) (b : Bool) → pointwise nat_eq named.name name ≡ b → b ≡ true → named_of name (named.line ∷ lines) ≡ named ∷ named_of name lines
name_taken named name lines b e t = rw (same_name named.name name (e ∙ t))

lines_of_join : (named : NamedLine) (ds : List DeviceSpec) → named_lines (join_line named ds) ≡ named ∷ named_lines ds
lines_of_join named [] = refl
lines_of_join named (d ∷ ds) = elim (cases_Bool (pointwise nat_eq named.name d.name)) [
  | inl e ↦ rw e (cc (name_taken named d.name d.lines true e refl))
  | inr e ↦ rw e
]

pub lines_of_joined : (ns : List NamedLine) → named_lines (joined ns) ≡ ns
lines_of_joined [] = refl
lines_of_joined (n ∷ ns) = cc (lines_of_join _ _, lines_of_joined ns)

each_join : (named : NamedLine) (ds : List DeviceSpec) → AllByRecursion IsDescribed ds → AllByRecursion IsDescribed (join_line named ds)
each_join named [] h = (record { writable = refl; at = refl }, tt)
each_join named (d ∷ ds) h = elim (cases_Bool (pointwise nat_eq named.name d.name)) [
  | inl e ↦ rw e (record { writable = h.0.writable; at = refl }, h.1)
  | inr e ↦ rw e (record { writable = refl; at = refl }, h)
]

pub each_joined : (ns : List NamedLine) → AllByRecursion IsDescribed (joined ns)
each_joined [] = tt
each_joined (n ∷ ns) = each_join n (joined ns) (each_joined ns)

apart_join : (named : NamedLine) (ds : List DeviceSpec) → DifferInName ds → DifferInName (join_line named ds)
apart_join named [] h = tt
apart_join named (d ∷ []) h = elim (cases_Bool (pointwise nat_eq named.name d.name)) [
  | inl e ↦ rw e tt
  | inr e ↦ rw e (other_name named.name d.name e, tt)
]
apart_join named (d ∷ next ∷ ds) h = elim (cases_Bool (pointwise nat_eq named.name d.name)) [
  | inl e ↦ rw e h
  | inr e ↦ rw e (other_name named.name d.name e, h)
]

pub apart_joined : (ns : List NamedLine) → DifferInName (joined ns)
apart_joined [] = tt
apart_joined (n ∷ ns) = apart_join n (joined ns) (apart_joined ns)

-- ---- lines with the same name, in front of devices of which the first has another name

abbrev pub BeginsOther : List ℕ → List DeviceSpec → Type 0
BeginsOther name [] = Unit {0}
BeginsOther name (device ∷ devices) = name ≢ device.name

first_joins : (name : List ℕ) (line : Line) (ds : List DeviceSpec) → BeginsOther name ds → join_line (record { name = name; line = line }) ds ≡ alone (record { name = name; line = line }) ∷ ds
first_joins name line [] h = refl
first_joins name line (d ∷ ds) h = rw is_other_name

pub run_joins : (name : List ℕ) (line : Line) (lines : List Line) (rest : List NamedLine) → BeginsOther name (joined rest)
    → joined (named_of name (line ∷ lines) ++ rest) ≡ record { name = name; ro = false; lines = line ∷ lines; at = line.at } ∷ joined rest
run_joins name line [] rest h = first_joins name line (joined rest) h
run_joins name line (next ∷ lines) rest h =
    ap (join_line (record { name = name; line = line })) (run_joins name next lines rest h) ∙ rw is_same_name

-- joining the lines of a device, in front of lines with another name, gives that device again
device_again : (name : List ℕ) (ro : Bool) (lines : List Line) (at : Place) (rest : List NamedLine) → ro ≡ false → HasPlaceOf lines at → BeginsOther name (joined rest)
    → joined (named_of name lines ++ rest) ≡ record { name = name; ro = ro; lines = lines; at = at } ∷ joined rest
device_again name ro [] at rest w h other = absurd h
device_again name ro (line ∷ lines) at rest w h other = run_joins name line lines rest other ∙ rw (w, h)

begins_other : (device : DeviceSpec) (ds : List DeviceSpec) → DifferInName (device ∷ ds) → BeginsOther device.name ds
begins_other device [] h = tt
begins_other device (d ∷ ds) h = h.0

apart_rest : (device : DeviceSpec) (ds : List DeviceSpec) → DifferInName (device ∷ ds) → DifferInName ds
apart_rest device [] h = tt
apart_rest device (d ∷ ds) h = h.1

-- joining the lines of described devices gives these devices again, if neighbours differ in name
pub devices_again : (ds : List DeviceSpec) → AllByRecursion IsDescribed ds → DifferInName ds → joined (named_lines ds) ≡ ds
devices_again [] each apart = refl
devices_again (d ∷ ds) each apart =
    let rest : joined (named_lines ds) ≡ ds = devices_again ds each.1 (apart_rest d ds apart) in
    cc (device_again d.name d.ro d.lines d.at (named_lines ds) each.0.writable each.0.at (rw rest (begins_other d ds apart)))
