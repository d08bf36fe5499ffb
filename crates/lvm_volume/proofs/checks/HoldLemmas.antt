-- Lemmas about the maps of all physical volumes, and the ranges that are claimed.
use Rattle.lvm_volume.proofs.Prelude.{ℕ, Bool, true, false, List, [], Some, None, length, get_or, set, drop, Result, Ok, Err, refl, sym, ◌∙◌, subst, arith, inl, inr, IfOk, list_any, nat_cmp, BTreeMap, get, nat_tests, length-set, length-append, eqb-true, eqb-false, cases_lt, get_or-set_same, get_or-set_other, get_or_append_left, get_or-append_seam, drop_more, none-some, Claim, meets, segment_faults, used_after, Physical, Segment, Volume, Holds, HasRanges, ranges_of, reaches, LoadFault, first_or}
use Rattle.lvm_volume.specs.checks.Extents.{volume_faults}
use Rattle.lvm_volume.proofs.fields.Faults.{first_after, first_here}
use Rattle.std.specs.Prelude.{◌≡◌, ◌⊎◌, ◌+◌, ◌<◌, ◌≤◌, ◌==◌, ◌∷◌, ◌++◌}

-- a claim overlaps another exactly if their ranges on its physical volume overlap
pub meets_is : (claim : Claim) (used : List Claim) → list_any (meets claim) used ≡ list_any (reaches claim.first claim.end) (ranges_of claim.physical used)
meets_is claim [] = refl
meets_is claim (c ∷ used) = by_position (claim.physical == c.physical) refl (meets_is claim used) where
  by_position : (b : Bool) → (claim.physical == c.physical) ≡ b → list_any (meets claim) used ≡ list_any (reaches claim.first claim.end) (ranges_of claim.physical used)
      → list_any (meets claim) (c ∷ used) ≡ list_any (reaches claim.first claim.end) (ranges_of claim.physical (c ∷ used))
  by_position true e rest = rw (e, rest)
  by_position false e rest = rw (e, rest)

-- an empty map contains no ranges
pub keeps_nothing : (m : BTreeMap ℕ ℕ) → ((q : ℕ) → get nat_cmp m q ≡ None) → HasRanges m []
keeps_nothing m none = record {
  all = tt;
  only = λ first end is a b hit. absurd (none-some end (sym (none first) ∙ is));
  some = λ first end is. absurd (none-some end (sym (none first) ∙ is));
  apart = λ a b c d is_b is_d before. absurd (none-some b (sym (none a) ∙ is_b));
}

same_eqb : (n : ℕ) → (n == n) ≡ true
same_eqb n = grind (arith, nat_tests)

pub if_ok : {A B : Type 0} (r : Result A B) (P Q : A → Type 0) → ((a : A) → P a → Q a) → IfOk r P → IfOk r Q
if_ok (Ok a) P Q f h = f a h
if_ok (Err e) P Q f h = tt

-- adding a claim's range to the map of its physical volume adds the claim
pub holds_more : (maps : List (BTreeMap ℕ ℕ)) (new : BTreeMap ℕ ℕ) (claim : Claim) (used : List Claim) → Holds maps used → claim.physical < length maps → HasRanges new ((claim.first, claim.end) ∷ ranges_of claim.physical used) → Holds (set maps claim.physical new) (claim ∷ used)
holds_more maps new claim used holds within keeps = record { at = λ i d below. at_position i d (omega (arith, below, length-set maps claim.physical new)) (i == claim.physical) refl } where
  at_position : (i : ℕ) (d : BTreeMap ℕ ℕ) → i < length maps → (b : Bool) → (i == claim.physical) ≡ b → HasRanges (get_or (set maps claim.physical new) i d) (ranges_of i (claim ∷ used))
  at_position i d below true e =
      let same : i ≡ claim.physical = eqb-true i claim.physical e in
      let has : HasRanges (get_or (set maps claim.physical new) claim.physical d) ((claim.first, claim.end) ∷ ranges_of claim.physical used) =
      rw (get_or-set_same maps claim.physical new d within) keeps in
      let more : (claim.first, claim.end) ∷ ranges_of claim.physical used ≡ ranges_of claim.physical (claim ∷ used) = rw (same_eqb claim.physical) in
      subst (λ (j : ℕ). HasRanges (get_or (set maps claim.physical new) j d) (ranges_of j (claim ∷ used))) (sym same)
      (rw (← more) has)
  at_position i d below false e =
      let has : HasRanges (get_or (set maps claim.physical new) i d) (ranges_of i used) =
      rw (get_or-set_other maps claim.physical i new d (eqb-false i claim.physical e)) (holds.at i d below) in
      let same : ranges_of i used ≡ ranges_of i (claim ∷ used) = rw e in
      rw (← same) has

pub holds_nothing : (maps : List (BTreeMap ℕ ℕ)) (m : BTreeMap ℕ ℕ) → Holds maps [] → HasRanges m [] → Holds (maps ++ m ∷ []) []
holds_nothing maps m holds keeps = record { at = λ i d below. at_position i d (cases_lt i (length maps)) (omega (arith, below, length-append maps (m ∷ []))) } where
  at_position : (i : ℕ) (d : BTreeMap ℕ ℕ) → (i < length maps) ⊎ (length maps ≤ i) → i < length maps + 1 → HasRanges (get_or (maps ++ m ∷ []) i d) []
  at_position i d (inl before) below = subst (λ (n : BTreeMap ℕ ℕ). HasRanges n []) (sym (get_or_append_left maps (m ∷ []) d i before)) (holds.at i d before)
  at_position i d (inr after) below =
      let last : i ≡ length maps = omega (arith, after, below) in
      rw (last, get_or-append_seam maps m [] d) keeps

-- if a volume has no fault, the first fault is that of the volumes after it
pub volume_passed : (physicals : List Physical) (used : List Claim) (volumes : List Volume) (i : ℕ) (volume : Volume) (segments : List Segment) → i < length volumes → volume ≡ get_or volumes i volume → segments ≡ volume.segments
    → first_or (segment_faults physicals used 0 segments) None ≡ None
    → first_or (volume_faults physicals (used_after used segments) (drop (i + 1) volumes)) None ≡ first_or (volume_faults physicals used (drop i volumes)) None
volume_passed physicals used volumes i volume segments within is same none =
    let at : drop i volumes ≡ volume ∷ drop (i + 1) volumes = rw is (drop_more volumes i volume within) in
    sym (rw (at, ← same) (first_after (segment_faults physicals used 0 segments) _ None none))

-- if a volume has a fault, that is the first fault of the volumes from it on
pub volume_stops : (physicals : List Physical) (used : List Claim) (volumes : List Volume) (i : ℕ) (volume : Volume) (segments : List Segment) (fault : LoadFault) → i < length volumes → volume ≡ get_or volumes i volume → segments ≡ volume.segments
    → first_or (segment_faults physicals used 0 segments) None ≡ Some fault → first_or (volume_faults physicals used (drop i volumes)) None ≡ Some fault
volume_stops physicals used volumes i volume segments fault within is same found =
    let at : drop i volumes ≡ volume ∷ drop (i + 1) volumes = rw is (drop_more volumes i volume within) in
    rw (at, ← same) (first_here (segment_faults physicals used 0 segments) _ None fault found)
