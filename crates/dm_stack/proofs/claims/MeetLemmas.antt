-- The computed test for a clash of two claims agrees with its definition.
use Rattle.dm_stack.proofs.Prelude.{inl, inr, ℕ, true, false, not, refl, sym, ap, ◌∙◌, arith, max, min, nat_lt, and_comm, and_from, and_parts, cases_Bool, eq-eqb, eqb-true, lt-ltb, ltb-true, not-true, true≢false, Use, Own, Reading, Serving, Claim, Lower, Device, Disk, Numbered, NeverMeet, MeetAt, may_share, is_same_lower, meets, rivals}
use Rattle.std.specs.Prelude.{◌≡◌}

pub same_is : (one other : Lower) → is_same_lower one other ≡ true → one ≡ other
same_is (Device one) (Device other) e = rw (eqb-true one other e)
same_is (Disk one) (Disk other) e = rw (eqb-true one other e)
same_is one other e = absurd (true≢false (sym e))

pub self_same : (lower : Lower) → is_same_lower lower lower ≡ true
self_same (Device id) = eq-eqb id id refl
self_same (Disk id) = eq-eqb id id refl

-- The test doesn't depend on the order of the two claims

same_turn : (one other : Lower) → is_same_lower one other ≡ is_same_lower other one
same_turn (Device one) (Device other) = grind arith
same_turn (Disk one) (Disk other) = grind arith
same_turn one other = refl

pub share_turn : (one other : Use) → may_share one other ≡ may_share other one
share_turn Own Own = refl
share_turn Reading Own = refl
share_turn Serving Own = refl
share_turn one other = refl

meets_turn : (one other : Claim) → meets one other ≡ meets other one
meets_turn one other =
    rw (same_turn one.to other.to, share_turn one.kind other.kind) (grind arith)

pub rivals_turn : (count : ℕ) (one other : Numbered) → rivals count one other ≡ rivals count other one
rivals_turn count one other = rw (and_comm (nat_lt one.number count) (nat_lt other.number count), meets_turn one.claim other.claim)

-- Two claims clash exactly if some sector is in both, the first of which is at the greater start

meets_at : (one other : Claim) (lower : Lower) (sector : ℕ) → MeetAt one other lower sector → meets one other ≡ true
meets_at one other lower sector met =
    and_from _ _ (cc (self_same other.to))
    (and_from _ _ (lt-ltb (max one.start other.start) (min one.end other.end) (omega (arith, met.here.from, met.here.before, met.there.from, met.there.before))) (ap not met.rivals))

pub never_meet_from : (one other : Claim) → meets one other ≡ false → NeverMeet one other
never_meet_from one other none lower sector met = true≢false (sym (meets_at one other lower sector met) ∙ none)

pub meet_from : (one other : Claim) → meets one other ≡ true → MeetAt one other other.to (max one.start other.start)
meet_from one other some =
    let parts = and_parts _ _ some in
    let more = and_parts _ _ parts.1 in
    let inside = ltb-true (max one.start other.start) (min one.end other.end) more.0 in
    record {
      here = record { on = same_is one.to other.to parts.0; from = omega arith; before = omega (arith, inside) };
      there = record { on = refl; from = omega arith; before = omega (arith, inside) };
      rivals = not-true (may_share one.kind other.kind) more.1;
    }

pub none_from : (one other : Claim) → NeverMeet one other → meets one other ≡ false
none_from one other apart = elim (cases_Bool (meets one other)) [ inl some ↦ absurd (apart other.to (max one.start other.start) (meet_from one other some)) | inr none ↦ none ]
