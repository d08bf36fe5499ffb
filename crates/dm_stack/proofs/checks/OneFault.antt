-- A stack is sound, or refused with exactly one fault, and never both.
use Rattle.dm_stack.proofs.Prelude.{ℕ, Option, Some, None, arith, sym, ap, ◌∙◌, get_or, length, get_or-append_seam, length-append, LoadFault, Description, Early, HasNoCycle, IsFirstCycle, IsRefusedBy, IsSound, Late, OnCycle}
use Rattle.std.specs.Prelude.{◌≡◌, ◌<◌, ◌∷◌}

ring_within : (stack : Description) (found : LoadFault) (ring : IsFirstCycle stack found) → length ring.before < length stack.devices
ring_within stack found ring = omega (arith, ap length ring.split, length-append ring.before (ring.device ∷ ring.after))

no_cycle : (stack : Description) (found : LoadFault) → HasNoCycle stack → IsFirstCycle stack found → ⊥
no_cycle stack found acyclic ring = acyclic (length ring.before) (ring_within stack found ring) ring.cycle

-- two first devices on cycles, neither of which comes before the other, are one
pub same_place : (m n : ℕ) → (m < n → ⊥) → (n < m → ⊥) → m ≡ n
same_place m n above below = grind (arith, above, below)

one_ring : (stack : Description) (a b : LoadFault) → IsFirstCycle stack a → IsFirstCycle stack b → a ≡ b
one_ring stack a b p q =
    let place : length p.before ≡ length q.before = same_place _ _ (λ earlier. q.none_before (length p.before) earlier p.cycle) (λ earlier. p.none_before (length q.before) earlier q.cycle) in
    let left : p.device ≡ get_or stack.devices (length p.before) p.device = rw p.split (sym (get_or-append_seam p.before p.device p.after p.device)) in
    let right : get_or stack.devices (length q.before) p.device ≡ q.device = rw q.split (get_or-append_seam q.before q.device q.after p.device) in
    cc (p.is, (left ∙ ap (λ (i : ℕ). get_or stack.devices i p.device) place ∙ right), sym q.is)

some_none : (found : Option LoadFault) (a : LoadFault) → found ≡ Some a → found ≡ None → ⊥
some_none found a e f = cc

pub one_fault : (stack : Description) (a b : LoadFault) → IsRefusedBy stack a → IsRefusedBy stack b → a ≡ b
one_fault stack a b (Early e) (Early f) = cc (e, f)
one_fault stack a b (Early e) (OnCycle f ring) = absurd (some_none _ a e f)
one_fault stack a b (Early e) (Late f none after) = absurd (some_none _ a e f)
one_fault stack a b (OnCycle e ring) (Early f) = absurd (some_none _ b f e)
one_fault stack a b (OnCycle e ring) (OnCycle f other) = one_ring stack a b ring other
one_fault stack a b (OnCycle e ring) (Late f none after) = absurd (no_cycle stack a none ring)
one_fault stack a b (Late e none after) (Early f) = absurd (some_none _ b f e)
one_fault stack a b (Late e none after) (OnCycle f ring) = absurd (no_cycle stack b none ring)
one_fault stack a b (Late e none after) (Late f never last) = cc (after, last)

pub never_both : (stack : Description) (found : LoadFault) → IsSound stack → IsRefusedBy stack found → ⊥
never_both stack found sound (Early e) = some_none _ found e sound.before
never_both stack found sound (OnCycle e ring) = no_cycle stack found sound.acyclic ring
never_both stack found sound (Late e none after) = some_none _ found after sound.after
