-- When a snapshot becomes lost, each sector of any device reads as before, or as an error.
use Rattle.dm_map.proofs.Prelude.{inl, inr, ℕ, false, Option, Some, None, length, refl, sym, ap, ◌∙◌, cases_eq, ResolvedLine, ResolvedTarget, Lower, Device, Disk, Below, Lies, IsError, below_line, below_target, found_at, Description, lower_depth, IsSound, Values, Stays, content, value_read, by_below, read_below, read_over, lost, put, State, Taken, taken_at, Snapshot}
use Rattle.dm_map.proofs.walk.OneLevel.{by_depth, next_depth, read_disk}
use Rattle.dm_map.proofs.walk.ChunkTaking.{taken_other, taken_same}
use Rattle.dm_map.proofs.own.Takes.{content_down, next_same}
use Rattle.std.specs.Prelude.{◌≡◌, ◌⊎◌, ◌-◌, ◌<◌}

-- Staying the same or becoming an error, twice in a row

pub stays_on : {V : Type 0} (a b c : Option V) → Stays a b → Stays b c → Stays a c
stays_on a b c (inl same) (inl again) = inl (again ∙ same)
stays_on a b c (inr gone) (inl again) = inr (again ∙ gone)
stays_on a b c first (inr gone) = inr gone

pub stays_as : {V : Type 0} (a b c d : Option V) → a ≡ c → b ≡ d → Stays c d → Stays a b
stays_as a b c d p q (inl same) = inl (q ∙ same ∙ sym p)
stays_as a b c d p q (inr gone) = inr (q ∙ gone)

-- Where a read continues once the snapshot is lost: as before, or nowhere

lost_target : (old taken : Taken) (target : ResolvedTarget) (distance : ℕ) → taken.valid ≡ false → (below_target (read_over taken) target distance ≡ below_target (read_over old) target distance) ⊎ (below_target (read_over taken) target distance ≡ IsError)
lost_target old taken (Snapshot snapshot) distance off = inr (rw off refl)
lost_target old taken _ distance off = inl refl

lost_line : (old taken : Taken) (line : Option ResolvedLine) (sector : ℕ) → taken.valid ≡ false → (below_line (read_over taken) line sector ≡ below_line (read_over old) line sector) ⊎ (below_line (read_over taken) line sector ≡ IsError)
lost_line old taken None sector off = inl refl
lost_line old taken (Some line) sector off = lost_target old taken line.target (sector - line.start) off

lost_next : (stack : Description) (state : State) (device e sector : ℕ) → device < length state
    → (read_below stack (put state device (lost (taken_at state device))) e sector ≡ read_below stack state e sector) ⊎ (read_below stack (put state device (lost (taken_at state device))) e sector ≡ IsError)
lost_next stack state device e sector there = elim (cases_eq e device) [
  | inl same ↦
      let here : taken_at (put state device (lost (taken_at state device))) e ≡ lost (taken_at state device) = ap (taken_at (put state device (lost (taken_at state device)))) same ∙ taken_same state device (lost (taken_at state device)) there in
      lost_line (taken_at state e) (taken_at (put state device (lost (taken_at state device))) e) (found_at stack e sector) sector (cc)
  | inr differ ↦ inl (next_same stack state (put state device (lost (taken_at state device))) e sector (taken_other state device e (lost (taken_at state device)) differ))
]

-- What sectors read as once the snapshot is lost

stays_below : {V : Type 0} (zeros : V) (b : Below) (f h : Lower → ℕ → Option V) → ((to : Lower) (at : ℕ) → b ≡ Lies to at → Stays (f to at) (h to at)) → Stays (by_below b (Some zeros) None f) (by_below b (Some zeros) None h)
stays_below zeros (Lies to at) f h each = each to at refl
stays_below zeros b f h each = inl refl

AllStay : {V : Type 0} → (zeros : V) → Description → (state other : State) → Values V → Lower → Type 0
AllStay zeros stack state other values lower = (sector : ℕ) → Stays (content zeros stack state values lower sector) (content zeros stack other values lower sector)

lost_step : {V : Type 0} (zeros : V) (stack : Description) (state : State) (values : Values V) (device : ℕ) → IsSound stack → device < length state
    → (lower : Lower) → ((below : Lower) → lower_depth stack below < lower_depth stack lower → AllStay zeros stack state (put state device (lost (taken_at state device))) values below) → AllStay zeros stack state (put state device (lost (taken_at state device))) values lower
unfolding AllStay
lost_step zeros stack state values device sound there (Disk disk) each sector =
    inl (ap (value_read zeros values) (read_disk stack (put state device (lost (taken_at state device))) disk sector ∙ sym (read_disk stack state disk sector)))
lost_step {V = V} zeros stack state values device sound there (Device e) each sector =
    let other = put state device (lost (taken_at state device)) in
    stays_as _ _ _ _ (content_down zeros stack state values e sector sound) (content_down zeros stack other values e sector sound)
    (elim (lost_next stack state device e sector there) [
      | inl same ↦ stays_as _ _ _ _ refl (cc)
          (stays_below zeros (read_below stack state e sector) (λ to at. content zeros stack state values to at) (λ to at. content zeros stack other values to at) (λ to at is. each to (next_depth stack state e sector to at sound is) at))
      | inr gone ↦ inr (cc)
    ])

pub lost_stays : {V : Type 0} (zeros : V) (stack : Description) (state : State) (values : Values V) (device : ℕ) (lower : Lower) (sector : ℕ) → IsSound stack → device < length state
    → Stays (content zeros stack state values lower sector) (content zeros stack (put state device (lost (taken_at state device))) values lower sector)
unfolding AllStay
lost_stays zeros stack state values device lower sector sound there = by_depth stack (AllStay zeros stack state (put state device (lost (taken_at state device))) values) (lost_step zeros stack state values device sound there) lower sector
