-- What the inputs of a run delivered, if one of them may be missing.
use Rattle.dmremap.specs.Base.{[], Option, None, Some, Failed, Delivery, InputPast, delivery, IsReadOn}
use Rattle.std.specs.Prelude.{◌≡◌}

-- what an input delivered; a missing input counts as one that can't be read
abbrev pub delivery_if : {X : Type 0} → (past : X → InputPast) → (old new : Option X) → Delivery
delivery_if past (Some old) (Some new) = delivery (past old) (past new)
delivery_if past (Some old) None = record { bytes = []; stand = Failed }
delivery_if past None new = record { bytes = []; stand = Failed }

-- an input, if there is one, was not read after its end or after a fault
abbrev pub IsReadOnIf : {X : Type 0} → (past : X → InputPast) → (old new : Option X) → Type 0
IsReadOnIf past (Some old) (Some new) = IsReadOn (past old) (past new)
IsReadOnIf past (Some old) None = ⊥
IsReadOnIf past None (Some new) = ⊥
IsReadOnIf past None None = Unit {0}

-- what an input delivered; None if the input is missing
abbrev pub delivered_if : {X : Type 0} → (past : X → InputPast) → (old new : Option X) → Option Delivery
delivered_if past (Some old) (Some new) = Some (delivery (past old) (past new))
delivered_if past (Some old) None = None
delivered_if past None new = None

-- an input, if there is one, was not read at all
abbrev pub IsUnasked : {X : Type 0} → (past : X → InputPast) → (old new : Option X) → Type 0
IsUnasked past (Some old) (Some new) = past new ≡ past old
IsUnasked past (Some old) None = ⊥
IsUnasked past None (Some new) = ⊥
IsUnasked past None None = Unit {0}
