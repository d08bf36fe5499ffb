-- The content of a `Reserved` once a `&mut` to one of its values has ended.
use Rattle.dm_table.specs.Base.{ℕ, slice_set, Lends, Fml, RattleType, MutBor}
use Rattle.dm_table.specs.Reserved.{Reservation}
use Rattle.dm_table.specs.contracts.reserved.Reserved.{the_row}

-- once the borrow of the value at an index ends, that value is the last one written through the borrow, and no other value has changed
abbrev pub lends_item : (T : RattleType) → MutBor (Reservation T.Denot) → ℕ → MutBor T.Denot → Fml
lends_item T reserved index r =
    Lends (the_row T) T reserved r (λ value. record { items = slice_set reserved.now.items index value; room = reserved.now.room })
