-- The contents of disks, sector by sector.
use Rattle.lvm_head.specs.Base.{ℕ, List, Result, Ok, Err, ReadFault, HeadFault, Unread}

-- the content of each sector of a disk, or a fault if the sector can't be read
abbrev pub Sectors : Type 0
Sectors = (sector : ℕ) → Result (List ℕ) ReadFault

-- the content of each sector of each disk
abbrev pub Contents : Type 0
Contents = (disk : ℕ) → Sectors

-- the content of a sector, from the result of a read of that sector alone and the bytes read
abbrev pub answer : {F : Type 0} → Result (Unit {0}) F → (bytes : List ℕ) → Result (List ℕ) F
answer (Ok done) bytes = Ok bytes
answer (Err fault) bytes = Err fault

-- `>>=`: the result of the next step, which uses the value of the step before, or the fault of the step before
infixl 10 ◌>>=◌
abbrev pub ◌>>=◌ : {X Y F : Type 0} → Result X F → (X → Result Y F) → Result Y F
Ok value >>= next = next value
Err fault >>= next = Err fault

-- the content of a sector that belongs to the head, or Unread if the sector can't be read
abbrev pub needed : Result (List ℕ) ReadFault → Result (List ℕ) HeadFault
needed (Ok bytes) = Ok bytes
needed (Err fault) = Err Unread
