-- If steps in a row succeed, each of them succeeds.
use Rattle.lvm_head.proofs.Prelude.{Bool, true, false, List, ℕ, Result, Ok, Err, refl, ReadFault, HeadFault, ◌>>=◌, needed}
use Rattle.std.specs.Prelude.{◌≡◌, if◌then◌else◌}

pub bound : {X Y : Type 0} (first : Result X HeadFault) (next : X → Result Y HeadFault) (last : Y) → (first >>= next) ≡ Ok last → (x : X) × (first ≡ Ok x) × (next x ≡ Ok last)
bound (Ok x) next last e = (x, refl, e)
bound (Err fault) next last e = absurd cc

pub needed_ok : (read : Result (List ℕ) ReadFault) (bytes : List ℕ) → needed read ≡ Ok bytes → read ≡ Ok bytes
needed_ok (Ok found) bytes e = let same : found ≡ bytes = cc in rw same refl
needed_ok (Err fault) bytes e = absurd cc

pub chosen : {X : Type 0} (b : Bool) (said : Result X HeadFault) (fault : HeadFault) (x : X) → (let r : Result X HeadFault = if b then said else Err fault in r) ≡ Ok x → (b ≡ true) × (said ≡ Ok x)
chosen true said fault x e = (refl, e)
chosen false said fault x e = absurd cc

pub passed : {X : Type 0} (b : Bool) (said : Result X HeadFault) (fault : HeadFault) (x : X) → (let r : Result X HeadFault = if b then Err fault else said in r) ≡ Ok x → (b ≡ false) × (said ≡ Ok x)
passed true said fault x e = absurd cc
passed false said fault x e = (refl, e)
