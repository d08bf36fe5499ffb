-- What the reader reports for a store, by its header and its list.
use Rattle.dm_store.proofs.Prelude.{ℕ, Bool, true, Result, Ok, Err, length, refl, sym, ap, ◌∙◌, arith, OnOk, length-set, set-set, State, Taken, put, taken_at, taken_same, StoreFault, told, told_list, taken_in, Holds}
use Rattle.std.specs.Prelude.{◌≡◌, ◌<◌}

-- a valid snapshot's entry is what a store with its list of chunks holds
pub taken_valid : (taken : Taken) → taken.valid ≡ true → Ok taken ≡ taken_in (Holds taken.chunks)
taken_valid taken valid = ap (λ (b : Bool). let t : Taken = record { chunks = taken.chunks; valid = b } in let r : Result Taken StoreFault = Ok t in r) valid

-- what a store in use holds, from the result for its list
pub list_told : (result : Result (Unit {0}) StoreFault) (taken : Taken) → OnOk result (taken.valid ≡ true) → told result taken ≡ taken_in (told_list result (Holds taken.chunks))
list_told (Ok done) taken valid = taken_valid taken valid
list_told (Err fault) taken valid = refl

-- the state after one more change to one device is still the first state with that device's entry replaced
pub put_more : (first state new : State) (device : ℕ) (taken : Taken) → device < length first → state ≡ put first device (taken_at state device) → new ≡ put state device taken
    → (new ≡ put first device (taken_at new device)) × (taken_at new device ≡ taken)
put_more first state new device taken there so_far more =
    let count : length state ≡ length first = ap (λ (s : State). length s) so_far ∙ length-set first device (taken_at state device) in
    let here : taken_at new device ≡ taken = ap (λ (s : State). taken_at s device) more ∙ taken_same state device taken (omega (arith, there, count)) in (
      more ∙ ap (λ (s : State). put s device taken) so_far ∙ set-set first device (taken_at state device) taken ∙ ap (λ (t : Taken). put first device t) (sym here),
      here,
    )
