-- The snapshots of an origin, compared with the list in the origin's line.
use Rattle.dm_map.proofs.Prelude.{ℕ, true, List, Some, refl, ap, arith, AllByRecursion, Contains, All-contains, All-contains_itself, All-from_recursion, recursion_from_All, ResolvedOver, ResolvedSnapshot, Lower, found_at, Description, lower_len, snapshots_over, IsSound, AreSettled, IsOver, is_settled, State, taken_at, snapshot_at}
use Rattle.dm_stack.proofs.OverLemmas.{over_all, over_sound}
use Rattle.dm_map.proofs.state.ResolvedLines.{first_line, snapshot_sound}
use Rattle.std.specs.Prelude.{◌≡◌, ◌/◌, ◌≤◌}

all_members : {X : Type 0} (P : X → Type 0) (xs : List X) → ((x : X) → Contains xs x → P x) → AllByRecursion P xs
all_members P xs each = recursion_from_All P xs (λ k d below. each _ (All-contains_itself xs k d below))

-- each snapshot in the list is as long as its origin
pub over_is : (stack : Description) (to : Lower) (len : ℕ) (one : ResolvedOver) → IsSound stack → len ≤ lower_len stack to → Contains (snapshots_over stack to) one → IsOver stack len one
over_is stack to len one sound long named =
    let of = over_sound stack to one sound named in
    let at : snapshot_at stack one.device ≡ Some one.snapshot = rw of.0.line in
    let same = (snapshot_sound stack one.device one.snapshot sound at).soundly.origin in
    let origin = ap (lower_len stack) of.1 in
    record { is = at; long = omega (arith, long, same, origin) }

pub overs : (stack : Description) (to : Lower) (len : ℕ) → IsSound stack → len ≤ lower_len stack to → AllByRecursion (IsOver stack len) (snapshots_over stack to)
overs stack to len sound long = all_members (IsOver stack len) (snapshots_over stack to) (λ one named. over_is stack to len one sound long named)

-- each snapshot of the origin is in the list, so it is settled if all in the list are
pub settled_over : (stack : Description) (state : State) (device sector : ℕ) (snapshot : ResolvedSnapshot) → snapshot_at stack device ≡ Some snapshot → AreSettled state (snapshots_over stack snapshot.origin) sector
    → is_settled (taken_at state device) (sector / snapshot.chunk) ≡ true
settled_over stack state device sector snapshot at settled =
    let first = first_line stack device snapshot (found_at stack device 0) refl at in
    let P : ResolvedOver → Type 0 = λ one. is_settled (taken_at state one.device) (sector / one.snapshot.chunk) ≡ true in
    All-contains P (snapshots_over stack snapshot.origin) (record { device = device; snapshot = snapshot }) (All-from_recursion P (snapshots_over stack snapshot.origin) settled) (over_all stack device first.0 snapshot first.1 first.2)
