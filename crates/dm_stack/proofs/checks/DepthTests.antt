-- Checks that test each device by its id.
use Rattle.dm_stack.proofs.Prelude.{ℕ, suc, Bool, List, [], arith, refl, ◌∙◌, get_or, length, nat_lt, length-map, LoadKind, Deep, DeviceSpec, Description, device_links, links, depths_to, deep, depth_of, faults_by_id}
use Rattle.dm_stack.proofs.checks.RoundLemmas.{depths_to-at, depths_to-length}
use Rattle.std.specs.Prelude.{◌≡◌, ◌+◌, ◌<◌, ◌∷◌}

-- two tests that agree on the ids of these devices give the same faults
same_tests : (kind : LoadKind) (p q : ℕ → Bool) (i : ℕ) (devices : List DeviceSpec) → ((id : ℕ) → id < i + length devices → p id ≡ q id) → faults_by_id kind p i devices ≡ faults_by_id kind q i devices
same_tests kind p q i [] same = refl
same_tests kind p q i (device ∷ devices) same =
    let here : p i ≡ q i = same i (omega arith) in
    let later : faults_by_id kind p (suc i) devices ≡ faults_by_id kind q (suc i) devices = same_tests kind p q (suc i) devices (λ id below. same id (omega arith)) in
    rw (here, later)

-- the check on computed depths finds the faults that `deep` defines
pub told_depths : (stack : Description) (depths : List ℕ) → depths ≡ depths_to (links stack) 33 → faults_by_id Deep (λ id. nat_lt 32 (get_or depths id 0)) 0 stack.devices ≡ deep stack
told_depths stack depths e =
    same_tests Deep (λ id. nat_lt 32 (get_or depths id 0)) (λ id. nat_lt 32 (depth_of stack id)) 0 stack.devices
    (λ id below. cc (depths_to-at (links stack) 33 id (omega (arith, length-map stack.devices (device_links stack)))))

pub depth_each : (stack : Description) (depths : List ℕ) → depths ≡ depths_to (links stack) 33 → length depths ≡ length stack.devices
depth_each stack depths e = rw e (depths_to-length (links stack) 33 ∙ length-map stack.devices (device_links stack))
