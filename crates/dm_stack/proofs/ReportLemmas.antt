-- The lines of a report, put together from their parts.
use Rattle.dm_stack.proofs.Prelude.{ℕ, List, [], append_assoc, Option, codes, decimal, length, Clash, Description, stack_depth, report_text, tidiness_text}
use Rattle.std.specs.Prelude.{◌≡◌, ◌∷◌, ◌++◌}

pub clash_line : (front name lower sector first second : List ℕ) → front ++ name ≡ lower
    → codes "clash " ++ lower ++ 32 ∷ sector ++ 32 ∷ first ++ 32 ∷ second ≡ codes "clash " ++ (front ++ (name ++ (32 ∷ (sector ++ (32 ∷ (first ++ (32 ∷ second)))))))
clash_line front name lower sector first second is =
    rw (← is) (simp append_assoc)

line_up : (devices disks depth last : List ℕ)
    → codes "devices " ++ devices ++ 10 ∷ codes "disks " ++ disks ++ 10 ∷ codes "depth " ++ depth ++ 10 ∷ last ++ 10 ∷ []
    ≡ codes "devices " ++ (devices ++ (10 ∷ (codes "disks " ++ (disks ++ (10 ∷ (codes "depth " ++ (depth ++ (10 ∷ (last ++ 10 ∷ [])))))))))
line_up devices disks depth last = simp append_assoc

pub report_lines : (stack : Description) (found : Option Clash) (devices disks depth : ℕ) (last : List ℕ) → devices ≡ length stack.devices → disks ≡ length stack.disks → depth ≡ stack_depth stack → tidiness_text stack found ≡ last
    → report_text stack found ≡ codes "devices " ++ (decimal devices ++ (10 ∷ (codes "disks " ++ (decimal disks ++ (10 ∷ (codes "depth " ++ (decimal depth ++ (10 ∷ (last ++ 10 ∷ [])))))))))
report_lines stack found devices disks depth last devices_are disks_are depth_is last_is =
    rw (devices_are, disks_are, depth_is, ← last_is) (line_up (decimal (length stack.devices)) (decimal (length stack.disks)) (decimal (stack_depth stack)) (tidiness_text stack found))
