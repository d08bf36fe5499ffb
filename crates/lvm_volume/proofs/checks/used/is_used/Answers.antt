use Rattle.lvm_volume.proofs.Prelude.{ℕ, Less, sym, arith, common_steps, ge_from_not_lt, IsSome, nat_cmp, get}
use Rattle.lvm_volume.proofs.checks.UsedLemmas.{last_before, none_before}
use Rattle.lvm_volume.proofs.checks.used.is_used.Goals as goal
use Rattle.std.specs.Prelude.{◌≡◌, ◌<◌, ◌≤◌}

less : (a b : ℕ) → a < b → nat_cmp a b ≡ Less
less a b below = grind (arith, common_steps)

below_from : (a b : ℕ) → nat_cmp a b ≡ Less → a < b
below_from a b e = grind (arith, common_steps)

pub returns-in-Some : goal.returns-in-Some
returns-in-Some c = λ ranges keeps.
    let h = c.range.ensures.in_range tt in
    let entry = h.3 _ _ c.in-Some.ensures.steps in
    let greatest : (q : ℕ) → q < c.args.end → IsSome (get nat_cmp c.args.used.now q) → q ≤ c.in-Some.field-0-0.now = λ q before is. ge_from_not_lt _ _ (h.4 _ _ c.in-Some.ensures.steps q (tt, less q c.args.end before) is) in
    last_before c.args.used.now ranges c.args.first c.args.end c.in-Some.field-0-0.now c.in-Some.last.now keeps c.requires (below_from _ _ entry.0.1) entry.1 greatest

pub returns-in-None : goal.returns-in-None
returns-in-None c = λ ranges keeps.
    let h = c.range.ensures.in_range tt in
    sym (none_before c.args.used.now ranges c.args.first c.args.end keeps (λ q before. h.5 c.in-None.ensures.steps.0 q (tt, less q c.args.end before)))
