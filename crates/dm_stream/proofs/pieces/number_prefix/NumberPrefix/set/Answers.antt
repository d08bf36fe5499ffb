use Rattle.dm_stream.proofs.Prelude.{ℕ, take, set, subst, sym, ap, ◌∙◌, arith, number_prefix}
use Rattle.dm_stream.specs.declared.pieces.number_prefix.NumberPrefix.TheInside.{Inside}
use Rattle.dm_stream.proofs.pieces.LastDigit.{last_digit_set}
use Rattle.dm_stream.proofs.pieces.number_prefix.NumberPrefix.set.Goals as goal
use Rattle.dm_stream.proofs.pieces.number_prefix.NumberPrefix.set.Goals.{then-self-number+then-number-self-lt10, else-self-number}
use Rattle.std.specs.Prelude.{◌≡◌, ◌+◌, ◌-◌, ◌%◌, ◌/◌, ◌≤◌, ◌<◌, ◌^◌}

pub invariant_of-self : goal.invariant_of-self
invariant_of-self c =
    let old = c.self.inside in
    let number = c.args.number in
    let Kept = λ (p : Inside). (p.tens + number % 10 ≡ number) × (2 ≤ p.end) × (p.end ≤ 32) × (take p.end p.text ≡ number_prefix number) in
    elim c.if-self-number.branch [
      | then-self-number+then-number-self-lt10 w ↦
          let old_fits : old.number < 2 ^ 64 = omega arith in
          let new_fits : number < 2 ^ 64 = omega arith in
          let digit : number - old.tens ≡ number % 10 = omega (arith, c.self.invariant.0, w.if-self-number.true, w.if-number-self-lt10.true) in
          let same : number / 10 ≡ old.number / 10 = omega (arith, c.self.invariant.0, w.if-self-number.true, w.if-number-self-lt10.true) in
          subst Kept (sym w.self-inside-is)
          (omega (arith, digit, w.if-self-number.true), c.self.invariant.1, c.self.invariant.2, ap (λ (d : ℕ). take old.end (set old.text (old.end - 2) (48 + d))) digit ∙ last_digit_set old.text old.end old.number number c.self.invariant.1 (omega (arith, c.self.told, c.self.invariant.2)) old_fits new_fits same c.self.invariant.3)
      | else-self-number w ↦
          subst Kept (sym w.self-inside-is)
          (omega arith, w.put_prefix-self-inside.ensures.some, w.put_prefix-self-inside.ensures.within, w.put_prefix-self-inside.ensures.text)
    ]
