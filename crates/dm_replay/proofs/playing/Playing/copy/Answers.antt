use Rattle.dm_replay.proofs.Prelude.{ℕ, refl, subst, arith, CopyOf, units_in, Playing, HasPlayed, played_nothing}
use Rattle.dm_replay.proofs.PlayedLemmas.{copy_more, copy_played, none_played}
use Rattle.dm_replay.proofs.playing.Playing.copy.Goals as goal
use Rattle.std.specs.Prelude.{◌≡◌, ◌+◌, ◌-◌}

pub loop-left-init : goal.loop-left-init
loop-left-init c =
    let a = c.args in
    record {
      has_played = none_played a.self.now (CopyOf a.disk a.start a.to a.to_start) (a.len - a.len) (omega arith) (played_nothing a.self.now);
      within = omega arith;
      at_is = refl;
      to_at_is = refl;
    }

pub loop-left-preserved : goal.loop-left-preserved
loop-left-preserved c =
    let a = c.args in let l = c.loop-left in let s = c.first_values-range in let n = s.result.len in let done = a.len - l.left in
    let new : Playing = record { values = c.store.new.self; number = l.self.number; next = l.self.next; runs = l.self.runs } in
    let few = s.ensures.most in let part_few = c.len_at_once-part.ensures.most in
    let on : l.at ≡ a.start + done = omega (arith, l.invariant.at_is, l.invariant.within) in
    let to_on : l.to_at ≡ a.to_start + done = omega (arith, l.invariant.to_at_is, l.invariant.within) in
    let all : done + n ≡ a.len - (l.left - n) = omega (arith, l.invariant.within, few, part_few) in
    let part = copy_played l.self c.store.new.self a.disk l.at a.to l.to_at n s.result.first s.ensures.hold
    (λ same before. let far = c.len_at_once-part.ensures.at_once same before in omega (arith, far, few)) c.in_ok-store.ensures in
    record {
      has_played = copy_more a.self.now l.self new a.disk a.start a.to a.to_start done n (a.len - (l.left - n)) all l.invariant.has_played
          (subst (λ (at : ℕ). HasPlayed l.self (units_in (CopyOf a.disk at a.to (a.to_start + done)) n) new) on (subst (λ (at : ℕ). HasPlayed l.self (units_in (CopyOf a.disk l.at a.to at) n) new) to_on part));
      within = omega (arith, l.invariant.within);
      at_is = omega (arith, l.invariant.at_is, few, part_few);
      to_at_is = omega (arith, l.invariant.to_at_is, few, part_few);
    }
