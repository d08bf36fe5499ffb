use Rattle.dm_replay.proofs.Prelude.{ℕ, refl, subst, arith, ReadOf, units_in, HasPlayed, played_nothing, Gives}
use Rattle.dm_replay.proofs.PlayedLemmas.{none_played, read_more, read_played, run_answered}
use Rattle.dm_replay.proofs.playing.Playing.read.Goals as goal
use Rattle.std.specs.Prelude.{◌≡◌, ◌+◌, ◌-◌}

pub loop-left-init : goal.loop-left-init
loop-left-init c =
    let a = c.args in
    record {
      has_played = none_played a.self.now (ReadOf a.disk a.start) (a.len - a.len) (omega arith) (played_nothing a.self.now);
      within = omega arith;
      at_is = refl;
    }

pub loop-left-preserved : goal.loop-left-preserved
loop-left-preserved c =
    let a = c.args in let l = c.loop-left in let s = c.first_values-range in let n = s.result.len in let done = a.len - l.left in
    let said = c.in_ok-answer.ensures in
    let on : l.at ≡ a.start + done = omega (arith, l.invariant.at_is, l.invariant.within) in
    let all : done + n ≡ a.len - (l.left - n) = omega (arith, l.invariant.within, s.ensures.most) in
    let part = read_played l.self c.answer.new.self a.disk l.at n s.result.first s.ensures.hold
    (run_answered l.self c.answer.new.self c.run.result (Gives s.result.first) n c.run.ensures.first c.run.ensures.len said.values said.runs said.next said.number) in
    record {
      has_played = read_more a.self.now l.self c.answer.new.self a.disk a.start done n (a.len - (l.left - n)) all l.invariant.has_played (subst (λ (at : ℕ). HasPlayed l.self (units_in (ReadOf a.disk at) n) c.answer.new.self) on part);
      within = omega (arith, l.invariant.within);
      at_is = omega (arith, l.invariant.at_is, s.ensures.most);
    }
