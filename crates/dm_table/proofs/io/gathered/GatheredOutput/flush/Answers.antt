use Rattle.dm_table.proofs.Prelude.{ℕ, Bool, true, false, nat_lt, refl, sym, ◌∙◌, arith, lt-ltb, Gathering}
use Rattle.dm_table.proofs.io.gathered.GatheredOutput.flush.Goals as goal
use Rattle.std.specs.Prelude.{◌≡◌, ◌+◌, ◌<◌, ◌≤◌, ◌||◌}

first_false : (a b : Bool) → false ≡ (a || b) → a ≡ false
first_false false b e = refl
first_false true b e = sym e

not_true : (b : Bool) → (b ≡ true → false ≡ true) → b ≡ false
not_true false not = refl
not_true true not = sym (not refl)

-- if the output behind failed neither before nor while draining, a later fault is its first
first_fault : (old mid : Gathering) (broken : Bool) (before after : ℕ) → broken ≡ old.broken → before ≡ old.behind.faults → mid.broken ≡ (broken || nat_lt before mid.behind.faults) → before ≤ mid.behind.faults → mid.broken ≡ false → after ≡ mid.behind.faults + 1
    → (old.broken ≡ false) × (old.behind.faults < after)
first_fault old mid broken before after same at minds grows well more =
    (sym same ∙ first_false broken _ (sym well ∙ minds), omega arith)

pub returns-in-Err-clause-minds : goal.returns-in-Err-clause-minds
returns-in-Err-clause-minds g c =
    let old = c.args.self.now in
    let minds = c.try_drain.ensures.minds in
    let after = (g.W.Output.past c.flush.new.self).faults in
    let more : after ≡ c.try_drain.new.self.behind.faults + 1 = rw (c.in-Err.ensures, ← c.self-2.view_is) in
    let first = first_fault old c.try_drain.new.self _ _ after (cc) (rw (← c.self.view_is)) minds.broken minds.grows (not_true _ c.in_ok-try_drain.ensures.fails.1) more in
    record {
      grows = omega (arith, first.1);
      broken = rw (lt-ltb old.behind.faults after first.1, first.0);
      left_alone = λ broken. absurd (cc);
    }
