use Rattle.dm_map.proofs.Prelude.{inl, inr, ℕ, List, [], take, sym, ap, subst, ◌∙◌, arith, cases_lt, take_all, take_more, ResolvedOver, AreSettled, IsLongest}
use Rattle.dm_map.proofs.walk.Served.{settled_more, settled_parts}
use Rattle.dm_map.proofs.walk.serving.settled_part.Goals as goal
use Rattle.std.specs.Prelude.{◌≡◌, ◌+◌, ◌∷◌, ◌++◌}

pub loop-one-preserved : goal.loop-one-preserved
loop-one-preserved g c =
    let a = c.args in let w = a.walker.now in let l = c.loop-one in let one = c.one-item.result in let next = c.settled_in-part.ensures in
    let list : take (l.one-index + 1) a.over.now ≡ take l.one-index a.over.now ++ one ∷ [] = take_more a.over.now l.one-index one c.loop-one-test.true ∙ ap (λ (x : ResolvedOver). take l.one-index a.over.now ++ x ∷ []) (sym c.one-item.is) in
    record {
      some = next.some;
      most = omega (arith, next.most, l.invariant.most);
      whole = λ less settled.
          let parts = settled_parts w.state (take l.one-index a.over.now) one (a.sector + c.settled_in-part.result) (subst (λ (over : List ResolvedOver). AreSettled w.state over (a.sector + c.settled_in-part.result)) list settled) in
          elim (cases_lt c.settled_in-part.result l.part) [
            | inl cut ↦ next.whole cut parts.1
            | inr here ↦
                let same : c.settled_in-part.result ≡ l.part = omega (arith, here, next.most) in
                l.invariant.whole (omega (arith, less, same)) (subst (λ (n : ℕ). AreSettled w.state (take l.one-index a.over.now) (a.sector + n)) same parts.0)
          ];
      holds = λ i within.
          subst (λ (over : List ResolvedOver). AreSettled w.state over (a.sector + i)) (sym list)
          (settled_more w.state (take l.one-index a.over.now) one (a.sector + i) (l.invariant.holds i (omega (arith, within, next.most))) (next.holds i within));
    }

pub returns : goal.returns
returns g c =
    let a = c.args in let l = c.loop-one in
    subst (λ (over : List ResolvedOver). IsLongest (λ i. AreSettled a.walker.now.state over (a.sector + i)) a.most l.part) (take_all l.one-index a.over.now (omega (arith, c.loop-one-test.false))) l.invariant
