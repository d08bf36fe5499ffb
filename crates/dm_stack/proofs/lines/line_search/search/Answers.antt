use Rattle.dm_stack.proofs.Prelude.{ℕ, ◌∙◌, arith, length, subst, sym, leb-false, leb-true, StartsAfter}
use Rattle.dm_stack.proofs.lines.LineSearchLemmas.{few_digits, more-few, more-halved, starts_after, starts_by}
use Rattle.dm_stack.proofs.lines.line_search.search.Goals as goal
use Rattle.std.specs.Prelude.{◌≡◌, ◌+◌, ◌-◌, ◌*◌, ◌/◌, ◌^◌, ◌<◌, ◌≤◌}

pub loop-count-preserved-then-starts_by : goal.loop-count-preserved-then-starts_by
loop-count-preserved-then-starts_by c =
    let i = c.loop-count.invariant in
    let many = c.loop-count-test.true in
    let left = c.loop-count.count - c.loop-count.count / 2 in
    let end : c.loop-count.index + c.loop-count.count ≡ c.loop-count.index + c.loop-count.count / 2 + left = omega (arith, many) in
    let counted = sym c.starts_by.ensures.counted in
    record {
      some = omega (arith, many);
      within = omega (arith, i.within, many);
      from = starts_by c.args.lines.now _ c.args.sector c.index-lines-index.result (omega (arith, i.within, many)) (leb-true _ _ (sym c.starts_by.ensures.starts ∙ c.if-starts_by.true));
      next = subst (λ (index : ℕ). StartsAfter c.args.lines.now index c.args.sector) end i.next;
      small = subst (λ (k : ℕ). k + left < 2 ^ 64) counted (omega (arith, i.small, many));
      halved = subst (λ (k : ℕ). 2 ^ k * (left - 1) < length c.args.lines.now) counted (more-halved _ _ (c.loop-count.count - 1) _ (omega (arith, many)) i.halved);
      few = subst (λ (k : ℕ). 2 ^ k ≤ 2 * length c.args.lines.now) counted (more-few _ (c.loop-count.count - 1) _ (omega (arith, many)) i.halved);
    }

pub loop-count-preserved : goal.loop-count-preserved
loop-count-preserved c =
    let i = c.loop-count.invariant in
    let many = c.loop-count-test.true in
    let half = c.loop-count.count / 2 in
    let counted = sym c.starts_by.ensures.counted in
    record {
      some = omega (arith, many);
      within = omega (arith, i.within, many);
      from = i.from;
      next = starts_after c.args.lines.now _ c.args.sector c.index-lines-index.result (omega (arith, i.within, many)) (leb-false _ _ (sym c.starts_by.ensures.starts ∙ c.if-starts_by.false));
      small = subst (λ (k : ℕ). k + half < 2 ^ 64) counted (omega (arith, i.small, many));
      halved = subst (λ (k : ℕ). 2 ^ k * (half - 1) < length c.args.lines.now) counted (more-halved _ _ (c.loop-count.count - 1) _ (omega (arith, many)) i.halved);
      few = subst (λ (k : ℕ). 2 ^ k ≤ 2 * length c.args.lines.now) counted (more-few _ (c.loop-count.count - 1) _ (omega (arith, many)) i.halved);
    }

pub returns : goal.returns
returns c =
    let i = c.loop-count.invariant in
    let one : c.loop-count.count ≡ 1 = omega (arith, i.some, c.loop-count-test.false) in
    record {
      line = record {
        within = omega (arith, i.within, one);
        from = i.from;
        next = subst (λ (count : ℕ). StartsAfter c.args.lines.now (c.loop-count.index + count) c.args.sector) one i.next;
      };
      few = few_digits _ _ i.few;
    }
