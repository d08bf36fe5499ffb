use Rattle.dm_map.proofs.Prelude.{ℕ, arith, mul-le-mul_left, binary_digits}
use Rattle.dm_stack.proofs.LineSearchLemmas.{few_digits, more-halved}
use Rattle.dm_map.proofs.state.run_taken.search.begun_by.Goals as goal
use Rattle.std.specs.Prelude.{◌≡◌, ◌+◌, ◌-◌, ◌*◌, ◌^◌, ◌≤◌}

-- if `all` of `total` is left after k halvings, `half` of that is left after k + 1
halved : (k half all total : ℕ) → 2 * half ≤ all → 2 ^ k * all ≤ total → 2 ^ (k + 1) * half ≤ total
halved k half all total halves within = let less = more-halved k half all (total + 1) halves (omega (arith, within)) in omega (arith, less)

few : (k all total : ℕ) → 1 ≤ all → 2 ^ k * all ≤ total → k + 1 ≤ binary_digits total
few k all total some within =
    let one : 2 ^ k * 1 ≤ 2 ^ k * all = mul-le-mul_left (2 ^ k) some in
    let less = more-halved k 1 2 (2 * total + 1) (omega arith) (omega (arith, one, within)) in
    few_digits total (k + 1) (omega (arith, less))

back : (n : ℕ) → n + 1 - 1 ≡ n
back n = omega arith

pub loop-low-preserved-then-runs-middle : goal.loop-low-preserved-then-runs-middle
loop-low-preserved-then-runs-middle c =
    let l = c.loop-low in
    let i = l.invariant in
    let more = c.loop-low-test.true in
    record {
      within = omega (arith, more);
      end = i.end;
      from = λ _. rw back c.if-runs-middle.true;
      next = i.next;
      small = omega (arith, i.small, more);
      halved = halved l.comparisons _ (l.high - l.low) _ (omega (arith, more)) i.halved;
      few = few l.comparisons (l.high - l.low) _ (omega (arith, more)) i.halved;
    }

pub loop-low-preserved : goal.loop-low-preserved
loop-low-preserved c =
    let l = c.loop-low in
    let i = l.invariant in
    let more = c.loop-low-test.true in
    record {
      within = omega (arith, more);
      end = omega (arith, i.end, more);
      from = i.from;
      next = λ _. c.if-runs-middle.false;
      small = omega (arith, i.small, more);
      halved = halved l.comparisons _ (l.high - l.low) _ (omega (arith, more)) i.halved;
      few = few l.comparisons (l.high - l.low) _ (omega (arith, more)) i.halved;
    }
