use Rattle.dm_stack.proofs.Prelude.{ℕ, List, [], length, length-append, ap, subst, sym, ◌∙◌, arith, div-mul-le_self, mod-eq_of_lt, mul-le-mul_right, pow_mono, AreFirsts, StartsAfter, StartsBy}
use Rattle.dm_stack.specs.lines.LineSearch.{IsLineOf}
use Rattle.dm_stack.proofs.lines.BucketLemmas.{earlier_pushed, firsts_pushed, next_bucket, starts_after_start, starts_by_later, starts_by_start, within_start}
use Rattle.dm_stack.proofs.lines.resolved_table.firsts_of.Goals.{After-len-in-loop-firsts}
use Rattle.dm_stack.proofs.lines.resolved_table.firsts_of.Goals as goal
use Rattle.std.specs.Prelude.{◌≡◌, ◌+◌, ◌*◌, ◌/◌, ◌%◌, ◌^◌, ◌<◌, ◌≤◌, ◌∷◌}

-- the first sector of a bucket, up to the one after the last line's start, fits 64 bits
begins_at : (end shift bucket : ℕ) → end ≤ 2 ^ 50 → shift < 64 → bucket < end / 2 ^ shift + 2 → bucket * 2 ^ shift + 1 < 2 ^ 64
begins_at end shift bucket small short within =
    let next : bucket * 2 ^ shift ≤ (end / 2 ^ shift + 1) * 2 ^ shift = mul-le-mul_right (2 ^ shift) (omega (arith, within)) in
    let width : 2 ^ shift ≤ 2 ^ 63 = pow_mono {j = 63} (omega (arith, short)) in
    omega (arith, next, width, small, div-mul-le_self end (2 ^ shift))

small_from : (c : After-len-in-loop-firsts) → length c.loop-firsts.firsts.items * 2 ^ c.unwrap_or-shift.result + 1 < 2 ^ 64
small_from c =
    begins_at c.min-end.result c.unwrap_or-shift.result (length c.loop-firsts.firsts.items) (omega (arith, c.min-end.ensures)) c.loop-firsts.invariant.firsts.short
    (rw (← c.len.ensures) c.loop-firsts-test.true)

from_is : (c : After-len-in-loop-firsts) → (c.len-in-loop-firsts.result * 2 ^ c.unwrap_or-shift.result) % 2 ^ 64 ≡ length c.loop-firsts.firsts.items * 2 ^ c.unwrap_or-shift.result
from_is c = rw c.len-in-loop-firsts.ensures (mod-eq_of_lt (omega (arith, small_from c)))

pub loop-next-init : goal.loop-next-init
loop-next-init c =
    let i = c.loop-firsts.invariant in
    record { within = i.within; from = rw (from_is c) i.from; next = i.next; earlier = i.earlier }

pub loop-next-preserved : goal.loop-next-preserved
loop-next-preserved c =
    let k = (goal.at.loop-next-preserved c).After-len-in-loop-firsts in
    let i = c.loop-next.invariant in
    let small : (c.len-in-loop-firsts.result * 2 ^ c.unwrap_or-shift.result) % 2 ^ 64 + 1 < 2 ^ 64 = rw (from_is k) (small_from k) in
    let from = starts_by_start c.args.lines.now (c.loop-next.index + 1) c.loop-next.next _ c.loop-next-test.true small i.next in
    record {
      within = within_start c.args.lines.now (c.loop-next.index + 1) _ from;
      from = from;
      next = c.start_of-next-in-loop-next.ensures;
      earlier = λ bucket before. omega (arith, i.earlier bucket before);
    }

pub loop-firsts-preserved : goal.loop-firsts-preserved
loop-firsts-preserved c =
    let lines = c.args.lines.now in
    let old = c.loop-firsts.firsts.items in
    let index = c.loop-next.index in
    let shift = c.unwrap_or-shift.result in
    let begins = from_is (goal.at.loop-firsts-preserved c).After-len-in-loop-firsts in
    let i = c.loop-next.invariant in
    let items = c.push.ensures.items in
    let long : length c.push.new.self.items ≡ length old + 1 = ap length items ∙ length-append old (index ∷ []) in
    let from = subst (λ (sector : ℕ). StartsBy lines index sector) begins i.from in
    let next : StartsAfter lines (index + 1) (length old * 2 ^ shift) = starts_after_start lines (index + 1) c.loop-next.next (length old * 2 ^ shift) (rw (← begins) c.loop-next-test.false) i.next in
    let is : IsLineOf lines index (length old * 2 ^ shift) = record { within = i.within; from = from; next = next } in
    record {
      room = rw c.push.ensures.room c.loop-firsts.invariant.room;
      within = i.within;
      from = starts_by_later lines index (length old * 2 ^ shift) (length c.push.new.self.items * 2 ^ shift) (rw long (next_bucket (length old) shift)) from;
      next = i.next;
      firsts = subst (λ (firsts : List ℕ). AreFirsts lines firsts shift) (sym items) (firsts_pushed lines old index shift c.loop-firsts.invariant.firsts i.earlier is);
      earlier = rw items (earlier_pushed old index i.earlier);
    }
