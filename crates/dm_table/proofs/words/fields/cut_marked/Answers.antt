use Rattle.dm_table.proofs.Prelude.{length, take, drop, ap, sym, ◌∙◌, arith, take_rest, drop-drop, common_steps, texts, parts_at, marks_of}
use Rattle.std.specs.Prelude.{◌≡◌, ◌+◌, ◌-◌, ◌^◌, ◌++◌, ◌/◌}
use lib.Count.{count_trailing_zeros}
use Rattle.dm_table.proofs.words.FieldLemmas.{cut_more, cut_last}
use Rattle.dm_table.proofs.words.MarkLemmas.{marked_first, marked_none, marks_after}
use Rattle.dm_table.proofs.words.fields.cut_marked.Goals as goal

pub split_at-requires : goal.split_at-requires
split_at-requires c =
    let found = marked_first c.args._at c.loop-left.rest.now c.loop-left.left c.loop-left.invariant.short c.loop-left.invariant.left c.loop-left-test.true in
    omega (arith, found.0.high)

pub slice_bounds-rest-count : goal.slice_bounds-rest-count
slice_bounds-rest-count c =
    let found = marked_first c.args._at c.loop-left.rest.now c.loop-left.left c.loop-left.invariant.short c.loop-left.invariant.left c.loop-left-test.true in
    omega (arith, found.0.high, c.split_at.ensures.back_len)

pub slice_bounds-rest-start : goal.slice_bounds-rest-start
slice_bounds-rest-start c =
    let found = marked_first c.args._at c.loop-left.rest.now c.loop-left.left c.loop-left.invariant.short c.loop-left.invariant.left c.loop-left-test.true in
    omega (arith, found.0.high, c.split_at.ensures.back_len)

pub loop-left-preserved : goal.loop-left-preserved
loop-left-preserved c =
    let rest = c.loop-left.rest.now in
    let after = c.split_at.result.1.now in
    let end = count_trailing_zeros 64 c.loop-left.left in
    let so_far = c.loop-left.invariant in
    let found = marked_first c.args._at rest c.loop-left.left so_far.short so_far.left c.loop-left-test.true in
    let next : take (length after - 1) (drop 1 after) ≡ drop (end + 1) rest = take_rest after 1 ∙ ap (drop 1) c.split_at.ensures.back ∙ drop-drop 1 end rest in
    record {
      parts = rw c.in_ok-push.ensures.items (cut_more c.args._at c.loop-left.parts.items c.split_at.result.0 rest after end (texts c.args.parts.now.items ++ parts_at c.args._at c.args.text.now) found c.split_at.ensures.front c.split_at.ensures.back so_far.parts);
      left = ap (λ x. x / 2 ^ end / 2) so_far.left ∙ marks_after c.args._at rest end found.0.high ∙ ap (marks_of c.args._at) (sym next);
      short = rw next (grind (arith, common_steps, so_far.short));
    }

pub returns : goal.returns
returns c =
    rw c.in_ok-push-2.ensures.items (cut_last c.args._at c.loop-left.parts.items c.loop-left.rest (texts c.args.parts.now.items ++ parts_at c.args._at c.args.text.now) (marked_none c.args._at c.loop-left.rest.now (sym c.loop-left.invariant.left ∙ c.loop-left-test.false)) c.loop-left.invariant.parts)
