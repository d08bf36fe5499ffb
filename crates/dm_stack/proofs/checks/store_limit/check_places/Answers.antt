use Rattle.dm_stack.proofs.Prelude.{◌∙◌, ap, arith, drop, rules, tests, ResolvedLine, HasGoodChunk, all_lines, places_of, resolved_line}
use Rattle.dm_stack.proofs.checks.CrowdLemmas.{crowded_passes, line_places, places_are}
use Rattle.dm_stack.proofs.lines.ByDevice.{made_at, table_is}
use Rattle.dm_stack.proofs.checks.store_limit.check_places.Goals as goal
use Rattle.dm_stack.proofs.checks.store_limit.check_places.Goals.{After-places_of-places}
use Rattle.std.specs.Prelude.{◌+◌, ◌≡◌}

-- the places counted for the next line are those of its store
places_here : (c : After-places_of-places) → c.places_of-places.result ≡ line_places c.args.stack.now c.line-item.result
places_here c =
    let stack = c.args.stack.now in
    let table = table_is stack c.devices-device-items.result.now c.by_ids-by_ids.result.now c.loop-id.id c.device-item.result c.index-by_ids-id.result c.as_slice-line-items.result.now c.lines-resolved.result.now c.devices-device-items.ensures c.by_ids-by_ids.ensures c.loop-id-test.true c.device-item.is c.as_slice-line-items.ensures c.lines-resolved.ensures in
    let line = made_at (resolved_line stack) c.as_slice-line-items.result.now c.lines-resolved.result.now c.loop-index.index c.line-item.result c.index-resolved-index.result table c.loop-index-test.true c.line-item.is in
    let good : HasGoodChunk c.line-item.result.target = search (rules, tests) in
    c.places_of-places.ensures ∙ ap (λ (by_ids : ResolvedLine). places_of stack by_ids.target) line ∙ places_are stack c.line-item.result.target good

pub loop-index-preserved : goal.loop-index-preserved
loop-index-preserved c = record {
  few = omega (arith, c.loop-index.invariant.few, c.if-used-places.false);
  left =
      crowded_passes c.args.stack.now c.loop-index.used c.places_of-places.result c.as_slice-line-items.result.now (all_lines (drop (c.loop-id.id + 1) c.args.stack.now.devices)) c.loop-index.index c.line-item.result c.loop-index-test.true c.line-item.is (places_here (goal.at.loop-index-preserved c).After-places_of-places) (omega (arith, c.loop-index.invariant.few, c.if-used-places.false))
      ∙ c.loop-index.invariant.left;
}

pub loop-index-preserved-then-places-eq0 : goal.loop-index-preserved-then-places-eq0
loop-index-preserved-then-places-eq0 c =
    let same : c.loop-index.used + c.places_of-places.result ≡ c.loop-index.used = omega (arith, c.if-places-eq0.true) in
    record {
      few = c.loop-index.invariant.few;
      left =
          rw same at
          (crowded_passes c.args.stack.now c.loop-index.used c.places_of-places.result c.as_slice-line-items.result.now (all_lines (drop (c.loop-id.id + 1) c.args.stack.now.devices)) c.loop-index.index c.line-item.result c.loop-index-test.true c.line-item.is (places_here (goal.at.loop-index-preserved-then-places-eq0 c).After-places_of-places) (omega (arith, c.loop-index.invariant.few, same)))
          ∙ c.loop-index.invariant.left;
    }
