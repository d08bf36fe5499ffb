use Rattle.dm_stack.proofs.Prelude.{ap, ◌∙◌, arith, get_or, length, links_in}
use Rattle.dm_stack.proofs.checks.StoreLemmas.{links_length, store_links_next}
use Rattle.dm_stack.proofs.checks.stores.store_links.Goals as goal
use Rattle.std.specs.Prelude.{◌≡◌, ◌<◌}

pub bounds-named-id : goal.bounds-named-id
bounds-named-id c = omega (arith, c.loop-id-test.true, links_length c.args.stack.now c.args.named.now c.requires, ap length c.devices-device-items.ensures)

pub loop-id-preserved : goal.loop-id-preserved
loop-id-preserved c =
    let id = c.loop-id.id in
    let device = c.device-item.result in
    let count = ap length c.devices-device-items.ensures in
    let within : id < length c.args.stack.now.devices = omega (arith, c.loop-id-test.true, count) in
    let below : id < length c.args.named.now = omega (arith, within, links_length c.args.stack.now c.args.named.now c.requires) in
    let is : device ≡ get_or c.args.stack.now.devices id device = cc in
    ap links_in c.in_ok-push.ensures.items
    ∙ store_links_next c.args.stack.now id device c.args.named.now c.loop-id.marked.items c.index-named-id.result c.in_ok-store_links_of.field-0 within is below c.index-named-id.is c.requires c.loop-id.invariant
    (cc (c.in_ok-store_links_of.ensures, c.may_store.ensures))
