-- Each visit keeps the search's invariant, and at the end the visited devices are those that are reached.
use Rattle.dm_stack.proofs.Prelude.{length, sym, ap, ◌∙◌, arith, length-map, nil_from_length, links_in}
use Rattle.dm_stack.proofs.checks.SearchLemmas.{Searched-begun, Searched-on, Searched-below, Searched-none, named_is, named_inside}
use Rattle.dm_stack.proofs.checks.graph.reaches_itself.Goals as goal
use Rattle.std.specs.Prelude.{◌<◌}

pub visit-requires : goal.visit-requires
visit-requires c =
    let links = c.args.links.now in
    let is = named_is links c.args.device c.index-links-device.result c.deref.result.now c.requires.within c.index-links-device.is c.deref.ensures.value in
    named_inside (links_in links) c.args.device (length c.deref_mut.result.now) c.deref.result.now c.requires.closed is (c.deref_mut.ensures.len ∙ c.in_ok-visited.ensures.len ∙ sym (length-map links (λ v. v.items)))

pub loop-next-init : goal.loop-next-init
loop-next-init c =
    let links = c.args.links.now in
    let is = named_is links c.args.device c.index-links-device.result c.deref.result.now c.requires.within c.index-links-device.is c.deref.ensures.value in
    Searched-begun (links_in links) c.args.device c.in_ok-visited.visited.len (length links) c.deref.result.now c.in_ok-visited.visited.items c.deref_mut.result.now c.visit.new.visited c.new-waiting.result.items c.visit.new.waiting.items is (sym (length-map links (λ v. v.items))) (
    c.in_ok-visited.ensures.items_if_clones_equal (λ y e. e)
    ) c.deref_mut.ensures.value c.new-waiting.ensures.items c.in_ok-visited.visited.ok.0 c.visit.auto.visited c.in_ok-visit.ensures

pub bounds-links-next : goal.bounds-links-next
bounds-links-next c = Searched-below c.args.links.now c.args.device c.in-Some.next c.loop-next.visited.items c.loop-next.waiting.items c.pop.new.self.items c.loop-next.invariant c.in-Some.ensures.items

pub offset_bounds-links-next : goal.offset_bounds-links-next
offset_bounds-links-next c =
    let below = Searched-below c.args.links.now c.args.device c.in-Some.next c.loop-next.visited.items c.loop-next.waiting.items c.pop.new.self.items c.loop-next.invariant c.in-Some.ensures.items in
    omega arith

pub visit-requires-in-Some : goal.visit-requires-in-Some
visit-requires-in-Some c =
    let links = c.args.links.now in
    let below : c.in-Some.next < length links = Searched-below links c.args.device c.in-Some.next c.loop-next.visited.items c.loop-next.waiting.items c.pop.new.self.items c.loop-next.invariant c.in-Some.ensures.items in
    let is = named_is links c.in-Some.next c.index-links-next.result c.deref-in-Some.result.now below c.index-links-next.is c.deref-in-Some.ensures.value in
    named_inside (links_in links) c.in-Some.next (length c.deref_mut-in-Some.result.now) c.deref-in-Some.result.now c.requires.closed is (ap length c.deref_mut-in-Some.ensures.value ∙ c.loop-next.invariant.size)

pub loop-next-preserved : goal.loop-next-preserved
loop-next-preserved c =
    let links = c.args.links.now in
    let below : c.in-Some.next < length links = Searched-below links c.args.device c.in-Some.next c.loop-next.visited.items c.loop-next.waiting.items c.pop.new.self.items c.loop-next.invariant c.in-Some.ensures.items in
    let is = named_is links c.in-Some.next c.index-links-next.result c.deref-in-Some.result.now below c.index-links-next.is c.deref-in-Some.ensures.value in
    Searched-on (links_in links) c.args.device c.in-Some.next c.loop-next.visited.len c.deref-in-Some.result.now c.loop-next.visited.items c.deref_mut-in-Some.result.now c.visit-in-Some.new.visited c.loop-next.waiting.items c.pop.new.self.items c.visit-in-Some.new.waiting.items is c.deref_mut-in-Some.ensures.value
    c.loop-next.visited.ok.0 c.in-Some.ensures.items c.visit-in-Some.auto.visited c.loop-next.invariant c.in_ok-visit-2.ensures

pub returns-clause-no : goal.returns-clause-no
returns-clause-no c =
    Searched-none (links_in c.args.links.now) c.args.device c.loop-next.visited.items c.loop-next.waiting.items c.index.result.now c.loop-next.invariant (nil_from_length c.loop-next.waiting.items (sym c.loop-next.waiting.ok.0 ∙ c.in_default.ensures.cases.0)) c.index.ensures
