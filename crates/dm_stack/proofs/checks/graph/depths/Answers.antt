-- Each round adds one level, and a round that changes nothing is the last.
use Rattle.dm_stack.proofs.Prelude.{◌∙◌, sym, length, arith, Decides-eqb, slice_eq-Decides, length-map, links_in}
use Rattle.dm_stack.proofs.checks.RoundLemmas.{round_after, round_last, within_depths, bounded_depths, depths_to-none}
use Rattle.dm_stack.proofs.checks.graph.depths.Goals as goal

pub next_depths-requires-clause-closed : goal.next_depths-requires-clause-closed
next_depths-requires-clause-closed c = within_depths c.args.links.now c.loop-level._level c.loop-level.depths.items c.deref.result.now c.requires c.loop-level.invariant c.deref.ensures.value

pub next_depths-requires-clause-bounded : goal.next_depths-requires-clause-bounded
next_depths-requires-clause-bounded c = bounded_depths (links_in c.args.links.now) c.loop-level._level 33 c.loop-level.depths.items c.deref.result.now (omega arith) c.loop-level.invariant c.deref.ensures.value

pub loop-level-init : goal.loop-level-init
loop-level-init c = c.in_ok-depths.ensures.items_if_clones_equal (λ y e. e) ∙ depths_to-none (links_in c.args.links.now) (length c.args.links.now) (sym (length-map c.args.links.now (λ v. v.items)))

pub loop-level-preserved : goal.loop-level-preserved
loop-level-preserved c = round_after (links_in c.args.links.now) c.loop-level._level c.loop-level.depths.items c.deref.result.now c.in_ok-next.next.items c.requires c.loop-level.invariant c.deref.ensures.value c.in_ok-next.ensures

pub returns-then-eq : goal.returns-then-eq
returns-then-eq c =
    let g = links_in c.args.links.now in
    let after = round_after g c.loop-level._level c.loop-level.depths.items c.deref.result.now c.in_ok-next.next.items c.requires c.loop-level.invariant c.deref.ensures.value c.in_ok-next.ensures in
    round_last g c.loop-level._level 33 c.loop-level.depths.items c.in_ok-next.next.items c.requires (omega arith) c.loop-level.invariant after ((slice_eq-Decides Decides-eqb _ _ _ c.eq.ensures).0 c.if-eq.true)
