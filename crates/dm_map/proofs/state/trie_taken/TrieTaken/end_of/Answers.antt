use Rattle.dm_map.proofs.Prelude.{◌∙◌, false, ap, length, sym, arith, add-one, bit_at-lt, Fork, is_fork, next_at, node_at, slot_of, way}
use Rattle.dm_map.proofs.state.TrieLemmas.{bit_ahead, no_fork, node_read, stays, way-suc, way-zero}
use Rattle.dm_map.proofs.state.trie_taken.TrieTaken.end_of.Goals.{In-Fork}
use Rattle.dm_map.proofs.state.trie_taken.TrieTaken.end_of.Goals as goal
use Rattle.std.specs.Prelude.{◌≡◌, ◌+◌, ◌<◌}

pub loop-bit-init : goal.loop-bit-init
loop-bit-init c =
    let taken = c.args.self.now in
    record {
      there = c.of-at.ensures.slot ∙ sym (way-zero taken.links.items c.args.chunk (slot_of taken.slots c.args.chunk));
      within = omega (arith, c.of-at.ensures.within, taken.table);
      few = omega arith;
    }

-- the node that was read on the way is this fork
fork_is : (c : In-Fork) → node_at c.args.self.now.links.items c.loop-bit.at ≡ Fork c.in-Fork.bit c.in-Fork.pair
fork_is c =
    node_read c.args.self.now.links.items c.loop-bit.at c.index.result.now c.node.result c.loop-bit.invariant.within c.index.ensures c.node.ensures ∙ c.in-Fork.is

fork_ahead : (c : In-Fork) → (c.loop-bit.tested < 64) × (c.in-Fork.bit < 64) × (c.in-Fork.pair + 1 < length c.args.self.now.links.items)
fork_ahead c =
    let here = ap (node_at c.args.self.now.links.items) (sym c.loop-bit.invariant.there) ∙ fork_is c in
    bit_ahead c.args.self.now c.args.chunk c.loop-bit.tested c.in-Fork.bit c.in-Fork.pair here

pub bit_of-requires : goal.bit_of-requires
bit_of-requires c = (fork_ahead (goal.at.bit_of-requires c).In-Fork).1

pub loop-bit-smaller : goal.loop-bit-smaller
loop-bit-smaller c = omega (arith, (fork_ahead (goal.at.loop-bit-smaller c).In-Fork).0)

pub loop-bit-preserved : goal.loop-bit-preserved
loop-bit-preserved c =
    let taken = c.args.self.now in
    let nodes = taken.links.items in
    let l = c.loop-bit in
    let fork = (goal.at.loop-bit-preserved c).In-Fork in
    let more = fork_ahead fork in
    let next : way nodes c.args.chunk (slot_of taken.slots c.args.chunk) (l.tested + 1) ≡ next_at c.args.chunk l.at (node_at nodes l.at) =
    rw (add-one l.tested, way-suc nodes c.args.chunk (slot_of taken.slots c.args.chunk) l.tested, l.invariant.there) in
    record {
      there = rw (c.bit_of.ensures, next, fork_is fork);
      within = omega (arith, more.2, c.bit_of.ensures, bit_at-lt c.args.chunk c.in-Fork.bit);
      few = omega (arith, more.0);
    }

pub returns : goal.returns
returns c =
    let taken = c.args.self.now in
    let nodes = taken.links.items in
    let l = c.loop-bit in
    let is : node_at nodes l.at ≡ c.node.result = node_read nodes l.at c.index.result.now c.node.result l.invariant.within c.index.ensures c.node.ensures in
    let none : is_fork (node_at nodes l.at) ≡ false = ap is_fork is ∙ no_fork c.node.result c.in_default.not-Fork in
    let there = l.invariant.there in
    record {
      at = there ∙ sym (stays nodes c.args.chunk (slot_of taken.slots c.args.chunk) l.tested 64 l.invariant.few (rw (← there) none));
      few = l.invariant.few;
    }
