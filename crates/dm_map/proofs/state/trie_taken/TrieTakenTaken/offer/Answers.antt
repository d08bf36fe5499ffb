use Rattle.dm_map.proofs.Prelude.{◌∙◌, ap, sym, arith, is_none, node_at}
use Rattle.dm_map.proofs.state.TrieLemmas.{end_stops, end_within, its_number, last_node, last_read, not_empty, not_other, number_within}
use Rattle.dm_map.proofs.state.trie_taken.TrieTakenTaken.offer.Goals.{After-node}
use Rattle.dm_map.proofs.state.trie_taken.TrieTakenTaken.offer.Goals as goal
use Rattle.std.specs.Prelude.{◌≡◌}

-- the node that was read is the one at which the chunk's way ends
last : (c : After-node) → last_node c.args.self.now c.args.chunk ≡ c.node.result
last c = last_read c.args.self.now c.args.chunk _ _ _ c.end_of-at.ensures.at c.index.ensures c.node.ensures

pub index-requires : goal.index-requires
index-requires c = omega (arith, end_within c.args.self.now c.args.chunk, c.end_of-at.ensures.at)

pub put-requires-clause-fresh : goal.put-requires-clause-fresh
put-requires-clause-fresh c = not_empty c.args.self.now c.args.chunk (last (goal.at.put-requires-clause-fresh c).After-node ∙ c.in-Empty.is)

pub put-requires-clause-empty : goal.put-requires-clause-empty
put-requires-clause-empty c = ap (node_at c.args.self.now.links.items) c.end_of-at.ensures.at ∙ last (goal.at.put-requires-clause-empty c).After-node ∙ c.in-Empty.is

pub returns-in-Empty-clause-fresh : goal.returns-in-Empty-clause-fresh
returns-in-Empty-clause-fresh c = ap is_none (sym (not_empty c.args.self.now c.args.chunk (last (goal.at.returns-in-Empty-clause-fresh c).After-node ∙ c.in-Empty.is)))

pub index-requires-in-Number : goal.index-requires-in-Number
index-requires-in-Number c = omega (arith, number_within c.args.self.now c.args.chunk c.in-Number.other (last (goal.at.index-requires-in-Number c).After-node ∙ c.in-Number.is))

pub returns-then-index-chunk-clause-fresh : goal.returns-then-index-chunk-clause-fresh
returns-then-index-chunk-clause-fresh c =
    ap is_none (sym (its_number c.args.self.now c.args.chunk c.in-Number.other c.index-in-Number.result.now (last (goal.at.returns-then-index-chunk-clause-fresh c).After-node ∙ c.in-Number.is) c.index-in-Number.ensures c.if-index-chunk.true))

pub part-requires-clause-fresh : goal.part-requires-clause-fresh
part-requires-clause-fresh c =
    not_other c.args.self.now c.args.chunk c.in-Number.other c.index-in-Number.result.now (last (goal.at.part-requires-clause-fresh c).After-node ∙ c.in-Number.is) c.index-in-Number.ensures c.if-index-chunk.false

pub part-requires-clause-other : goal.part-requires-clause-other
part-requires-clause-other c = ap (node_at c.args.self.now.links.items) c.end_of-at.ensures.at ∙ last (goal.at.part-requires-clause-other c).After-node ∙ c.in-Number.is

pub returns-else-index-chunk-clause-fresh : goal.returns-else-index-chunk-clause-fresh
returns-else-index-chunk-clause-fresh c =
    ap is_none (sym (not_other c.args.self.now c.args.chunk c.in-Number.other c.index-in-Number.result.now (last (goal.at.returns-else-index-chunk-clause-fresh c).After-node ∙ c.in-Number.is) c.index-in-Number.ensures c.if-index-chunk.false))

pub unreachable-requires : goal.unreachable-requires
unreachable-requires c =
    let last = last (goal.at.unreachable-requires c).After-node in
    end_stops c.args.self.now c.args.chunk c.in-Fork.field-0 c.in-Fork.field-1 (last ∙ c.in-Fork.is)
