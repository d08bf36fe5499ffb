use Rattle.dm_map.proofs.Prelude.{◌∙◌, ap, sym, arith, number_in, end_of, node_at}
use Rattle.dm_map.proofs.state.Numbers.{number_distinct}
use Rattle.dm_map.proofs.state.TrieLemmas.{end_within, its_number, last_node, last_read, not_other, not_taken, number_within, own_number}
use Rattle.dm_map.proofs.state.trie_taken.TrieTaken.find_counted.Goals.{After-node}
use Rattle.dm_map.proofs.state.trie_taken.TrieTaken.find_counted.Goals as goal
use Rattle.std.specs.Prelude.{◌≡◌}

-- the node that was read is the one at which the chunk's way ends
last : (c : After-node) → last_node c.args.self.now c.args.chunk ≡ c.node.result
last c = last_read c.args.self.now c.args.chunk _ _ _ c.end_of-at.ensures.at c.index.ensures c.node.ensures

pub index-requires : goal.index-requires
index-requires c = omega (arith, end_within c.args.self.now c.args.chunk, c.end_of-at.ensures.at)

pub returns-in_default : goal.returns-in_default
returns-in_default c =
    let taken = c.args.self.now in
    let last = last (goal.at.returns-in_default c).After-node in
    record {
      found = sym (not_taken taken c.args.chunk (λ number _ there. c.in_default.not-Number number (sym last ∙ there)));
      compared = omega arith;
      once = omega arith;
      tested = omega arith;
      few = omega arith;
    }

pub returns-then-at-chunk-clause-found : goal.returns-then-at-chunk-clause-found
returns-then-at-chunk-clause-found c =
    let taken = c.args.self.now in
    let last = last (goal.at.returns-then-at-chunk-clause-found c).After-node ∙ c.in-Number.is in
    let at : end_of taken.links.items taken.slots c.args.chunk ≡ c.args.chunk = omega (arith, c.end_of-at.ensures.at, c.if-at-chunk.true) in
    let own = own_number taken c.args.chunk c.in-Number.number c.if-self.true (omega (arith, at, end_within taken c.args.chunk)) (ap (node_at taken.links.items) (sym at) ∙ last) in
    sym (ap (λ chunk. number_in chunk taken.chunks.items) (sym own) ∙ number_distinct taken.chunks.items c.in-Number.number 0 taken.once (number_within taken c.args.chunk c.in-Number.number last))

pub index-requires-2 : goal.index-requires-2
index-requires-2 c =
    let taken = c.args.self.now in
    let last = last (goal.at.index-requires-2 c).After-node ∙ c.in-Number.is in
    omega (arith, number_within taken c.args.chunk c.in-Number.number last)

pub returns-then-index-chunk-clause-found : goal.returns-then-index-chunk-clause-found
returns-then-index-chunk-clause-found c =
    let taken = c.args.self.now in
    let last = last (goal.at.returns-then-index-chunk-clause-found c).After-node ∙ c.in-Number.is in
    sym (its_number taken c.args.chunk c.in-Number.number c.index-2.result.now last c.index-2.ensures c.if-index-chunk.true)

pub returns-else-index-chunk-clause-found : goal.returns-else-index-chunk-clause-found
returns-else-index-chunk-clause-found c =
    let taken = c.args.self.now in
    let last = last (goal.at.returns-else-index-chunk-clause-found c).After-node ∙ c.in-Number.is in
    sym (not_other taken c.args.chunk c.in-Number.number c.index-2.result.now last c.index-2.ensures c.if-index-chunk.false)
