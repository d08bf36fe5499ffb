use Rattle.dm_map.proofs.Prelude.{◌∙◌, true, [], ap, length, set, arith, ∥∥₁_map, and_parts, eqb-true, length-set, length_push, Number, AreInOwnSlots, IsTrie, end_of}
use Rattle.dm_map.proofs.state.Numbers.{distinct_more}
use Rattle.dm_map.proofs.state.TrieLemmas.{end_within, put_own, put_trie}
use Rattle.dm_map.proofs.state.trie_taken.TrieTaken.put.Goals as goal
use Rattle.std.specs.Prelude.{◌≡◌, ◌∷◌, ◌++◌, ◌&&◌, ◌==◌}

pub index_mut-requires : goal.index_mut-requires
index_mut-requires c = omega (arith, end_within c.args.self.now c.args.chunk, c.requires.at)

pub invariant_of-self : goal.invariant_of-self
invariant_of-self c =
    let taken = c.args.self.now in
    let chunks = taken.chunks.items in
    let nodes = taken.links.items in
    let items = c.push.ensures.items in
    let more = ap length items ∙ length_push chunks c.args.chunk in
    let empty = rw c.requires.at at c.requires.empty in
    let made : ∥ IsTrie (chunks ++ c.args.chunk ∷ []) (set nodes (end_of nodes taken.slots c.args.chunk) (Number (length chunks))) taken.slots ∥₁ =
    ∥∥₁_map taken.leads (λ trie. put_trie chunks nodes taken.slots c.args.chunk trie taken.table empty) in
    let number : c.number.result ≡ Number (length chunks) = c.number.ensures ∙ ap Number c.len.ensures in
    let same = length-set nodes c.args.at c.number.result in
    let in_slots : ∥ ((taken.own_slots && (c.args.at == c.args.chunk)) ≡ true → AreInOwnSlots (chunks ++ c.args.chunk ∷ []) (set nodes c.args.at (Number (length chunks)))) ∥₁ =
    ∥∥₁_map taken.own (λ own on.
    let parts = and_parts taken.own_slots (c.args.at == c.args.chunk) on in
    put_own chunks nodes c.args.at c.args.chunk (eqb-true c.args.at c.args.chunk parts.1) (omega (arith, end_within taken c.args.chunk, c.requires.at)) (own parts.0)) in
    record {
      reserved = omega (arith, taken.reserved, c.push.ensures.room);
      room = taken.room;
      small = taken.small;
      table = omega (arith, taken.table, same);
      forks = omega (arith, taken.forks, same, more);
      fits = omega (arith, c.requires.room, more);
      once = rw items (distinct_more c.args.chunk chunks taken.once c.requires.fresh);
      leads = rw (items, c.requires.at, number) made;
      own = rw (items, number) in_slots;
    }
