use Rattle.dm_map.proofs.Prelude.{◌∙◌, ℕ, List, [], ap, get_or, length, set, sym, arith, w64, bit_at, trailing_zeros, bit_xor, ∥∥₁_map, merely, get_or_read, length_push, Fork, Number, end_of}
use Rattle.dm_map.specs.declared.state.trie_taken.link.Node.{Node}
use Rattle.dm_map.proofs.state.Numbers.{distinct_more}
use Rattle.dm_map.proofs.state.TrieLemmas.{end_within, fresh_apart, is_parted, last_node, lowest_apart, number_within, part_trie}
use Rattle.dm_map.proofs.state.trie_taken.TrieTaken.part.Goals.{After-index-there}
use Rattle.dm_map.proofs.state.trie_taken.TrieTaken.part.Goals as goal
use Rattle.std.specs.Prelude.{◌≡◌, ◌+◌, ◌^◌, ◌<◌, ◌∷◌, ◌++◌}

-- the chunk's way ends at the number of the other chunk
ends_at_other : (c : After-index-there) → last_node c.args.self.now c.args.chunk ≡ Number c.args.other
ends_at_other c = rw c.requires.at at c.requires.other

other_there : (c : After-index-there) → c.args.other < length c.args.self.now.chunks.items
other_there c = number_within c.args.self.now c.args.chunk c.args.other (ends_at_other c)

other_read : (c : After-index-there) → c.index-there.result.now ≡ get_or c.args.self.now.chunks.items c.args.other 0
other_read c = get_or_read c.args.self.now.chunks.items c.args.other c.index-there.result.now (other_there c) c.index-there.ensures 0

-- the lowest bit in which the two chunks differ
abbrev lowest : After-index-there → ℕ
lowest c = trailing_zeros w64 (bit_xor c.index-there.result.now c.args.chunk)

differ : (c : After-index-there) → c.index-there.result.now < 2 ^ 64 → (lowest c < 64) × (bit_at c.args.chunk (lowest c) ≡ bit_at c.index-there.result.now (lowest c) → ⊥)
differ c fits =
    let taken = c.args.self.now in
    lowest_apart c.args.chunk c.index-there.result.now c.ranges.chunk.fits fits (λ e. fresh_apart taken.chunks.items c.args.other c.args.chunk taken.once (other_there c) c.requires.fresh (sym (other_read c) ∙ e))

pub bit_of-requires : goal.bit_of-requires
bit_of-requires c = (differ (goal.at.bit_of-requires c).After-index-there c.type_inv.there.fits).0

pub fork-requires-clause-bit : goal.fork-requires-clause-bit
fork-requires-clause-bit c = (differ (goal.at.fork-requires-clause-bit c).After-index-there c.type_inv.there.fits).0

same_sets : (xs ys : List Node) (i j at here : ℕ) (a b f g : Node) → xs ≡ ys → i ≡ j → a ≡ b → at ≡ here → f ≡ g → set (set xs i a) at f ≡ set (set ys j b) here g
same_sets xs ys i j at here a b f g p q r s t = cc

pub invariant_of-self : goal.invariant_of-self
invariant_of-self c =
    let taken = c.args.self.now in
    let chunks = taken.chunks.items in
    let nodes = taken.links.items in
    let here = end_of nodes taken.slots c.args.chunk in
    let number = Number c.args.other in
    let at_other = (goal.at.invariant_of-self c).After-index-there in
    let apart = differ at_other c.type_inv.there.fits in
    let bit = lowest at_other in
    let parted = is_parted nodes here bit c.args.chunk c.index-there.result.now (length chunks) c.args.other (end_within taken c.args.chunk) apart.1 in
    let made = ∥∥₁_map taken.leads (λ trie. part_trie chunks nodes _ taken.slots bit c.args.chunk c.index-there.result.now c.args.other trie taken.table apart.0 apart.1 (ends_at_other at_other) (sym (other_read at_other)) parted) in
    let items = c.push-3.ensures.items in
    let more = ap length items ∙ length_push chunks c.args.chunk in
    let first : c.push.new.self.items ≡ nodes ++ number ∷ [] = c.push.ensures.items ∙ rw c.number.ensures in
    let both : c.push-2.new.self.items ≡ (nodes ++ number ∷ []) ++ number ∷ [] =
    rw (c.push-2.ensures.items, first, c.number-2.ensures) in
    let pair : c.len-pair.result ≡ length nodes = c.len-pair.ensures in
    let slot : c.len-pair.result + c.bit_of.result ≡ length nodes + bit_at c.args.chunk bit = omega (arith, pair, c.bit_of.ensures) in
    let new : c.number-3.result ≡ Number (length chunks) = c.number-3.ensures ∙ ap Number c.len.ensures in
    let fork : c.fork.result ≡ Fork bit (length nodes) = c.fork.ensures ∙ ap (Fork bit) pair in
    let after = same_sets c.push-2.new.self.items ((nodes ++ number ∷ []) ++ number ∷ []) (c.len-pair.result + c.bit_of.result) (length nodes + bit_at c.args.chunk bit) c.args.at here c.number-3.result (Number (length chunks)) c.fork.result (Fork bit (length nodes)) both slot new c.requires.at fork in
    let count = ap length after ∙ parted.count in
    record {
      reserved = omega (arith, taken.reserved, c.push-3.ensures.room);
      room = omega (arith, taken.room, c.push.ensures.room, c.push-2.ensures.room);
      small = taken.small;
      table = omega (arith, taken.table, count);
      forks = omega (arith, taken.forks, count, more);
      fits = omega (arith, c.requires.room, more);
      once = rw items (distinct_more c.args.chunk chunks taken.once c.requires.fresh);
      leads = rw (items, after) made;
      own = merely (λ on. absurd cc);
    }
