use Rattle.dm_map.proofs.Prelude.{◌∙◌, None, ap, length, arith, length_push}
use Rattle.dm_map.proofs.state.Numbers.{distinct_more}
use Rattle.dm_map.proofs.state.GrowLemmas.{few_runs}
use Rattle.dm_map.proofs.state.run_taken.RunTakenTaken.take.Goals as goal

pub take_next-requires-clause-room : goal.take_next-requires-clause-room
take_next-requires-clause-room c =
    let taken = c.args.self.now in
    omega (arith, few_runs None taken.chunks.items, taken.counted, taken.reserved, c.requires.room)

pub invariant_of-self : goal.invariant_of-self
invariant_of-self c =
    let taken = c.args.self.now in
    let items = c.note.ensures in
    let more = ap length items ∙ length_push taken.chunks.items c.args.chunk in
    record {
      reserved = omega (arith, taken.reserved, c.take_next.ensures.room);
      small = taken.small;
      number = omega (arith, more, taken.number);
      fits = omega (arith, more, c.requires.room);
      once = rw items (distinct_more c.args.chunk taken.chunks.items taken.once c.requires.fresh);
      counted = rw items c.take_next.ensures.counted;
      kept = rw items c.take_next.ensures.kept;
    }
