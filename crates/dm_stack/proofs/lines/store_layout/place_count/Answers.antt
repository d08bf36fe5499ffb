use Rattle.dm_stack.proofs.Prelude.{inl, inr, arith, place_count, places_in}
use Rattle.dm_stack.proofs.lines.StoreLayoutLemmas.{has_place}
use Rattle.dm_stack.proofs.lines.store_layout.place_count.Goals as goal
use Rattle.std.specs.Prelude.{◌≡◌, ◌+◌, ◌-◌, ◌*◌, ◌/◌}

pub returns-in-Persistent : goal.returns-in-Persistent
returns-in-Persistent c =
    let args = c.args in
    let rest = c.saturating_sub-rest.result in let sectors = c.sectors-sectors.result in
    let counted : rest - rest / (32 * sectors + 1) ≡ places_in (32 * args.chunk) (args.store_len / args.chunk - 2) = cc in
    let count : rest - rest / (32 * sectors + 1) ≡ place_count args.kind args.chunk args.store_len = elim c.in-Persistent.is [
      | inl is ↦ rw is counted
      | inr is ↦ rw is counted
    ] in
    record {
      count = count;
      law = λ number. rw count (has_place args.kind args.chunk args.store_len number (omega arith));
    }
