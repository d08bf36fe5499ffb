use Rattle.dm_map.proofs.Prelude.{[], ◌∙◌, length-append, replicate-append-replicate, All-push, none_taken}
use Rattle.dm_map.proofs.state.TableLemmas.{state_push}
use Rattle.dm_map.proofs.state.tables.tables_without_places.Goals as goal
use Rattle.std.specs.Prelude.{◌≡◌, ◌∷◌}

pub loop-device-preserved : goal.loop-device-preserved
loop-device-preserved g c =
    let before = c.loop-device in let table = c.in_ok-with_places.field-0 in let made = c.in_ok-with_places.ensures in
    rw c.in_ok-push.ensures.items (record {
      count = length-append before.tables.items (table ∷ []) ∙ rw before.invariant.count;
      places = All-push (λ t. g.T.Taken.places t ≡ 0) before.tables.items table before.invariant.places made.places;
      state = state_push g.T.Taken.chunks g.T.Taken.valid before.tables.items table made.chunks made.valid ∙ rw before.invariant.state (replicate-append-replicate before._device 1 none_taken);
    })
