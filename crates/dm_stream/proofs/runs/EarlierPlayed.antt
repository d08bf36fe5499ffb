-- The state that requests leave which were played one after the other.
use Rattle.dm_stream.proofs.Prelude.{[], Some, append-nil, Delivery, Description, State, HasMoved, requests_outcome, requests_of, Ending}
use Rattle.std.specs.Prelude.{◌≡◌}

-- all requests were played, and the ending is their own
pub all_played : (stack : Description) (old new : State) (delivered : Delivery) (e : Ending) → HasMoved stack old new (requests_of delivered).all → (requests_of delivered).ending ≡ Some e
    → ((requests_outcome stack old delivered).ending ≡ Some e) × (new ≡ (requests_outcome stack old delivered).state)
all_played stack old new delivered e moved ends =
    let requests = requests_of delivered in
    let same = append-nil requests.all in
    let left = moved.told [] requests.ending in (
      cc,
      cc,
    )
