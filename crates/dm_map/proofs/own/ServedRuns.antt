-- Serving the snapshots of an origin is taking the due chunks one after the other.
use Rattle.dm_map.proofs.Prelude.{ℕ, List, [], refl, sym, ◌∙◌, AllByRecursion, ResolvedOver, Description, IsOfSnapshot, take_chunks, Due, due_over, IsOver, serve, take_chunk, State, and_then}
use Rattle.dm_map.proofs.walk.Rows.{and_then_at, step_assoc}
use Rattle.std.specs.Prelude.{◌≡◌, ◌/◌, ◌∷◌, ◌++◌}

pub serve_takes : (stack : Description) (over : List ResolvedOver) (sector : ℕ) (state : State) → serve stack over sector state ≡ take_chunks stack (due_over over sector) state
unfolding serve take_chunks
serve_takes stack [] sector state = refl
serve_takes stack (one ∷ over) sector state =
    let first = take_chunk stack one.snapshot one.device (sector / one.snapshot.chunk) state in
    and_then_at first (λ after. serve stack over sector after) (λ after. take_chunks stack (due_over over sector) after) (serve_takes stack over sector first.state)

pub takes_append : (stack : Description) (dues more : List Due) (state : State) → take_chunks stack (dues ++ more) state ≡ and_then (take_chunks stack dues state) (λ after. take_chunks stack more after)
unfolding take_chunks
takes_append stack [] more state = refl
takes_append stack (e ∷ es) more state =
    let first = take_chunk stack e.snapshot e.device e.chunk state in
    and_then_at first (λ after. take_chunks stack (es ++ more) after) (λ after. and_then (take_chunks stack es after) (λ later. take_chunks stack more later)) (takes_append stack es more first.state)
    ∙ sym (step_assoc first (λ after. take_chunks stack es after) (λ after. take_chunks stack more after))

pub each_served : (stack : Description) (len sector : ℕ) (over : List ResolvedOver) → AllByRecursion (IsOver stack len) over → AllByRecursion (IsOfSnapshot stack) (due_over over sector)
each_served stack len sector [] all = tt
each_served stack len sector (one ∷ over) all = (all.0.is, each_served stack len sector over all.1)
