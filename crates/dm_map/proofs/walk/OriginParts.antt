-- A write to part of an origin's device as one walk: its snapshots are served, and then the sectors of the origin are written.
use Rattle.dm_map.proofs.Prelude.{ℕ, zero, suc, List, append_assoc, sym, arith, All, Result, Ok, Err, All-from_recursion, ResolvedOrigin, ResolvedOver, Description, lower_len, snapshots_over, IsSound, sector_step, AreSettled, IsOver, serve, IsLawful, SinkPast, State, steps, WalkerView, IsMapped, origin_mapping, range_mapping, IsWalked, range_step, served_sector, Write}
use Rattle.dm_map.proofs.walk.Overs.{overs}
use Rattle.dm_map.proofs.walk.Rows.{left_more, walked_as, walked_then}
use Rattle.dm_map.proofs.walk.Served.{StepsKeep, part}
use Rattle.dm_map.proofs.walk.Settled.{write_keeps_settled}
use Rattle.std.specs.Prelude.{◌≡◌, ◌+◌, ◌<◌, ◌≤◌, ◌++◌}

-- each snapshot in an origin's list has the sectors that the origin has
pub line_overs : (stack before : Description) (origin : ResolvedOrigin) (over : List ResolvedOver) (sector len end : ℕ) → IsSound stack → before ≡ stack → over ≡ origin.over → origin.over ≡ snapshots_over stack origin.to → sector + len ≤ lower_len stack origin.to → end ≤ sector + len → All (IsOver before end) over
line_overs stack before origin over sector len end sound same list all inside within =
    let each = All-from_recursion (IsOver stack end) _ (overs stack origin.to end sound (omega (arith, inside, within))) in
    rw (same, list, all) each

-- serving an equal list of snapshots gives the same step
served_is : (stack : Description) (origin : ResolvedOrigin) (over : List ResolvedOver) (at : ℕ) (state : State) → over ≡ origin.over → serve stack over at state ≡ serve stack origin.over at state
served_is stack origin over at state list = cc

-- the sink failed while the snapshots were served
pub serve_failed : {S F : Type 0} {past : SinkPast S} {fault : F} {old new : S} {before after : WalkerView} {over : List ResolvedOver} (levels at n : ℕ) (origin : ResolvedOrigin) → over ≡ origin.over → 1 ≤ n
    → IsWalked {R = Unit {0}} past (Err fault) old new before after (serve before.stack over at before.state) 0 → IsMapped {R = Unit {0}} past (Err fault) old new before after (origin_mapping Write levels origin) at n
serve_failed levels at zero origin list some walk = absurd (omega (arith, some))
serve_failed {past} {old} {new} {before} {over} levels at (suc k) origin list some walk =
    let first = serve before.stack origin.over at before.state in
    let plain = sector_step before.stack Write levels origin.to first.state at in
    let rest = steps (served_sector before.stack Write levels origin) plain.state (suc at) k in
    record {
      walked = record {
        took = tt;
        state = tt;
        kept = tt;
        room = tt;
        left = left_more past.left old new first.units (plain.units ++ rest.units) ((first.units ++ plain.units) ++ rest.units) (sym (append_assoc first.units plain.units rest.units)) (rw (← served_is before.stack origin over at before.state list) walk.left);
        faults = walk.faults;
        stack = walk.stack;
        looked = walk.looked;
      };
      bounded = λ is. absurd cc;
    }

-- the snapshots were served, and then the sectors were written
pub part_mapped : {S F G : Type 0} {past : SinkPast S} {result : Result (Unit {0}) F} {fine : Unit {0}} {old middle new : S} {before between after : WalkerView} {over : List ResolvedOver} → IsLawful past → (levels at n : ℕ) (origin : ResolvedOrigin) → over ≡ origin.over → 1 ≤ n
    → IsWalked {F = G} past (Ok fine) old middle before between (serve before.stack over at before.state) 0 → ((i : ℕ) → i < n → AreSettled between.state over (at + i))
    → IsMapped past result middle new between after (range_mapping Write levels origin.to) at n → IsMapped past result old new before after (origin_mapping Write levels origin) at n
part_mapped lawful levels at zero origin list some one each two = absurd (omega (arith, some))
part_mapped {before} {between} {over} lawful levels at (suc k) origin list some one each two =
    let stack = before.stack in let plain = sector_step stack Write levels origin.to in
    let first = serve stack origin.over at before.state in
    let here : serve stack over at before.state ≡ first = served_is stack origin over at before.state list in
    let state_is : between.state ≡ first.state = cc in
    let keeps : StepsKeep plain = λ state sector. write_keeps_settled stack levels origin.to state sector in
    let settled : (i : ℕ) → i < suc k → AreSettled first.state origin.over (at + i) = λ i within.
    rw (← state_is, ← list) (each i within) in
    let next : steps plain first.state at (suc k) ≡ range_step between.stack Write levels origin.to between.state at (suc k) =
    cc in
    record {
      walked = walked_as (sym (part stack origin.over plain before.state at k keeps settled))
          (walked_then lawful (λ later. steps plain later at (suc k)) next (let e : suc k ≤ suc k = omega arith in e) (walked_as here one) two.walked);
      bounded = λ is. absurd cc;
    }
