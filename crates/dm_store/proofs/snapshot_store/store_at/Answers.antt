use Rattle.dm_store.proofs.Prelude.{ap, ◌∙◌, arith, Description, lower_len, IsLineOf, IsSnapshotSound, found_of, device_some}
use Rattle.dm_map.proofs.TableLemmas.{snapshot_room, store_some}
use Rattle.dm_store.proofs.snapshot_store.store_at.Goals as goal
use Rattle.std.specs.Prelude.{◌≡◌}

pub look-requires-clause-sector : goal.look-requires-clause-sector
look-requires-clause-sector c =
    rw c.looker-looker.ensures.stack (device_some c.args.stack.now c.args.device c.depth.ensures.sound c.requires.there)

pub lower_len-len-requires : goal.lower_len-len-requires
lower_len-len-requires c =
    let stack = c.args.stack.now in let line = c.look.result.now in
    rw (c.look.ensures.stack, c.looker-looker.ensures.stack)
    (store_some stack c.args.device 0 line c.in-Snapshot.snapshot c.depth.ensures.sound (found_of stack c.args.device 0 line (rw c.looker-looker.ensures.stack at c.look.ensures.line)) c.in-Snapshot.is)

pub returns-clause-of : goal.returns-clause-of
returns-clause-of c =
    let stack = c.args.stack.now in let line = c.look.result.now in let snapshot = c.in-Snapshot.snapshot in
    let is : IsLineOf stack c.args.device line 0 = rw c.looker-looker.ensures.stack at c.look.ensures.line in
    let at = found_of stack c.args.device 0 line is in
    let sound : IsSnapshotSound stack c.args.device line.start line.len snapshot = rw c.in-Snapshot.is at is.is.target in
    let len : c.lower_len-len.result ≡ lower_len stack snapshot.store =
    c.lower_len-len.ensures.len ∙ ap (λ (s : Description). lower_len s snapshot.store) (c.look.ensures.stack ∙ c.looker-looker.ensures.stack) in
    let some = store_some stack c.args.device 0 line snapshot c.depth.ensures.sound at c.in-Snapshot.is in
    record {
      there = c.requires.there;
      lies = record { lower = sound.store; some = omega (arith, some, len); len = len; short = c.lower_len-len.ensures.small };
      room = λ number. snapshot_room stack c.args.device number c.place_count.result line snapshot at c.in-Snapshot.is (rw len at (c.place_count.ensures.law number));
    }
