use Rattle.dm_map.proofs.Prelude.{sym, ◌∙◌, arith, le-ltb, device_len, lower_len, found_of, device_some}
use Rattle.dm_map.proofs.state.TableLemmas.{other_room, snapshot_room, store_some}
use Rattle.dm_map.proofs.state.tables.room_of.Goals as goal
use Rattle.std.specs.Prelude.{◌≡◌}

pub look-requires-clause-sector : goal.look-requires-clause-sector
look-requires-clause-sector c = device_some c.args.looker.now.stack c.args.device c.depth.ensures.sound c.requires

pub lower_len-len-requires : goal.lower_len-len-requires
lower_len-len-requires c =
    let stack = c.args.looker.now.stack in let snapshot = c.in-Snapshot.snapshot in
    rw c.look.ensures.stack (store_some stack c.args.device 0 c.look.result.now snapshot c.depth.ensures.sound (found_of c.args.looker.now.stack c.args.device 0 c.look.result.now c.look.ensures.line) c.in-Snapshot.is)

pub returns-in-Snapshot-clause-places : goal.returns-in-Snapshot-clause-places
returns-in-Snapshot-clause-places c number =
    let stack = c.args.looker.now.stack in let snapshot = c.in-Snapshot.snapshot in
    let len : c.lower_len-len.result ≡ lower_len stack snapshot.store = c.lower_len-len.ensures.len ∙ rw c.look.ensures.stack in
    snapshot_room stack c.args.device number c.place_count-places.result c.look.result.now snapshot (found_of c.args.looker.now.stack c.args.device 0 c.look.result.now c.look.ensures.line) c.in-Snapshot.is
    (rw len at (c.place_count-places.ensures.law number))

pub returns-in_default-clause-places : goal.returns-in_default-clause-places
returns-in_default-clause-places c number =
    le-ltb number 0 (omega arith) ∙ sym (other_room c.args.looker.now.stack c.args.device number c.look.result.now (found_of c.args.looker.now.stack c.args.device 0 c.look.result.now c.look.ensures.line) c.in_default.not-Snapshot)

pub returns-in-Snapshot-clause-chunks : goal.returns-in-Snapshot-clause-chunks
returns-in-Snapshot-clause-chunks c =
    let stack = c.args.looker.now.stack in
    let len : c.len.result ≡ device_len stack c.args.device = c.len.ensures.len ∙ rw c.look.ensures.stack in
    rw (found_of stack c.args.device 0 c.look.result.now c.look.ensures.line, c.in-Snapshot.is) (omega (arith, c.chunk_of.ensures, rw len at c.chunk_of.ensures))
