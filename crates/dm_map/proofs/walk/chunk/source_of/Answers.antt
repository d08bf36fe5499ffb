use Rattle.dm_map.proofs.Prelude.{sym, ◌∙◌, arith, lower_small}
use Rattle.dm_map.proofs.walk.Chunks.{read_store, read_origin}
use Rattle.dm_map.proofs.state.TableLemmas.{room_place}
use Rattle.dm_map.proofs.walk.chunk.source_of.Goals as goal

pub store_sector-requires : goal.store_sector-requires
store_sector-requires g c =
    let w = c.args.walker.now in let snapshot = c.args.snapshot.now in
    let fits = room_place w.stack c.args.device c.in-Some.number snapshot c.requires.chunk.whole.is c.in-Some.ensures.room in
    let small = lower_small w.stack snapshot.store c.recall_soundness.ensures in
    omega (arith, fits, small)

pub returns-in-Some : goal.returns-in-Some
returns-in-Some g c =
    let w = c.args.walker.now in let snapshot = c.args.snapshot.now in
    rw c.store_sector.ensures (read_store w.stack w.state c.args.device c.args.sector c.args.len c.in-Some.number snapshot c.requires.chunk c.requires.valid (rw c.chunk_of.ensures at (sym c.find.ensures.number ∙ c.in-Some.is)) c.in-Some.ensures.room)

pub returns-in-None : goal.returns-in-None
returns-in-None g c =
    let w = c.args.walker.now in let snapshot = c.args.snapshot.now in
    read_origin w.stack w.state c.args.device c.args.sector c.args.len snapshot c.requires.chunk c.requires.valid (rw c.chunk_of.ensures at (sym c.find.ensures.number ∙ c.in-None.is))
