use Rattle.dm_map.proofs.Prelude.{leg_lies_on, leg_on_disk}
use Rattle.dm_map.proofs.pieces.LegUnits.{failed_at_leg, took_leg}
use Rattle.dm_map.proofs.pieces.sink.Sink.disk_legs.Goals as goal

pub on_disk-disk-requires : goal.on_disk-disk-requires
on_disk-disk-requires g c = let l = c.legs in leg_on_disk _ l.legs c.in-Some.leg l.invariant.on c.in-Some.ensures.leg

pub piece-requires-clause-lies : goal.piece-requires-clause-lies
piece-requires-clause-lies g c =
    let l = c.legs in let at = c.on_disk-disk.result in
    let on = leg_lies_on _ l.legs c.in-Some.leg at.0 at.1 l.invariant.on c.in-Some.ensures.leg c.on_disk-disk.ensures in
    rw l.invariant.stack (c.disk_piece.ensures.lies _ (record { there = on.there; inside = on.inside }))

pub legs-preserved : goal.legs-preserved
legs-preserved g c =
    let l = c.legs in let leg = c.in-Some.ensures.leg in let at = c.on_disk-disk.result in
    let on = leg_lies_on _ l.legs c.in-Some.leg at.0 at.1 l.invariant.on leg c.on_disk-disk.ensures in
    rw c.in-Some.ensures.after (took_leg g.met.Self.Sink.lawful l.invariant on leg.within c.disk_piece.ensures.units (rw c.disk_piece.ensures.diskless at c.in_ok-piece.ensures))

pub returns-in_err-piece : goal.returns-in_err-piece
returns-in_err-piece g c =
    let l = c.legs in let leg = c.in-Some.ensures.leg in let at = c.on_disk-disk.result in
    let on = leg_lies_on _ l.legs c.in-Some.leg at.0 at.1 l.invariant.on leg c.on_disk-disk.ensures in
    failed_at_leg c.from_residual.ensures.0 g.met.Self.Sink.lawful l.invariant on leg.within c.disk_piece.ensures.units (rw c.disk_piece.ensures.diskless at c.in_err-piece.ensures)
