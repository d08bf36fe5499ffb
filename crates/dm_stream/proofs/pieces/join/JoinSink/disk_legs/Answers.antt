use Rattle.dm_stream.proofs.Prelude.{rules, ◌∙◌, Some, refl, sym, ap, subst, OutFault, Description, leg_on_disk, failed_at_leg, took_leg, took_no_leg, units_of, join_lawful, HasTaken, Pending, IsHeld, holding, piece_of}
use Rattle.dm_stream.proofs.pieces.RowLemmas.{at_hand, failed_at_range, range_of_leg, took_range}
use Rattle.dm_stream.proofs.pieces.join.JoinSink.disk_legs.Goals as goal

-- The first leg of the row

pub range_of-requires : goal.range_of-requires
range_of-requires g c = leg_on_disk _ c.args.legs c.in-Some.leg c.requires c.in-Some.ensures.leg

pub first_of_row-requires : goal.first_of_row-requires
first_of_row-requires g c =
    let a = c.args in let made = c.range_of.ensures in
    let row = range_of_leg a.self.now.held.stack a.op a.legs c.in-Some.leg c.range_of.result c.requires c.in-Some.ensures.leg made.units made.held in
    row.fits

pub returns-in_err-range : goal.returns-in_err-range
returns-in_err-range g c =
    let a = c.args in let made = c.range_of.ensures in let leg = c.in-Some.ensures.leg in let lawful = join_lawful g.W.Output.past in
    let row = range_of_leg a.self.now.held.stack a.op a.legs c.in-Some.leg c.range_of.result c.requires leg made.units made.held in
    let failed = c.in_err-range.ensures in
    failed_at_leg c.from_residual.ensures.0 lawful (took_no_leg lawful c.requires) row.on leg.within row.units (failed_at_range a.self.now _ _ failed.left failed.moved (search rules))

pub legs-init : goal.legs-init
legs-init g c =
    let a = c.args in let made = c.range_of.ensures in let leg = c.in-Some.ensures.leg in let lawful = join_lawful g.W.Output.past in
    let row = range_of_leg a.self.now.held.stack a.op a.legs c.in-Some.leg c.range_of.result c.requires leg made.units made.held in
    let first = c.in_ok-range.ensures in let range = c.in_ok-range.range in
    let taken = subst (λ (h : Pending). HasTaken a.self.now.held (holding h range) (units_of (piece_of c.range_of.result)) (g.W.Output.past a.self.now.writer.now).written (g.W.Output.past c.first_of_row.new.writer).written) (sym first.nothing) first.took in
    record {
      taken = rw c.in-Some.ensures.after (took_leg {F = OutFault} lawful (took_no_leg lawful c.requires) row.on leg.within row.units (took_range a.self.now _ range _ refl taken first.moved (search rules)));
      nothing = ap (λ (h : Pending). h.piece) first.nothing;
      fits = subst (λ (s : Description). IsHeld s (Some (piece_of range))) (sym (ap (λ (h : Pending). h.stack) first.nothing)) first.fits;
    }

-- Every later leg of the row

pub range_of-requires-in-Some-next_leg : goal.range_of-requires-in-Some-next_leg
range_of-requires-in-Some-next_leg g c = leg_on_disk _ c.legs.legs c.in-Some-next_leg.leg c.legs.invariant.taken.on c.in-Some-next_leg.ensures.leg

pub next_of_row-requires-clause-next : goal.next_of_row-requires-clause-next
next_of_row-requires-clause-next g c =
    let a = c.args in let l = c.legs in let so_far = l.invariant.taken in let made = c.range_of-in-Some-next_leg.ensures in
    let row = range_of_leg a.self.now.held.stack a.op l.legs c.in-Some-next_leg.leg c.range_of-in-Some-next_leg.result so_far.on c.in-Some-next_leg.ensures.leg made.units made.held in
    subst (λ (s : Description). IsHeld s (Some (piece_of c.range_of-in-Some-next_leg.result))) (sym so_far.stack) row.fits

pub returns-in_err-range-2 : goal.returns-in_err-range-2
returns-in_err-range-2 g c =
    let a = c.args in let l = c.legs in let so_far = l.invariant.taken in let made = c.range_of-in-Some-next_leg.ensures in let leg = c.in-Some-next_leg.ensures.leg in
    let row = range_of_leg a.self.now.held.stack a.op l.legs c.in-Some-next_leg.leg c.range_of-in-Some-next_leg.result so_far.on leg made.units made.held in
    let failed = c.in_err-range-2.ensures in
    failed_at_leg c.from_residual-in_err-range-2.ensures.0 (join_lawful g.W.Output.past) so_far row.on leg.within row.units (failed_at_range (at_hand l.self l.range) _ _ failed.left failed.moved (search rules))

pub legs-preserved : goal.legs-preserved
legs-preserved g c =
    let a = c.args in let l = c.legs in let so_far = l.invariant.taken in let made = c.range_of-in-Some-next_leg.ensures in let leg = c.in-Some-next_leg.ensures.leg in
    let row = range_of_leg a.self.now.held.stack a.op l.legs c.in-Some-next_leg.leg c.range_of-in-Some-next_leg.result so_far.on leg made.units made.held in
    let next = c.in_ok-range-2.ensures in let range = c.in_ok-range-2.range in
    let taken = subst (λ (h : Pending). HasTaken (holding l.self.held l.range) (holding h range) (units_of (piece_of c.range_of-in-Some-next_leg.result)) (g.W.Output.past l.self.writer.now).written (g.W.Output.past c.next_of_row.new.writer).written) (sym next.same) next.took in
    record {
      taken = rw c.in-Some-next_leg.ensures.after (took_leg {F = OutFault} (join_lawful g.W.Output.past) so_far row.on leg.within row.units (took_range (at_hand l.self l.range) _ range _ refl taken next.moved (search rules)));
      nothing = ap (λ (h : Pending). h.piece) next.same ∙ l.invariant.nothing;
      fits = subst (λ (s : Description). IsHeld s (Some (piece_of range))) (sym (ap (λ (h : Pending). h.stack) next.same)) next.fits;
    }
