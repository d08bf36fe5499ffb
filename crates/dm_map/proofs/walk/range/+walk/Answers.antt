use Rattle.dm_map.proofs.Prelude.{Result, rules, ℕ, Some, refl, sym, ap, subst, ◌∙◌, arith, Op, Read, ResolvedLine, ResolvedSnapshot, ResolvedTarget, Snapshot, Origin, Beneath, Device, AreInside, LegsView, IsLineOf, IsOriginSound, IsSnapshotSound, IsTargetSound, found_at, Description, lower_len, IsMapped, origin_mapping, range_mapping, target_mapping, read_over, taken_at, ReadAt, SinkPast, snapshot_at, StackState, WalkerView, stack_state, AreReadAt, line_step, origin_step, range_step, AreAsked, AreAskedOfOrigin, AreAskedOfSnapshot, HasRoomFor, IsAtLine, IsLegOf, device_there, lower_small, other_chunk}
use Rattle.dm_map.proofs.state.ResolvedLines.{first_line}
use Rattle.dm_map.proofs.walk.Bounds.{lines_apart, mapped_below, mapped_line, mapped_target, parts_apart}
use Rattle.dm_map.proofs.walk.Chunks.{chunk_read, in_snapshot, lost_read, read_on, write_line_step}
use Rattle.dm_map.proofs.walk.DiskColumns.{legs_on_disks, mapped_on_disks}
use Rattle.dm_map.proofs.walk.HomeLemmas.{disk_step}
use Rattle.dm_map.proofs.walk.LineRanges.{leg_at, leg_of, leg_within, line_sectors}
use Rattle.dm_map.proofs.walk.Ranges.{beneath_as, leg_errors, leg_lies, leg_zeros, line_served, origin_read, range_deepest, range_refused}
use Rattle.dm_map.proofs.walk.OriginParts.{line_overs, part_mapped, serve_failed}
use Rattle.dm_map.proofs.walk.Rows.{walked_as, walked_piece}
use Rattle.dm_map.proofs.walk.Spans.{below_is}
use Rattle.dm_map.proofs.walk.WalkedOn.{IsMappedTo, mapped_after_look, mapped_before_look, mapped_cut, mapped_handed, mapped_last, mapped_none, mapped_on, mapped_still, range_keeps, target_keeps}
use Rattle.dm_map.proofs.walk.range.+walk.Goals as goal
use Rattle.dm_map.proofs.walk.range.+walk.Goals.{map_device-then-levels-eq0-via-then-levels-eq0, map_device-then-levels-eq0-via-else-levels-eq0+then-refuses}
use Rattle.std.specs.Prelude.{◌≡◌, ◌+◌, ◌-◌, ◌≤◌}

-- `map_range` on a disk

pub map_range-returns-in-Disk : goal.map_range-returns-in-Disk
map_range-returns-in-Disk g t c =
    let a = c.args in let p = c.piece in
    record {
      walked = walked_piece (disk_step a.walker.now a.op a.levels a.lower c.in-Disk.disk a.sector a.len _ c.in-Disk.is c.disk_piece.ensures.units) (omega (arith, c.disk_piece.ensures.diskless)) p.ensures;
      bounded = λ is sound. omega arith;
    }

-- `map_device`

pub map_device-returns-then-levels-eq0 : goal.map_device-returns-then-levels-eq0
map_device-returns-then-levels-eq0 g t c =
    let a = c.args in
    mapped_handed (range_mapping a.op a.levels (Device a.device)) refl (elim c.then-levels-eq0.branch [
      | map_device-then-levels-eq0-via-then-levels-eq0 b ↦ sym (range_deepest a.walker.now.stack a.op a.levels a.device a.sector a.len a.walker.now.state b.if-levels-eq0.true)
      | map_device-then-levels-eq0-via-else-levels-eq0+then-refuses b ↦ sym (range_refused a.walker.now.stack a.op a.levels a.device a.sector a.len a.walker.now.state (sym b.refuses.ensures ∙ b.if-refuses.true))
    ]) c.fail.ensures

pub map_device-look-line-requires-clause-device : goal.map_device-look-line-requires-clause-device
map_device-look-line-requires-clause-device g t c = device_there c.args.walker.now.stack c.args.device c.args.sector (omega arith)

pub map_device-map_lines-requires : goal.map_device-map_lines-requires
map_device-map_lines-requires g t c κs within =
    let a = c.args in let look = c.look-line.ensures in let line = c.look-line.result.now in
    let stack : c.look-line.new.self.stack ≡ a.walker.now.stack = ap (λ (v : StackState). v.stack) look.same in
    let at = subst (λ (v : StackState). IsAtLine v.stack a.op a.levels a.device line a.sector) (sym look.same) (record { deep = omega (arith, c.if-levels-eq0.false); passes = sym c.refuses.ensures ∙ c.if-refuses.false; of = look.line }) in
    let asked = subst (λ (s : Description). AreAsked g.S.Sink.past a.sink.now s (Device a.device) a.sector a.len) (sym stack) c.requires in
    search rules

pub map_device-map_line-requires : goal.map_device-map_line-requires
map_device-map_line-requires g t c κs within =
    let a = c.args in let look = c.look-line.ensures in let line = c.look-line.result.now in
    let stack : c.look-line.new.self.stack ≡ a.walker.now.stack = ap (λ (v : StackState). v.stack) look.same in
    let at = subst (λ (v : StackState). IsAtLine v.stack a.op a.levels a.device line a.sector) (sym look.same) (record { deep = omega (arith, c.if-levels-eq0.false); passes = sym c.refuses.ensures ∙ c.if-refuses.false; of = look.line }) in
    let inside : a.sector + a.len ≤ line.start + line.len = omega (arith, c.if-len-line.true, look.line.from, look.line.before) in
    let sink = subst (λ (s : Description). HasRoomFor g.S.Sink.past a.sink.now s a.len) (sym stack) c.requires.sink in
    search rules

pub map_device-returns-then-len-line : goal.map_device-returns-then-len-line
map_device-returns-then-len-line g t c =
    let a = c.args in let look = c.look-line.ensures in mapped_after_look (range_mapping a.op a.levels (Device a.device)) refl look.same look.looked look.one c.map_line.ensures

pub map_device-returns : goal.map_device-returns
map_device-returns g t c =
    let a = c.args in let look = c.look-line.ensures in mapped_after_look (range_mapping a.op a.levels (Device a.device)) refl look.same look.looked look.one c.map_lines.ensures

-- `map_lines`

pub map_lines-returns-then-part-left : goal.map_lines-returns-then-part-left
map_lines-returns-then-part-left g t c =
    let a = c.args in let l = c.lines in
    mapped_last g.met.S.Sink.lawful (range_keeps a.op a.levels (Device a.device)) l.invariant.so_far c.map_line.ensures l.invariant.some

pub map_lines-returns-in_err-map_line : goal.map_lines-returns-in_err-map_line
map_lines-returns-in_err-map_line g t c =
    let a = c.args in let l = c.lines in let line = l.invariant.line in
    mapped_cut g.met.S.Sink.lawful (range_keeps a.op a.levels (Device a.device)) c.from_residual.ensures.0 l.invariant.so_far c.in_err-map_line.ensures
    (omega (arith, c.part_in-part.ensures, l.invariant.some, line.from, line.before)) (omega (arith, c.part_in-part.ensures))

pub map_lines-lines-preserved : goal.map_lines-lines-preserved
map_lines-lines-preserved g t c =
    let a = c.args in let w = a.walker.now in let l = c.lines in let n = c.part_in-part.result in let next = c.look-line in let one = l.invariant.line in let mapping = range_mapping a.op a.levels (Device a.device) in
    let some : 1 ≤ n = omega (arith, c.part_in-part.ensures, l.invariant.some, one.from, one.before) in
    let stack : c.map_line-in-lines.new.walker.stack ≡ w.stack = c.in_ok-map_line.ensures.walked.stack ∙ l.invariant.so_far.mapped.walked.stack in
    let line = subst (λ (s : Description). IsLineOf s a.device next.result.now (l.at + n)) stack next.ensures.line in
    record {
      so_far = mapped_before_look mapping refl next.ensures.same next.ensures.looked next.ensures.one
          (mapped_on g.met.S.Sink.lawful (range_keeps a.op a.levels (Device a.device)) l.invariant.so_far c.in_ok-map_line.ensures some (omega (arith, c.part_in-part.ensures))
          (λ is more. lines_apart w.stack w.state a.levels (a.levels - 1) a.device l.at n l.line.now next.result.now (omega (arith, c.requires.at.deep)) some one (omega (arith, c.part_in-part.ensures, more, one.from, one.before)) line));
      some = omega (arith, c.part_in-part.ensures, l.invariant.some, c.if-part-left.false);
      line = line;
    }

-- `map_line`

pub map_line-leg-leg-requires-clause-there : goal.map_line-leg-leg-requires-clause-there
map_line-leg-leg-requires-clause-there g t c =
    let a = c.args in line_sectors a.walker.now.stack a.device (a.sector - a.line.now.start) a.len a.line.now c.recall_soundness.ensures c.requires.at.of.is (omega (arith, c.requires.inside, c.requires.at.of.from))

pub map_line-map_leg-requires : goal.map_line-map_leg-requires
map_line-map_leg-requires g t c κs within =
    let a = c.args in
    let leg : (line : ResolvedLine) × IsLegOf a.walker.now.stack a.device line (a.sector - a.line.now.start) c.leg-leg.result =
    (a.line.now, leg_of a.walker.now.stack a.device (a.sector - a.line.now.start) a.len a.line.now c.leg-leg.result c.requires.at.of.is (omega (arith, c.requires.inside, c.requires.at.of.from)) c.leg-leg.ensures.leg c.leg-leg.ensures.inside) in
    search rules

pub map_line-returns-then-leg-len : goal.map_line-returns-then-leg-len
map_line-returns-then-leg-len g t c =
    let a = c.args in let w = a.walker.now in let walk = c.map_leg in let line = a.line.now in
    let leg = leg_of w.stack a.device (a.sector - line.start) a.len line c.leg-leg.result c.requires.at.of.is (omega (arith, c.requires.inside, c.requires.at.of.from)) c.leg-leg.ensures.leg c.leg-leg.ensures.inside in
    mapped_line a.op a.levels (a.levels - 1) a.device a.sector a.len line (omega (arith, c.requires.at.deep)) c.requires.at.passes c.requires.at.of c.requires.some c.requires.inside
    (subst (λ (n : ℕ). IsMapped g.S.Sink.past walk.result a.sink.now walk.new.sink w walk.new.walker (target_mapping a.op (a.levels - 1) a.device line.start line.target) (a.sector - line.start) n) c.if-leg-len.true (walk.ensures line leg))

pub map_line-returns : goal.map_line-returns
map_line-returns g t c =
    let a = c.args in mapped_line a.op a.levels (a.levels - 1) a.device a.sector a.len a.line.now (omega (arith, c.requires.at.deep)) c.requires.at.passes c.requires.at.of c.requires.some c.requires.inside c.map_legs.ensures

-- `map_legs`

pub map_legs-legs-legs-requires-clause-there : goal.map_legs-legs-legs-requires-clause-there
map_legs-legs-legs-requires-clause-there g t c =
    let a = c.args in line_sectors a.walker.now.stack a.device a.distance a.len a.line.now c.recall_soundness.ensures c.requires.line c.requires.inside

pub map_legs-disk_legs-requires : goal.map_legs-disk_legs-requires
map_legs-disk_legs-requires g t c =
    let a = c.args in legs_on_disks a.walker.now.stack _ a.device a.line.now c.legs-legs.result a.distance a.len c.requires.sink.stack c.requires.line c.requires.inside (sym c.has_disk_columns.ensures ∙ c.if-has_disk_columns.true) c.legs-legs.ensures

pub map_legs-returns-then-has_disk_columns : goal.map_legs-returns-then-has_disk_columns
map_legs-returns-then-has_disk_columns g t c =
    let a = c.args in mapped_on_disks a.op a.levels a.device a.distance a.len a.line.now c.requires.line (sym c.has_disk_columns.ensures ∙ c.if-has_disk_columns.true) c.legs-legs.ensures c.disk_legs.ensures

pub map_legs-legs-init : goal.map_legs-legs-init
map_legs-legs-init g t c =
    let a = c.args in let made = c.legs-legs.ensures in
    record {
      so_far = subst (λ (n : ℕ). IsMappedTo g.S.Sink.past a.sink.now a.sink.now a.walker.now a.walker.now (target_mapping a.op a.levels a.device a.line.now.start a.line.now.target) a.distance a.len a.distance n)
          (sym (ap (λ (v : LegsView). v.left) made)) (mapped_none g.met.S.Sink.lawful refl);
      target = ap (λ (v : LegsView). v.target) made;
      here = ap (λ (v : LegsView). v.distance) made;
    }

pub map_legs-map_leg-requires : goal.map_legs-map_leg-requires
map_legs-map_leg-requires g t c κs within =
    let a = c.args in let l = c.legs in let leg = c.in-Some.leg in let so_far = l.invariant.so_far in let walked = so_far.mapped.walked in
    let is = leg_at a.line.now.target l.legs.target l.legs.distance l.at l.legs.left leg l.invariant.target l.invariant.here c.in-Some.ensures.leg in
    let of : (line : ResolvedLine) × IsLegOf l.walker.stack a.device line l.at leg = (a.line.now, leg_within l.walker.stack a.walker.now.stack a.device l.at l.legs.left a.line.now leg walked.stack c.requires.line (omega (arith, so_far.position, c.requires.inside)) is) in
    let stack : (g.S.Sink.past.view l.sink).stack ≡ l.walker.stack = walked.kept ∙ c.requires.sink.stack ∙ sym walked.stack in
    let room : leg.len ≤ (g.S.Sink.past.view l.sink).room = omega (arith, is.within, c.requires.sink.room, walked.room, so_far.within) in
    search rules

pub map_legs-returns-in_err-map_leg : goal.map_legs-returns-in_err-map_leg
map_legs-returns-in_err-map_leg g t c =
    let a = c.args in let l = c.legs in let leg = c.in-Some.ensures.leg in let so_far = l.invariant.so_far in
    let is = leg_at a.line.now.target l.legs.target l.legs.distance l.at l.legs.left c.in-Some.leg l.invariant.target l.invariant.here leg in
    let of = leg_within l.walker.stack a.walker.now.stack a.device l.at l.legs.left a.line.now c.in-Some.leg so_far.mapped.walked.stack c.requires.line (omega (arith, so_far.position, c.requires.inside)) is in
    mapped_cut g.met.S.Sink.lawful (target_keeps a.op a.levels a.device a.line.now.start a.line.now.target) c.from_residual.ensures.0 so_far (c.in_err-map_leg.ensures a.line.now of) leg.some leg.within

pub map_legs-legs-preserved : goal.map_legs-legs-preserved
map_legs-legs-preserved g t c =
    let a = c.args in let w = a.walker.now in let l = c.legs in let line = a.line.now in let leg = c.in-Some.ensures.leg in let n = c.in-Some.leg.len in let after = c.in-Some.ensures.after in
    let so_far = l.invariant.so_far in
    let is = leg_at line.target l.legs.target l.legs.distance l.at l.legs.left c.in-Some.leg l.invariant.target l.invariant.here leg in
    let of = leg_within l.walker.stack w.stack a.device l.at l.legs.left line c.in-Some.leg so_far.mapped.walked.stack c.requires.line (omega (arith, so_far.position, c.requires.inside)) is in
    record {
      so_far = subst (λ (left : ℕ). IsMappedTo g.S.Sink.past a.sink.now c.map_leg.new.sink w c.map_leg.new.walker (target_mapping a.op a.levels a.device line.start line.target) a.distance a.len (l.at + n) left)
          (sym (ap (λ (v : LegsView). v.left) after))
          (mapped_on g.met.S.Sink.lawful (target_keeps a.op a.levels a.device line.start line.target) so_far (c.in_ok-map_leg.ensures line of) leg.some leg.within
          (λ read more. parts_apart w.stack w.state a.levels a.device line.start (l.at + n) line.target (is.next more)));
      target = ap (λ (v : LegsView). v.target) after ∙ l.invariant.target;
      here = ap (λ (v : LegsView). v.distance) after ∙ ap (λ (p : ℕ). p + n) l.invariant.here;
    }

-- `map_leg`

pub map_leg-map_range-requires : goal.map_leg-map_range-requires
map_leg-map_range-requires g t c κs within =
    let a = c.args in let of = c.requires.leg.1 in
    let asked : AreAsked g.S.Sink.past a.sink.now a.walker.now.stack c.in-Lies.to c.in-Lies.sector a.leg.now.len =
    record { some = of.some; inside = subst (λ (b : Beneath). AreInside a.walker.now.stack a.leg.now.len b) c.in-Lies.is of.lies; sink = c.requires.sink } in
    search rules

pub map_leg-returns-in-Lies : goal.map_leg-returns-in-Lies
map_leg-returns-in-Lies g t c line of =
    let a = c.args in let w = a.walker.now in
    let on = beneath_as line.target a.distance a.leg.now.len _ _ c.in-Lies.is of.is in
    mapped_below a.op a.levels a.device line.start a.distance line.start line line.target c.in-Lies.to (of.of.all line.start (omega arith) (omega (arith, of.some, of.inside))) refl of.some
    (λ i within. below_is (read_over (taken_at w.state a.device)) line.target (a.distance + i) on.plain ∙ on.below i within)
    (sym (leg_lies w.stack a.op a.levels a.device line.target c.in-Lies.to a.distance c.in-Lies.sector a.leg.now.len w.state on)) c.map_range.ensures

pub map_leg-returns-in-Zeros : goal.map_leg-returns-in-Zeros
map_leg-returns-in-Zeros g t c line of =
    let a = c.args in let w = a.walker.now in
    mapped_handed (target_mapping a.op a.levels a.device line.start line.target) refl
    (sym (leg_zeros w.stack a.op a.levels a.device line.target a.distance a.leg.now.len w.state (beneath_as line.target a.distance a.leg.now.len _ _ c.in-Zeros.is of.is))) c.hand_zeros.ensures

pub map_leg-returns-in-Errors : goal.map_leg-returns-in-Errors
map_leg-returns-in-Errors g t c line of =
    let a = c.args in let w = a.walker.now in
    mapped_handed (target_mapping a.op a.levels a.device line.start line.target) refl
    (sym (leg_errors w.stack a.op a.levels a.device line.target a.distance a.leg.now.len w.state (beneath_as line.target a.distance a.leg.now.len _ _ c.in-Errors.is of.is))) c.fail.ensures

pub map_leg-map_snapshot-requires : goal.map_leg-map_snapshot-requires
map_leg-map_snapshot-requires g t c κs within =
    let a = c.args in let line = c.requires.leg.0 in let of = c.requires.leg.1 in
    let kind = beneath_as line.target a.distance a.leg.now.len _ _ c.in-Snapshot.is of.is in
    let asked : AreAskedOfSnapshot g.S.Sink.past a.sink.now a.walker.now.stack a.device c.in-Snapshot.snapshot.now a.distance a.leg.now.len = record {
      some = of.some;
      inside = in_snapshot a.walker.now.stack a.device a.distance a.leg.now.len line c.in-Snapshot.snapshot.now of.of kind of.some of.inside;
      small = omega (arith, of.inside, of.of.small);
      sink = c.requires.sink;
    } in
    search rules

pub map_leg-returns-in-Snapshot : goal.map_leg-returns-in-Snapshot
map_leg-returns-in-Snapshot g t c line of =
    let a = c.args in let snapshot = c.in-Snapshot.snapshot.now in
    let kind = beneath_as line.target a.distance a.leg.now.len _ _ c.in-Snapshot.is of.is in
    let sound : IsSnapshotSound a.walker.now.stack a.device line.start line.len snapshot = subst (λ (t : ResolvedTarget). IsTargetSound a.walker.now.stack a.device line.start line.len t) kind of.of.target in
    mapped_target a.op a.levels a.device line.start 0 line.target (Snapshot snapshot) sound.from kind c.map_snapshot.ensures

pub map_leg-map_origin-requires : goal.map_leg-map_origin-requires
map_leg-map_origin-requires g t c κs within =
    let a = c.args in let line = c.requires.leg.0 in let of = c.requires.leg.1 in let origin = c.in-Origin.origin.now in
    let kind = beneath_as line.target a.distance a.leg.now.len _ _ c.in-Origin.is of.is in
    let sound : IsOriginSound a.walker.now.stack a.device line.start line.len origin = subst (λ (t : ResolvedTarget). IsTargetSound a.walker.now.stack a.device line.start line.len t) kind of.of.target in
    let asked : AreAskedOfOrigin g.S.Sink.past a.sink.now a.walker.now.stack origin a.distance a.leg.now.len =
    record { over = sound.over; asked = record { some = of.some; inside = omega (arith, sound.same, of.inside); sink = c.requires.sink } } in
    search rules

pub map_leg-returns-in-Origin : goal.map_leg-returns-in-Origin
map_leg-returns-in-Origin g t c line of =
    let a = c.args in let w = a.walker.now in let origin = c.in-Origin.origin.now in
    let kind = beneath_as line.target a.distance a.leg.now.len _ _ c.in-Origin.is of.is in
    mapped_target a.op a.levels a.device line.start line.start line.target (Origin origin) refl kind
    (mapped_below a.op a.levels a.device line.start a.distance line.start line (Origin origin) origin.to (of.of.all line.start (omega arith) (omega (arith, of.some, of.inside))) kind of.some (λ i within. refl)
    (sym (line_served w.stack a.op a.levels a.device origin a.distance a.leg.now.len w.state)) c.map_origin.ensures)

-- `map_snapshot`

pub map_snapshot-returns-in-Read : goal.map_snapshot-returns-in-Read
map_snapshot-returns-in-Read g t c =
    let a = c.args in let walk = c.read_snapshot in
    subst (λ (op : Op). IsMapped g.S.Sink.past walk.result a.sink.now walk.new.sink a.walker.now walk.new.walker (target_mapping op a.levels a.device 0 (Snapshot a.snapshot.now)) a.sector a.len) (sym c.in-Read.is) walk.ensures

pub map_snapshot-returns-in-Write : goal.map_snapshot-returns-in-Write
map_snapshot-returns-in-Write g t c =
    let a = c.args in let w = a.walker.now in
    record {
      walked = walked_as (write_line_step w.stack a.levels a.device a.sector a.len a.snapshot.now w.state ∙ ap (λ (op : Op). line_step w.stack op a.levels a.device (Snapshot a.snapshot.now) w.state a.sector a.len) (sym c.in-Write.is)) c.write_snapshot.ensures;
      bounded = λ is sound. absurd cc;
    }

-- `read_snapshot`, whose loop reads a run of chunks at once

-- the walk of sectors that are read in a row, in the state in which the read began
run : {S R F : Type 0} {past : SinkPast S} {result : Result R F} {old new : S} {before after : WalkerView} (levels device sector n : ℕ) (snapshot : ResolvedSnapshot) (source : ReadAt) (first : WalkerView)
    → stack_state before ≡ stack_state first → snapshot_at first.stack device ≡ Some snapshot → 1 ≤ n → AreReadAt first.stack first.state device snapshot sector n source
    → IsMapped past result old new before after (range_mapping Read levels source.to) source.sector n → IsMapped past result old new before after (target_mapping Read levels device 0 (Snapshot snapshot)) sector n
run {before} levels device sector n snapshot source first same is some at mapped =
    let here = subst (λ (v : StackState). snapshot_at v.stack device ≡ Some snapshot) (sym same) is in
    let now = subst (λ (v : StackState). AreReadAt v.stack v.state device snapshot sector n source) (sym same) at in
    let line = first_line before.stack device snapshot (found_at before.stack device 0) refl here in
    mapped_below Read levels device 0 sector 0 line.0 (Snapshot snapshot) source.to line.1 line.2 some now.lies (sym (chunk_read before.stack levels device sector n n snapshot before.state source now (omega arith))) mapped

pub read_snapshot-returns-then-not-is_valid : goal.read_snapshot-returns-then-not-is_valid
read_snapshot-returns-then-not-is_valid g t c =
    let a = c.args in let w = a.walker.now in
    mapped_handed (target_mapping Read a.levels a.device 0 (Snapshot a.snapshot.now)) refl
    (sym (lost_read w.stack a.levels a.device a.sector a.len a.snapshot.now w.state (sym c.is_valid.ensures.valid ∙ c.if-not-is_valid.true))) c.fail.ensures

pub read_snapshot-chunks-init : goal.read_snapshot-chunks-init
read_snapshot-chunks-init g t c =
    let a = c.args in let asked = c.requires.asked in let part = c.part_of_chunk-part.ensures in let chunk_some = asked.inside.sound.chunk_some in
    record {
      so_far = mapped_none g.met.S.Sink.lawful refl;
      some = omega (arith, part, asked.some, chunk_some);
      most = omega (arith, part);
      apart = λ more. other_chunk a.snapshot.now.chunk a.sector c.part_of_chunk-part.result chunk_some (omega (arith, part, more));
      source = c.source_of-source.ensures;
    }

pub read_snapshot-source_of-next-requires-clause-valid : goal.read_snapshot-source_of-next-requires-clause-valid
read_snapshot-source_of-next-requires-clause-valid g t c =
    let a = c.args in let l = c.chunks in
    ap (λ (v : StackState). (taken_at v.state a.device).valid) (mapped_still (target_keeps Read a.levels a.device 0 (Snapshot a.snapshot.now)) l.invariant.so_far refl) ∙ sym c.is_valid.ensures.valid ∙ c.if-not-is_valid.false

pub read_snapshot-goes_on-requires : goal.read_snapshot-goes_on-requires
read_snapshot-goes_on-requires g t c =
    let l = c.chunks in let small = lower_small c.args.walker.now.stack l.source.to c.recall_soundness.ensures in omega (arith, l.invariant.source.inside, small)

pub read_snapshot-chunks-preserved-then-goes_on : goal.read_snapshot-chunks-preserved-then-goes_on
read_snapshot-chunks-preserved-then-goes_on g t c =
    let a = c.args in let w = a.walker.now in let l = c.chunks in let count = c.part_of_chunk-count.ensures in let n = c.part_of_chunk-count.result in let it = l.invariant in
    let same = mapped_still (target_keeps Read a.levels a.device 0 (Snapshot a.snapshot.now)) it.so_far refl in
    let next = subst (λ (v : StackState). AreReadAt v.stack v.state a.device a.snapshot.now (l.from + l.part) n c.source_of-next.result) same c.source_of-next.ensures in
    let e : l.from + l.part + n ≡ l.from + (l.part + n) = omega arith in
    record {
      so_far = it.so_far;
      some = omega (arith, it.some);
      most = omega (arith, count, it.most);
      apart = λ more. rw e at (other_chunk a.snapshot.now.chunk (l.from + l.part) n c.requires.asked.inside.sound.chunk_some (omega (arith, count, more)));
      source = read_on w.stack w.state a.device l.from l.part n a.snapshot.now l.source c.source_of-next.result it.source next (c.goes_on.ensures.0 c.if-goes_on.true);
    }

pub read_snapshot-returns-in_err-map_range : goal.read_snapshot-returns-in_err-map_range
read_snapshot-returns-in_err-map_range g t c =
    let a = c.args in let l = c.chunks in let it = l.invariant in let keeps = target_keeps Read a.levels a.device 0 (Snapshot a.snapshot.now) in
    mapped_cut g.met.S.Sink.lawful keeps c.from_residual.ensures.0 it.so_far
    (run a.levels a.device l.from l.part a.snapshot.now l.source a.walker.now (mapped_still keeps it.so_far refl) c.requires.asked.inside.is it.some it.source c.in_err-map_range.ensures) it.some it.most

pub read_snapshot-chunks-preserved : goal.read_snapshot-chunks-preserved
read_snapshot-chunks-preserved g t c =
    let a = c.args in let w = a.walker.now in let l = c.chunks in let count = c.part_of_chunk-count.ensures in let n = c.part_of_chunk-count.result in let it = l.invariant in
    let keeps = target_keeps Read a.levels a.device 0 (Snapshot a.snapshot.now) in let same = mapped_still keeps it.so_far refl in let chunk_some = c.requires.asked.inside.sound.chunk_some in
    record {
      so_far = mapped_on g.met.S.Sink.lawful keeps it.so_far (run a.levels a.device l.from l.part a.snapshot.now l.source w same c.requires.asked.inside.is it.some it.source c.in_ok-map_range.ensures) it.some it.most
          (λ is more. parts_apart w.stack w.state a.levels a.device 0 (l.from + l.part) (Snapshot a.snapshot.now) (it.apart more));
      some = omega (arith, count, c.chunks-test.true, chunk_some);
      most = omega (arith, count);
      apart = λ more. other_chunk a.snapshot.now.chunk (l.from + l.part) n chunk_some (omega (arith, count, more));
      source = subst (λ (v : StackState). AreReadAt v.stack v.state a.device a.snapshot.now (l.from + l.part) n c.source_of-next.result) same c.source_of-next.ensures;
    }

pub read_snapshot-returns : goal.read_snapshot-returns
read_snapshot-returns g t c =
    let a = c.args in let w = a.walker.now in let l = c.chunks in let it = l.invariant in let keeps = target_keeps Read a.levels a.device 0 (Snapshot a.snapshot.now) in
    let whole : l.part ≡ l.left = omega (arith, it.most, c.chunks-test.false) in let some : 1 ≤ l.left = omega (arith, it.some, it.most) in
    mapped_last g.met.S.Sink.lawful keeps it.so_far
    (run a.levels a.device l.from l.left a.snapshot.now l.source w (mapped_still keeps it.so_far refl) c.requires.asked.inside.is some (subst (λ (n : ℕ). AreReadAt w.stack w.state a.device a.snapshot.now l.from n l.source) whole it.source) c.map_range-2.ensures) some

-- `map_origin`

pub map_origin-returns-in-Read : goal.map_origin-returns-in-Read
map_origin-returns-in-Read g t c =
    let a = c.args in let w = a.walker.now in
    record {
      walked = walked_as
          (ap (λ (op : Op). range_step w.stack op a.levels a.origin.now.to w.state a.sector a.len) c.in-Read.is ∙ sym (origin_read w.stack a.levels a.origin.now a.sector a.len w.state)
          ∙ ap (λ (op : Op). origin_step w.stack op a.levels a.origin.now w.state a.sector a.len) (sym c.in-Read.is)) c.map_range.ensures.walked;
      bounded = c.map_range.ensures.bounded;
    }

pub map_origin-returns-in-Write : goal.map_origin-returns-in-Write
map_origin-returns-in-Write g t c =
    let a = c.args in let walk = c.write_origin in
    subst (λ (op : Op). IsMapped g.S.Sink.past walk.result a.sink.now walk.new.sink a.walker.now walk.new.walker (origin_mapping op a.levels a.origin.now) a.sector a.len) (sym c.in-Write.is) walk.ensures

-- `write_origin`, part by part

pub write_origin-loop-left-init : goal.write_origin-loop-left-init
write_origin-loop-left-init g t c = record { so_far = mapped_none g.met.S.Sink.lawful refl; some = c.requires.asked.some }

pub write_origin-serve-requires : goal.write_origin-serve-requires
write_origin-serve-requires g t c =
    let a = c.args in let l = c.loop-left in let so_far = l.invariant.so_far in let walked = so_far.mapped.walked in
    record {
      over = line_overs a.walker.now.stack l.walker.stack a.origin.now c.as_slice-over.result.now a.sector a.len (l.from + 1) c.recall_soundness.ensures walked.stack c.as_slice-over.ensures c.requires.over c.requires.asked.inside (omega (arith, so_far.position, c.loop-left-test.true));
      sink = record { stack = walked.kept ∙ c.requires.asked.sink.stack ∙ sym walked.stack; room = omega arith };
    }

pub write_origin-returns-in_err-serve : goal.write_origin-returns-in_err-serve
write_origin-returns-in_err-serve g t c =
    let a = c.args in let l = c.loop-left in
    mapped_cut g.met.S.Sink.lawful (λ is. absurd cc) c.from_residual.ensures.0 l.invariant.so_far (serve_failed a.levels l.from l.left a.origin.now c.as_slice-over.ensures (omega (arith, c.loop-left-test.true)) c.in_err-serve.ensures.walked)
    (omega (arith, c.loop-left-test.true)) (omega arith)

pub write_origin-settled_part-part-requires : goal.write_origin-settled_part-part-requires
write_origin-settled_part-part-requires g t c =
    let a = c.args in let w = a.walker.now in let l = c.loop-left in let most = c.min.result in
    let small = lower_small w.stack a.origin.now.to c.recall_soundness.ensures in
    record {
      over = line_overs w.stack c.serve.new.walker.stack a.origin.now c.as_slice-over.result.now a.sector a.len (l.from + most) c.recall_soundness.ensures (c.in_ok-serve.ensures.walked.stack ∙ l.invariant.so_far.mapped.walked.stack) c.as_slice-over.ensures c.requires.over c.requires.asked.inside (omega (arith, l.invariant.so_far.position, c.min.ensures));
      some = omega (arith, c.min.ensures, c.loop-left-test.true, l.invariant.some);
      small = omega (arith, small, c.requires.asked.inside, l.invariant.so_far.position, c.min.ensures);
      here = c.in_ok-serve.ensures.settled;
    }

pub write_origin-map_range-requires : goal.write_origin-map_range-requires
write_origin-map_range-requires g t c κs within =
    let a = c.args in let l = c.loop-left in let s = c.settled_part-part.ensures in let n = c.settled_part-part.result in let sink = c.requires.asked.sink in
    let so_far = l.invariant.so_far in let walked = so_far.mapped.walked in let served = c.in_ok-serve.ensures.walked in
    let stack : c.serve.new.walker.stack ≡ a.walker.now.stack = served.stack ∙ walked.stack in
    let asked : AreAsked g.S.Sink.past c.serve.new.sink c.serve.new.walker.stack a.origin.now.to l.from n = record {
      some = s.some;
      inside = subst (λ (d : Description). l.from + n ≤ lower_len d a.origin.now.to) (sym stack) (omega (arith, s.most, c.min.ensures, c.requires.asked.inside, so_far.position));
      sink = record { stack = served.kept ∙ walked.kept ∙ sink.stack ∙ sym stack; room = omega (arith, s.most, c.min.ensures, sink.room, walked.room, served.room, so_far.within) };
    } in
    search rules

pub write_origin-returns-in_err-map_range : goal.write_origin-returns-in_err-map_range
write_origin-returns-in_err-map_range g t c =
    let a = c.args in let l = c.loop-left in let s = c.settled_part-part.ensures in
    mapped_cut g.met.S.Sink.lawful (λ is. absurd cc) c.from_residual-in_err-map_range.ensures.0 l.invariant.so_far
    (part_mapped g.met.S.Sink.lawful a.levels l.from c.settled_part-part.result a.origin.now c.as_slice-over.ensures s.some c.in_ok-serve.ensures.walked s.holds c.in_err-map_range.ensures) s.some (omega (arith, s.most, c.min.ensures))

pub write_origin-overflow_add-from : goal.write_origin-overflow_add-from
write_origin-overflow_add-from g t c =
    let small = lower_small c.args.walker.now.stack c.args.origin.now.to c.recall_soundness.ensures in
    omega (arith, small, c.requires.asked.inside, c.loop-left.invariant.so_far.position, c.settled_part-part.ensures.most, c.min.ensures)

pub write_origin-overflow_mul-most : goal.write_origin-overflow_mul-most
write_origin-overflow_mul-most g t c =
    let small = lower_small c.args.walker.now.stack c.args.origin.now.to c.recall_soundness.ensures in
    omega (arith, small, c.requires.asked.inside, c.loop-left.invariant.so_far.within, c.settled_part-part.ensures.most, c.min.ensures)

pub write_origin-loop-left-preserved : goal.write_origin-loop-left-preserved
write_origin-loop-left-preserved g t c =
    let a = c.args in let l = c.loop-left in let s = c.settled_part-part.ensures in
    record {
      so_far = mapped_on g.met.S.Sink.lawful (λ is. absurd cc) l.invariant.so_far
          (part_mapped g.met.S.Sink.lawful a.levels l.from c.settled_part-part.result a.origin.now c.as_slice-over.ensures s.some c.in_ok-serve.ensures.walked s.holds c.in_ok-map_range.ensures) s.some (omega (arith, s.most, c.min.ensures)) (λ is. absurd cc);
      some = omega (arith, s.some);
    }
