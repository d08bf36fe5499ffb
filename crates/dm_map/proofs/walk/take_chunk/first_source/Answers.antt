use Rattle.dm_map.proofs.Prelude.{true, length, refl, sym, ap, ◌∙◌, arith, and_from, and_right, not-false, has_place, taken_at, room_of, reads_all, lower_small}
use Rattle.dm_map.proofs.walk.Chunks.{snapshot_device}
use Rattle.dm_map.proofs.walk.ChunkCopies.{fails_on, first_seen, reads_on}
use Rattle.dm_map.proofs.walk.Rows.{added_then}
use Rattle.dm_map.proofs.walk.take_chunk.first_source.Goals as goal
use Rattle.std.specs.Prelude.{◌≡◌, ◌+◌, ◌-◌}

pub is_full-requires : goal.is_full-requires
is_full-requires g c = snapshot_device c.requires.inside c.requires.some

pub sources-init : goal.sources-init
sources-init g c =
    let a = c.args in let w = a.walker.now in let s = c.first_stretch-first in
    record {
      rest = refl;
      position = refl;
      source = first_seen w w s.new.walker a.snapshot.now.origin a.sector a.len s.result refl s.ensures;
      same = s.ensures.same;
      looked = s.ensures.looked;
    }

pub returns-in-Fails-clause-can_take : goal.returns-in-Fails-clause-can_take
returns-in-Fails-clause-can_take g c =
    let a = c.args in let l = c.sources in
    sym (and_right _ _ (l.invariant.rest ∙ fails_on a.walker.now a.snapshot.now.origin l.at l.left l.source l.invariant.source c.in-Fails.is))

pub returns-then-source-left-clause-can_take : goal.returns-then-source-left-clause-can_take
returns-then-source-left-clause-can_take g c =
    let a = c.args in let w = a.walker.now in let l = c.sources in let n = l.source.len in
    let place : has_place w.stack a.snapshot.now (length (taken_at w.state a.device).chunks) ≡ true =
    ap (λ of. room_of w.stack of (length (taken_at w.state a.device).chunks)) (sym c.requires.inside.is) ∙ not-false _ (sym c.is_full.ensures ∙ c.if-is_full.false) in
    let none : l.left - n ≡ 0 = omega (arith, c.if-source-left.true) in
    sym (and_from _ _ place (l.invariant.rest ∙ reads_on w a.snapshot.now.origin l.at n l.left l.source l.invariant.source c.in_default.not-Fails l.invariant.source.some (omega arith) ∙ ap (reads_all w.stack w.state a.snapshot.now.origin (l.at + n)) none))

pub returns-then-source-left-clause-first : goal.returns-then-source-left-clause-first
returns-then-source-left-clause-first g c =
    let a = c.args in let s = c.first_stretch-first in
    first_seen c.sources.walker a.walker.now s.new.walker a.snapshot.now.origin a.sector a.len s.result (sym c.sources.invariant.same) s.ensures

pub overflow_add-at : goal.overflow_add-at
overflow_add-at g c =
    let small = lower_small c.args.walker.now.stack c.args.snapshot.now.origin c.recall_soundness.ensures in
    omega (arith, small, c.requires.inside.inside, c.requires.inside.sound.origin, c.sources.invariant.position, c.sources.invariant.source.most)

pub sources-preserved : goal.sources-preserved
sources-preserved g c =
    let a = c.args in let w = a.walker.now in let l = c.sources in let n = l.source.len in let s = c.first_stretch-source in
    record {
      rest = l.invariant.rest ∙ reads_on w a.snapshot.now.origin l.at n l.left l.source l.invariant.source c.in_default.not-Fails l.invariant.source.some (omega arith);
      position = omega (arith, l.invariant.position, l.invariant.source.most);
      source = first_seen w l.walker s.new.walker a.snapshot.now.origin (l.at + n) (l.left - n) s.result l.invariant.same s.ensures;
      same = s.ensures.same ∙ l.invariant.same;
      looked = added_then w.looked l.walker.looked s.new.walker.looked l.invariant.looked s.ensures.looked;
    }
