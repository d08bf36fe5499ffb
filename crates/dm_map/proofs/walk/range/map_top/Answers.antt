use Rattle.dm_map.proofs.Prelude.{false, refl, sym, ap, subst, ◌∙◌, arith, ResolvedTarget, Snapshot, Device, Description, IsLineOf, IsSnapshotSound, IsTargetSound, device_there, StackState, range_mapping, AreAsked, IsAtLine, refuses, MOST_DEPTH}
use Rattle.dm_map.proofs.walk.Bounds.{mapped_line, mapped_target}
use Rattle.dm_map.proofs.walk.HomeLemmas.{home_mapped, mapped_over}
use Rattle.dm_map.proofs.walk.Ranges.{range_refused}
use Rattle.dm_map.proofs.walk.WalkedOn.{mapped_after_look, mapped_handed}
use Rattle.dm_map.proofs.walk.range.map_top.Goals as goal
use Rattle.std.specs.Prelude.{◌≡◌, ◌-◌}

pub returns-then-refuses : goal.returns-then-refuses
returns-then-refuses g c =
    let a = c.args in let w = a.walker.now in
    mapped_over w.stack a.op a.len c.handed.ensures (mapped_handed (range_mapping a.op MOST_DEPTH (Device a.device)) refl (sym (range_refused w.stack a.op MOST_DEPTH a.device a.sector a.len w.state (sym c.refuses.ensures ∙ c.if-refuses.true))) c.fail.ensures)

pub look-line-requires-clause-device : goal.look-line-requires-clause-device
look-line-requires-clause-device g c = device_there c.args.walker.now.stack c.args.device c.args.sector (omega (arith, c.requires.inside, c.requires.some))

pub home_in-requires-clause-line : goal.home_in-requires-clause-line
home_in-requires-clause-line g c = subst (λ (s : Description). IsLineOf s c.args.device c.look-line.result.now c.args.sector) (sym (ap (λ (v : StackState). v.stack) c.look-line.ensures.same)) c.look-line.ensures.line

pub map_lines-requires : goal.map_lines-requires
map_lines-requires g c =
    let a = c.args in let look = c.look-line.ensures in let line = c.look-line.result.now in
    let stack : c.look-line.new.self.stack ≡ a.walker.now.stack = ap (λ (v : StackState). v.stack) look.same in
    record {
      at = subst (λ (v : StackState). IsAtLine v.stack a.op MOST_DEPTH a.device line a.sector) (sym look.same) (record { deep = omega arith; passes = sym c.refuses.ensures ∙ c.if-refuses.false; of = look.line });
      asked = subst (λ (s : Description). AreAsked g.S.Sink.past a.sink.now s (Device a.device) a.sector a.len) (sym stack) c.requires;
    }

pub returns-in-Some : goal.returns-in-Some
returns-in-Some g c =
    let a = c.args in let look = c.look-line.ensures in let line = c.look-line.result.now in let w = c.look-line.new.self in
    let stack : w.stack ≡ a.walker.now.stack = ap (λ (v : StackState). v.stack) look.same in
    mapped_after_look (range_mapping a.op MOST_DEPTH (Device a.device)) refl look.same look.looked look.one
    (home_mapped g.S.Sink.past a.sink.now w a.op a.device a.sector a.len line c.in-Some.home a.walker.now.stack (sym stack)
    (subst (λ (s : Description). refuses s a.op a.device ≡ false) (sym stack) (sym c.refuses.ensures ∙ c.if-refuses.false))
    (subst (λ (s : Description). IsLineOf s a.device line a.sector) (sym stack) look.line) c.requires.some
    (omega (arith, c.if-len-line.true, look.line.from, look.line.before)) c.in-Some.ensures)

pub returns-in-Snapshot : goal.returns-in-Snapshot
returns-in-Snapshot g c =
    let a = c.args in let look = c.look-line.ensures in let line = c.look-line.result.now in let w = c.look-line.new.self in let snapshot = c.in-Snapshot.snapshot in
    let stack : w.stack ≡ a.walker.now.stack = ap (λ (v : StackState). v.stack) look.same in
    let of : IsLineOf w.stack a.device line a.sector = subst (λ (s : Description). IsLineOf s a.device line a.sector) (sym stack) look.line in
    let sound : IsSnapshotSound w.stack a.device line.start line.len snapshot = subst (λ (t : ResolvedTarget). IsTargetSound w.stack a.device line.start line.len t) c.in-Snapshot.is of.is.target in
    mapped_over a.walker.now.stack a.op a.len c.handed-in-Snapshot.ensures
    (mapped_after_look (range_mapping a.op MOST_DEPTH (Device a.device)) refl look.same look.looked look.one
    (mapped_line a.op MOST_DEPTH (MOST_DEPTH - 1) a.device a.sector a.len line (omega arith)
    (subst (λ (s : Description). refuses s a.op a.device ≡ false) (sym stack) (sym c.refuses.ensures ∙ c.if-refuses.false))
    of c.requires.some (omega (arith, c.if-len-line.true, look.line.from, look.line.before))
    (mapped_target a.op (MOST_DEPTH - 1) a.device line.start 0 line.target (Snapshot snapshot) sound.from c.in-Snapshot.is c.map_snapshot.ensures)))

pub returns : goal.returns
returns g c =
    let a = c.args in let look = c.look-line.ensures in mapped_over a.walker.now.stack a.op a.len c.handed-2.ensures (mapped_after_look (range_mapping a.op MOST_DEPTH (Device a.device)) refl look.same look.looked look.one c.map_lines.ensures)
