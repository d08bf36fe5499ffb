use Rattle.dm_map.proofs.Prelude.{rules, ℕ, Some, sym, ap, subst, refl, ◌∙◌, arith, Read, ResolvedTarget, Lower, Device, Beneath, IsOriginSound, IsTargetSound, found_at, lower_len, AreInside, shorter, Ground, Stretch, Step, keep, ground_unit, IsFirst, IsFirstOf, IsGroundInStack, units_in, StackState, WalkerView, stack_state, line_step, range_step, device_there, disk_there}
use Rattle.dm_map.specs.declared.walk.stretch.Ground.TheVariants as grounds
use Rattle.dm_map.proofs.walk.Ranges.{beneath_as, leg_errors, leg_lies, leg_zeros, line_served, origin_read, range_deepest, range_disk, range_line}
use Rattle.dm_map.proofs.walk.Chunks.{chunk_read, in_one_chunk, in_snapshot, lost_read}
use Rattle.dm_map.proofs.walk.LineRanges.{line_sectors}
use Rattle.dm_map.proofs.walk.Rows.{added_then, none_added}
use Rattle.dm_map.proofs.walk.stretch.+stretch.Goals as goal
use Rattle.std.specs.Prelude.{◌≡◌, ◌+◌, ◌-◌, ◌<◌, ◌≤◌}

-- A first stretch that is known without a look-up, and one that follows from a stretch below

known : (walk : WalkerView) (reads : ℕ → Step) (n len : ℕ) (ground : Ground) → 1 ≤ n → n ≤ len → reads n ≡ keep (units_in (ground_unit ground) n) walk.state → IsGroundInStack walk.stack ground n → IsFirst walk walk reads len (record { ground = ground; len = n })
known walk reads n len ground some most read lies = record { some = some; most = most; read = read; lies = lies; same = refl; looked = none_added walk.looked }

below : (before after : WalkerView) (reads reads_below : ℕ → Step) (part len : ℕ) (stretch : Stretch) → IsFirst before after reads_below part stretch → part ≤ len → reads stretch.len ≡ reads_below stretch.len → IsFirst before after reads len stretch
below before after reads reads_below part len stretch s few is = record { some = s.some; most = omega (arith, s.most, few); read = is ∙ s.read; lies = s.lies; same = s.same; looked = s.looked }

-- `first_stretch` on a disk, and `device_stretch`

pub first_stretch-returns-in-Disk : goal.first_stretch-returns-in-Disk
first_stretch-returns-in-Disk g t c =
    let a = c.args in let w = a.walker.now in
    let inside = subst (λ (lower : Lower). a.sector + a.len ≤ lower_len w.stack lower) c.in-Disk.is c.requires.inside in
    known w _ a.len a.len (grounds.Disk c.in-Disk.disk a.sector) c.requires.some (omega arith)
    (ap (λ (lower : Lower). range_step w.stack Read a.levels lower w.state a.sector a.len) c.in-Disk.is ∙ range_disk w.stack Read a.levels c.in-Disk.disk a.sector a.len w.state)
    (record { there = disk_there w.stack c.in-Disk.disk a.sector (omega (arith, inside, c.requires.some)); inside = inside })

pub first_stretch-device_stretch-requires : goal.first_stretch-device_stretch-requires
first_stretch-device_stretch-requires g t c κs within =
    let a = c.args in
    let inside : a.sector + a.len ≤ lower_len a.walker.now.stack (Device c.in-Device.device) = subst (λ (lower : Lower). a.sector + a.len ≤ lower_len a.walker.now.stack lower) c.in-Device.is c.requires.inside in
    search rules

pub first_stretch-returns-in-Device : goal.first_stretch-returns-in-Device
first_stretch-returns-in-Device g t c =
    let a = c.args in let w = a.walker.now in let s = c.device_stretch in
    subst (λ (lower : Lower). IsFirstOf w s.new.walker a.levels lower a.sector a.len s.result) (sym c.in-Device.is) s.ensures

pub device_stretch-returns-then-levels-eq0 : goal.device_stretch-returns-then-levels-eq0
device_stretch-returns-then-levels-eq0 g t c =
    let a = c.args in let w = a.walker.now in
    known w _ a.len a.len grounds.Fails c.requires.some (omega arith) (range_deepest w.stack Read a.levels a.device a.sector a.len w.state c.if-levels-eq0.true) tt

pub device_stretch-look-line-requires-clause-device : goal.device_stretch-look-line-requires-clause-device
device_stretch-look-line-requires-clause-device g t c =
    let a = c.args in device_there a.walker.now.stack a.device a.sector (omega (arith, c.requires.inside, c.requires.some))

pub device_stretch-returns : goal.device_stretch-returns
device_stretch-returns g t c =
    let a = c.args in let w = a.walker.now in let line = c.look-line.result.now in let s = c.line_stretch.ensures in let n = c.line_stretch.result.len in let of = c.look-line.ensures.line in
    let each : (i : ℕ) → i < n → found_at w.stack a.device (a.sector + i) ≡ Some line = λ i within.
    of.is.all (a.sector + i) (omega (arith, of.from)) (omega (arith, of.from, of.before, c.part_in-part.ensures, s.most, within)) in
    let looked : (look : StackState → Step) → look (stack_state c.look-line.new.self) ≡ look (stack_state w) = λ look. ap look c.look-line.ensures.same in
    record {
      some = s.some;
      most = omega (arith, s.most, c.part_in-part.ensures);
      read = range_line w.stack Read a.levels (a.levels - 1) a.device a.sector n w.state line (omega (arith, c.if-levels-eq0.false)) refl of.from each
          ∙ sym (looked (λ v. line_step v.stack Read (a.levels - 1) a.device line.target v.state (a.sector - line.start) n)) ∙ s.read
          ∙ looked (λ v. keep (units_in (ground_unit c.line_stretch.result.ground) n) v.state);
      lies = subst (λ (v : StackState). IsGroundInStack v.stack c.line_stretch.result.ground n) c.look-line.ensures.same s.lies;
      same = s.same ∙ c.look-line.ensures.same;
      looked = added_then w.looked c.look-line.new.self.looked c.line_stretch.new.walker.looked c.look-line.ensures.looked s.looked;
    }

-- `line_stretch`, by what lies below the first leg of the line

pub line_stretch-leg-below-requires-clause-there : goal.line_stretch-leg-below-requires-clause-there
line_stretch-leg-below-requires-clause-there g t c =
    let a = c.args in line_sectors a.walker.now.stack a.device a.distance a.len a.line.now c.recall_soundness.ensures c.requires.line c.requires.inside

pub line_stretch-first_stretch-requires : goal.line_stretch-first_stretch-requires
line_stretch-first_stretch-requires g t c κs within =
    let a = c.args in let w = a.walker.now in
    let some = c.leg-below.ensures.leg.some in
    let inside : c.in-Lies.sector + c.leg-below.result.len ≤ lower_len w.stack c.in-Lies.to = subst (λ (b : Beneath). AreInside w.stack c.leg-below.result.len b) c.in-Lies.is (c.leg-below.ensures.inside w.stack a.device a.line.now.start a.line.now.len c.requires.line.target c.requires.inside) in
    search rules

pub line_stretch-returns-in-Lies : goal.line_stretch-returns-in-Lies
line_stretch-returns-in-Lies g t c =
    let a = c.args in let w = a.walker.now in let leg = c.leg-below.ensures.leg in let s = c.first_stretch.ensures in
    let on = beneath_as a.line.now.target a.distance c.leg-below.result.len _ _ c.in-Lies.is leg.is in
    below w _ _ _ c.leg-below.result.len a.len _ s leg.within (leg_lies w.stack Read a.levels a.device a.line.now.target c.in-Lies.to a.distance c.in-Lies.sector c.first_stretch.result.len w.state (shorter a.line.now.target a.distance c.first_stretch.result.len c.leg-below.result.len _ s.most on))

pub line_stretch-returns-in-Zeros : goal.line_stretch-returns-in-Zeros
line_stretch-returns-in-Zeros g t c =
    let a = c.args in let w = a.walker.now in let leg = c.leg-below.ensures.leg in
    known w _ c.leg-below.result.len a.len grounds.Zeros leg.some leg.within
    (leg_zeros w.stack Read a.levels a.device a.line.now.target a.distance c.leg-below.result.len w.state (beneath_as a.line.now.target a.distance c.leg-below.result.len _ _ c.in-Zeros.is leg.is)) tt

pub line_stretch-returns-in-Errors : goal.line_stretch-returns-in-Errors
line_stretch-returns-in-Errors g t c =
    let a = c.args in let w = a.walker.now in let leg = c.leg-below.ensures.leg in
    known w _ c.leg-below.result.len a.len grounds.Fails leg.some leg.within
    (leg_errors w.stack Read a.levels a.device a.line.now.target a.distance c.leg-below.result.len w.state (beneath_as a.line.now.target a.distance c.leg-below.result.len _ _ c.in-Errors.is leg.is)) tt

-- the first leg is an origin's
pub line_stretch-first_stretch-requires-in-Origin : goal.line_stretch-first_stretch-requires-in-Origin
line_stretch-first_stretch-requires-in-Origin g t c κs within =
    let a = c.args in let leg = c.leg-below.ensures.leg in
    let some = leg.some in
    let kind = beneath_as a.line.now.target a.distance c.leg-below.result.len _ _ c.in-Origin.is leg.is in
    let it : IsOriginSound a.walker.now.stack a.device a.line.now.start a.line.now.len c.in-Origin.origin.now = subst (λ (target : ResolvedTarget). IsTargetSound a.walker.now.stack a.device a.line.now.start a.line.now.len target) kind c.requires.line.target in
    let same = it.same in
    let there : a.distance + c.leg-below.result.len ≤ lower_len a.walker.now.stack c.in-Origin.origin.now.to = omega (arith, same, leg.within, c.requires.inside) in
    search rules

pub line_stretch-returns-in-Origin : goal.line_stretch-returns-in-Origin
line_stretch-returns-in-Origin g t c =
    let a = c.args in let w = a.walker.now in let n = c.first_stretch-in-Origin.result.len in let leg = c.leg-below.ensures.leg in
    let kind = beneath_as a.line.now.target a.distance c.leg-below.result.len _ _ c.in-Origin.is leg.is in
    below w _ _ _ c.leg-below.result.len a.len _ c.first_stretch-in-Origin.ensures leg.within
    (ap (λ target. line_step w.stack Read a.levels a.device target w.state a.distance n) kind ∙ line_served w.stack Read a.levels a.device c.in-Origin.origin.now a.distance n w.state ∙ origin_read w.stack a.levels c.in-Origin.origin.now a.distance n w.state)

-- the first leg is a snapshot's
pub line_stretch-read_at-requires : goal.line_stretch-read_at-requires
line_stretch-read_at-requires g t c =
    let a = c.args in let stack = a.walker.now.stack in let part = c.part_of_chunk-part.ensures in let leg = c.leg-below.ensures.leg in let most = c.leg-below.result.len in
    let kind = beneath_as a.line.now.target a.distance most _ _ c.in-Snapshot.is leg.is in
    let inside = in_snapshot stack a.device a.distance most a.line.now c.in-Snapshot.snapshot.now c.requires.line kind leg.some (omega (arith, leg.within, c.requires.inside)) in
    record { some = omega (arith, part, leg.some, inside.sound.chunk_some); chunk = in_one_chunk stack stack a.device a.distance most a.distance most c.part_of_chunk-part.result c.in-Snapshot.snapshot.now inside refl refl part }

pub line_stretch-returns-in-Some : goal.line_stretch-returns-in-Some
line_stretch-returns-in-Some g t c =
    let a = c.args in let w = a.walker.now in let s = c.first_stretch-in-Some.ensures in let n = c.first_stretch-in-Some.result.len in let leg = c.leg-below.ensures.leg in
    let kind = beneath_as a.line.now.target a.distance c.leg-below.result.len _ _ c.in-Snapshot.is leg.is in
    below w _ _ _ c.part_of_chunk-part.result a.len _ s (omega (arith, c.part_of_chunk-part.ensures, leg.within))
    (ap (λ target. line_step w.stack Read a.levels a.device target w.state a.distance n) kind
    ∙ chunk_read w.stack a.levels a.device a.distance n c.part_of_chunk-part.result c.in-Snapshot.snapshot.now w.state c.in-Some.source c.in-Some.ensures.source s.most)

pub line_stretch-returns-in-None : goal.line_stretch-returns-in-None
line_stretch-returns-in-None g t c =
    let a = c.args in let w = a.walker.now in let part = c.part_of_chunk-part.ensures in let leg = c.leg-below.ensures.leg in let most = c.leg-below.result.len in
    let kind = beneath_as a.line.now.target a.distance most _ _ c.in-Snapshot.is leg.is in
    let inside = in_snapshot w.stack a.device a.distance most a.line.now c.in-Snapshot.snapshot.now c.requires.line kind leg.some (omega (arith, leg.within, c.requires.inside)) in
    known w _ c.part_of_chunk-part.result a.len grounds.Fails (omega (arith, part, leg.some, inside.sound.chunk_some)) (omega (arith, part, leg.within))
    (ap (λ target. line_step w.stack Read a.levels a.device target w.state a.distance c.part_of_chunk-part.result) kind
    ∙ lost_read w.stack a.levels a.device a.distance c.part_of_chunk-part.result c.in-Snapshot.snapshot.now w.state c.in-None.ensures.lost) tt
