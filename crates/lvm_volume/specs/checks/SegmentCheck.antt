-- Which segments a `SegmentCheck` refuses.
use Rattle.lvm_volume.specs.Base.{Bool, Segment}
use Rattle.lvm_volume.specs.declared.checks.segment_check.SegmentCheck.{SegmentCheck}
use Rattle.lvm_volume.specs.declared.checks.segment_check.SegmentCheck.TheVariants.{Unknown, Snapshot}
use Rattle.lvm_volume.specs.checks.Extents.{is_unknown}
use Rattle.lvm_volume.specs.group.Roles.{is_bad_snapshot}

-- the check refuses the segment; `alone` is true if the segment is the only one of its volume
abbrev pub test_of : SegmentCheck → (alone : Bool) → Segment → Bool
test_of (Unknown physicals volumes) alone segment = is_unknown physicals volumes segment
test_of (Snapshot volumes all) alone segment = is_bad_snapshot volumes.now all.now alone segment
