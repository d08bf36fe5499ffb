use Rattle.dm_map.proofs.walk.stretch.+stretch.Given as goal
use Rattle.std.specs.Prelude.{◌+◌, ◌*◌}

abbrev pub decreases-first_stretch : goal.decreases-first_stretch
decreases-first_stretch g l = 3 * l.levels + 1

abbrev pub decreases-device_stretch : goal.decreases-device_stretch
decreases-device_stretch g l = 3 * l.levels

abbrev pub decreases-line_stretch : goal.decreases-line_stretch
decreases-line_stretch g l = 3 * l.levels + 2
