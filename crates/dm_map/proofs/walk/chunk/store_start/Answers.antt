use Rattle.dm_map.proofs.Prelude.{arith, place, place_within}
use Rattle.dm_map.proofs.walk.chunk.store_start.Goals as goal
use Rattle.std.specs.Prelude.{◌≡◌, ◌+◌, ◌*◌}

pub place-requires : goal.place-requires
place-requires c =
    let snapshot = c.args.snapshot.now in let at = place snapshot.kind snapshot.chunk c.args.number in
    let within = place_within snapshot.kind snapshot.chunk c.args.number (omega (arith, c.sectors-sectors.ensures)) in
    let sum : (at + 1) * snapshot.chunk ≡ at * snapshot.chunk + snapshot.chunk = grind arith in
    omega (arith, within, sum, c.requires)
