use Rattle.dmremap.proofs.Prelude.{ℕ, List, Some, refl, slice_get, slice_get_read, DiskPath}
use Rattle.dmremap.proofs.ListedLemmas.{read_there}
use Rattle.dmremap.proofs.listed_images.ListedImagesDisks.read.Goals as goal
use Rattle.std.specs.Prelude.{◌≡◌}

-- a list equal to the one that was searched has the same path at this index
path_there : (xs paths : List DiskPath) (i : ℕ) (path : DiskPath) → xs ≡ paths → slice_get xs i ≡ Some path → slice_get paths i ≡ Some path
path_there xs paths i path same is = rw (← same) is

pub returns-clause-is : goal.returns-clause-is
returns-clause-is g c = λ held seen.
    let path = c.in-Some.path.now in
    let there = path_there c.deref.result.now c.args.self.now.paths.items c.args.disk path c.deref.ensures.value (slice_get_read c.deref.result.now _ c.args.disk path refl c.in-Some.ensures.lookup.3.0 c.in-Some.ensures.lookup.1) in
    let same = read_there (held c.args.disk) seen.held c.args.self.now.paths.items path c.args.disk c.args.sector c.read_extent.result c.read_extent.new.into (seen.same c.args.disk) there in
    same.0 (rw c.as_str.ensures at (c.read_extent.ensures.is seen.held seen.seen))

pub returns-clause-seen : goal.returns-clause-seen
returns-clause-seen g c = λ held seen said.
    let path = c.in-Some.path.now in
    let there = path_there c.deref.result.now c.args.self.now.paths.items c.args.disk path c.deref.ensures.value (slice_get_read c.deref.result.now _ c.args.disk path refl c.in-Some.ensures.lookup.3.0 c.in-Some.ensures.lookup.1) in
    let same = read_there (held c.args.disk) seen.held c.args.self.now.paths.items path c.args.disk c.args.sector c.read_extent.result c.read_extent.new.into (seen.same c.args.disk) there in
    record { held = seen.held; seen = c.read_extent.ensures.seen seen.held seen.seen (rw c.as_str.ensures (same.1 said)); same = seen.same }
