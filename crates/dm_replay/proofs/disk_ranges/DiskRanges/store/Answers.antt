use Rattle.dm_replay.proofs.Prelude.{spanned, stored_in}
use Rattle.dm_replay.proofs.StoredLemmas.{view_is, view_shows}
use Rattle.dm_replay.proofs.disk_ranges.DiskRanges.store.Goals as goal

pub returns : goal.returns
returns c sector =
    let a = c.args in let old = c.self.inside.ranges in let new = c.store_in.new.ranges in
    rw (← c.self.view_is) (view_is new (spanned (stored_in old.entries) a.start a.range.len a.range.first) c.store_in.ensures.apart (c.in_ok-store_in.ensures.stored (stored_in old.entries) (view_shows old c.self.invariant)) sector)
