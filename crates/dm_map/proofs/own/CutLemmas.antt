-- Power cuts: no read from a root reaches a sector without data, and chunks taken ahead change nothing that roots read, except into errors.
use Rattle.dm_map.proofs.Prelude.{ℕ, true, false, List, Option, sym, ap, subst, ◌∙◌, arith, AllByRecursion, div-add-mod', same_from_place, true≢false, Lower, Device, ResolvedSnapshot, IsSound, IsTidy, Description, is_metadata, place, place_data, Stays, Values, played, value_read, HaveSameData, IsOfSnapshot, IsSpareSector, take_chunks, IsListSector, Due, AreOwn, Rows, node, ReadOf, IsFitting, store_sector, State, taken_at, read}
use Rattle.dm_map.proofs.own.HomeLemmas.{fresh_apart}
use Rattle.dm_map.proofs.own.Losses.{stays_on}
use Rattle.dm_map.proofs.own.TakenInARow.{grown_same, ran, run_stays, value_kept}
use Rattle.dm_map.proofs.own.UniqueSteps.{IsRoot, top_root}
use Rattle.dm_map.proofs.own.WayLemmas.{read_touches}
use Rattle.dm_map.proofs.state.ResolvedLines.{snapshot_sound}
use Rattle.dm_map.proofs.state.TableLemmas.{number_within}
use Rattle.std.specs.Prelude.{◌≡◌, ◌+◌, ◌*◌, ◌/◌, ◌%◌, ◌<◌}

-- Disk sectors that hold no data

-- the store sector of a taken chunk's sector lies in the store chunk that belongs to the chunk's number
pub in_place : (snapshot : ResolvedSnapshot) (number sector : ℕ) → 0 < snapshot.chunk → store_sector snapshot number sector / snapshot.chunk ≡ place snapshot.kind snapshot.chunk number
in_place snapshot number sector some =
    let at = store_sector snapshot number sector in
    let whole : at / snapshot.chunk * snapshot.chunk + at % snapshot.chunk ≡ at = div-add-mod' at snapshot.chunk in
    (same_from_place (at / snapshot.chunk) (at % snapshot.chunk) (place snapshot.kind snapshot.chunk number) (sector % snapshot.chunk) snapshot.chunk (omega (arith, some)) (omega (arith, some)) whole).0

-- a metadata chunk of the store is never the place of a taken chunk
pub list_no_place : (snapshot : ResolvedSnapshot) (number at : ℕ) → 0 < snapshot.chunk → is_metadata snapshot.kind snapshot.chunk at ≡ true → at ≡ place snapshot.kind snapshot.chunk number → ⊥
list_no_place snapshot number at some list same =
    true≢false (sym list ∙ ap (is_metadata snapshot.kind snapshot.chunk) same ∙ place_data snapshot.kind snapshot.chunk number some)

pub list_spare : (stack : Description) (state : State) (disk sector : ℕ) → IsSound stack → IsListSector stack disk sector → IsSpareSector stack state disk sector
list_spare stack state disk sector sound list =
    let some = (snapshot_sound stack list.device list.snapshot sound list.over).soundly.chunk_some in
    record {
      device = list.device;
      snapshot = list.snapshot;
      over = list.over;
      at = list.at;
      inside = list.inside;
      free = λ number taken same. list_no_place list.snapshot number (list.at / list.snapshot.chunk) some list.list same;
      home = list.home;
    }

pub spare_unread : (stack : Description) (state : State) (lower : Lower) (sector disk at : ℕ) → IsSound stack → IsFitting stack state → IsTidy stack → IsRoot stack lower → IsSpareSector stack state disk at → read stack state lower sector ≡ ReadOf disk at → ⊥
spare_unread stack state lower sector disk at sound fitting tidy root spare is =
    let some = (snapshot_sound stack spare.device spare.snapshot sound spare.over).soundly.chunk_some in
    fresh_apart stack state (node lower sector) spare.device spare.snapshot spare.at sound fitting tidy spare.over root spare.inside
    (λ t i taken same. spare.free i (number_within (t / spare.snapshot.chunk) (taken_at state spare.device).chunks i taken) (ap (λ (x : ℕ). x / spare.snapshot.chunk) same ∙ in_place spare.snapshot i t some))
    (rw spare.home (read_touches stack state lower sector disk at sound is))

pub spare_own : {V : Type 0} (zeros : V) (stack : Description) (state : State) (values others : Values V) (rows : Rows V) → IsSound stack → IsTidy stack → AreOwn zeros stack state values rows → HaveSameData stack state values others → AreOwn zeros stack state others rows
spare_own {V = V} zeros stack state values others rows sound tidy own same = record {
  fits = own.fits;
  tops = λ top sector is_top.
      let kept : value_read zeros others (read stack state (Device top) sector) ≡ value_read zeros values (read stack state (Device top) sector) =
      value_kept zeros values others (read stack state (Device top) sector)
      (λ disk at is. same disk at (λ spare. spare_unread stack state (Device top) sector disk at sound own.fits tidy (top_root stack top sound is_top) spare is)) in
      subst (λ (v : Option V). Stays (rows top sector) v) (sym kept) (own.tops top sector is_top);
}

-- Chunks that are taken ahead of writes

pub ahead_own : {V : Type 0} (zeros : V) (written : ℕ → V) (stack : Description) (state : State) (sector : ℕ) (chunks : List Due) (values : Values V) (rows : Rows V) → IsSound stack → IsTidy stack → AllByRecursion (IsOfSnapshot stack) chunks → AreOwn zeros stack state values rows
    → AreOwn zeros stack (take_chunks stack chunks state).state (played zeros written sector (take_chunks stack chunks state).units values) rows
ahead_own zeros written stack state sector chunks values rows sound tidy each own = record {
  fits = (ran stack state state chunks sound own.fits own.fits tidy (grown_same state) each).fits;
  tops = λ top at is_top.
      stays_on _ _ _ (own.tops top at is_top) (run_stays zeros written sector stack state chunks values (Device top) at sound own.fits tidy each (top_root stack top sound is_top));
}
