-- Each step of a read follows a claim: a span of a line without state, the store or the origin of a snapshot, or the line of an origin.
use Rattle.dm_map.proofs.Prelude.{ℕ, [], Some, length, refl, sym, ap, ◌∙◌, arith, slice_get, DevRef, Line, Target, Use, Own, Reading, Serving, ResolvedLine, ResolvedOrigin, ResolvedSnapshot, Lower, target_spans, whole_span, IsTargetSound, Lies, below_plain, found_at, resolved_line, resolved_target, holds, line_of, Description, lines_at, lower_len, lower_of, origin_over, resolved_snapshot, IsSound, IsNamed, IsVia, origin_at, snapshot_at, Origin, Snapshot}
use Rattle.dm_table.specs.declared.tables.table.Target.TheVariants as targets
use Rattle.dm_stack.proofs.Parts.{found_place}
use Rattle.dm_map.proofs.state.ResolvedLines.{first_line, first_origin, line_sound, origin_sound, snapshot_sound, some_line}
use Rattle.dm_map.proofs.walk.Spans.{IsPlainStep, plain_before, plain_span, span_distance, span_index}
use Rattle.std.specs.Prelude.{◌≡◌, ◌+◌, ◌-◌, ◌<◌, ◌∷◌}

-- Steps through a line without state

pub record IsLineVia (stack : Description) (device sector : ℕ) (line : ResolvedLine) (lower : Lower) (at : ℕ) : Type 0 where
  pub index : ℕ
  pub it : Line
  pub is : resolved_line stack it ≡ line
  pub via : IsVia stack device index (span_index line.target (sector - line.start)) it lower at Own
  pub lies : at ≡ via.span.offset + span_distance line.target (sector - line.start)

pub via_line : (stack : Description) (device sector : ℕ) (line : ResolvedLine) (lower : Lower) (at : ℕ) → IsSound stack → found_at stack device sector ≡ Some line → IsPlainStep line.target (sector - line.start) lower at → IsLineVia stack device sector line lower at
via_line stack device sector line lower at sound is step =
    let raw = some_line stack (line_of (lines_at stack device) sector) line is in
    let index = found_place (holds sector) (lines_at stack device) raw.0 raw.1 in
    let of = line_sound stack device sector line sound is in
    let target : resolved_target stack raw.0.target ≡ line.target = cc in
    let lens : raw.0.len ≡ line.len = cc in
    let distance = sector - line.start in
    let lies : below_plain (resolved_target stack raw.0.target) distance ≡ Lies lower at = cc in
    let in_span = plain_span stack raw.0.len raw.0.target distance lower at lies in
    let indices : span_index (resolved_target stack raw.0.target) distance ≡ span_index line.target distance = cc in
    let distances : span_distance (resolved_target stack raw.0.target) distance ≡ span_distance line.target distance = cc in
    let from = of.soundly.from in let before = of.soundly.before in let sector_is = in_span.sector in
    let sound_target : IsTargetSound stack device line.start raw.0.len (resolved_target stack raw.0.target) = rw (lens, target) of.soundly.target in
    let ends = plain_before stack device line.start raw.0.len raw.0.target distance lower at sound_target (omega (arith, lens, from, before)) lies in
    record {
      index = index.0;
      it = raw.0;
      is = raw.2;
      via = record {
        there = of.there;
        line_at = index.1;
        span = in_span.span;
        span_at = ap (slice_get (target_spans raw.0.len raw.0.target)) (sym indices) ∙ in_span.is;
        on = in_span.on;
        from = omega (arith, sector_is);
        before = rw in_span.is at ends;
        used = in_span.used;
      };
      lies = cc;
    }

-- Steps through a snapshot

pub record IsSnapshotVia (stack : Description) (device : ℕ) (snapshot : ResolvedSnapshot) : Type 0 where
  pub index : ℕ
  pub it : Line
  pub target : resolved_target stack it.target ≡ Snapshot snapshot
  pub store_named : IsNamed stack device index 0 it snapshot.store
  pub origin_named : IsNamed stack device index 1 it snapshot.origin
  pub store : (at : ℕ) → at < lower_len stack snapshot.store → IsVia stack device index 0 it snapshot.store at Own
  pub origin : (at : ℕ) → at < lower_len stack snapshot.origin → IsVia stack device index 1 it snapshot.origin at Reading

snapshot_spans : (stack : Description) (len : ℕ) (target : Target) (snapshot : ResolvedSnapshot) → resolved_target stack target ≡ Snapshot snapshot
    → (store : DevRef) × (origin : DevRef) × (target_spans len target ≡ whole_span store Own ∷ whole_span origin Reading ∷ []) × (lower_of stack store ≡ snapshot.store) × (lower_of stack origin ≡ snapshot.origin)
snapshot_spans stack len (targets.Snapshot origin store kind chunk_size) snapshot is =
    let same = snapshot_is (resolved_snapshot stack origin store kind chunk_size) snapshot is in
    (store, origin, refl, cc, cc)
  where
    snapshot_is : (a b : ResolvedSnapshot) → Snapshot a ≡ Snapshot b → a ≡ b
    snapshot_is a b e = cc
snapshot_spans stack len target snapshot is = absurd cc

-- a span that a line names in whole: a read can reach each of its sectors through the line
record IsWholeVia (stack : Description) (device index column : ℕ) (it : Line) (lower : Lower) (kind : Use) : Type 0 where
  named : IsNamed stack device index column it lower
  via : (at : ℕ) → at < lower_len stack lower → IsVia stack device index column it lower at kind

whole_via : (stack : Description) (device index column : ℕ) (it : Line) (lower : Lower) (kind : Use) (to : DevRef) → device < length stack.devices → slice_get (lines_at stack device) index ≡ Some it
    → slice_get (target_spans it.len it.target) column ≡ Some (whole_span to kind) → lower_of stack to ≡ lower → IsWholeVia stack device index column it lower kind
whole_via stack device index column it lower kind to there line_at span_at on = record {
  named = record { there = there; line_at = line_at; span = whole_span to kind; span_at = span_at; on = on };
  via = λ at below. record {
    there = there;
    line_at = line_at;
    span = whole_span to kind;
    span_at = span_at;
    on = on;
    from = omega arith;
    before = rw on below;
    used = refl;
  };
}

pub via_snapshot : (stack : Description) (device : ℕ) (snapshot : ResolvedSnapshot) → IsSound stack → snapshot_at stack device ≡ Some snapshot → IsSnapshotVia stack device snapshot
via_snapshot stack device snapshot sound at =
    let first = first_line stack device snapshot (found_at stack device 0) refl at in
    let raw = some_line stack (line_of (lines_at stack device) 0) first.0 first.1 in
    let index = found_place (holds 0) (lines_at stack device) raw.0 raw.1 in
    let target : resolved_target stack raw.0.target ≡ Snapshot snapshot = cc in
    let named = snapshot_spans stack raw.0.len raw.0.target snapshot target in
    let there = (snapshot_sound stack device snapshot sound at).there in
    let store = whole_via stack device index.0 0 raw.0 snapshot.store Own named.0 there index.1 (rw named.2) named.3 in
    let origin = whole_via stack device index.0 1 raw.0 snapshot.origin Reading named.1 there index.1 (rw named.2) named.4 in
    record {
      index = index.0;
      it = raw.0;
      target = target;
      store_named = store.named;
      origin_named = origin.named;
      store = store.via;
      origin = origin.via;
    }

-- Steps through the line of an origin

pub record IsOriginVia (stack : Description) (device : ℕ) (origin : ResolvedOrigin) : Type 0 where
  pub index : ℕ
  pub it : Line
  pub target : resolved_target stack it.target ≡ Origin origin
  pub named : IsNamed stack device index 0 it origin.to
  pub via : (at : ℕ) → at < lower_len stack origin.to → IsVia stack device index 0 it origin.to at Serving

origin_spans : (stack : Description) (len : ℕ) (target : Target) (origin : ResolvedOrigin) → resolved_target stack target ≡ Origin origin → (to : DevRef) × (target_spans len target ≡ whole_span to Serving ∷ []) × (lower_of stack to ≡ origin.to)
origin_spans stack len (targets.Origin to) origin is = (to, refl, cc (origin_is (record { to = lower_of stack to; over = origin_over stack (lower_of stack to) }) origin is))
  where
    origin_is : (a b : ResolvedOrigin) → Origin a ≡ Origin b → a ≡ b
    origin_is a b e = cc
origin_spans stack len target origin is = absurd cc

pub via_origin : (stack : Description) (device : ℕ) (origin : ResolvedOrigin) → IsSound stack → origin_at stack device ≡ Some origin → IsOriginVia stack device origin
via_origin stack device origin sound at =
    let first = first_origin stack device origin (found_at stack device 0) refl at in
    let raw = some_line stack (line_of (lines_at stack device) 0) first.0 first.1 in
    let index = found_place (holds 0) (lines_at stack device) raw.0 raw.1 in
    let target : resolved_target stack raw.0.target ≡ Origin origin = cc in
    let named = origin_spans stack raw.0.len raw.0.target origin target in
    let there = (origin_sound stack device origin sound at).there in
    let whole = whole_via stack device index.0 0 raw.0 origin.to Serving named.0 there index.1 (rw named.1) named.2 in
    record { index = index.0; it = raw.0; target = target; named = whole.named; via = whole.via }
