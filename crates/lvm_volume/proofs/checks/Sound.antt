-- In a group without faults, numbers fit 64 bits when counted in sectors, and stripes are on physical volumes that exist.
use Rattle.lvm_volume.proofs.Prelude.{ℕ, suc, zero, Bool, true, false, not, List, [], length, map, Option, Some, None, refl, sym, ap, ◌∙◌, arith, mul-le-mul_right, nat_lt, codes, AllByRecursion, flat_map, list_any, range_with_len, ltb-false, ltb-true, or_parts, not-false, Tree, Shown, Content, Whole, Int, Text, node_of, sections_of, LoadKind, Extents, Unknown, LoadFault, first_or, first_fault, Fields, Limits, Kind, Always, Physical, Stripe, Segment, Volume, faults_of_fields, field, field_faults, fields_faults, group_faults, group_fields, is_far, most, number_at, number_in, held, one_group_faults, physical_fields, sections_at, segment_field, segment_fields, segments_of, top_fields, volume_faults, volume_fields, Claim, at_line, claims_of, used_after, used_by, extents_at, have_clash, hit, is_misplaced, is_unknown, least_line, least_line_of, lesser, meets, parts_of, segment_faults, size_faults, snapshot_faults, stripes_of, unknown_faults, claims_by, Keyed, device_of, first_section, group_in, physical_of, positions_in, segment_of, volume_of, is_bad_snapshot, roles_of, IsSegmentIn, IsSoundGroup, IsStripeIn, checks_of_parts, extent_faults, physical_at, first_or-none, append-nil_both}
use Rattle.dm_table.specs.declared.load.load_fault.LoadKind.TheVariants as loads
use Rattle.lvm_volume.specs.declared.group.positions.GroupPositions.{GroupPositions}
use Rattle.lvm_volume.specs.fields.Kinds as kinds
use Rattle.lvm_volume.specs.checks.Extents as extents
use Rattle.lvm_volume.proofs.checks.OriginLemmas.{all_origins}
use Rattle.std.specs.Prelude.{◌≡◌, ◌+◌, ◌*◌, ◌/◌, ◌%◌, ◌^◌, ◌<◌, ◌≤◌, ◌==◌, ◌∷◌, if◌then◌else◌}

-- ---- lists of faults that are empty

flat-nil : {X : Type 0} (f : X → List LoadFault) (xs : List X) → flat_map f xs ≡ [] → AllByRecursion (λ x. f x ≡ []) xs
flat-nil f [] e = tt
flat-nil f (x ∷ xs) e = let a = append-nil_both (f x) (flat_map f xs) e in (a.0, flat-nil f xs a.1)

pub hit-nil : (b : Bool) (kind : LoadKind) (line : ℕ) → hit b kind line ≡ [] → b ≡ false
hit-nil true kind line e = absurd cc
hit-nil false kind line e = refl

if-nil : (b : Bool) (x : LoadFault) → (if b then x ∷ [] else []) ≡ [] → b ≡ false
if-nil true x e = absurd cc
if-nil false x e = refl

-- ---- integers within the limits

content-limit : (size : ℕ) (content : Content) → is_far size kinds.Extents content ≡ false → number_in content * size ≤ most
content-limit size (Whole (Int n)) e = ltb-false most (n * size) (or_parts (nat_lt most n) _ e).1
content-limit size content e = omega arith

content-most : (size : ℕ) (kind : Kind) (content : Content) → is_far size kind content ≡ false → number_in content ≤ most
content-most size kind (Whole (Int n)) e = ltb-false most n (or_parts (nat_lt most n) _ e).0
content-most size kind content e = omega arith

pub extents-limit : (size : ℕ) (tree : Tree) (key : List ℕ) → field_faults (Limits size) tree (field key kinds.Extents Always) ≡ [] → number_at key tree * size ≤ most
unfolding field_faults
extents-limit size tree key e = by_node (node_of key tree.values) refl where
  by_node : (node : Option Shown) → node_of key tree.values ≡ node → held 0 number_in (node_of key tree.values) * size ≤ most
  by_node None is = rw is (omega arith)
  by_node (Some shown) is = let e2 = rw is at e in rw is (content-limit size shown.content (if-nil _ _ e2))

pub number-limit : (size : ℕ) (tree : Tree) (key : List ℕ) → field_faults (Limits size) tree (field key kinds.Number Always) ≡ [] → number_at key tree ≤ most
unfolding field_faults
number-limit size tree key e = by_node (node_of key tree.values) refl where
  by_node : (node : Option Shown) → node_of key tree.values ≡ node → held 0 number_in (node_of key tree.values) ≤ most
  by_node None is = rw is (omega arith)
  by_node (Some shown) is = let e2 = rw is at e in rw is (content-most size kinds.Number shown.content (if-nil _ _ e2))

-- the start and the length of a segment are within the limit when counted in sectors
pub segment-limits : (size : ℕ) (tree : Tree) → fields_faults (Limits size) tree segment_fields ≡ [] → (number_at (codes "start_extent") tree * size ≤ most) × (number_at (codes "extent_count") tree * size ≤ most)
segment-limits size tree e =
    let a = append-nil_both (field_faults (Limits size) tree (field (codes "start_extent") kinds.Extents Always)) _ e in
    let b = append-nil_both (field_faults (Limits size) tree (field (codes "extent_count") kinds.Extents Always)) _ a.1 in
    (extents-limit size tree (codes "start_extent") a.0, extents-limit size tree (codes "extent_count") b.0)

-- the start of a physical volume, and its number of extents in sectors, are within the limit
pub physical-limits : (size : ℕ) (tree : Tree) → fields_faults (Limits size) tree physical_fields ≡ [] → (number_at (codes "pe_start") tree ≤ most) × (number_at (codes "pe_count") tree * size ≤ most)
physical-limits size tree e =
    let a = append-nil_both (field_faults (Limits size) tree (field (codes "device") kinds.Text Always)) _ e in
    let b = append-nil_both (field_faults (Limits size) tree (field (codes "dev_size") kinds.Number Always)) _ a.1 in
    let c = append-nil_both (field_faults (Limits size) tree (field (codes "pe_start") kinds.Number Always)) _ b.1 in
    let d = append-nil_both (field_faults (Limits size) tree (field (codes "pe_count") kinds.Extents Always)) _ c.1 in
    (number-limit size tree (codes "pe_start") c.0, extents-limit size tree (codes "pe_count") d.0)

-- ---- physical volumes within the limits

pub record IsSmall (size : ℕ) (physical : Physical) : Type 0 where
  pub start : physical.start ≤ most
  pub sectors : physical.count * size ≤ most

small : (size : ℕ) (devices : List (List ℕ)) (physicals : List Keyed) → AllByRecursion (λ physical. fields_faults (Limits size) physical.1 physical_fields ≡ []) physicals → AllByRecursion (IsSmall size) (map (physical_of devices) physicals)
unfolding physical_of
small size devices [] h = tt
small size devices (physical ∷ physicals) h =
    let a = physical-limits size physical.1 h.0 in
    (record { start = a.0; sectors = a.1 }, small size devices physicals h.1)

-- the physical volume at a position is within the limits
small_at : (size : ℕ) (physicals : List Physical) (i : ℕ) → AllByRecursion (IsSmall size) physicals → ((physical_at physicals i).start ≤ most) × (extents_at physicals i * size ≤ most)
small_at size [] i h = (omega arith, omega arith)
small_at size (physical ∷ physicals) zero h = (h.0.start, h.0.sectors)
small_at size (physical ∷ physicals) (suc i) h = small_at size physicals i h.1

-- ---- logical volumes within the limits

volume-limits : (size : ℕ) (volume : Tree) → volume_faults (Limits size) volume ≡ [] → AllByRecursion (λ segment. fields_faults (Limits size) segment segment_fields ≡ []) (segments_of volume)
unfolding volume_faults
volume-limits size volume e =
    let a = append-nil_both (fields_faults (Limits size) volume volume_fields) _ e in
    let b = append-nil_both (flat_map (λ i. field_faults (Limits size) volume (segment_field i)) (range_with_len 1 (number_at (codes "segment_count") volume))) _ a.1 in
    flat-nil _ (segments_of volume) b.1

pub record InLimits (size : ℕ) (group : Tree) : Type 0 where
  pub physicals : AllByRecursion (λ (physical : Keyed). fields_faults (Limits size) physical.1 physical_fields ≡ []) (sections_at (codes "physical_volumes") group)
  pub volumes : AllByRecursion (λ (volume : Keyed). volume_faults (Limits size) volume.1 ≡ []) (sections_at (codes "logical_volumes") group)

in-limits : (size : ℕ) (group : Tree) → group_faults (Limits size) group ≡ [] → InLimits size group
unfolding group_faults
in-limits size group e =
    let a = append-nil_both (fields_faults (Limits size) group group_fields) _ e in
    let b = append-nil_both (flat_map (λ (physical : Keyed). fields_faults (Limits size) physical.1 physical_fields) (sections_at (codes "physical_volumes") group)) _ a.1 in
    record { physicals = flat-nil _ (sections_at (codes "physical_volumes") group) b.0; volumes = flat-nil _ (sections_at (codes "logical_volumes") group) b.1 }

-- the only section at the top of a text is within the limits
pub one-in_limits : (size : ℕ) (top : Tree) (group : Keyed) → sections_of top.values ≡ group ∷ [] → first_or (faults_of_fields (Limits size) top) None ≡ None → InLimits size group.1
unfolding one_group_faults
one-in_limits size top group one e =
    let all = (first_or-none (faults_of_fields (Limits size) top) None e).0 in
    let a = append-nil_both (fields_faults (Limits size) top top_fields) _ all in
    in-limits size group.1 (sym (ap (one_group_faults (Limits size) top.line) one) ∙ a.1)

-- if the check of fields finds no fault, the text has exactly one section at its top
pub one_section : (top : Tree) → first_or (faults_of_fields Fields top) None ≡ None → sections_of top.values ≡ first_section (sections_of top.values) ∷ []
unfolding one_group_faults
one_section top e = by_list (sections_of top.values) (append-nil_both (fields_faults Fields top top_fields) _ (first_or-none (faults_of_fields Fields top) None e).0).1 where
  by_list : (sections : List Keyed) → one_group_faults Fields top.line sections ≡ [] → sections ≡ first_section sections ∷ []
  by_list (group ∷ []) h = refl
  by_list sections h = absurd cc

-- ---- the stripes of a segment

-- each stripe begins within its physical volume
abbrev BeginsIn : List Physical → Segment → Type 0
BeginsIn physicals segment = AllByRecursion (λ stripe. stripe.extent ≤ extents_at physicals stripe.physical) (stripes_of segment.target)

-- each stripe is on a physical volume that exists
abbrev IsKnown : ℕ → Segment → Type 0
IsKnown physicals segment = AllByRecursion (λ stripe. stripe.physical < physicals) (stripes_of segment.target)

within : (physicals : List Physical) (used : List Claim) (share : ℕ) (stripes : List Stripe) → have_clash physicals used (claims_by share stripes) ≡ false → AllByRecursion (λ stripe. stripe.extent ≤ extents_at physicals stripe.physical) stripes
within physicals used share [] e = tt
within physicals used share (stripe ∷ stripes) e =
    let a = or_parts (nat_lt (extents_at physicals stripe.physical) (stripe.extent + share)) _ e in
    let b = or_parts (list_any (meets (record { physical = stripe.physical; first = stripe.extent; end = stripe.extent + share })) used) _ a.1 in
    (omega (arith, ltb-false (extents_at physicals stripe.physical) (stripe.extent + share) a.0), within physicals (record { physical = stripe.physical; first = stripe.extent; end = stripe.extent + share } ∷ used) share stripes b.1)

placed : (physicals : List Physical) (used : List Claim) (end : ℕ) (segment : Segment) → is_misplaced physicals used end segment ≡ false → BeginsIn physicals segment
placed physicals used end segment e =
    let a = or_parts (not (segment.start == end)) _ e in
    let b = or_parts (segment.count == 0) _ a.1 in
    let c = or_parts (parts_of segment.target == 0) _ b.1 in
    let d = or_parts (not (segment.count % parts_of segment.target == 0)) _ c.1 in
    within physicals used (segment.count / parts_of segment.target) (stripes_of segment.target) d.1

all_placed : (physicals : List Physical) (used : List Claim) (end : ℕ) (segments : List Segment) → segment_faults physicals used end segments ≡ [] → AllByRecursion (BeginsIn physicals) segments
all_placed physicals used end [] e = tt
all_placed physicals used end (segment ∷ segments) e =
    let a = append-nil_both (hit (is_misplaced physicals used end segment) Extents segment.line) _ e in
    (placed physicals used end segment (hit-nil _ Extents segment.line a.0), all_placed physicals (used_by used (claims_of segment)) (segment.start + segment.count) segments a.1)

volumes_placed : (physicals : List Physical) (used : List Claim) (volumes : List Volume) → extents.volume_faults physicals used volumes ≡ [] → AllByRecursion (λ volume. AllByRecursion (BeginsIn physicals) volume.segments) volumes
volumes_placed physicals used [] e = tt
volumes_placed physicals used (volume ∷ volumes) e =
    let a = append-nil_both (segment_faults physicals used 0 volume.segments) _ e in
    (all_placed physicals used 0 volume.segments a.0, volumes_placed physicals (used_after used volume.segments) volumes a.1)

known_stripes : (physicals : ℕ) (stripes : List Stripe) → list_any (λ stripe. not (nat_lt stripe.physical physicals)) stripes ≡ false → AllByRecursion (λ stripe. stripe.physical < physicals) stripes
known_stripes physicals [] e = tt
known_stripes physicals (stripe ∷ stripes) e =
    let a = or_parts (not (nat_lt stripe.physical physicals)) _ e in
    (ltb-true stripe.physical physicals (not-false (nat_lt stripe.physical physicals) a.0), known_stripes physicals stripes a.1)

-- ---- segments for which a test is false

unhit : (test : Segment → Bool) (segments : List Segment) (later : Option ℕ) → least_line test segments later ≡ None → AllByRecursion (λ segment. test segment ≡ false) segments × (later ≡ None)
unhit test [] later e = (tt, e)
unhit test (segment ∷ segments) later e = by_test (test segment) refl e (unhit test segments later) where
  by_test : (b : Bool) → test segment ≡ b → (if b then Some (lesser segment.line (least_line test segments later)) else least_line test segments later) ≡ None
      → (least_line test segments later ≡ None → AllByRecursion (λ s. test s ≡ false) segments × (later ≡ None)) → AllByRecursion (λ s. test s ≡ false) (segment ∷ segments) × (later ≡ None)
  by_test true is h more = absurd cc
  by_test false is h more = let a = more h in ((is, a.0), a.1)

pub unhit_volumes : (test : (alone : Bool) → Segment → Bool) (volumes : List Volume) → least_line_of test volumes ≡ None → AllByRecursion (λ volume. AllByRecursion (λ segment. test (length volume.segments == 1) segment ≡ false) volume.segments) volumes
unhit_volumes test [] e = tt
unhit_volumes test (volume ∷ volumes) e = let a = unhit (test (length volume.segments == 1)) volume.segments (least_line_of test volumes) e in (a.0, unhit_volumes test volumes a.1)

pub no_line : (kind : LoadKind) (line : Option ℕ) → at_line kind line ≡ [] → line ≡ None
no_line kind None h = refl
no_line kind (Some line) h = absurd cc

known_segments : (physicals volumes : ℕ) (segments : List Segment) → AllByRecursion (λ segment. is_unknown physicals volumes segment ≡ false) segments → AllByRecursion (IsKnown physicals) segments
known_segments physicals volumes [] none = tt
known_segments physicals volumes (segment ∷ segments) none =
    (known_stripes physicals (stripes_of segment.target) (or_parts (list_any (λ stripe. not (nat_lt stripe.physical physicals)) (stripes_of segment.target)) _ none.0).0, known_segments physicals volumes segments none.1)

known_volumes : (physicals count : ℕ) (volumes : List Volume) → AllByRecursion (λ volume. AllByRecursion (λ segment. is_unknown physicals count segment ≡ false) volume.segments) volumes
    → AllByRecursion (λ volume. AllByRecursion (IsKnown physicals) volume.segments) volumes
known_volumes physicals count [] none = tt
known_volumes physicals count (volume ∷ volumes) none = (known_segments physicals count volume.segments none.0, known_volumes physicals count volumes none.1)

-- ---- a whole group within the limits

below_limit : (n : ℕ) → n ≤ most → n < 2 ^ 64
below_limit n h = omega (arith, h)

end_limit : (start count size : ℕ) → start * size ≤ most → count * size ≤ most → (start + count) * size < 2 ^ 64
end_limit start count size low high = omega (arith, low, high)

stripe_offset : (start extent extents size : ℕ) → start ≤ most → extent ≤ extents → extents * size ≤ most → start + extent * size < 2 ^ 64
stripe_offset start extent extents size low within_it sectors = omega (arith, low, sectors, mul-le-mul_right size within_it)

sound_stripes : (size : ℕ) (physicals : List Physical) (stripes : List Stripe) → AllByRecursion (IsSmall size) physicals → AllByRecursion (λ stripe. stripe.physical < length physicals) stripes → AllByRecursion (λ stripe. stripe.extent ≤ extents_at physicals stripe.physical) stripes → AllByRecursion (IsStripeIn size physicals) stripes
sound_stripes size physicals [] few known begins = tt
sound_stripes size physicals (stripe ∷ stripes) few known begins =
    let a = small_at size physicals stripe.physical few in (
      record { there = known.0; offset = stripe_offset (physical_at physicals stripe.physical).start stripe.extent (extents_at physicals stripe.physical) size a.0 begins.0 a.1 },
      sound_stripes size physicals stripes few known.1 begins.1,
    )

sound_segments : (size : ℕ) (physicals : List Physical) (keys : GroupPositions) (trees : List Tree) → AllByRecursion (IsSmall size) physicals → AllByRecursion (λ segment. fields_faults (Limits size) segment segment_fields ≡ []) trees
    → AllByRecursion (IsKnown (length physicals)) (map (segment_of keys) trees) → AllByRecursion (BeginsIn physicals) (map (segment_of keys) trees) → AllByRecursion (IsSegmentIn size physicals) (map (segment_of keys) trees)
unfolding segment_of
sound_segments size physicals keys [] few limits known begins = tt
sound_segments size physicals keys (tree ∷ trees) few limits known begins =
    let a = segment-limits size tree limits.0 in (
      record { start = below_limit _ a.0; len = below_limit _ a.1; end = end_limit _ _ size a.0 a.1; stripes = sound_stripes size physicals (stripes_of (segment_of keys tree).target) few known.0 begins.0 },
      sound_segments size physicals keys trees few limits.1 known.1 begins.1,
    )

sound_volumes : (size : ℕ) (physicals : List Physical) (keys : GroupPositions) (trees : List Keyed) → AllByRecursion (IsSmall size) physicals → AllByRecursion (λ (volume : Keyed). volume_faults (Limits size) volume.1 ≡ []) trees
    → AllByRecursion (λ volume. AllByRecursion (IsKnown (length physicals)) volume.segments) (map (volume_of keys) trees) → AllByRecursion (λ volume. AllByRecursion (BeginsIn physicals) volume.segments) (map (volume_of keys) trees)
    → AllByRecursion (λ volume. AllByRecursion (IsSegmentIn size physicals) volume.segments) (map (volume_of keys) trees)
unfolding volume_of
sound_volumes size physicals keys [] few limits known begins = tt
sound_volumes size physicals keys (tree ∷ trees) few limits known begins = (
  sound_segments size physicals keys (segments_of tree.1) few (volume-limits size tree.1 limits.0) known.0 begins.0,
  sound_volumes size physicals keys trees few limits.1 known.1 begins.1,
)

-- a group within the limits in which the later checks find no fault is sound
pub sound_group : (group : Keyed) → InLimits (group_in group).extent_size group.1 → first_fault (checks_of_parts (group_in group)) ≡ None → IsSoundGroup (group_in group)
sound_group group limits e =
    let g = group_in group in
    let a = first_or-none (unknown_faults g) _ e in
    let b = first_or-none (extent_faults g) _ a.1 in
    let c = first_or-none (snapshot_faults g) None b.1 in
    let lies = append-nil_both (size_faults g.extent_size g.physicals) _ b.0 in
    let sections = sections_at (codes "physical_volumes") group.1 in
    let few = small g.extent_size (map device_of sections) sections limits.physicals in
    let known = unhit_volumes (λ alone. is_unknown (length g.physicals) (length g.volumes)) g.volumes (no_line Unknown (least_line_of (λ alone. is_unknown (length g.physicals) (length g.volumes)) g.volumes) a.0) in
    let good = unhit_volumes (is_bad_snapshot g.volumes (roles_of g.volumes)) g.volumes (no_line loads.Snapshot (least_line_of (is_bad_snapshot g.volumes (roles_of g.volumes)) g.volumes) c.0) in
    record {
      volumes = sound_volumes g.extent_size g.physicals (positions_in group.1) (sections_at (codes "logical_volumes") group.1) few limits.volumes
          (known_volumes (length g.physicals) (length g.volumes) g.volumes known) (volumes_placed g.physicals [] g.volumes lies.1);
      origins = all_origins (length g.physicals) g.volumes known good;
    }
