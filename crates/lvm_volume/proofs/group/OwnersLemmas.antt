-- Lemmas about comparing ids, and about groups whose disks have other names.
use Rattle.lvm_volume.proofs.Prelude.{inl, inr, ℕ, zero, suc, List, [], Option, None, length, get_or, drop, refl, sym, ap, subst, ◌∙◌, arith, bytes_eq, slice_index_or, AllByRecursion, zip, ne_eqb, drop_more, drop_all, DiskFault, Physical, Segment, Stripe, Volume, stripes_of, Group, Keyed, Owners, all_owned, disk_fault, letters_of, owned_group, section_of, untaken, ids_view, IsSegmentIn, IsSoundGroup, IsStripeIn, physical_at, all_changed}
use Rattle.lvm_volume.specs.group.Owners.{or_later}
use Rattle.std.specs.Prelude.{◌≡◌, ◌⊎◌, ◌+◌, ◌*◌, ◌^◌, ◌<◌, ◌≤◌, ◌==◌, ◌∷◌}
use denote.Ref.{Bor}

-- ---- the characters of an id

pub letter_next : (id text : List ℕ) (i : ℕ) → i < length text → bytes_eq id (letters_of (drop i text)) ≡ bytes_eq id (letters_of (get_or text i 0 ∷ drop (i + 1) text))
letter_next id text i within = ap (λ (xs : List ℕ). bytes_eq id (letters_of xs)) (drop_more text i 0 within)

is_none_left : (id : List ℕ) → (length id == 0) ≡ bytes_eq id (letters_of [])
unfolding letters_of
is_none_left [] = refl
is_none_left (x ∷ id) = ne_eqb (length (x ∷ id)) 0 (λ none. omega (arith, none))

pub letters_end : (id text : List ℕ) (i : ℕ) → length text ≤ i → (length id == 0) ≡ bytes_eq id (letters_of (drop i text))
letters_end id text i past = is_none_left id ∙ ap (λ (xs : List ℕ). bytes_eq id (letters_of xs)) (sym (drop_all i text past))

pub ids_length : (ids : List (Bor (List ℕ))) → length (ids_view ids) ≡ length ids
ids_length [] = refl
ids_length (id ∷ ids) = ap (λ (n : ℕ). suc n) (ids_length ids)

pub none_left : (ids : List (Bor (List ℕ))) (physicals : List Physical) → (ids ≡ []) ⊎ (physicals ≡ []) → zip (ids_view ids) physicals ≡ []
none_left ids physicals (inl none) = rw none refl
none_left [] physicals (inr none) = refl
none_left (id ∷ ids) physicals (inr none) = rw none refl

-- ---- disks that can be used

pub untaken_next : (physicals : List Keyed) (names ids : List (List ℕ)) (disk : ℕ) (id : List ℕ) (found : Option DiskFault) → drop disk ids ≡ id ∷ drop (disk + 1) ids → disk_fault (slice_index_or names disk []) (section_of physicals id) ≡ found
    → untaken physicals names disk (drop disk ids) ≡ or_later disk found (untaken physicals names (disk + 1) (drop (disk + 1) ids))
unfolding untaken
untaken_next physicals names ids disk id found here is = rw (here, is) refl

pub untaken_end : (physicals : List Keyed) (names ids : List (List ℕ)) (disk : ℕ) → length ids ≤ disk → untaken physicals names disk (drop disk ids) ≡ None
unfolding untaken
untaken_end physicals names ids disk past = rw (drop_all disk ids past) refl

-- ---- whether a group is sound doesn't depend on the names of its disks

same_start : (owners : Owners) (ids : List (List ℕ)) (physicals : List Physical) (i : ℕ) → length ids ≡ length physicals → (physical_at (all_owned owners ids physicals) i).start ≡ (physical_at physicals i).start
same_start owners [] [] i e = refl
same_start owners (id ∷ ids) (p ∷ physicals) zero e = refl
same_start owners (id ∷ ids) (p ∷ physicals) (suc i) e = same_start owners ids physicals i (omega (arith, e))
same_start owners ids physicals i e = absurd (omega (arith, e))

same_length : (owners : Owners) (ids : List (List ℕ)) (physicals : List Physical) → length ids ≡ length physicals → length (all_owned owners ids physicals) ≡ length physicals
same_length owners [] [] e = refl
same_length owners (id ∷ ids) (p ∷ physicals) e = ap (λ (n : ℕ). suc n) (same_length owners ids physicals (omega (arith, e)))
same_length owners ids physicals e = absurd (omega (arith, e))

stripe_owned : (owners : Owners) (ids : List (List ℕ)) (size : ℕ) (physicals : List Physical) → length ids ≡ length physicals → (stripe : Stripe) → IsStripeIn size physicals stripe → IsStripeIn size (all_owned owners ids physicals) stripe
stripe_owned owners ids size physicals e stripe is = record {
  there = subst (λ (n : ℕ). stripe.physical < n) (sym (same_length owners ids physicals e)) is.there;
  offset = subst (λ (n : ℕ). n + stripe.extent * size < 2 ^ 64) (sym (same_start owners ids physicals stripe.physical e)) is.offset;
}

segment_owned : (owners : Owners) (ids : List (List ℕ)) (size : ℕ) (physicals : List Physical) → length ids ≡ length physicals → (segment : Segment) → IsSegmentIn size physicals segment → IsSegmentIn size (all_owned owners ids physicals) segment
segment_owned owners ids size physicals e segment is = record {
  start = is.start;
  len = is.len;
  end = is.end;
  stripes = all_changed (IsStripeIn size physicals) (IsStripeIn size (all_owned owners ids physicals)) (stripes_of segment.target) (stripe_owned owners ids size physicals e) is.stripes;
}

pub sound_owned : (owners : Owners) (ids : List (List ℕ)) (group : Group) → length ids ≡ length group.physicals → IsSoundGroup group → IsSoundGroup (owned_group owners ids group)
sound_owned owners ids group e sound = record {
  volumes = all_changed (λ (v : Volume). AllByRecursion (IsSegmentIn group.extent_size group.physicals) v.segments) (λ (v : Volume). AllByRecursion (IsSegmentIn group.extent_size (all_owned owners ids group.physicals)) v.segments) group.volumes
      (λ v fit. all_changed (IsSegmentIn group.extent_size group.physicals) (IsSegmentIn group.extent_size (all_owned owners ids group.physicals)) v.segments (segment_owned owners ids group.extent_size group.physicals e) fit)
      sound.volumes;
  origins = sound.origins;
}
