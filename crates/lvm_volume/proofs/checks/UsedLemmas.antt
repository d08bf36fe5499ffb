-- Ranges in use: what looking up the last range before an end says, and adding a range.
use Rattle.lvm_volume.proofs.Prelude.{ℕ, Bool, true, false, List, [], Option, Some, None, refl, sym, ap, ◌∙◌, arith, rules, inl, inr, common_steps, IsSome, nat_lt, list_any, AllByRecursion, nat_cmp, BTreeMap, Updates, get, is_at, and_from, and_right, or_right, lt-ltb, ltb-false, ltb-true, le-ltb, cases_order, none-some, HasRanges, reaches}
use Rattle.std.specs.Prelude.{◌≡◌, ◌⊎◌, ◌<◌, ◌≤◌, ◌||◌, ◌∷◌}

-- if no range in the map passes a test, none in the list does
none_reach : (used : BTreeMap ℕ ℕ) (test : ℕ × ℕ → Bool) → ((a b : ℕ) → get nat_cmp used a ≡ Some b → test (a, b) ≡ false) → (ranges : List (ℕ × ℕ)) → AllByRecursion (λ range. get nat_cmp used range.0 ≡ Some range.1) ranges → list_any test ranges ≡ false
none_reach used test never [] all = refl
none_reach used test never ((a, b) ∷ ranges) all = rw (never a b all.0, none_reach used test never ranges all.1)

reaches_not : (first end a b : ℕ) → (a < end → b ≤ first) → reaches first end (a, b) ≡ false
reaches_not first end a b h = by_test (nat_lt a end) refl where
  by_test : (t : Bool) → nat_lt a end ≡ t → reaches first end (a, b) ≡ false
  by_test true e = rw (le-ltb first b (h (ltb-true a end e)))
  by_test false e = and_right (nat_lt first b) _ e

pub none_before : (used : BTreeMap ℕ ℕ) (ranges : List (ℕ × ℕ)) (first end : ℕ) → HasRanges used ranges → ((q : ℕ) → q < end → get nat_cmp used q ≡ None) → list_any (reaches first end) ranges ≡ false
none_before used ranges first end keeps none = none_reach used (reaches first end) (λ a b is. reaches_not first end a b (λ below. absurd (none-some b (sym (none a below) ∙ is)))) ranges keeps.all

is_some : (o : Option ℕ) (b : ℕ) → o ≡ Some b → IsSome o
is_some None b e = absurd cc
is_some (Some x) b e = search rules

-- if the last range ends at or before `first`, so does every range that doesn't begin after it
ends_before : (used : BTreeMap ℕ ℕ) (ranges : List (ℕ × ℕ)) (first s e a b : ℕ) → HasRanges used ranges → get nat_cmp used s ≡ Some e → e ≤ first → get nat_cmp used a ≡ Some b → (a ≡ s) ⊎ ((a < s) ⊎ (s < a)) → a ≤ s → b ≤ first
ends_before used ranges first s e a b keeps is low here (inl same) most =
    let ends : Some b ≡ Some e = sym here ∙ ap (get nat_cmp used) same ∙ is in
    let equal : b ≡ e = cc in
    omega (arith, equal, low)
ends_before used ranges first s e a b keeps is low here (inr (inl before)) most = omega (arith, keeps.apart a b s e here is before, keeps.some s e is, low)
ends_before used ranges first s e a b keeps is low here (inr (inr after)) most = absurd (omega (arith, most, after))

pub last_before : (used : BTreeMap ℕ ℕ) (ranges : List (ℕ × ℕ)) (first end s e : ℕ) → HasRanges used ranges → first < end → s < end → get nat_cmp used s ≡ Some e → ((q : ℕ) → q < end → IsSome (get nat_cmp used q) → q ≤ s)
    → nat_lt first e ≡ list_any (reaches first end) ranges
last_before used ranges first end s e keeps some below is greatest = by_test (nat_lt first e) refl where
  by_test : (b : Bool) → nat_lt first e ≡ b → b ≡ list_any (reaches first end) ranges
  by_test true h = sym (keeps.only s e is first end (and_from (nat_lt first e) (nat_lt s end) h (lt-ltb s end below)))
  by_test false h = sym (none_reach used (reaches first end) (λ a b here. reaches_not first end a b (λ before. ends_before used ranges first s e a b keeps is (ltb-false first e h) here (cases_order a s) (greatest a before (is_some (get nat_cmp used a) b here)))) ranges keeps.all)

-- ---- adding a range to the map

ne_at : (a b : ℕ) → (a ≡ b → ⊥) → is_at (nat_cmp a) b ≡ false
ne_at a b ne = grind (arith, common_steps)

-- the map `new` is `old` with one more range
pub record Adds (old new : BTreeMap ℕ ℕ) (first end : ℕ) : Type 0 where
  pub here : get nat_cmp new first ≡ Some end
  pub others : (q : ℕ) → (first ≡ q) ⊎ (get nat_cmp new q ≡ get nat_cmp old q)

pub adds : (old new : BTreeMap ℕ ℕ) (first end : ℕ) → Updates nat_cmp old new first (Some end) → Adds old new first end
adds old new first end updates = record {
  here = updates.1;
  others = λ q. by_order q (cases_order first q);
} where
  by_order : (q : ℕ) → (first ≡ q) ⊎ ((first < q) ⊎ (q < first)) → (first ≡ q) ⊎ (get nat_cmp new q ≡ get nat_cmp old q)
  by_order q (inl same) = inl same
  by_order q (inr (inl before)) = inr (updates.2 q (ne_at first q (λ same. omega (arith, same, before))))
  by_order q (inr (inr after)) = inr (updates.2 q (ne_at first q (λ same. omega (arith, same, after))))

-- a range in use doesn't overlap a free one
apart_from : (old : BTreeMap ℕ ℕ) (ranges : List (ℕ × ℕ)) (first end a b : ℕ) → HasRanges old ranges → list_any (reaches first end) ranges ≡ false → get nat_cmp old a ≡ Some b → first < b → a < end → ⊥
apart_from old ranges first end a b keeps free is over under =
    let hit = keeps.only a b is first end (and_from (nat_lt first b) (nat_lt a end) (lt-ltb first b over) (lt-ltb a end under)) in
    let wrong : true ≡ false = sym hit ∙ free in
    absurd cc

same_end : (o : Option ℕ) (a b : ℕ) → o ≡ Some a → o ≡ Some b → a ≡ b
same_end o a b e f = cc

new_all : (old new : BTreeMap ℕ ℕ) (first end : ℕ) → Adds old new first end → ((b : ℕ) → get nat_cmp old first ≡ Some b → ⊥) → (ranges : List (ℕ × ℕ)) → AllByRecursion (λ range. get nat_cmp old range.0 ≡ Some range.1) ranges → AllByRecursion (λ range. get nat_cmp new range.0 ≡ Some range.1) ranges
new_all old new first end added fresh [] all = tt
new_all old new first end added fresh ((a, b) ∷ ranges) all = (by_position (added.others a), new_all old new first end added fresh ranges all.1) where
  by_position : (first ≡ a) ⊎ (get nat_cmp new a ≡ get nat_cmp old a) → get nat_cmp new a ≡ Some b
  by_position (inl same) = absurd (fresh b (ap (get nat_cmp old) same ∙ all.0))
  by_position (inr other) = other ∙ all.0

not_below : (a b : ℕ) → (a < b → ⊥) → b ≤ a
not_below a b h = grind (arith, h)

pub keeps_more : (old new : BTreeMap ℕ ℕ) (ranges : List (ℕ × ℕ)) (first end : ℕ) → HasRanges old ranges → first < end → list_any (reaches first end) ranges ≡ false → Adds old new first end → HasRanges new ((first, end) ∷ ranges)
keeps_more old new ranges first end keeps some free added = record {
  all = (added.here, new_all old new first end added (λ b is. apart_from old ranges first end first b keeps free is (keeps.some first b is) some) ranges keeps.all);
  only = λ s e is a b hit. only_at s e is a b hit (added.others s);
  some = λ s e is. some_at s e is (added.others s);
  apart = λ a b c d is_b is_d before. apart_at a b c d is_b is_d before (added.others a) (added.others c);
} where
  only_at : (s e : ℕ) → get nat_cmp new s ≡ Some e → (a b : ℕ) → reaches a b (s, e) ≡ true → (first ≡ s) ⊎ (get nat_cmp new s ≡ get nat_cmp old s) → (reaches a b (first, end) || list_any (reaches a b) ranges) ≡ true
  only_at s e is a b hit (inl same) =
      let ends : e ≡ end = same_end (get nat_cmp new s) e end is (ap (get nat_cmp new) (sym same) ∙ added.here) in
      rw (same, ← ends, hit)
  only_at s e is a b hit (inr other) = or_right (reaches a b (first, end)) _ (keeps.only s e (sym other ∙ is) a b hit)

  some_at : (s e : ℕ) → get nat_cmp new s ≡ Some e → (first ≡ s) ⊎ (get nat_cmp new s ≡ get nat_cmp old s) → s < e
  some_at s e is (inl same) = omega (arith, same, some, same_end (get nat_cmp new s) e end is (ap (get nat_cmp new) (sym same) ∙ added.here))
  some_at s e is (inr other) = keeps.some s e (sym other ∙ is)

  apart_at : (a b c d : ℕ) → get nat_cmp new a ≡ Some b → get nat_cmp new c ≡ Some d → a < c → (first ≡ a) ⊎ (get nat_cmp new a ≡ get nat_cmp old a) → (first ≡ c) ⊎ (get nat_cmp new c ≡ get nat_cmp old c) → b ≤ c
  apart_at a b c d is_b is_d before (inl one) (inl two) = absurd (omega (arith, one, two, before))
  apart_at a b c d is_b is_d before (inl one) (inr two) =
      let ends : b ≡ end = same_end (get nat_cmp new a) b end is_b (ap (get nat_cmp new) (sym one) ∙ added.here) in
      let old_d : get nat_cmp old c ≡ Some d = sym two ∙ is_d in
      omega (arith, ends, not_below c end (λ under. apart_from old ranges first end c d keeps free old_d (omega (arith, one, before, keeps.some c d old_d)) under))
  apart_at a b c d is_b is_d before (inr one) (inl two) =
      let old_b : get nat_cmp old a ≡ Some b = sym one ∙ is_b in
      omega (arith, two, not_below first b (λ over. apart_from old ranges first end a b keeps free old_b over (omega (arith, two, before, some))))
  apart_at a b c d is_b is_d before (inr one) (inr two) = keeps.apart a b c d (sym one ∙ is_b) (sym two ∙ is_d) before
