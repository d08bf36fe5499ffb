-- Ranges of what was stored on a disk.
use Rattle.dm_replay.proofs.Prelude.{ℕ, suc, Bool, true, false, cond, List, [], length, Option, Some, None, Less, refl, sym, ap, ◌∙◌, arith, rules, inl, inr, nat_le, nat_lt, IsSome, cases_eq, cases_order, nat_tests, common_steps, get_or_past, slice_get, is_gt, nat_cmp, BTreeMap, IsOrdered, Updates, get, is_at, RangeValues, Value, AreFirst, HoldOn, AreApart, Has, IsBare, IsCleared, IsCut, IsLastBefore, IsRoomMade, KeepsStored, NoneFrom, Shows, Stored, held, spanned, stored_in, values_of, further}
use Rattle.std.proofs.lemmas.Map.Entries.{btree_map_get_place}
use Rattle.std.specs.Cmp.{nat_cmp_total}
use Rattle.std.specs.Map.{lookup}
use Rattle.dm_replay.specs.declared.value.Value.TheVariants as value
use Rattle.dm_replay.proofs.RangeLemmas.{further_twice}
use Rattle.std.specs.Prelude.{◌≡◌, ◌⊎◌, ◌+◌, ◌-◌, ◌<◌, ◌≤◌, ◌^◌, ◌∷◌, ◌&&◌}

-- a map with another range, or none, at one key
pub record Sets (old new : BTreeMap ℕ RangeValues) (key : ℕ) (to : Option RangeValues) : Type 0 where
  pub here : get nat_cmp new key ≡ to
  pub others : (q : ℕ) → (q ≡ key → ⊥) → get nat_cmp new q ≡ get nat_cmp old q

not_at : (a b : ℕ) → (b ≡ a → ⊥) → is_at (nat_cmp a) b ≡ false
not_at a b ne = grind (arith, common_steps)

pub sets : (old new : BTreeMap ℕ RangeValues) (key : ℕ) (to : Option RangeValues) → Updates nat_cmp old new key to → Sets old new key to
sets old new key to updates = record { here = updates.1; others = λ q ne. updates.2 q (not_at key q ne) }

-- Orders of keys

pub less : (a b : ℕ) → a < b → nat_cmp a b ≡ Less
less a b below = grind (arith, common_steps)

pub below_from : (a b : ℕ) → nat_cmp a b ≡ Less → a < b
below_from a b e = grind (arith, common_steps)

pub not_above : (a b : ℕ) → a ≤ b → is_gt (nat_cmp a b) ≡ false
not_above a b low = grind (arith, common_steps)

-- A look-up finds at most one range

pub is_some : (o : Option RangeValues) (a : RangeValues) → o ≡ Some a → IsSome o
is_some None a e = absurd cc
is_some (Some x) a e = search rules

pub same_range : (o : Option RangeValues) (a b : RangeValues) → o ≡ Some a → o ≡ Some b → a ≡ b
same_range o a b e f = cc

pub some_none : (o : Option RangeValues) (a : RangeValues) → o ≡ Some a → o ≡ None → ⊥
some_none o a e f = let g : Some a ≡ None = sym e ∙ f in absurd cc

-- The sectors of a range

has_true : (start len sector : ℕ) → start ≤ sector → sector < start + len → (nat_le start sector && nat_lt sector (start + len)) ≡ true
has_true start len sector from before = grind (arith, nat_tests)

has_from : (start len sector : ℕ) → (nat_le start sector && nat_lt sector (start + len)) ≡ true → start ≤ sector
has_from start len sector e = grind (arith, nat_tests)

has_before : (start len sector : ℕ) → (nat_le start sector && nat_lt sector (start + len)) ≡ true → sector < start + len
has_before start len sector e = grind (arith, nat_tests)

has_not : (start len sector : ℕ) → (nat_le start sector && nat_lt sector (start + len)) ≡ false → start ≤ sector → sector < start + len → ⊥
has_not start len sector e from before = let g : true ≡ false = sym (has_true start len sector from before) ∙ e in absurd cc

pub spanned_in : (stored : Stored) (start len : ℕ) (first : Value) (sector : ℕ) → start ≤ sector → sector < start + len → spanned stored start len first sector ≡ Some (further first (sector - start))
spanned_in stored start len first sector from before = rw (has_true start len sector from before)

pub spanned_out : (stored : Stored) (start len : ℕ) (first : Value) (sector : ℕ) → (start ≤ sector → sector < start + len → ⊥) → spanned stored start len first sector ≡ stored sector
spanned_out stored start len first sector out = by_test (nat_le start sector && nat_lt sector (start + len)) refl where
  by_test : (b : Bool) → (nat_le start sector && nat_lt sector (start + len)) ≡ b → spanned stored start len first sector ≡ stored sector
  by_test true e = absurd (out (has_from start len sector e) (has_before start len sector e))
  by_test false e = rw e

-- What ranges hold

-- a range in a list that contains the sector, with the value that it holds there
record HasIt (entries : List (ℕ × RangeValues)) (sector : ℕ) (stored : Value) : Type 0 where
  at : ℕ
  start : ℕ
  range : RangeValues
  is : slice_get entries at ≡ Some (start, range)
  from : start ≤ sector
  before : sector < start + range.len
  value_is : stored ≡ further range.first (sector - start)

found_at : (entry : ℕ × RangeValues) (later : List (ℕ × RangeValues)) (sector : ℕ) (stored : Value) → (stored_in later sector ≡ Some stored → HasIt later sector stored) → (b : Bool) → (nat_le entry.0 sector && nat_lt sector (entry.0 + entry.1.len)) ≡ b
    → cond b (Some (further entry.1.first (sector - entry.0))) (stored_in later sector) ≡ Some stored → HasIt (entry ∷ later) sector stored
found_at entry later sector stored rest true t is = record { at = 0; start = entry.0; range = entry.1; is = refl; from = has_from entry.0 entry.1.len sector t; before = has_before entry.0 entry.1.len sector t; value_is = cc }
found_at entry later sector stored rest false t is = let it = rest is in record { at = suc it.at; start = it.start; range = it.range; is = it.is; from = it.from; before = it.before; value_is = it.value_is }

found_in : (entries : List (ℕ × RangeValues)) (sector : ℕ) (stored : Value) → stored_in entries sector ≡ Some stored → HasIt entries sector stored
unfolding stored_in
found_in [] sector stored e = absurd cc
found_in (entry ∷ later) sector stored e = found_at entry later sector stored (λ is. found_in later sector stored is) (nat_le entry.0 sector && nat_lt sector (entry.0 + entry.1.len)) refl e

-- the list's range at this start doesn't contain the sector

abbrev NoneHas : List (ℕ × RangeValues) → (sector start : ℕ) → RangeValues → Type 0
NoneHas entries sector start range = lookup (is_at (nat_cmp start)) entries ≡ Some range → start ≤ sector → sector < start + range.len → ⊥

at_entry : (start k : ℕ) → is_at (nat_cmp start) k ≡ true → start ≡ k
at_entry start k e = grind (arith, common_steps)

none_by_key : (entry : ℕ × RangeValues) (later : List (ℕ × RangeValues)) (sector start : ℕ) (range : RangeValues) → NoneHas later sector start range → (nat_le entry.0 sector && nat_lt sector (entry.0 + entry.1.len)) ≡ false
    → (b : Bool) → is_at (nat_cmp start) entry.0 ≡ b → cond b (Some entry.1) (lookup (is_at (nat_cmp start)) later) ≡ Some range → start ≤ sector → sector < start + range.len → ⊥
none_by_key entry later sector start range rest t true e found from before =
    let key = at_entry start entry.0 e in
    let same : entry.1 ≡ range = cc in
    let len : entry.1.len ≡ range.len = rw same in
    has_not entry.0 entry.1.len sector t (omega (arith, key, from)) (omega (arith, key, len, before))
none_by_key entry later sector start range rest t false e found from before = rest found from before

none_at : (entry : ℕ × RangeValues) (later : List (ℕ × RangeValues)) (sector start : ℕ) (range : RangeValues) → (stored_in later sector ≡ None → NoneHas later sector start range) → (b : Bool) → (nat_le entry.0 sector && nat_lt sector (entry.0 + entry.1.len)) ≡ b
    → cond b (Some (further entry.1.first (sector - entry.0))) (stored_in later sector) ≡ None → NoneHas (entry ∷ later) sector start range
none_at entry later sector start range rest true t none = absurd cc
none_at entry later sector start range rest false t none = λ is from before. none_by_key entry later sector start range (rest none) t (is_at (nat_cmp start) entry.0) refl is from before

none_in : (entries : List (ℕ × RangeValues)) (sector : ℕ) → stored_in entries sector ≡ None → (start : ℕ) (range : RangeValues) → NoneHas entries sector start range
unfolding stored_in
none_in [] sector none start range = λ is from before. absurd cc
none_in (entry ∷ later) sector none start range = none_at entry later sector start range (λ rest. none_in later sector rest start range) (nat_le entry.0 sector && nat_lt sector (entry.0 + entry.1.len)) refl none

-- two ranges that contain the same sector begin at the same sector
one_start : (ranges : BTreeMap ℕ RangeValues) (sector a b : ℕ) (r q : RangeValues) → AreApart ranges → get nat_cmp ranges a ≡ Some r → get nat_cmp ranges b ≡ Some q → a ≤ sector → sector < a + r.len → b ≤ sector → sector < b + q.len → a ≡ b
one_start ranges sector a b r q are is_r is_q from_a before_a from_b before_b = by_order (cases_order a b) where
  by_order : (a ≡ b) ⊎ ((a < b) ⊎ (b < a)) → a ≡ b
  by_order (inl same) = same
  by_order (inr (inl less)) = absurd (omega (arith, are.apart a b r q is_r is_q less, before_a, from_b))
  by_order (inr (inr more)) = absurd (omega (arith, are.apart b a q r is_q is_r more, before_b, from_a))

pub view_shows : (ranges : BTreeMap ℕ RangeValues) → AreApart ranges → Shows ranges (stored_in ranges.entries)
view_shows ranges are = record {
  hold = λ start range sector is from before. by_case start range sector is from before (stored_in ranges.entries sector) refl;
  bare = λ sector none. by_none sector none (stored_in ranges.entries sector) refl;
} where
  by_case : (start : ℕ) (range : RangeValues) (sector : ℕ) → get nat_cmp ranges start ≡ Some range → start ≤ sector → sector < start + range.len → (o : Option Value) → stored_in ranges.entries sector ≡ o → o ≡ Some (further range.first (sector - start))
  by_case start range sector is from before None e = absurd (none_in ranges.entries sector e start range is from before)
  by_case start range sector is from before (Some v) e =
      let it = found_in ranges.entries sector v e in
      let got = btree_map_get_place nat_cmp_total ranges it.at it.start it.range are.ordered it.is in
      let same = one_start ranges sector it.start start it.range range are got is it.from it.before from before in
      let range_is : it.range ≡ range = cc in
      ap Some (it.value_is ∙ rw (same, range_is))

  by_none : (sector : ℕ) → ((start : ℕ) (range : RangeValues) → get nat_cmp ranges start ≡ Some range → start ≤ sector → sector < start + range.len → ⊥) → (o : Option Value) → stored_in ranges.entries sector ≡ o → o ≡ None
  by_none sector none None e = refl
  by_none sector none (Some v) e =
      let it = found_in ranges.entries sector v e in
      absurd (none it.start it.range (btree_map_get_place nat_cmp_total ranges it.at it.start it.range are.ordered it.is) it.from it.before)

pub view_is : (ranges : BTreeMap ℕ RangeValues) (stored : Stored) → AreApart ranges → Shows ranges stored → (sector : ℕ) → stored_in ranges.entries sector ≡ stored sector
view_is ranges stored are shows sector = by_case (stored_in ranges.entries sector) refl where
  by_case : (o : Option Value) → stored_in ranges.entries sector ≡ o → o ≡ stored sector
  by_case None e = sym (shows.bare sector (λ start range is from before. none_in ranges.entries sector e start range is from before))
  by_case (Some v) e =
      let it = found_in ranges.entries sector v e in
      ap Some it.value_is ∙ sym (shows.hold it.start it.range sector (btree_map_get_place nat_cmp_total ranges it.at it.start it.range are.ordered it.is) it.from it.before)

-- Maps with fewer ranges

pub fewer_apart : (old new : BTreeMap ℕ RangeValues) → AreApart old → IsOrdered nat_cmp new → ((at : ℕ) (range : RangeValues) → get nat_cmp new at ≡ Some range → get nat_cmp old at ≡ Some range) → AreApart new
fewer_apart old new are ordered only = record {
  ordered = ordered;
  some = λ a r is. are.some a r (only a r is);
  small = λ a r is. are.small a r (only a r is);
  apart = λ a b r q is_r is_q less. are.apart a b r q (only a r is_r) (only b q is_q) less;
}

pub taken_out : (old new : BTreeMap ℕ RangeValues) (key at : ℕ) (range : RangeValues) → Sets old new key None → get nat_cmp new at ≡ Some range → get nat_cmp old at ≡ Some range
taken_out old new key at range set is = by_key (cases_eq at key) where
  by_key : (at ≡ key) ⊎ (at ≡ key → ⊥) → get nat_cmp old at ≡ Some range
  by_key (inl same) = absurd (some_none (get nat_cmp new at) range is (ap (get nat_cmp new) same ∙ set.here))
  by_key (inr other) = sym (set.others at other) ∙ is

pub cleared_more : (first old new : BTreeMap ℕ RangeValues) (start end key : ℕ) → IsCleared first old start end → start ≤ key → key < end → Sets old new key None → IsCleared first new start end
cleared_more first old new start end key were from before set = record {
  some = λ at range is out. set.others at (λ same. out (omega (arith, from, same)) (omega (arith, before, same))) ∙ were.some at range is out;
  only = λ at range is. were.only at range (taken_out old new key at range set is);
}

-- Sectors in which nothing is stored

-- nothing is stored from `start` to `end` if the last range that begins before `end` ends before `start`
module _ (ranges : BTreeMap ℕ RangeValues) (start end at : ℕ) (range : RangeValues) (are : AreApart ranges) (last : IsLastBefore ranges end at range) (less : at < start) (ends : range.len ≤ start - at) (order : start < end) where
  ends_by : (other : ℕ) (r : RangeValues) → get nat_cmp ranges other ≡ Some r → other < end → other + r.len ≤ start
  ends_by other r is before = elim (cases_eq other at) [
    | inl same ↦ let len : r.len ≡ range.len = ap (λ (x : RangeValues). x.len) (same_range (get nat_cmp ranges other) r range is (ap (get nat_cmp ranges) same ∙ last.is)) in omega (arith, same, len, less, ends)
    | inr differ ↦ omega (arith, less, are.apart other at r range is last.is (omega (arith, differ, last.last other r is before)))
  ]

  pub none_between : NoneFrom ranges start end
  none_between other r is from before = omega (arith, from, less, last.last other r is before)

  pub room_there : IsRoomMade ranges ranges start end
  room_there = record {
    cut = ranges;
    same = λ stored shows. shows;
    cut_start = λ other r is before. ends_by other r is (omega (arith, before, order));
    cut_end = λ other r is before. omega (arith, order, ends_by other r is before);
    is_cleared = record { some = λ other r is out. is; only = λ other r is. is };
  }

-- nothing is stored before `end` if no range begins before it
pub room_in_all : (ranges : BTreeMap ℕ RangeValues) (start end : ℕ) → NoneFrom ranges 0 end → start < end → IsRoomMade ranges ranges start end
room_in_all ranges start end none order = record {
  cut = ranges;
  same = λ stored shows. shows;
  cut_start = λ other r is before. absurd (none other r is (omega arith) (omega (arith, before, order)));
  cut_end = λ other r is before. absurd (none other r is (omega arith) before);
  is_cleared = record { some = λ other r is out. is; only = λ other r is. is };
}

-- A range cut in two

pub record AreParts (old between new : BTreeMap ℕ RangeValues) (start sector : ℕ) (range front rest : RangeValues) : Type 0 where
  pub are : AreApart old
  pub is : get nat_cmp old start ≡ Some range
  pub ordered : IsOrdered nat_cmp new
  pub set_front : Sets old between start (Some front)
  pub set_rest : Sets between new sector (Some rest)
  pub after : start < sector
  pub before : sector < start + range.len
  pub front_len : start + front.len ≡ sector
  pub front_first : front.first ≡ range.first
  pub rest_len : sector + rest.len ≡ start + range.len
  pub rest_first : rest.first ≡ further range.first (sector - start)

-- what the map holds after the cut: the second part, the first part, or a range that was there before
data Part (old : BTreeMap ℕ RangeValues) (start sector : ℕ) (front rest : RangeValues) (at : ℕ) (range : RangeValues) : Type 0 where
  IsRest : at ≡ sector → range ≡ rest → Part old start sector front rest at range
  IsFront : at ≡ start → range ≡ front → Part old start sector front rest at range
  IsOther : (at ≡ sector → ⊥) → (at ≡ start → ⊥) → get nat_cmp old at ≡ Some range → Part old start sector front rest at range

module _ (old between new : BTreeMap ℕ RangeValues) (start sector : ℕ) (range front rest : RangeValues) (p : AreParts old between new start sector range front rest) where
  part_of : (at : ℕ) (r : RangeValues) → get nat_cmp new at ≡ Some r → Part old start sector front rest at r
  part_of at r is = by_rest (cases_eq at sector) where
    by_front : (at ≡ sector → ⊥) → (at ≡ start) ⊎ (at ≡ start → ⊥) → Part old start sector front rest at r
    by_front not_rest (inl same) = IsFront same (same_range (get nat_cmp new at) r front is (p.set_rest.others at not_rest ∙ ap (get nat_cmp between) same ∙ p.set_front.here))
    by_front not_rest (inr other) = IsOther not_rest other (sym (p.set_front.others at other) ∙ sym (p.set_rest.others at not_rest) ∙ is)

    by_rest : (at ≡ sector) ⊎ (at ≡ sector → ⊥) → Part old start sector front rest at r
    by_rest (inl same) = IsRest same (same_range (get nat_cmp new at) r rest is (ap (get nat_cmp new) same ∙ p.set_rest.here))
    by_rest (inr other) = by_front other (cases_eq at start)

  len_is : (a b : RangeValues) → a ≡ b → a.len ≡ b.len
  len_is a b e = rw e

  -- no other range begins inside the cut range, and what begins before it ends before it
  other_before : (at : ℕ) (r : RangeValues) → (at ≡ start → ⊥) → get nat_cmp old at ≡ Some r → at < sector → at + r.len ≤ start
  other_before at r other is less = by_order (cases_order at start) where
    by_order : (at ≡ start) ⊎ ((at < start) ⊎ (start < at)) → at + r.len ≤ start
    by_order (inl same) = absurd (other same)
    by_order (inr (inl under)) = p.are.apart at start r range is p.is under
    by_order (inr (inr over)) = absurd (omega (arith, p.are.apart start at range r p.is is over, p.before, less))

  pub parts_apart : AreApart new
  parts_apart = record {
    ordered = p.ordered;
    some = λ a r is. some_at a r (part_of a r is);
    small = λ a r is. small_at a r (part_of a r is);
    apart = λ a b r q is_r is_q less. apart_at a b r q less (part_of a r is_r) (part_of b q is_q);
  } where
    some_at : (a : ℕ) (r : RangeValues) → Part old start sector front rest a r → 0 < r.len
    some_at a r (IsRest same e) = omega (arith, len_is r rest e, p.rest_len, p.before)
    some_at a r (IsFront same e) = omega (arith, len_is r front e, p.front_len, p.after)
    some_at a r (IsOther not_rest not_front is) = p.are.some a r is

    small_at : (a : ℕ) (r : RangeValues) → Part old start sector front rest a r → a + r.len < 2 ^ 64
    small_at a r (IsRest same e) = omega (arith, same, len_is r rest e, p.rest_len, p.are.small start range p.is)
    small_at a r (IsFront same e) = omega (arith, same, len_is r front e, p.front_len, p.before, p.are.small start range p.is)
    small_at a r (IsOther not_rest not_front is) = p.are.small a r is

    apart_at : (a b : ℕ) (r q : RangeValues) → a < b → Part old start sector front rest a r → Part old start sector front rest b q → a + r.len ≤ b
    apart_at a b r q less (IsRest one e) (IsRest two f) = absurd (omega (arith, one, two, less))
    apart_at a b r q less (IsRest one e) (IsFront two f) = absurd (omega (arith, one, two, less, p.after))
    apart_at a b r q less (IsRest one e) (IsOther two f is) = omega (arith, one, len_is r rest e, p.rest_len, p.are.apart start b range q p.is is (omega (arith, one, less, p.after)))
    apart_at a b r q less (IsFront one e) (IsRest two f) = omega (arith, one, two, len_is r front e, p.front_len)
    apart_at a b r q less (IsFront one e) (IsFront two f) = absurd (omega (arith, one, two, less))
    apart_at a b r q less (IsFront one e) (IsOther two f is) = omega (arith, one, len_is r front e, p.front_len, p.before, p.are.apart start b range q p.is is (omega (arith, one, less)))
    apart_at a b r q less (IsOther one e is) (IsRest two f) = omega (arith, two, p.after, other_before a r e is (omega (arith, two, less)))
    apart_at a b r q less (IsOther one e is) (IsFront two f) = let end = p.are.apart a start r range is p.is (omega (arith, two, less)) in omega (arith, two, end)
    apart_at a b r q less (IsOther one e is) (IsOther two f too) = p.are.apart a b r q is too less

  pub parts_keep : KeepsStored old new
  parts_keep stored shows = record {
    hold = λ a r s is from before. hold_at a r s from before (part_of a r is);
    bare = λ s none. shows.bare s (λ a r is from before. bare_at s none a r is from before (cases_eq a start));
  } where
    hold_at : (a : ℕ) (r : RangeValues) (s : ℕ) → a ≤ s → s < a + r.len → Part old start sector front rest a r → stored s ≡ Some (further r.first (s - a))
    hold_at a r s from before (IsRest same e) =
        shows.hold start range s p.is (omega (arith, same, from, p.after)) (omega (arith, same, before, len_is r rest e, p.rest_len))
        ∙ ap Some (ap (further range.first) (let n : s - start ≡ sector - start + (s - a) = omega (arith, same, from, p.after) in n) ∙ sym (further_twice range.first (sector - start) (s - a))
        ∙ ap (λ (x : Value). further x (s - a)) (sym (ap (λ (x : RangeValues). x.first) e ∙ p.rest_first)))
    hold_at a r s from before (IsFront same e) =
        shows.hold start range s p.is (omega (arith, same, from)) (omega (arith, same, before, len_is r front e, p.front_len, p.before))
        ∙ ap Some (ap (further range.first) (let n : s - start ≡ s - a = omega (arith, same) in n) ∙ ap (λ (x : Value). further x (s - a)) (sym (ap (λ (x : RangeValues). x.first) e ∙ p.front_first)))
    hold_at a r s from before (IsOther not_rest not_front was) = shows.hold a r s was from before

    bare_at : (s : ℕ) → ((a : ℕ) (r : RangeValues) → get nat_cmp new a ≡ Some r → a ≤ s → s < a + r.len → ⊥) → (a : ℕ) (r : RangeValues) → get nat_cmp old a ≡ Some r → a ≤ s → s < a + r.len → (a ≡ start) ⊎ (a ≡ start → ⊥) → ⊥
    bare_at s none a r is from before (inl same) = by_side (cases_order s sector) where
      len : r.len ≡ range.len
      len = len_is r range (same_range (get nat_cmp old a) r range is (ap (get nat_cmp old) same ∙ p.is))

      in_rest : sector ≤ s → ⊥
      in_rest low = none sector rest p.set_rest.here low (omega (arith, same, before, len, p.rest_len))

      by_side : (s ≡ sector) ⊎ ((s < sector) ⊎ (sector < s)) → ⊥
      by_side (inl at) = in_rest (omega (arith, at))
      by_side (inr (inl under)) = none start front (p.set_rest.others start (λ at. omega (arith, at, p.after)) ∙ p.set_front.here) (omega (arith, same, from)) (omega (arith, under, p.front_len))
      by_side (inr (inr over)) = in_rest (omega (arith, over))
    bare_at s none a r is from before (inr other) =
        none a r (p.set_rest.others a (λ at. omega (arith, at, p.are.apart start a range r p.is is (omega (arith, at, p.after)), p.before)) ∙ p.set_front.others a other ∙ is) from before

-- Two ranges that become one

pub record AreJoined (old between new : BTreeMap ℕ RangeValues) (start sector : ℕ) (range after joined : RangeValues) : Type 0 where
  pub are : AreApart old
  pub is : get nat_cmp old start ≡ Some range
  pub is_after : get nat_cmp old sector ≡ Some after
  pub ordered : IsOrdered nat_cmp new
  pub set_none : Sets old between sector None
  pub set_joined : Sets between new start (Some joined)
  pub meets : start + range.len ≡ sector
  pub goes_on : further range.first range.len ≡ after.first
  pub len : start + joined.len ≡ sector + after.len
  pub first : joined.first ≡ range.first

module _ (old between new : BTreeMap ℕ RangeValues) (start sector : ℕ) (range after joined : RangeValues) (p : AreJoined old between new start sector range after joined) where
  joined_is : (at : ℕ) (r : RangeValues) → get nat_cmp new at ≡ Some r → at ≡ start → r ≡ joined
  joined_is at r is same = same_range (get nat_cmp new at) r joined is (ap (get nat_cmp new) same ∙ p.set_joined.here)

  joined_len : (at : ℕ) (r : RangeValues) → get nat_cmp new at ≡ Some r → at ≡ start → r.len ≡ joined.len
  joined_len at r is same = rw (joined_is at r is same)

  other_is : (at : ℕ) (r : RangeValues) → get nat_cmp new at ≡ Some r → (at ≡ start → ⊥) → get nat_cmp old at ≡ Some r
  other_is at r is other = taken_out old between sector at r p.set_none (sym (p.set_joined.others at other) ∙ is)

  start_less : start < sector
  start_less = omega (arith, p.meets, p.are.some start range p.is)

  -- a range that begins after the joined one begins after its end
  other_after : (at : ℕ) (r : RangeValues) → get nat_cmp new at ≡ Some r → (at ≡ start → ⊥) → start < at → sector + after.len ≤ at
  other_after at r is other over = by_order (cases_order at sector) where
    was : get nat_cmp old at ≡ Some r
    was = other_is at r is other

    by_order : (at ≡ sector) ⊎ ((at < sector) ⊎ (sector < at)) → sector + after.len ≤ at
    by_order (inl same) = absurd (some_none (get nat_cmp new at) r is (p.set_joined.others at other ∙ ap (get nat_cmp between) same ∙ p.set_none.here))
    by_order (inr (inl under)) = absurd (omega (arith, p.are.apart start at range r p.is was over, p.meets, under))
    by_order (inr (inr beyond)) = p.are.apart sector at after r p.is_after was beyond

  pub joined_apart : AreApart new
  joined_apart = record {
    ordered = p.ordered;
    some = λ a r is. elim (cases_eq a start) [
      | inl same ↦ omega (arith, joined_len a r is same, p.len, start_less)
      | inr other ↦ p.are.some a r (other_is a r is other)
    ];
    small = λ a r is. elim (cases_eq a start) [
      | inl same ↦ omega (arith, same, joined_len a r is same, p.len, p.are.small sector after p.is_after)
      | inr other ↦ p.are.small a r (other_is a r is other)
    ];
    apart = λ a b r q is_r is_q less. apart_at a b r q is_r is_q less (cases_eq a start) (cases_eq b start);
  } where
    apart_at : (a b : ℕ) (r q : RangeValues) → get nat_cmp new a ≡ Some r → get nat_cmp new b ≡ Some q → a < b → (a ≡ start) ⊎ (a ≡ start → ⊥) → (b ≡ start) ⊎ (b ≡ start → ⊥) → a + r.len ≤ b
    apart_at a b r q is_r is_q less (inl one) (inl two) = absurd (omega (arith, one, two, less))
    apart_at a b r q is_r is_q less (inl one) (inr two) = omega (arith, one, joined_len a r is_r one, p.len, other_after b q is_q two (omega (arith, one, less)))
    apart_at a b r q is_r is_q less (inr one) (inl two) = let end = p.are.apart a start r range (other_is a r is_r one) p.is (omega (arith, two, less)) in omega (arith, two, end)
    apart_at a b r q is_r is_q less (inr one) (inr two) = p.are.apart a b r q (other_is a r is_r one) (other_is b q is_q two) less

  pub joined_keep : KeepsStored old new
  joined_keep stored shows = record {
    hold = λ a r s is from before. hold_at a r s is from before (cases_eq a start);
    bare = λ s none. shows.bare s (λ a r is from before. bare_at s none a r is from before (cases_eq a start) (cases_eq a sector));
  } where
    joined_hold : (s : ℕ) → start ≤ s → s < sector + after.len → (s ≡ sector) ⊎ ((s < sector) ⊎ (sector < s)) → stored s ≡ Some (further range.first (s - start))
    joined_hold s from before (inr (inl under)) = shows.hold start range s p.is from (omega (arith, under, p.meets))
    joined_hold s from before (inl at) = in_after s (omega (arith, at)) before where
      in_after : (s : ℕ) → sector ≤ s → s < sector + after.len → stored s ≡ Some (further range.first (s - start))
      in_after s low high =
          shows.hold sector after s p.is_after low high
          ∙ ap Some (ap (λ (x : Value). further x (s - sector)) (sym p.goes_on) ∙ further_twice range.first range.len (s - sector) ∙ ap (further range.first) (let n : range.len + (s - sector) ≡ s - start = omega (arith, low, p.meets) in n))
    joined_hold s from before (inr (inr over)) =
        shows.hold sector after s p.is_after (omega (arith, over)) before
        ∙ ap Some (ap (λ (x : Value). further x (s - sector)) (sym p.goes_on) ∙ further_twice range.first range.len (s - sector) ∙ ap (further range.first) (let n : range.len + (s - sector) ≡ s - start = omega (arith, over, p.meets) in n))

    hold_at : (a : ℕ) (r : RangeValues) (s : ℕ) → get nat_cmp new a ≡ Some r → a ≤ s → s < a + r.len → (a ≡ start) ⊎ (a ≡ start → ⊥) → stored s ≡ Some (further r.first (s - a))
    hold_at a r s is from before (inl same) =
        joined_hold s (omega (arith, same, from)) (omega (arith, same, before, joined_len a r is same, p.len)) (cases_order s sector)
        ∙ ap Some (ap (further range.first) (let n : s - start ≡ s - a = omega (arith, same) in n) ∙ ap (λ (x : Value). further x (s - a)) (sym (ap (λ (x : RangeValues). x.first) (joined_is a r is same) ∙ p.first)))
    hold_at a r s is from before (inr other) = shows.hold a r s (other_is a r is other) from before

    bare_at : (s : ℕ) → ((a : ℕ) (r : RangeValues) → get nat_cmp new a ≡ Some r → a ≤ s → s < a + r.len → ⊥) → (a : ℕ) (r : RangeValues) → get nat_cmp old a ≡ Some r → a ≤ s → s < a + r.len → (a ≡ start) ⊎ (a ≡ start → ⊥) → (a ≡ sector) ⊎ (a ≡ sector → ⊥) → ⊥
    bare_at s none a r is from before (inl same) at =
        let len : r.len ≡ range.len = rw (same_range (get nat_cmp old a) r range is (ap (get nat_cmp old) same ∙ p.is)) in
        none start joined p.set_joined.here (omega (arith, same, from)) (omega (arith, same, before, len, p.meets, p.len))
    bare_at s none a r is from before (inr other) (inl same) =
        let len : r.len ≡ after.len = rw (same_range (get nat_cmp old a) r after is (ap (get nat_cmp old) same ∙ p.is_after)) in
        none start joined p.set_joined.here (omega (arith, same, from, start_less)) (omega (arith, same, before, len, p.len))
    bare_at s none a r is from before (inr other) (inr not_after) = none a r (p.set_joined.others a other ∙ p.set_none.others a not_after ∙ is) from before

-- A range put in the place of those that were cleared

pub record IsPut (old cleared new : BTreeMap ℕ RangeValues) (start : ℕ) (range : RangeValues) : Type 0 where
  pub are : AreApart cleared
  pub ordered : IsOrdered nat_cmp new
  pub some : 0 < range.len
  pub small : start + range.len < 2 ^ 64
  pub cut_start : IsCut old start
  pub cut_end : IsCut old (start + range.len)
  pub none : NoneFrom cleared start (start + range.len)
  pub is_cleared : IsCleared old cleared start (start + range.len)
  pub set : Sets cleared new start (Some range)

module _ (old cleared new : BTreeMap ℕ RangeValues) (start : ℕ) (range : RangeValues) (p : IsPut old cleared new start range) where
  range_is : (at : ℕ) (r : RangeValues) → get nat_cmp new at ≡ Some r → at ≡ start → r ≡ range
  range_is at r is same = same_range (get nat_cmp new at) r range is (ap (get nat_cmp new) same ∙ p.set.here)

  range_len : (at : ℕ) (r : RangeValues) → get nat_cmp new at ≡ Some r → at ≡ start → r.len ≡ range.len
  range_len at r is same = rw (range_is at r is same)

  kept_is : (at : ℕ) (r : RangeValues) → get nat_cmp new at ≡ Some r → (at ≡ start → ⊥) → get nat_cmp cleared at ≡ Some r
  kept_is at r is other = sym (p.set.others at other) ∙ is

  kept_before : (at : ℕ) (r : RangeValues) → get nat_cmp cleared at ≡ Some r → at < start → at + r.len ≤ start
  kept_before at r is less = p.cut_start at r (p.is_cleared.only at r is) less

  kept_after : (at : ℕ) (r : RangeValues) → get nat_cmp cleared at ≡ Some r → start < at → start + range.len ≤ at
  kept_after at r is less = by_order (cases_order at (start + range.len)) where
    by_order : (at ≡ start + range.len) ⊎ ((at < start + range.len) ⊎ (start + range.len < at)) → start + range.len ≤ at
    by_order (inl same) = omega (arith, same)
    by_order (inr (inl under)) = absurd (p.none at r is (omega (arith, less)) under)
    by_order (inr (inr over)) = omega (arith, over)

  pub put_apart : AreApart new
  put_apart = record {
    ordered = p.ordered;
    some = λ a r is. elim (cases_eq a start) [
      | inl same ↦ omega (arith, range_len a r is same, p.some)
      | inr other ↦ p.are.some a r (kept_is a r is other)
    ];
    small = λ a r is. elim (cases_eq a start) [
      | inl same ↦ omega (arith, same, range_len a r is same, p.small)
      | inr other ↦ p.are.small a r (kept_is a r is other)
    ];
    apart = λ a b r q is_r is_q less. apart_at a b r q is_r is_q less (cases_eq a start) (cases_eq b start);
  } where
    apart_at : (a b : ℕ) (r q : RangeValues) → get nat_cmp new a ≡ Some r → get nat_cmp new b ≡ Some q → a < b → (a ≡ start) ⊎ (a ≡ start → ⊥) → (b ≡ start) ⊎ (b ≡ start → ⊥) → a + r.len ≤ b
    apart_at a b r q is_r is_q less (inl one) (inl two) = absurd (omega (arith, one, two, less))
    apart_at a b r q is_r is_q less (inl one) (inr two) = omega (arith, one, range_len a r is_r one, kept_after b q (kept_is b q is_q two) (omega (arith, one, less)))
    apart_at a b r q is_r is_q less (inr one) (inl two) = let end = kept_before a r (kept_is a r is_r one) (omega (arith, two, less)) in omega (arith, two, end)
    apart_at a b r q is_r is_q less (inr one) (inr two) = p.are.apart a b r q (kept_is a r is_r one) (kept_is b q is_q two) less

  pub put_shows : (stored : Stored) → Shows old stored → Shows new (spanned stored start range.len range.first)
  put_shows stored shows = record {
    hold = λ a r s is from before. hold_at a r s is from before (cases_eq a start);
    bare = λ s none. bare_at s none;
  } where
    out : (a : ℕ) (r : RangeValues) (s : ℕ) → get nat_cmp cleared a ≡ Some r → (a ≡ start → ⊥) → a ≤ s → s < a + r.len → start ≤ s → s < start + range.len → ⊥
    out a r s is other from before low high = by_order (cases_order a start) where
      by_order : (a ≡ start) ⊎ ((a < start) ⊎ (start < a)) → ⊥
      by_order (inl same) = other same
      by_order (inr (inl under)) = omega (arith, kept_before a r is under, before, low)
      by_order (inr (inr over)) = omega (arith, kept_after a r is over, from, high)

    hold_at : (a : ℕ) (r : RangeValues) (s : ℕ) → get nat_cmp new a ≡ Some r → a ≤ s → s < a + r.len → (a ≡ start) ⊎ (a ≡ start → ⊥) → spanned stored start range.len range.first s ≡ Some (further r.first (s - a))
    hold_at a r s is from before (inl same) =
        spanned_in stored start range.len range.first s (omega (arith, same, from)) (omega (arith, same, before, range_len a r is same))
        ∙ ap Some (ap (further range.first) (let n : s - start ≡ s - a = omega (arith, same) in n) ∙ ap (λ (x : RangeValues). further x.first (s - a)) (sym (range_is a r is same)))
    hold_at a r s is from before (inr other) =
        let kept = kept_is a r is other in
        spanned_out stored start range.len range.first s (out a r s kept other from before) ∙ shows.hold a r s (p.is_cleared.only a r kept) from before

    was_out : (s : ℕ) → (start ≤ s → s < start + range.len → ⊥) → (a : ℕ) (r : RangeValues) → get nat_cmp old a ≡ Some r → a ≤ s → s < a + r.len → start ≤ a → a < start + range.len → ⊥
    was_out s away a r is from before low high = away (omega (arith, low, from)) (omega (arith, p.cut_end a r is high, before))

    bare_at : (s : ℕ) → ((a : ℕ) (r : RangeValues) → get nat_cmp new a ≡ Some r → a ≤ s → s < a + r.len → ⊥) → spanned stored start range.len range.first s ≡ None
    bare_at s none =
        let away : start ≤ s → s < start + range.len → ⊥ = none start range p.set.here in
        spanned_out stored start range.len range.first s away
        ∙ shows.bare s (λ a r is from before.
        let not_in = was_out s away a r is from before in
        none a r (p.set.others a (λ same. not_in (omega (arith, same)) (omega (arith, same, p.some))) ∙ p.is_cleared.some a r is not_in) from before)

-- the first values of a range that contains the sector are the first values on the disk

pub first_held : (ranges : BTreeMap ℕ RangeValues) (disk start len from : ℕ) (range result : RangeValues) → AreApart ranges → Has ranges start from range → 1 ≤ result.len → result.len ≤ len → start - from + result.len ≤ range.len → result.first ≡ further range.first (start - from)
    → AreFirst (λ (on sector : ℕ). held on (stored_in ranges.entries sector) sector) disk start len result
first_held ranges disk start len from range result are has some most within first = record {
  some = some;
  most = most;
  hold = λ i less.
      rw (((view_shows ranges are).hold from range (start + i) has.is (omega (arith, has.from)) (omega (arith, has.from, within, less))), first) (ap (further range.first) (let n : start + i - from ≡ start - from + i = omega (arith, has.from) in n) ∙ sym (further_twice range.first (start - from) i));
}

pub bare_hold : (ranges : BTreeMap ℕ RangeValues) (disk start n : ℕ) → AreApart ranges → ((i : ℕ) → i < n → IsBare ranges (start + i)) → HoldOn (λ (on sector : ℕ). held on (stored_in ranges.entries sector) sector) disk start n (value.Old disk start)
bare_hold ranges disk start n are bare i less = rw ((view_shows ranges are).bare (start + i) (bare i less))

-- Disks on which nothing is stored

pub none_hold : (disks : List (List (ℕ × RangeValues))) (disk start n : ℕ) → length disks ≤ disk → HoldOn (values_of disks) disk start n (value.Old disk start)
unfolding stored_in
none_hold disks disk start n past i less = rw (get_or_past disks disk [] past)

-- with no ranges at all, every sector holds its old value
pub nothing_held : (disk sector : ℕ) → values_of [] disk sector ≡ value.Old disk sector
unfolding stored_in
nothing_held disk sector = ap (λ (entries : List (ℕ × RangeValues)). held disk (stored_in entries sector) sector) (get_or_past [] disk [] (omega arith))
