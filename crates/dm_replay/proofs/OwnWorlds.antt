-- Worlds in which each top device has what it would have alone, or errors, and worlds without errors: they stay like that if no claims clash.
use Rattle.dm_replay.proofs.Prelude.{inl, ℕ, List, [], Option, Some, None, refl, Device, IsTidy, IsTop, Description, AreAlwaysExact, AreExact, AreNeverLost, IsAmple, IsIntact, IsOwnAt, after_played, value_read, AreAlone, BlockUnit, Fails, IsFitting, State, read, IsRead, Sector, Nothing, Fault, is_read, Value, Asked, World, first_world, next_world, with_values, world_after, world_from, AreOfTops, old_values, MOST_DEPTH}
use Rattle.dm_replay.specs.declared.value.Value.TheVariants as value
use Rattle.std.specs.Prelude.{◌≡◌, ◌∷◌}

-- What each request to a top device keeps, all of them keep

Keeps : Description → (World → Type 0) → Type 0
Keeps stack P = (world : World) (asked : Asked) → IsTop stack asked.device → P world → P (next_world stack world asked)

kept_from : (stack : Description) (P : World → Type 0) (world : World) (all : List Asked) → Keeps stack P → AreOfTops stack all → P world → P (world_from stack world all)
unfolding world_from Keeps
kept_from stack P world [] keeps each was = was
kept_from stack P world (asked ∷ later) keeps each was = kept_from stack P (next_world stack world asked) later keeps each.1 (keeps world asked each.0 was)

-- Worlds in which each top device has its row, or errors

own_at : (stack : Description) (start : State) → IsFitting stack start → IsOwnAt value.Zero stack (first_world stack start)
own_at stack start fits = record { fits = fits; tops = λ top sector is_top. inl refl }

own_next : (stack : Description) → AreAlone Value stack → IsTidy stack → Keeps stack (IsOwnAt value.Zero stack)
unfolding Keeps
own_next stack law tidy world asked top was = by_stop asked.halted_after
  where
    by_stop : (stop : Option ℕ) → IsOwnAt value.Zero stack (after_played value.Zero stack stop (with_values asked) world)
    by_stop None = law.request value.Zero (value.Wrote asked.number) asked.op world.state asked.device asked.start asked.len world.values world.rows tidy top was
    by_stop (Some count) = law.halted value.Zero (value.Wrote asked.number) asked.op world.state asked.device asked.start asked.len count world.values world.rows tidy top was

pub own_after : (stack : Description) (start : State) (all : List Asked) → AreAlone Value stack → IsTidy stack → IsFitting stack start → AreOfTops stack all → IsOwnAt value.Zero stack (world_after stack start all)
own_after stack start all law tidy fits each = kept_from stack (IsOwnAt value.Zero stack) (first_world stack start) all (own_next stack law tidy) each (own_at stack start fits)

-- Worlds in which each top device has its row, without errors

abbrev pub IsExact : Description → World → Type 0
IsExact stack world = AreExact value.Zero stack world.state world.values world.rows

exact_next : (stack : Description) → AreAlwaysExact Value stack → IsAmple stack → IsTidy stack → Keeps stack (IsExact stack)
unfolding Keeps
exact_next stack law ample tidy world asked top was = by_stop asked.halted_after
  where
    by_stop : (stop : Option ℕ) → IsExact stack (after_played value.Zero stack stop (with_values asked) world)
    by_stop None = law.request value.Zero (value.Wrote asked.number) asked.op world.state asked.device asked.start asked.len world.values world.rows ample tidy top was
    by_stop (Some count) = law.halted value.Zero (value.Wrote asked.number) asked.op world.state asked.device asked.start asked.len count world.values world.rows ample tidy top was

exact_at : (stack : Description) (start : State) → AreNeverLost stack → IsAmple stack → IsIntact stack start → IsExact stack (first_world stack start)
exact_at stack start law ample intact = record {
  own = own_at stack start intact.fits;
  intact = intact;
  tops = λ top sector is_top within. has_value (read stack start (Device top) sector) (is_read stack start MOST_DEPTH (Device top) sector) (law.reads start top sector ample intact within);
}
  where
    has_value : (unit : BlockUnit) → IsRead unit → (unit ≡ Fails → ⊥) → (given : Value) × (value_read value.Zero old_values unit ≡ Some given) × (value_read value.Zero old_values unit ≡ Some given)
    has_value unit (Sector disk at is) none = rw is (old_values disk at, refl, refl)
    has_value unit (Nothing is) none = rw is (value.Zero, refl, refl)
    has_value unit (Fault is) none = absurd (none is)

pub exact_after : (stack : Description) (start : State) (all : List Asked) → AreNeverLost stack → AreAlwaysExact Value stack → IsAmple stack → IsIntact stack start → IsTidy stack → AreOfTops stack all → IsExact stack (world_after stack start all)
exact_after stack start all lost law ample intact tidy each = kept_from stack (IsExact stack) (first_world stack start) all (exact_next stack law ample tidy) each (exact_at stack start lost ample intact)
