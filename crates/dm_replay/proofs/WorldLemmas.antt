-- Worlds after one more request, played to its end or halted.
use Rattle.dm_replay.proofs.Prelude.{ℕ, false, cond, List, [], length, min, nat_lt, Option, Some, None, refl, ◌∙◌, arith, AllByRecursion, Op, Request, IsTidy, IsTop, Description, device_len, MapperView, left_state, played_of, request_step, step_for, IsFitting, State, sector_past, halted_units, AreAlone, KeptWrite, RangeValues, Value, ValueRun, Asked, World, asked_answers, first_world, next_world, with_values, world_after, world_from, AreValuesOf, values_of, answers_cong, played_cong, AreOfTops, IsGoing, IsKept, whole_request, kept_request, rerun_from, with_request, flat, old_values, played, played_answers, all_append, Read, Write}
use Rattle.dm_replay.proofs.OfDiskLemmas.{old_of, same_of}
use Rattle.dm_replay.proofs.OwnWorlds.{own_after}
use Rattle.dm_replay.proofs.Playbacks.{units_asked}
use Rattle.dm_replay.proofs.RerunLemmas.{next_inside, rerun_halted, rerun_more, whole_few}
use Rattle.dm_replay.proofs.StoredLemmas.{nothing_held}
use Rattle.std.specs.Prelude.{◌≡◌, ◌+◌, ◌-◌, ◌<◌, ◌≤◌, ◌∷◌, ◌++◌}

from-push : (stack : Description) (world : World) (all : List Asked) (asked : Asked) → world_from stack world (all ++ asked ∷ []) ≡ next_world stack (world_from stack world all) asked
unfolding world_from
from-push stack world [] asked = refl
from-push stack world (first ∷ all) asked = from-push stack (next_world stack world first) all asked

pub world-push : (stack : Description) (start : State) (all : List Asked) (asked : Asked) → world_after stack start (all ++ asked ∷ []) ≡ next_world stack (world_after stack start all) asked
world-push stack start all asked = from-push stack (first_world stack start) all asked

-- a replay at its start keeps the world at the start
pub going_first : (stack disks : Description) (start : State) (mapper : MapperView) (ranges : List (List (ℕ × RangeValues))) → mapper.failed ≡ false → mapper.stack ≡ stack → mapper.state ≡ start → disks ≡ stack → ranges ≡ [] → IsGoing stack start mapper disks ranges [] []
unfolding world_from rerun_from
going_first stack disks start mapper ranges maps of state_is disks_is none = record {
  maps = maps;
  mapper_stack = of;
  player_stack = disks_is;
  state_is = state_is;
  values_are = λ disk sector. cc (nothing_held disk sector);
  disks_are = rw none (same_of (length stack.disks) old_values (values_of []) nothing_held (old_of (length stack.disks)));
  asked_are = tt;
  kept_are = tt;
  rerun_is = refl;
}

-- the values that a mapper and a player made of a request are those of the next world
next_values : (stack : Description) (mapper : MapperView) (ranges newer : List (List (ℕ × RangeValues))) (world : World) (request : Request) (device : ℕ) (stop : Option ℕ) → mapper.stack ≡ stack → mapper.state ≡ world.state
    → ((disk sector : ℕ) → values_of ranges disk sector ≡ world.values disk sector)
    → ((disk sector : ℕ) → values_of newer disk sector ≡ played request.number request.start (played_of stop (units_asked mapper.stack request device mapper.state)) (values_of ranges) disk sector)
    → (disk sector : ℕ) → values_of newer disk sector ≡ (next_world stack world (kept_request request device stop)).values disk sector
next_values stack mapper ranges newer world request device stop of state_is same is disk sector =
    cc (is disk sector, of, state_is, played_cong request.number request.start (played_of stop (units_asked stack request device world.state)) (values_of ranges) world.values same disk sector)

-- a replay after one more request keeps the world after it
going_next : (stack disks later_disks : Description) (start : State) (mapper later : MapperView) (ranges newer : List (List (ℕ × RangeValues))) (all : List Asked) (writes more : List KeptWrite) (request : Request) (device : ℕ) (stop : Option ℕ)
    → IsTop stack device → AllByRecursion (IsKept stack) more → IsGoing stack start mapper disks ranges all writes
    → later.failed ≡ false → later.stack ≡ stack → later_disks ≡ disks → later.state ≡ left_state stack stop (with_values (kept_request request device stop)) (world_after stack start all).state
    → ((disk sector : ℕ) → values_of newer disk sector ≡ played request.number request.start (played_of stop (units_asked mapper.stack request device mapper.state)) (values_of ranges) disk sector)
    → AreValuesOf (length mapper.stack.disks) (values_of newer)
    → rerun_from stack start more ≡ left_state stack stop (with_values (kept_request request device stop)) (world_after stack start all).state
    → IsGoing stack start later later_disks newer (all ++ kept_request request device stop ∷ []) more
going_next stack disks later_disks start mapper later ranges newer all writes more request device stop top kept was maps same same_disks state_is values_are disks_are again =
    let one = kept_request request device stop in
    let pushed = world-push stack start all one in
    record {
      maps = maps;
      mapper_stack = same;
      player_stack = same_disks ∙ was.player_stack;
      state_is = rw pushed state_is;
      values_are = λ disk sector.
          rw pushed (next_values stack mapper ranges newer (world_after stack start all) request device stop was.mapper_stack was.state_is was.values_are values_are disk sector);
      disks_are = rw (← was.mapper_stack) disks_are;
      asked_are = all_append (λ (asked : Asked). IsTop stack asked.device) all (one ∷ []) was.asked_are (top, tt);
      kept_are = kept;
      rerun_is = rw pushed again;
    }

-- the kept writes of top devices, with one more request
pub kept_more : (stack : Description) (op : Op) (write : KeptWrite) (writes : List KeptWrite) → IsKept stack write → AllByRecursion (IsKept stack) writes → AllByRecursion (IsKept stack) (with_request op write writes)
kept_more stack Read write writes one each = each
kept_more stack Write write writes one each = all_append (IsKept stack) writes (write ∷ []) each (one, tt)

-- the whole sectors of a request, as a write to keep
abbrev pub write_of : Request → (device whole : ℕ) → KeptWrite
write_of request device whole = record { device = device; start = request.start; whole = whole }

pub is_kept : (stack : Description) (request : Request) (device whole : ℕ) → device < length stack.devices → IsTop stack device → whole ≤ request.len → IsKept stack (write_of request device whole)
is_kept stack request device whole there top few = record { there = there; top = top; few = omega (arith, few, request.at_most) }

-- a replay after a request that was played to its end keeps the world after it
pub going_whole : (stack disks later_disks : Description) (start : State) (mapper later : MapperView) (ranges newer : List (List (ℕ × RangeValues))) (all : List Asked) (writes : List KeptWrite) (request : Request) (device : ℕ)
    → IsKept stack (write_of request device request.len) → IsGoing stack start mapper disks ranges all writes
    → later.failed ≡ false → later.stack ≡ mapper.stack → later_disks ≡ disks → later.state ≡ (step_for mapper.stack request device mapper.state).state
    → ((disk sector : ℕ) → values_of newer disk sector ≡ played request.number request.start (units_asked mapper.stack request device mapper.state) (values_of ranges) disk sector)
    → AreValuesOf (length mapper.stack.disks) (values_of newer)
    → IsGoing stack start later later_disks newer (all ++ whole_request request device ∷ []) (with_request request.op (write_of request device request.len) writes)
going_whole stack disks later_disks start mapper later ranges newer all writes request device one was maps same same_disks state_is values_are disks_are =
    let before = world_after stack start all in let write = write_of request device request.len in
    going_next stack disks later_disks start mapper later ranges newer all writes (with_request request.op write writes) request device None one.top (kept_more stack request.op write writes one was.kept_are) was maps (same ∙ was.mapper_stack) same_disks
    (cc)
    values_are disks_are
    (rerun_more stack start request.op write writes before.state (step_for stack request device before.state).state was.rerun_is refl)

-- a halted request has at most as many whole sectors as sectors
pub few_whole : (stack : Description) (start : State) (mapper : MapperView) (all : List Asked) (request : Request) (device units : ℕ) → AreAlone Value stack → IsTidy stack → IsFitting stack start → AreOfTops stack all → IsTop stack device
    → mapper.stack ≡ stack → mapper.state ≡ (world_after stack start all).state
    → sector_past (halted_units mapper.stack request.op device request.start request.len units mapper.state) 0 ≤ request.len
few_whole stack start mapper all request device units law tidy fits each top of state_is =
    let own = own_after stack start all law tidy fits each in let before = world_after stack start all in
    rw (of, state_is) (law.few _ request.op before.state device request.start request.len units before.values _ tidy top own)

-- what the next sector to answer implies about the whole sectors of a halted request
pub record AreWhole (mapper : MapperView) (request : Request) (device units whole : ℕ) : Type 0 where
  pub few : whole ≤ request.len
  pub again : (request_step mapper.stack request.op device request.start whole mapper.state).state ≡ left_state mapper.stack (Some units) (with_values (kept_request request device (Some units))) mapper.state

pub are_whole : (stack : Description) (mapper : MapperView) (request : Request) (device units next whole : ℕ) → mapper.stack ≡ stack
    → next ≡ sector_past (halted_units mapper.stack request.op device request.start request.len units mapper.state) (min request.start (device_len mapper.stack device))
    → sector_past (halted_units mapper.stack request.op device request.start request.len units mapper.state) 0 ≤ request.len
    → whole ≡ cond (nat_lt (device_len stack device) (request.start + request.len)) 0 (next - request.start) → AreWhole mapper request device units whole
are_whole stack mapper request device units next whole of next_is few whole_is =
    let same : whole ≡ cond (nat_lt (device_len mapper.stack device) (request.start + request.len)) 0 (next - request.start) =
    rw of whole_is in
    record {
      few = whole_few (device_len mapper.stack device) request.start request.len next whole (halted_units mapper.stack request.op device request.start request.len units mapper.state) next_is few same;
      again = rerun_halted mapper.stack request.op device request.start request.len units next whole mapper.state next_is few same;
    }

-- the next sector to answer is not before the request's start
pub next_start : (stack : Description) (mapper : MapperView) (request : Request) (device units next : ℕ) → mapper.stack ≡ stack
    → next ≡ sector_past (halted_units mapper.stack request.op device request.start request.len units mapper.state) (min request.start (device_len mapper.stack device))
    → request.start + request.len ≤ device_len stack device → request.start ≤ next
next_start stack mapper request device units next of next_is fits =
    let inside : request.start + request.len ≤ device_len mapper.stack device = rw of fits in
    let at = next_inside (device_len mapper.stack device) request.start request.len next (halted_units mapper.stack request.op device request.start request.len units mapper.state) next_is inside in
    omega (arith, at)

-- after a request was halted, mapping the kept writes again gives the state that it left

pub same_again : (stack : Description) (start : State) (mapper : MapperView) (disks : Description) (ranges : List (List (ℕ × RangeValues))) (all : List Asked) (writes : List KeptWrite) (request : Request) (device units whole : ℕ) → IsGoing stack start mapper disks ranges all writes → AreWhole mapper request device units whole
    → rerun_from stack start (with_request request.op (write_of request device whole) writes) ≡ left_state stack (Some units) (with_values (kept_request request device (Some units))) (world_after stack start all).state
same_again stack start mapper disks ranges all writes request device units whole was is =
    let before = world_after stack start all in
    rerun_more stack start request.op (write_of request device whole) writes before.state _ was.rerun_is
    (rw was.mapper_stack at (rw was.state_is at is.again))

pub going_halted : (stack disks later_disks : Description) (start : State) (mapper later : MapperView) (ranges newer : List (List (ℕ × RangeValues))) (all : List Asked) (writes : List KeptWrite) (request : Request) (device units whole : ℕ)
    → IsKept stack (write_of request device whole) → IsGoing stack start mapper disks ranges all writes
    → later.failed ≡ false → later.stack ≡ stack → later_disks ≡ disks → later.state ≡ rerun_from stack start (with_request request.op (write_of request device whole) writes)
    → ((disk sector : ℕ) → values_of newer disk sector ≡ played request.number request.start (halted_units mapper.stack request.op device request.start request.len units mapper.state) (values_of ranges) disk sector)
    → AreValuesOf (length mapper.stack.disks) (values_of newer)
    → AreWhole mapper request device units whole
    → IsGoing stack start later later_disks newer (all ++ kept_request request device (Some units) ∷ []) (with_request request.op (write_of request device whole) writes)
going_halted stack disks later_disks start mapper later ranges newer all writes request device units whole one was maps same same_disks state_is values_are disks_are is =
    let write = write_of request device whole in let again = same_again stack start mapper disks ranges all writes request device units whole was is in
    going_next stack disks later_disks start mapper later ranges newer all writes (with_request request.op write writes) request device (Some units) one.top (kept_more stack request.op write writes one was.kept_are) was maps same same_disks
    (state_is ∙ again) values_are disks_are again

-- what a request answers is what the world before it determines
pub answers_after : (stack disks : Description) (start : State) (mapper : MapperView) (ranges : List (List (ℕ × RangeValues))) (all : List Asked) (writes : List KeptWrite) (request : Request) (device : ℕ) (runs : List ValueRun) → IsGoing stack start mapper disks ranges all writes
    → flat runs ≡ played_answers request.number request.start (units_asked mapper.stack request device mapper.state) (values_of ranges)
    → flat runs ≡ asked_answers stack (world_after stack start all) (whole_request request device)
answers_after stack disks start mapper ranges all writes request device runs was is =
    let before = world_after stack start all in
    cc (is, was.mapper_stack, was.state_is, answers_cong request.number request.start (units_asked stack request device before.state) (values_of ranges) before.values was.values_are)
