-- The state after a halted request is the one after its whole sectors are mapped again.
use Rattle.dm_replay.proofs.Prelude.{ℕ, zero, suc, Bool, true, false, cond, List, [], get_or, length, min, nat_lt, replicate, take, refl, sym, ap, ◌∙◌, arith, nat_tests, take_more, Op, Device, Description, device_len, answers, sector_after, sector_past, MapperView, request_step, sector_step, State, start_state, keep, steps, halted_state, halted_units, BlockUnit, Fails, KeptWrite, rerun_from, rerun_step, with_request, MOST_DEPTH, Read, Write}
use Rattle.std.specs.Prelude.{◌≡◌, ◌+◌, ◌-◌, ◌<◌, ◌≤◌, ◌∷◌, ◌++◌}

-- Requests that change no state

pub none_mapped : (stack : Description) (op : Op) (device start : ℕ) (state : State) → (request_step stack op device start 0 state).state ≡ state
none_mapped stack op device start state = by_end (nat_lt (device_len stack device) (start + 0))
  where
    by_end : (past : Bool) → (cond past (keep (replicate 0 Fails) state) (steps (sector_step stack op MOST_DEPTH (Device device)) state start 0)).state ≡ state
    by_end true = refl
    by_end false = refl

reads_keep : (stack : Description) (device start len : ℕ) (state : State) → (steps (sector_step stack Read MOST_DEPTH (Device device)) state start len).state ≡ state
reads_keep stack device start zero state = refl
reads_keep stack device start (suc len) state = reads_keep stack device (suc start) len state

pub read_mapped : (stack : Description) (device start len : ℕ) (state : State) → (request_step stack Read device start len state).state ≡ state
read_mapped stack device start len state = by_end (nat_lt (device_len stack device) (start + len))
  where
    by_end : (past : Bool) → (cond past (keep (replicate len Fails) state) (steps (sector_step stack Read MOST_DEPTH (Device device)) state start len)).state ≡ state
    by_end true = refl
    by_end false = reads_keep stack device start len state

-- The next sector to answer after units, from any sector on

past_shift : (units : List BlockUnit) (a b : ℕ) → sector_past units (a + b) ≡ a + sector_past units b
unfolding sector_past
past_shift [] a b = refl
past_shift (unit ∷ units) a b = ap (sector_past units) (one_shift (answers unit)) ∙ past_shift units a (sector_after unit b)
  where
    one_shift : (answered : Bool) → cond answered (suc (a + b)) (a + b) ≡ a + cond answered (suc b) b
    one_shift true = omega arith
    one_shift false = refl

pub past_from : (units : List BlockUnit) (sector : ℕ) → sector_past units sector ≡ sector + sector_past units 0
past_from units sector = ap (sector_past units) (let e : sector ≡ sector + 0 = omega arith in e) ∙ past_shift units sector 0

-- The whole sectors of a halted request

-- a request lies inside its device if its end isn't past the device's end
inside : (end start len : ℕ) → nat_lt end (start + len) ≡ false → start + len ≤ end
inside end start len is = grind (arith, nat_tests)

not_past : (end start len : ℕ) → start + len ≤ end → nat_lt end (start + len) ≡ false
not_past end start len fits = grind (arith, nat_tests)

-- the next sector to answer of a request inside its device counts from the request's start
pub next_inside : (end start len next : ℕ) (units : List BlockUnit) → next ≡ sector_past units (min start end) → start + len ≤ end → next ≡ start + sector_past units 0
next_inside end start len next units is fits = is ∙ ap (sector_past units) (let e : min start end ≡ start = omega (arith, fits) in e) ∙ past_from units start

pub whole_few : (end start len next whole : ℕ) (units : List BlockUnit) → next ≡ sector_past units (min start end) → sector_past units 0 ≤ len → whole ≡ cond (nat_lt end (start + len)) 0 (next - start) → whole ≤ len
whole_few end start len next whole units is few whole_is = by_end (nat_lt end (start + len)) refl whole_is
  where
    by_end : (past : Bool) → nat_lt end (start + len) ≡ past → whole ≡ cond past 0 (next - start) → whole ≤ len
    by_end true e w = let none : whole ≡ 0 = w in omega (arith, none)
    by_end false e w =
        let some : whole ≡ next - start = w in let at = next_inside end start len next units is (inside end start len e) in
        omega (arith, some, few, at)

pub rerun_halted : (stack : Description) (op : Op) (device start len count next whole : ℕ) (state : State) → next ≡ sector_past (halted_units stack op device start len count state) (min start (device_len stack device))
    → sector_past (halted_units stack op device start len count state) 0 ≤ len → whole ≡ cond (nat_lt (device_len stack device) (start + len)) 0 (next - start)
    → (request_step stack op device start whole state).state ≡ halted_state stack op device start len count state
rerun_halted stack op device start len count next whole state is few whole_is = by_end (nat_lt (device_len stack device) (start + len)) refl whole_is
  where
    by_end : (past : Bool) → nat_lt (device_len stack device) (start + len) ≡ past → whole ≡ cond past 0 (next - start)
        → (request_step stack op device start whole state).state ≡ cond past state (steps (sector_step stack op MOST_DEPTH (Device device)) state start (sector_past (halted_units stack op device start len count state) 0)).state
    by_end true e none = rw none (none_mapped stack op device start state)
    by_end false e some =
        let end = device_len stack device in
        let units = halted_units stack op device start len count state in
        let step = sector_step stack op MOST_DEPTH (Device device) in
        let fits = inside end start len e in
        let rest : whole ≡ next - start = some in
        let at : next ≡ start + sector_past units 0 = next_inside end start len next units is fits in
        let same : whole ≡ sector_past units 0 = omega (arith, rest, at) in
        let within : start + whole ≤ end = omega (arith, fits, same, few) in
        rw (not_past end start whole within, same)

-- Writes mapped one after the other

-- a mapper in the state after these writes, and a sink of its stack
pub record IsRerun (stack sink : Description) (mapper : MapperView) (all : List KeptWrite) : Type 0 where
  pub going : mapper.failed ≡ false
  pub of : mapper.stack ≡ stack
  pub same : sink ≡ stack
  pub state : mapper.state ≡ rerun_from stack (start_state stack) all

pub rerun-push : (stack : Description) (state : State) (all : List KeptWrite) (kept : KeptWrite) → rerun_from stack state (all ++ kept ∷ []) ≡ rerun_step stack kept (rerun_from stack state all)
unfolding rerun_from
rerun-push stack state [] kept = refl
rerun-push stack state (first ∷ all) kept = rerun-push stack (rerun_step stack first state) all kept

-- the state after one more request, which may be a read, by mapping the kept writes again
pub rerun_more : (stack : Description) (start : State) (op : Op) (write : KeptWrite) (writes : List KeptWrite) (before after : State) → rerun_from stack start writes ≡ before → (request_step stack op write.device write.start write.whole before).state ≡ after
    → rerun_from stack start (with_request op write writes) ≡ after
rerun_more stack start Read write writes before after is step = is ∙ sym (read_mapped stack write.device write.start write.whole before) ∙ step
rerun_more stack start Write write writes before after is step = rerun-push stack start writes write ∙ ap (rerun_step stack write) is ∙ step

pub rerun_first : (stack sink : Description) (mapper : MapperView) (all : List KeptWrite) → mapper.failed ≡ false → mapper.stack ≡ stack → sink ≡ stack → mapper.state ≡ start_state stack → IsRerun stack sink mapper (take 0 all)
unfolding rerun_from
rerun_first stack sink mapper all going of same state = record { going = going; of = of; same = same; state = state }

pub rerun_next : (stack sink newer : Description) (mapper later : MapperView) (all : List KeptWrite) (i : ℕ) (kept : KeptWrite) → i < length all → kept ≡ get_or all i kept → IsRerun stack sink mapper (take i all)
    → later.failed ≡ false → later.stack ≡ mapper.stack → newer ≡ sink → later.state ≡ rerun_step mapper.stack kept mapper.state
    → IsRerun stack newer later (take (i + 1) all)
rerun_next stack sink newer mapper later all i kept within is was going of same state = record {
  going = going;
  of = of ∙ was.of;
  same = same ∙ was.same;
  state = cc (state, was.of, ap (rerun_step stack kept) was.state, sym (rerun-push stack (start_state stack) (take i all) kept), ap (rerun_from stack (start_state stack)) (sym (take_more all i kept within ∙ ap (λ (x : KeptWrite). take i all ++ x ∷ []) (sym is))));
}
