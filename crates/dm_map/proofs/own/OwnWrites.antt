-- If no claims clash, no top device reads what another one writes.
use Rattle.dm_map.proofs.Prelude.{ℕ, length, refl, ap, arith, length-replicate, Device, IsTidy, IsTop, Description, IsSound, IsFitting, IsOwnWrite, write, State, none_taken, start_state, Node, node, Touches, take_chunks, all_front}
use Rattle.dm_map.proofs.own.UniqueSteps.{no_step_to_top, top_root, top_unserved}
use Rattle.dm_map.proofs.walk.ReadSteps.{read_step}
use Rattle.dm_map.proofs.own.Losses.{stays_as}
use Rattle.dm_map.proofs.own.TakenInARow.{IsFresh, all_moves, fresh_stays, grown_same, ran, run_stays}
use Rattle.dm_map.proofs.own.WayLemmas.{Here, Before, back, read_touches}
use Rattle.dm_map.proofs.own.Written.{written}
use Rattle.dm_map.proofs.walk.ChunkTaking.{none_at}
use Rattle.std.specs.Prelude.{◌≡◌, ◌<◌}

-- the only way that reaches a sector of a top device starts there
top_touched : (stack : Description) (state : State) (a : Node) (top sector : ℕ) → IsSound stack → IsTop stack top → Touches stack state a (node (Device top) sector) → a ≡ node (Device top) sector
top_touched stack state a top sector sound is_top touches = elim (back stack state a (node (Device top) sector) touches) [
  | Here e ↦ e
  | Before c before leads ↦ absurd (no_step_to_top stack state top leads.device c.sector sector sound is_top (read_step stack state leads.device c.sector (Device top) sector sound leads.below))
]

device_is : (a b : ℕ) → Device a ≡ Device b → a ≡ b
device_is a b e = cc

pub own_write : {V : Type 0} (zeros : V) (value : ℕ → V) (stack : Description) (state : State) (top sector : ℕ) → IsSound stack → IsTidy stack → IsFitting stack state → IsTop stack top → IsOwnWrite zeros value stack state top sector (write stack state (Device top) sector)
own_write {V = V} zeros value stack state top sector sound tidy fitting is_top =
    let step = write stack state (Device top) sector in
    let w = written stack (Device top) sector state sound tidy fitting in
    let r = ran stack state state w.dues sound fitting fitting tidy (grown_same state) w.each in
    let us = (take_chunks stack w.dues state).units in
    let state_is : step.state ≡ (take_chunks stack w.dues state).state = cc in
    record {
      front = us;
      last = w.last;
      units = cc;
      moves = all_moves stack state us r.fresh;
      answered = w.answered;
      fits = rw state_is r.fits;
      torn = λ values some rest whole other other_sector other_top.
          fresh_stays zeros value sector stack state (Device other) other_sector some values sound (top_root stack other sound other_top)
          (all_front (IsFresh stack state) some rest (rw whole at r.fresh));
      kept = λ values other other_sector other_top.
          stays_as _ _ _ _ refl (cc)
          (run_stays zeros value sector stack state w.dues values (Device other) other_sector sound fitting tidy w.each (top_root stack other sound other_top));
      reads = λ disk at last_is. w.reads disk at last_is;
      alone = λ disk at other other_sector last_is other_top is.
          let up = w.alone disk at (node (Device other) other_sector) last_is (top_root stack other sound other_top) (top_unserved stack other sound other_top) (read_touches stack step.state (Device other) other_sector disk at sound is) in
          let same = top_touched stack step.state (node (Device other) other_sector) top sector sound is_top up in
          (device_is other top (ap (λ (n : Node). n.lower) same), ap (λ (n : Node). n.sector) same);
    }

-- The state at the start fits the stack

pub start_fits : (stack : Description) → IsFitting stack (start_state stack)
start_fits stack = record {
  count = length-replicate (length stack.devices) none_taken;
  places = λ device number snapshot over below. absurd (none_below number (rw (none_at (length stack.devices) device) at below));
}
  where
    none_below : (number : ℕ) → number < 0 → ⊥
    none_below number below = omega (arith, below)
