-- The laws of a sink, for a halting player. They are part of the specs, because the player's `impl` cites them.
use Rattle.dm_replay.specs.Base.{ℕ, List, [], length, take, refl, sym, ap, subst, ◌∙◌, length-append, Description, BlockUnit}
use Rattle.std.proofs.Common.{arith}
use Rattle.std.proofs.Math.Seq.{take-append-add}
use Rattle.dm_replay.specs.Prelude.{Halting, HasHalted, HasTaken, AreUnitsOf, played_both, played_nothing, HasPlayed}
use Rattle.dm_replay.specs.laws.OfDisks.{units_of-append}
use Rattle.std.specs.Prelude.{◌≡◌, ◌+◌, ◌++◌}

pub taken_nothing : (a : Halting) → HasTaken a [] a
taken_nothing a = record {
  played = played_nothing a.player.playing;
  of = tt;
  fewer = (let e : a.left + 0 ≡ a.left = omega arith in e);
  stack = refl;
  halted = refl;
}

units_both : (stack later : Description) (units more : List BlockUnit) → later ≡ stack → AreUnitsOf (length stack.disks) units → AreUnitsOf (length later.disks) more → AreUnitsOf (length stack.disks) (units ++ more)
units_both stack later units more same first second = units_of-append (length stack.disks) units more first (subst (λ (of : Description). AreUnitsOf (length of.disks) more) same second)

pub taken_both : (a b c : Halting) (units more : List BlockUnit) → HasTaken a units b → HasTaken b more c → HasTaken a (units ++ more) c
taken_both a b c units more first second = record {
  played = played_both a.player.playing b.player.playing c.player.playing units more first.played second.played;
  of = units_both a.player.stack.now b.player.stack.now units more first.stack first.of second.of;
  fewer = omega (arith, first.fewer, second.fewer, length-append units more);
  stack = second.stack ∙ first.stack;
  halted = second.halted ∙ first.halted;
}

pub taken_halted : (a b c : Halting) (units more : List BlockUnit) → HasTaken a units b → HasHalted b more c → HasHalted a (units ++ more) c
taken_halted a b c units more first second =
    let front_is : take a.left (units ++ more) ≡ units ++ take b.left more =
    ap (λ (n : ℕ). take n (units ++ more)) (let e : a.left ≡ length units + b.left = omega (arith, first.fewer) in e) ∙ take-append-add units more b.left in
    record {
      played = subst (λ (us : List BlockUnit). HasPlayed a.player.playing us c.player.playing) (sym front_is)
          (played_both a.player.playing b.player.playing c.player.playing units (take b.left more) first.played second.played);
      of = subst (λ (us : List BlockUnit). AreUnitsOf (length a.player.stack.now.disks) us) (sym front_is)
          (units_both a.player.stack.now b.player.stack.now units (take b.left more) first.stack first.of second.of);
      more = omega (arith, first.fewer, second.more, length-append units more);
      stack = second.stack ∙ first.stack;
    }
