-- Blocks that are filled part by part.
use Rattle.dm_read.proofs.Prelude.{inl, inr, ℕ, List, Option, Some, None, Result, Ok, Err, refl, sym, ap, subst, ◌∙◌, arith, cases_lt, IfNone, IfSome, BlockUnit, unit_at, DiskContents, sector_in, Sectors, ByteFault, Filled, of_disk, unit_bytes, AreCounted, AreFilled, AreKept}
use Rattle.dm_map.specs.declared.walk.stretch.Ground.{Ground}
use Rattle.std.specs.Prelude.{◌≡◌, ◌+◌, ◌-◌, ◌<◌, ◌≤◌}

-- two steps, the second of which keeps more sectors, keep what the first keeps
pub kept_more : (at done : ℕ) (a b c : List ℕ) → AreKept at a b → AreKept (at + done) b c → AreKept at a c
kept_more at done a b c first second = record {
  each = λ i less. second.each i (omega (arith, less)) ∙ first.each i less;
  len = second.len ∙ first.len;
}

-- the block has these sectors, `count` of them, from sector `at` on
abbrev pub AreIn : (sectors : ℕ → Result (List ℕ) ByteFault) → (at count : ℕ) → List ℕ → Type 0
AreIn sectors at count block = (i : ℕ) → i < count → sectors i ≡ Ok (sector_in block (at + i))

-- sectors that the block had before a step that keeps them are still in it
pub still_in : (sectors : ℕ → Result (List ℕ) ByteFault) (at done : ℕ) (old new : List ℕ) → AreKept (at + done) old new → AreIn sectors at done old → AreIn sectors at done new
still_in sectors at done old new kept each i less =
    each i less ∙ ap (λ (b : List ℕ). let r : Result (List ℕ) ByteFault = Ok b in r) (sym (kept.each (at + i) (omega (arith, less))))

-- sectors kept by a step and sectors added by it are in the block, one after the other
pub more_in : (sectors : ℕ → Result (List ℕ) ByteFault) (at done n : ℕ) (old new : List ℕ) → AreKept (at + done) old new → AreIn sectors at done old
    → AreIn (λ i. sectors (done + i)) (at + done) n new → AreIn sectors at (done + n) new
more_in sectors at done n old new kept each later i less = elim (cases_lt i done) [
  | inl before ↦ still_in sectors at done old new kept each i before
  | inr from ↦
      let k : ℕ = i - done in
      let e : done + k ≡ i = omega (arith, from) in
      let f : at + done + k ≡ at + i = omega (arith, from) in
      ap sectors (sym e) ∙ later k (omega (arith, less, from)) ∙ ap (λ (n : ℕ). let r : Result (List ℕ) ByteFault = Ok (sector_in new n) in r) f
]

-- sectors of a disk in a block, as sectors of a device
pub of_disks : (sectors : Sectors) (start done at n : ℕ) (block : List ℕ) → ((i : ℕ) → i < n → sectors (start + done + i) ≡ Ok (sector_in block (at + done + i)))
    → AreIn (λ i. of_disk (sectors (start + (done + i)))) (at + done) n block
of_disks sectors start done at n block each i less =
    ap (λ (k : ℕ). of_disk (sectors k)) (let e : start + (done + i) ≡ start + done + i = omega arith in e) ∙ ap of_disk (each i less)

-- sectors at the front of a block and the sectors added behind them are all at its front
pub front_more : (sectors : ℕ → Result (List ℕ) ByteFault) (done n : ℕ) (old new : List ℕ) → AreKept done old new → AreIn sectors 0 done old
    → AreIn (λ i. sectors (done + i)) done n new → AreIn sectors 0 (done + n) new
front_more sectors done n old new kept each later =
    let e : 0 + done ≡ done = omega arith in
    more_in sectors 0 done n old new (subst (λ (k : ℕ). AreKept k old new) (sym e) kept) each (subst (λ (k : ℕ). AreIn (λ i. sectors (done + i)) k n new) (sym e) later)

-- a sector of a device that is read from a ground has the bytes of the ground's sector
pub at_ground : (disks : DiskContents) (reads : ℕ → BlockUnit) (ground : Ground) (sector done len i : ℕ) → i < len → ((i : ℕ) → i < len → reads (sector + done + i) ≡ unit_at ground i)
    → unit_bytes disks (reads (sector + (done + i))) ≡ unit_bytes disks (unit_at ground i)
at_ground disks reads ground sector done len i less units =
    ap (λ (k : ℕ). unit_bytes disks (reads k)) (let e : sector + (done + i) ≡ sector + done + i = omega arith in e) ∙ ap (unit_bytes disks) (units i less)

-- sectors of a ground in a block, as sectors of the device that is read from it
pub of_ground : (disks : DiskContents) (reads : ℕ → BlockUnit) (ground : Ground) (sector done n len : ℕ) (block : List ℕ) → n ≤ len → ((i : ℕ) → i < len → reads (sector + done + i) ≡ unit_at ground i)
    → AreIn (λ i. unit_bytes disks (unit_at ground i)) done n block → AreIn (λ i. unit_bytes disks (reads (sector + (done + i)))) done n block
of_ground disks reads ground sector done n len block few units each i less =
    at_ground disks reads ground sector done len i (omega (arith, less, few)) units ∙ each i less

-- what the counts of a filled block mean, with a fault and without one
pub fewer_at : (asked : ℕ) (filled : Filled) (fault : ByteFault) → filled.fault ≡ Some fault → AreCounted asked filled → filled.count < asked
fewer_at asked filled fault is counted = subst (λ (f : Option ByteFault). IfSome f (λ fault. filled.count < asked)) is counted.fewer

pub stopped_at : (sectors : ℕ → Result (List ℕ) ByteFault) (filled : Filled) (at : ℕ) (block : List ℕ) (fault : ByteFault) → filled.fault ≡ Some fault → AreFilled sectors filled at block → sectors filled.count ≡ Err fault
stopped_at sectors filled at block fault is are = subst (λ (f : Option ByteFault). IfSome f (λ fault. sectors filled.count ≡ Err fault)) is are.stopped

pub all_at : (asked : ℕ) (filled : Filled) → filled.fault ≡ None → AreCounted asked filled → filled.count ≡ asked
all_at asked filled is counted = subst (λ (f : Option ByteFault). IfNone f (filled.count ≡ asked)) is counted.all

pub most_at : (asked : ℕ) (filled : Filled) → AreCounted asked filled → filled.count ≤ asked
most_at asked filled counted = by_fault filled.fault refl
  where
    by_fault : (f : Option ByteFault) → filled.fault ≡ f → filled.count ≤ asked
    by_fault None is = let all = all_at asked filled is counted in omega (arith, all)
    by_fault (Some fault) is = let fewer = fewer_at asked filled fault is counted in omega (arith, fewer)
