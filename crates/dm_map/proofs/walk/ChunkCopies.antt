-- Copies and writes of a chunk's sectors, to where the store keeps them.
use Rattle.dm_map.proofs.Prelude.{ℕ, false, refl, sym, ap, subst, ◌∙◌, arith, Read, ResolvedSnapshot, Lower, HomeStretch, Ground, Stretch, AreAdded, GoOn, IsFirstHomes, home, store_sector, any_error, copy_to, home_in_store, is_error, read, reads_all, row, write_to, keep, ground_unit, IsFirstOf, IsGroundInStack, SinkPast, BlockUnit, WriteOf, units_in, StackState, WalkerView, stack_state, range_step, MOST_DEPTH}
use Rattle.dm_map.specs.declared.walk.stretch.Ground.TheVariants as grounds
use Rattle.dm_map.proofs.walk.Chunks.{store_sector_on}
use Rattle.dm_map.proofs.walk.Rows.{none_added}
use Rattle.dm_map.proofs.walk.UnitRows.{copy_row, errors_on, first_reads, row_front, write_row}
use Rattle.std.specs.Prelude.{◌≡◌, ◌+◌, ◌-◌, ◌%◌, ◌<◌, ◌≤◌}

-- after some pieces: the state is unchanged, and only look-ups were counted and units received
pub record IsGoingOn {S : Type 0} (past : SinkPast S) (old new : S) (before after : WalkerView) : Type 0 where
  pub same : stack_state after ≡ stack_state before
  pub looked : AreAdded before.looked after.looked
  pub stack : (past.view new).stack ≡ (past.view old).stack
  pub room : (past.view old).room ≤ (past.view new).room
  pub faults : (past.view new).faults ≡ (past.view old).faults

-- a first stretch is one for every walker with the same stack and state
pub first_seen : (walk before after : WalkerView) (lower : Lower) (sector len : ℕ) (stretch : Stretch) → stack_state before ≡ stack_state walk → IsFirstOf before after MOST_DEPTH lower sector len stretch
    → IsFirstOf walk walk MOST_DEPTH lower sector len stretch
first_seen walk before after lower sector len stretch same first = record {
  some = first.some;
  most = first.most;
  read = subst (λ (v : StackState). range_step v.stack Read MOST_DEPTH lower v.state sector stretch.len ≡ keep (units_in (ground_unit stretch.ground) stretch.len) v.state) same first.read;
  lies = subst (λ (v : StackState). IsGroundInStack v.stack stretch.ground stretch.len) same first.lies;
  same = refl;
  looked = none_added walk.looked;
}

-- a range whose first stretch fails can't be read without an error
pub fails_on : (walk : WalkerView) (lower : Lower) (sector len : ℕ) (stretch : Stretch) → IsFirstOf walk walk MOST_DEPTH lower sector len stretch → stretch.ground ≡ grounds.Fails → reads_all walk.stack walk.state lower sector len ≡ false
fails_on walk lower sector len stretch first fails =
    let rest = any_error (row (read walk.stack walk.state lower) (sector + stretch.len) (len - stretch.len)) in
    cc (errors_on (read walk.stack walk.state lower) sector stretch.len len (ground_unit stretch.ground) first.some first.most (first_reads walk.stack walk.state lower sector stretch.len (ground_unit stretch.ground) first.read))

-- a range whose first stretch doesn't fail can be read without an error if what follows can
pub reads_on : (walk : WalkerView) (lower : Lower) (sector n len : ℕ) (stretch : Stretch) → IsFirstOf walk walk MOST_DEPTH lower sector len stretch → (stretch.ground ≡ grounds.Fails → ⊥) → 1 ≤ n → n ≤ stretch.len
    → reads_all walk.stack walk.state lower sector len ≡ reads_all walk.stack walk.state lower (sector + n) (len - n)
reads_on walk lower sector n len stretch first good some few =
    let reads = read walk.stack walk.state lower in let unit = ground_unit stretch.ground in
    cc (errors_on reads sector n len unit some (omega (arith, few, first.most)) (row_front reads sector stretch.len n unit (first_reads walk.stack walk.state lower sector stretch.len unit first.read) few), good_ground stretch.ground good)
  where
    good_ground : (ground : Ground) → (ground ≡ grounds.Fails → ⊥) → is_error (ground_unit ground) ≡ false
    good_ground grounds.Fails other = absurd (other refl)
    good_ground ground other = refl

-- the copy of a sector to its home in the store
abbrev pub copy_of : WalkerView → ResolvedSnapshot → (number : ℕ) → ℕ → BlockUnit
copy_of walk snapshot number u = copy_to (read walk.stack walk.state snapshot.origin u) (home_in_store walk.stack snapshot number u)

-- a piece that lies in a row on both sides copies the next sectors
pub copy_next : (walk : WalkerView) (snapshot : ResolvedSnapshot) (number sector len left from to n : ℕ) (source : Stretch) (target : HomeStretch) → 0 < snapshot.chunk → sector % snapshot.chunk + len ≤ snapshot.chunk → left ≤ len → from + left ≡ sector + len
    → to + left ≡ store_sector snapshot number sector + len → IsFirstOf walk walk MOST_DEPTH snapshot.origin from left source → IsFirstHomes walk.stack snapshot.store to left target → n ≤ source.len → n ≤ target.len
    → row (copy_of walk snapshot number) (sector + (len - left)) n ≡ units_in (copy_to (ground_unit source.ground) (record { disk = target.disk; sector = target.start })) n
copy_next walk snapshot number sector len left from to n source target some part within from_is to_is stretch homes few_read few_home =
    let done = len - left in let reads = read walk.stack walk.state snapshot.origin in let unit = ground_unit source.ground in
    let position : from ≡ sector + done = omega (arith, from_is, within) in
    let whole = rw position at (first_reads walk.stack walk.state snapshot.origin from source.len unit stretch.read) in
    let home_part : GoOn (home_in_store walk.stack snapshot number) (sector + done) target.disk target.start n = λ i more.
    cc ((let e : sector + done + i ≡ sector + (done + i) = omega arith in e), store_sector_on snapshot number sector (done + i) some (omega (arith, part, within, more, few_home, homes.most)), (let e : store_sector snapshot number sector + (done + i) ≡ to + i = omega (arith, to_is, within) in e), homes.homes i (omega (arith, more, few_home))) in
    copy_row reads (home_in_store walk.stack snapshot number) (sector + done) n unit target.disk target.start (row_front reads (sector + done) source.len n unit whole few_read) home_part

-- a piece that lies in a row on a disk writes the next sectors of the store
pub next_writes : (before now : WalkerView) (store : Lower) (sector len at left : ℕ) (first : HomeStretch) → stack_state now ≡ stack_state before → left ≤ len → at + left ≡ sector + len → IsFirstHomes now.stack store at left first
    → row (λ s. write_to (home before.stack store s)) (sector + (len - left)) first.len ≡ units_in (WriteOf first.disk first.start) first.len
next_writes before now store sector len at left first same within position is =
    let at_is : sector + (len - left) ≡ at = omega (arith, within, position) in
    rw at_is (ap (λ (w : StackState). row (λ u. write_to (home w.stack store u)) at first.len) (sym same) ∙ write_row (home now.stack store) at first.disk first.start first.len is.homes)
