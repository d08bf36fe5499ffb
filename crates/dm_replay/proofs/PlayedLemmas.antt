-- What a player has played of each kind of unit.
use Rattle.dm_replay.proofs.Prelude.{ℕ, zero, suc, List, [], refl, sym, ap, ◌∙◌, arith, append-nil, sector_past, BlockUnit, ReadOf, WriteOf, Zeros, Drops, Fails, CopyOf, FillOf, units_in, Playing, Value, ValueRun, values_of, HasPlayed, played_both, CanCopyAtOnce, HoldOn, ranged, answers_in, first_answer, flat, run_answers, run_len, Answer, Gives, Failed, Values, played, played_answers}
use Rattle.dm_replay.specs.declared.disk_values.DiskValues.{DiskValues}
use Rattle.dm_replay.specs.declared.value.Value.TheVariants as value
use Rattle.dm_replay.proofs.UnitPlays.{reads_played, reads_answer, reads_past, zeros_played, zeros_answer, zeros_past, drops_played, drops_answer, drops_past, fails_played, fails_answer, fails_past, writes_played, writes_answer, writes_past, fills_played, fills_answer, fills_past, copies_played, copies_answer, copies_past}
use Rattle.std.specs.Prelude.{◌≡◌, ◌+◌, ◌++◌}

abbrev held : Playing → Values
held p = values_of p.values.disks.items

-- a run was answered, and nothing else changed
pub record HasAnswered (old new : Playing) (first : Answer) (n : ℕ) : Type 0 where
  pub values_same : new.values ≡ old.values
  pub runs_are : flat new.runs ≡ flat old.runs ++ answers_in first n
  pub next_more : new.next ≡ old.next + n
  pub number_same : new.number ≡ old.number

pub run_answered : (old new : Playing) (run : ValueRun) (first : Answer) (n : ℕ) → first_answer run ≡ first → run_len run ≡ n → new.values ≡ old.values → flat new.runs ≡ flat old.runs ++ run_answers run → new.next ≡ old.next + run_len run → new.number ≡ old.number → HasAnswered old new first n
run_answered old new run first n first_is len_is values_is runs_is next_is number_is = record {
  values_same = values_is;
  runs_are = rw (← len_is, ← first_is) runs_is;
  next_more = rw (← len_is) next_is;
  number_same = number_is;
}

-- the player has played units that change no values, with this run as their answers
answered : (old new : Playing) (units : List BlockUnit) (first : Answer) (n : ℕ) → HasAnswered old new first n → played old.number old.next units (held old) ≡ held old → played_answers old.number old.next units (held old) ≡ answers_in first n → sector_past units old.next ≡ old.next + n → HasPlayed old units new
answered old new units first n has none answers past = record {
  values_are = λ disk sector. cc (has.values_same, none);
  answers_are = rw answers has.runs_are;
  next_is = has.next_more ∙ sym past;
  number_is = has.number_same;
}

pub read_played : (old new : Playing) (disk start n : ℕ) (first : Value) → HoldOn (held old) disk start n first → HasAnswered old new (Gives first) n → HasPlayed old (units_in (ReadOf disk start) n) new
read_played old new disk start n first hold has =
    answered old new (units_in (ReadOf disk start) n) (Gives first) n has (reads_played old.number old.next disk start n (held old)) (reads_answer old.number old.next disk start n (held old) first hold) (reads_past disk start n old.next)

pub zero_played : (old new : Playing) (n : ℕ) → HasAnswered old new (Gives value.Zero) n → HasPlayed old (units_in Zeros n) new
zero_played old new n has = answered old new (units_in Zeros n) (Gives value.Zero) n has (zeros_played old.number old.next n (held old)) (zeros_answer old.number old.next n (held old)) (zeros_past n old.next)

pub drop_played : (old new : Playing) (n : ℕ) → HasAnswered old new (Gives value.Zero) n → HasPlayed old (units_in Drops n) new
drop_played old new n has = answered old new (units_in Drops n) (Gives value.Zero) n has (drops_played old.number old.next n (held old)) (drops_answer old.number old.next n (held old)) (drops_past n old.next)

pub error_played : (old new : Playing) (n : ℕ) → HasAnswered old new Failed n → HasPlayed old (units_in Fails n) new
error_played old new n has = answered old new (units_in Fails n) Failed n has (fails_played old.number old.next n (held old)) (fails_answer old.number old.next n (held old)) (fails_past n old.next)

-- a range was stored
abbrev pub HasStored : (before after : DiskValues) → (disk start len : ℕ) → Value → Type 0
HasStored before after disk start len first = (on sector : ℕ) → values_of after.disks.items on sector ≡ ranged (values_of before.disks.items) disk start len first on sector

pub write_played : (old between : Playing) (after : DiskValues) (disk start n : ℕ) → HasAnswered old between (Gives (value.Wrote old.number old.next)) n → HasStored between.values after disk start n (value.Wrote old.number old.next)
    → HasPlayed old (units_in (WriteOf disk start) n) (record { values = after; number = between.number; next = between.next; runs = between.runs })
write_played old between after disk start n has stores = record {
  values_are = λ on sector.
      cc (stores on sector, has.values_same, sym (writes_played old.number old.next disk start n (held old) on sector));
  answers_are = rw (writes_answer old.number old.next disk start n (held old)) has.runs_are;
  next_is = has.next_more ∙ sym (writes_past disk start n old.next);
  number_is = has.number_same;
}

pub fill_played : (old : Playing) (after : DiskValues) (disk start n : ℕ) → HasStored old.values after disk start n value.Zero
    → HasPlayed old (units_in (FillOf disk start) n) (record { values = after; number = old.number; next = old.next; runs = old.runs })
fill_played old after disk start n stores = record {
  values_are = λ on sector. stores on sector ∙ sym (fills_played old.number old.next disk start n (held old) on sector);
  answers_are = rw (fills_answer old.number old.next disk start n (held old)) (sym (append-nil (flat old.runs)));
  next_is = sym (fills_past disk start n old.next);
  number_is = refl;
}

pub copy_played : (old : Playing) (after : DiskValues) (disk start to to_start n : ℕ) (first : Value) → HoldOn (held old) disk start n first → CanCopyAtOnce disk start to to_start n → HasStored old.values after to to_start n first
    → HasPlayed old (units_in (CopyOf disk start to to_start) n) (record { values = after; number = old.number; next = old.next; runs = old.runs })
copy_played old after disk start to to_start n first hold at_once stores = record {
  values_are = λ on sector. stores on sector ∙ sym (copies_played old.number old.next disk start to to_start n (held old) first hold at_once on sector);
  answers_are = rw (copies_answer old.number old.next disk start to to_start n (held old)) (sym (append-nil (flat old.runs)));
  next_is = sym (copies_past disk start to to_start n old.next);
  number_is = refl;
}

-- Units in two parts

reads-append : (disk start m n : ℕ) → units_in (ReadOf disk start) (m + n) ≡ units_in (ReadOf disk start) m ++ units_in (ReadOf disk (start + m)) n
reads-append disk start zero n = let e : 0 + n ≡ n = omega arith in let k : start + 0 ≡ start = omega arith in rw (e, k)
reads-append disk start (suc m) n =
    let e : suc m + n ≡ suc (m + n) = omega arith in let k : start + suc m ≡ suc start + m = omega arith in
    rw (e, k) (cc (reads-append disk (suc start) m n))

copies-append : (disk start to to_start m n : ℕ) → units_in (CopyOf disk start to to_start) (m + n) ≡ units_in (CopyOf disk start to to_start) m ++ units_in (CopyOf disk (start + m) to (to_start + m)) n
copies-append disk start to to_start zero n = let e : 0 + n ≡ n = omega arith in let k : start + 0 ≡ start = omega arith in let j : to_start + 0 ≡ to_start = omega arith in rw (e, k, j)
copies-append disk start to to_start (suc m) n =
    let e : suc m + n ≡ suc (m + n) = omega arith in let k : start + suc m ≡ suc start + m = omega arith in let j : to_start + suc m ≡ suc to_start + m = omega arith in
    rw (e, k, j) (cc (copies-append disk (suc start) to (suc to_start) m n))

pub read_more : (old now new : Playing) (disk start m n k : ℕ) → m + n ≡ k → HasPlayed old (units_in (ReadOf disk start) m) now → HasPlayed now (units_in (ReadOf disk (start + m)) n) new → HasPlayed old (units_in (ReadOf disk start) k) new
read_more old now new disk start m n k is first second =
    rw (← (sym (reads-append disk start m n) ∙ ap (units_in (ReadOf disk start)) is)) (played_both old now new (units_in (ReadOf disk start) m) (units_in (ReadOf disk (start + m)) n) first second)

pub copy_more : (old now new : Playing) (disk start to to_start m n k : ℕ) → m + n ≡ k → HasPlayed old (units_in (CopyOf disk start to to_start) m) now → HasPlayed now (units_in (CopyOf disk (start + m) to (to_start + m)) n) new → HasPlayed old (units_in (CopyOf disk start to to_start) k) new
copy_more old now new disk start to to_start m n k is first second =
    rw (← (sym (copies-append disk start to to_start m n) ∙ ap (units_in (CopyOf disk start to to_start)) is)) (played_both old now new (units_in (CopyOf disk start to to_start) m) (units_in (CopyOf disk (start + m) to (to_start + m)) n) first second)

-- if nothing changed, no units were played
pub none_played : (old : Playing) (unit : BlockUnit) (n : ℕ) → n ≡ 0 → HasPlayed old [] old → HasPlayed old (units_in unit n) old
none_played old unit n none nothing = rw none nothing
