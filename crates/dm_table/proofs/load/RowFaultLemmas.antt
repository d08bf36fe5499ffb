-- Reading each row once finds the same first fault as running each check over all rows.
use Rattle.dm_table.proofs.Prelude.{OnOk, inl, inr, ℕ, suc, Bool, true, not, List, [], length, Option, Some, None, Result, Ok, Err, refl, sym, ap, ◌∙◌, arith, cases_Bool, Part, Syntax, Field, Name, Memory, LoadFault, RowFault, FirstFaults, Answers, fault_at, first_or, first_fault, faults_from, row_checks, unended, unless, Reads, first_failed, row_fault, fault_in, no_faults, either, noted, noted_at, noted_rows, noted_rest, first_noted, said_unless, Vec}
use Rattle.dm_table.specs.declared.load.row_faults.RowFault.TheVariants as rows
use Rattle.dm_table.proofs.load.FaultLemmas.{Answers-unless, faults_from-text, first_fault-text, unended-text, unless-ok, unless-err, IsOfText}
use Rattle.dm_table.proofs.Lists.{all_append}
use Rattle.std.specs.Prelude.{◌≡◌, ◌≢◌, ◌+◌, ◌∷◌, ◌++◌}

-- a fault that is noted after an earlier one of its kind doesn't change the first fault
either_more : (first : Option LoadFault) (fault : LoadFault) (later : Option LoadFault) → either (either first (Some fault)) later ≡ either first (Some fault)
either_more None fault later = refl
either_more (Some other) fault later = refl

either_none : (first : Option LoadFault) → either first None ≡ first
either_none None = refl
either_none (Some fault) = refl

-- the first fault among those noted before and those that the checks find afterwards, by kinds
abbrev joined_faults : FirstFaults → (syntax field name : List LoadFault) → Option LoadFault
joined_faults seen syntax field name = either seen.syntax (first_or syntax (either seen.field (first_or field (either seen.name (first_or name None)))))

last_rest : (part : Part) (seen : FirstFaults) (n : ℕ) (rest : List ℕ) → first_noted (noted_rest part seen n rest) ≡ joined_faults seen (unended part n rest) [] []
last_rest part seen n [] = rw either_none
last_rest part seen n (byte ∷ bytes) = either_more seen.syntax (fault_at part Syntax n) (either seen.field seen.name)

-- the faults noted for rows, after those noted before, are those of the three checks over all rows
pub noted_all : {X : Type 0} (part : Part) (is_row has_values has_names : X → Bool) (seen : FirstFaults) (n : ℕ) (rows : List X) (rest : List ℕ)
    → first_noted (noted_rest part (noted_rows part (row_fault is_row has_values has_names) seen n rows) (n + length rows) rest)
    ≡ joined_faults seen (faults_from part Syntax (λ x. not (is_row x)) n rows ++ unended part (n + length rows) rest) (faults_from part Field (λ x. not (has_values x)) n rows) (faults_from part Name (λ x. not (has_names x)) n rows)
noted_all part is_row has_values has_names seen n [] rest = last_rest part seen (n + 0) rest
noted_all part is_row has_values has_names seen n (x ∷ xs) rest =
    let place : n + suc (length xs) ≡ suc n + length xs = omega arith in
    let more = noted_all part is_row has_values has_names (noted_at part seen n (row_fault is_row has_values has_names x)) (suc n) xs rest in
    rw place (elim (cases_Bool (is_row x)) [
      | inr r ↦ rw r (rw r at more ∙ either_more seen.syntax (fault_at part Syntax n) _)
      | inl r ↦ elim (cases_Bool (has_values x)) [
        | inr l ↦ rw (r, l, rw (r, l) at more, either_more)
        | inl l ↦ elim (cases_Bool (has_names x)) [
          | inr h ↦ rw (r, l, h, rw (r, l, h) at more, either_more)
          | inl h ↦ rw (r, l, h) (rw (r, l, h) at more)
        ]
      ]
    ])

-- the faults noted for all rows, with none noted before, are those of the three checks
pub noted_checks : {X : Type 0} (part : Part) (is_row has_values has_names : X → Bool) (rows : List X) (rest : List ℕ)
    → first_noted (noted_rest part (noted_rows part (row_fault is_row has_values has_names) no_faults 1 rows) (length rows + 1) rest)
    ≡ first_fault (row_checks part is_row has_values has_names rows rest)
noted_checks part is_row has_values has_names rows rest =
    let place : length rows + 1 ≡ 1 + length rows = omega arith in
    rw place (noted_all part is_row has_values has_names no_faults 1 rows rest)

-- The first noted fault is not one of memory, and is the first fault of the checks.

pub noted_refused : {X : Type 0} (part : Part) (is_row has_values has_names : X → Bool) (rows : List X) (rest : List ℕ) (fault : LoadFault)
    → first_noted (noted_rest part (noted_rows part (row_fault is_row has_values has_names) no_faults 1 rows) (length rows + 1) rest) ≡ Some fault
    → (fault.kind ≢ Memory) × (first_fault (row_checks part is_row has_values has_names rows rest) ≡ Some fault)
noted_refused part is_row has_values has_names rows rest fault h =
    let found : first_fault (row_checks part is_row has_values has_names rows rest) ≡ Some fault = sym (noted_checks part is_row has_values has_names rows rest) ∙ h in
    let syntax = all_append IsOfText (faults_from part Syntax (λ x. not (is_row x)) 1 rows) (unended part (length rows + 1) rest) (faults_from-text part Syntax (λ x. not (is_row x)) 1 rows (λ e. cc)) (unended-text part (length rows + 1) rest) in
    let field = faults_from-text part Field (λ x. not (has_values x)) 1 rows (λ e. cc) in
    let name = faults_from-text part Name (λ x. not (has_names x)) 1 rows (λ e. cc) in
    (first_fault-text (row_checks part is_row has_values has_names rows rest) fault (syntax, (field, (name, tt))) found, found)

-- the answer made from the noted faults and the values is what the checks and the values of the rows give
pub rows_answer : {X Y : Type 0} (part : Part) (is_row has_values has_names : X → Bool) (rows : List X) (rest : List ℕ) (seen : FirstFaults) (values : Vec Y) (all : List Y) (answer : Result (Vec Y) LoadFault)
    → answer ≡ unless (first_noted seen) values → seen ≡ noted_rest part (noted_rows part (row_fault is_row has_values has_names) no_faults 1 rows) (length rows + 1) rest
    → (first_noted seen ≡ None → values.items ≡ all) → Answers part (λ v. v.items) answer (unless (first_fault (row_checks part is_row has_values has_names rows rest)) all)
rows_answer {Y = Y} part is_row has_values has_names rows rest seen values all answer is kept read =
    let noted = ap first_noted kept in
    Answers-unless part (λ (v : Vec Y). v.items) (first_noted seen) values answer _ is
    (λ fault found. let a = noted_refused part is_row has_values has_names rows rest fault (sym noted ∙ found) in (a.0, rw a.1))
    (λ none. let clear : first_fault (row_checks part is_row has_values has_names rows rest) ≡ None = sym (noted_checks part is_row has_values has_names rows rest) ∙ sym noted ∙ none in rw (clear, read))

-- ---- the fault of a single row

-- a row without a fault passes all tests
pub first_failed-none : (is_row has_values has_names : Bool) → first_failed is_row has_values has_names ≡ None → (is_row ≡ true) × (has_values ≡ true) × (has_names ≡ true)
first_failed-none true true true h = (refl, refl, refl)
first_failed-none is_row has_values has_names h = absurd cc

-- a row that was read has no fault and describes what was read; a row that was refused has that fault. It needs that each row without a fault describes a value

pub said_read : {X : Type 0} (fault : Option RowFault) (said : Option X) (value : X) → said_unless fault said ≡ Ok value → (unless fault (tt {0}) ≡ Ok (tt {0})) × (said ≡ Some value)
said_read None (Some other) value h = let is : other ≡ value = cc in (refl, ap Some is)
said_read fault said value h = absurd cc

pub said_refused : {X : Type 0} (fault : Option RowFault) (said : Option X) (found : RowFault) → (fault ≡ None → (value : X) × (said ≡ Some value)) → said_unless fault said ≡ Err found → unless fault (tt {0}) ≡ Err found
said_refused {X} None said found there h = let it = there refl in absurd (let no : ◌≡◌ {A = Result X RowFault} (Ok it.0) (Err found) = rw it.1 at h in cc)
said_refused (Some fault) said found there h = let same : fault ≡ found = cc in ap Err same

-- if memory didn't run out, the fault with which a row was refused is its fault
pub found_read : (read : Result (Unit {0}) RowFault) (found : Option RowFault) → Reads (λ done. done) read (unless found tt) → fault_in read ≢ Some rows.Memory → found ≡ fault_in read
found_read (Ok done) found reads text = (unless-ok found tt done reads).0
found_read (Err fault) found reads text = unless-err found tt fault (reads (λ e. text (ap Some e)))

-- if there is no first fault of two, there is neither
either_none-both : (first later : Option LoadFault) → either first later ≡ None → (first ≡ None) × (later ≡ None)
either_none-both None later h = (refl, h)
either_none-both (Some fault) later h = absurd cc

some_noted : (first : Option LoadFault) (fault : LoadFault) → either first (Some fault) ≢ None
some_noted first fault h = absurd (let none = (either_none-both first (Some fault) h).1 in cc)

noted_some : (part : Part) (seen : FirstFaults) (n : ℕ) (fault : RowFault) → fault ≢ rows.Memory → first_noted (noted part seen n fault) ≢ None
noted_some part seen n rows.Memory text h = text refl
noted_some part seen n rows.Syntax text h = some_noted seen.syntax (fault_at part Syntax n) (either_none-both _ _ h).0
noted_some part seen n rows.Field text h = some_noted seen.field (fault_at part Field n) (either_none-both _ _ (either_none-both _ _ h).1).0
noted_some part seen n rows.Name text h = some_noted seen.name (fault_at part Name n) (either_none-both _ _ (either_none-both _ _ h).1).1

pub read_clear : {P : Type 0} (read : Result (Unit {0}) RowFault) (part : Part) (seen : FirstFaults) (n : ℕ) → OnOk read P → fault_in read ≢ Some rows.Memory → first_noted (noted_at part seen n (fault_in read)) ≡ None → P × (first_noted seen ≡ None)
read_clear (Ok done) part seen n taken text none = (taken, none)
read_clear (Err fault) part seen n taken text none = absurd (noted_some part seen n fault (λ e. text (ap Some e)) none)
