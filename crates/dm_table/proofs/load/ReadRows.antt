-- Lemmas about a row that was read, and the rows that are left.
use Rattle.dm_table.proofs.Prelude.{OnOk, ℕ, suc, List, Option, Some, None, Result, sym, ap, ◌∙◌, Part, RowFault, FirstFaults, unless, with_rows, Reads, fault_in, noted_at, noted_rows, first_noted}
use Rattle.dm_table.specs.declared.load.row_faults.RowFault.TheVariants.{Memory}
use Rattle.dm_table.proofs.load.RowFaultLemmas.{found_read, read_clear}
use Rattle.std.specs.Prelude.{◌≡◌, ◌≢◌, ◌∷◌}

-- reading one more row keeps the invariant: if no fault was noted, the values so far and those of the rows left are those of all rows
pub values_left : {X : Type 0} (add : List X → ℕ → List (List ℕ) → List X) (part : Part) (rows more : List (List (List ℕ))) (row cut : List (List ℕ)) (n m : ℕ) (read : Result (Unit {0}) RowFault) (seen new : FirstFaults) (old values all : List X)
    → rows ≡ row ∷ more → m ≡ suc n → cut ≡ row → OnOk read (values ≡ add old n cut) → fault_in read ≢ Some Memory → new ≡ noted_at part seen n (fault_in read)
    → (first_noted seen ≡ None → with_rows add old n rows ≡ all) → first_noted new ≡ None → with_rows add values m more ≡ all
values_left add part rows more row cut n m read seen new old values all is_first is_next is_cut taken text noted so_far clear =
    let here = read_clear read part seen n taken text (sym (ap first_noted noted) ∙ clear) in
    rw (is_next, here.0, is_cut) (rw is_first at (so_far here.1))

-- reading one more row keeps the invariant: the faults so far and those of the rows left are those of all rows
pub faults_left : {X : Type 0} (part : Part) (fault_of : X → Option RowFault) (rows more : List X) (row cut : X) (n m : ℕ) (read : Result (Unit {0}) RowFault) (seen new all : FirstFaults)
    → rows ≡ row ∷ more → m ≡ suc n → cut ≡ row → Reads (λ done. done) read (unless (fault_of cut) tt) → fault_in read ≢ Some Memory → new ≡ noted_at part seen n (fault_in read)
    → noted_rows part fault_of seen n rows ≡ all → noted_rows part fault_of new m more ≡ all
faults_left part fault_of rows more row cut n m read seen new all is_first is_next is_cut reads text noted so_far =
    let found : fault_of row ≡ fault_in read = ap fault_of (sym is_cut) ∙ found_read read (fault_of cut) reads text in
    rw (is_next, noted, sym found) (rw is_first at so_far)
