-- Rows of two fields: a disk's name, and a field that describes a value.
use Rattle.dm_table.proofs.Prelude.{inl, inr, ℕ, Bool, true, false, List, [], length, Option, Some, None, Ok, Err, refl, sym, ap, ◌∙◌, is_some, option_map, cases_Bool, RowFault, is_disk_name, texts, unless, fault_in, first_failed, row_fault, has_name, is_pair, pair_in, reading_of}
use Rattle.dm_table.specs.declared.load.row_faults.RowFault.TheVariants.{Syntax}
use Rattle.dm_table.proofs.tables.TargetRows.{read_parts}
use Rattle.std.specs.Prelude.{◌≡◌, ◌≢◌, ◌∷◌, if◌then◌else◌}
use denote.Ref.{Bor}

mapped_some : {V X : Type 0} (f : V → X) (said : Option V) → is_some (option_map f said) ≡ true → (value : V) × (said ≡ Some value)
mapped_some f None some = absurd cc
mapped_some f (Some value) some = (value, refl)

-- a row that describes a value is a name and a field that describes the value
pub pair_split : {V X : Type 0} (value_of : List ℕ → Option V) (made : ℕ → List ℕ → V → X) (row : List (List ℕ)) → is_some (pair_in value_of made 0 row) ≡ true
    → (name : List ℕ) × (second : List ℕ) × (value : V) × (row ≡ name ∷ second ∷ []) × (value_of second ≡ Some value)
pair_split value_of made (name ∷ second ∷ []) some = let value = mapped_some (made 0 name) (value_of second) some in (name, second, value.0, refl, value.1)
pair_split value_of made row some = absurd cc

pub said_by : {X : Type 0} (named : X → Bool) (is_row : Bool) (said : Option X) (value : X) → (if is_row then reading_of named said else Err Syntax) ≡ Ok value → said ≡ Some value
said_by named false said value h = absurd cc
said_by named true said value h = (read_parts named said value h).0

-- the fault with which a row was refused is the row's fault
pair_found : {V X : Type 0} (value_of : List ℕ → Option V) (made : ℕ → List ℕ → V → X) (named : X → Bool) → ((n : ℕ) (name : List ℕ) (value : V) → named (made n name value) ≡ is_disk_name name) → (n : ℕ) (row : List (List ℕ))
    → fault_in (if is_pair row then reading_of named (pair_in value_of made n row) else Err Syntax) ≡ row_fault is_pair (λ row. is_some (pair_in value_of made 0 row)) has_name row
pair_found {V} value_of made named is n (name ∷ second ∷ []) = by (is_pair (name ∷ second ∷ [])) (value_of second) where
  by : (pair : Bool) (said : Option V) → fault_in (if pair then reading_of named (option_map (made n name) said) else Err Syntax) ≡ first_failed pair (is_some (option_map (made 0 name) said)) (is_disk_name name)
  by false said = refl
  by true None = refl
  by true (Some value) = rw (is n name value) (elim (cases_Bool (is_disk_name name)) [
    | inl e ↦ rw e refl
    | inr e ↦ rw e refl
  ])
pair_found value_of made named is n row = refl

-- a row that was read has no fault and describes what was read; a row that was refused has that fault

pub pair_read : {V X : Type 0} (value_of : List ℕ → Option V) (made : ℕ → List ℕ → V → X) (named : X → Bool) → ((n : ℕ) (name : List ℕ) (value : V) → named (made n name value) ≡ is_disk_name name) → (n : ℕ) (row : List (List ℕ)) (value : X)
    → (if is_pair row then reading_of named (pair_in value_of made n row) else Err Syntax) ≡ Ok value
    → (unless (row_fault is_pair (λ row. is_some (pair_in value_of made 0 row)) has_name row) (tt {0}) ≡ Ok (tt {0})) × (pair_in value_of made n row ≡ Some value)
pair_read value_of made named is n row value h =
    let clear = sym (pair_found value_of made named is n row) ∙ ap fault_in h in
    (rw clear, said_by named (is_pair row) (pair_in value_of made n row) value h)

pub pair_refused : {V X : Type 0} (value_of : List ℕ → Option V) (made : ℕ → List ℕ → V → X) (named : X → Bool) → ((n : ℕ) (name : List ℕ) (value : V) → named (made n name value) ≡ is_disk_name name) → (n : ℕ) (row : List (List ℕ)) (fault : RowFault)
    → (if is_pair row then reading_of named (pair_in value_of made n row) else Err Syntax) ≡ Err fault → unless (row_fault is_pair (λ row. is_some (pair_in value_of made 0 row)) has_name row) (tt {0}) ≡ Err fault
pair_refused value_of made named is n row fault h = let found = sym (pair_found value_of made named is n row) ∙ ap fault_in h in rw found

-- a row that doesn't have two fields isn't a pair
pub not_pair : (row : List (Bor (List ℕ))) → length row ≢ 2 → is_pair (texts row) ≡ false
not_pair (a ∷ b ∷ []) other = absurd (other refl)
not_pair row other = refl
