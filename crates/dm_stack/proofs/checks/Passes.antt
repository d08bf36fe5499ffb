-- What it means that a check finds no fault.
use Rattle.dm_stack.proofs.Prelude.{Bool, false, List, [], AllByRecursion, Place, LoadKind, faults_by, first_fault-none, cond_none, Description, too_many, too_large, empty, misplaced, unknown, deep, stripe, range, snapshot, store, checks_before, checks_after, IsSound}
use Rattle.std.specs.Prelude.{◌≡◌, ◌∷◌}

-- if a check of elements finds no fault, no element is bad
pub faults_by_none : {X : Type 0} (kind : LoadKind) (place : X → Place) (bad : X → Bool) (xs : List X) → faults_by kind place bad xs ≡ [] → AllByRecursion (λ x. bad x ≡ false) xs
faults_by_none kind place bad [] e = tt
faults_by_none kind place bad (x ∷ xs) e =
    let parts = cond_none (record { kind = kind; at = place x }) (faults_by kind place bad xs) (bad x) e in
    (parts.0, faults_by_none kind place bad xs parts.1)

-- all checks of a sound stack find nothing
pub record Passes (stack : Description) : Type 0 where
  pub few : too_many stack ≡ []
  pub small : too_large stack ≡ []
  pub filled : empty stack ≡ []
  pub placed : misplaced stack ≡ []
  pub known : unknown stack ≡ []
  pub shallow : deep stack ≡ []
  pub divided : stripe stack ≡ []
  pub inside : range stack ≡ []
  pub fitting : snapshot stack ≡ []
  pub stored : store stack ≡ []

pub passes_all : (stack : Description) → IsSound stack → Passes stack
passes_all stack sound =
    let early = first_fault-none (checks_before stack) sound.before in
    let late = first_fault-none (checks_after stack) sound.after in
    record {
      few = early.0;
      small = early.1.0;
      filled = early.1.1.1.0;
      placed = early.1.1.1.1.0;
      known = early.1.1.1.1.1.0;
      shallow = late.0;
      divided = late.1.0;
      inside = late.1.1.0;
      fitting = late.1.1.1.0;
      stored = late.1.1.1.1.0;
    }
