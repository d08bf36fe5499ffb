-- The first fault when some checks run before others, what parts that were read give, and inputs that were not read.
use Rattle.dmremap.proofs.Prelude.{ℕ, List, [], Option, Some, None, Delivery, InputPast, LoadFault, Disks, Source, first_fault, TextOf, part_read, Lvm, Tables, TableForm, IsReadOnIf, Load, MetadataGives, PartsGive, TextsGive}
use Rattle.dmremap.proofs.ExitLemmas.{read_on_none}
use Rattle.std.specs.Prelude.{◌≡◌, ◌∷◌, ◌++◌}

-- a fault of the first checks is the first fault of all checks
pub first_before : (checks more : List (List LoadFault)) (fault : LoadFault) → first_fault checks ≡ Some fault → first_fault (checks ++ more) ≡ Some fault
first_before [] more fault e = absurd cc
first_before ([] ∷ checks) more fault e = first_before checks more fault e
first_before ((found ∷ founds) ∷ checks) more fault e = e

-- a fault of the later checks is the first fault of all if the first checks find none
pub first_after : (checks more : List (List LoadFault)) (fault : LoadFault) → first_fault checks ≡ None → first_fault more ≡ Some fault → first_fault (checks ++ more) ≡ Some fault
first_after [] more fault none e = e
first_after ([] ∷ checks) more fault none e = first_after checks more fault none e
first_after ((found ∷ founds) ∷ checks) more fault none e = absurd cc

-- what the texts of both parts give is what the parts give
pub by_texts : (form : TableForm) (source disks : Delivery) (text list : List ℕ) (load : Load) → part_read Source source ≡ TextOf text → part_read Disks disks ≡ TextOf list
    → TextsGive form text list load → PartsGive (Tables form) source disks load
by_texts form source disks text list load is listed gives =
    rw (is, listed) gives

pub by_metadata : (source disks : Delivery) (text : List ℕ) (load : Load) → part_read Source source ≡ TextOf text → MetadataGives text load → PartsGive Lvm source disks load
by_metadata source disks text load is gives = rw is gives

-- an input, which may be missing, of which nothing was asked
pub untouched : {X : Type 0} (past : X → InputPast) (x : Option X) → IsReadOnIf past x x
untouched past (Some input) = read_on_none (past input)
untouched past None = tt
