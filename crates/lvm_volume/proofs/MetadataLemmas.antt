-- Lemmas that join the steps from a metadata text to its devices and disks.
use Rattle.lvm_volume.proofs.Prelude.{ℕ, List, [], Option, Some, None, Result, Ok, Err, IfErr, refl, sym, ap, ◌∙◌, IsUtf8, TextFault, Source, Memory, LoadFault, DeviceSpec, Disk, Tree, HasFault, Answers, first_fault, first_or, unless, Group, group_of, SaysTree, IsRefusedText, OfText, OfGroup, metadata_checks, group_checks, tables_of, text_fault, unnamed, unless-err, unless-ok}
use Rattle.lvm_text.specs.declared.fault.TextFault.TheVariants as texts
use Rattle.std.specs.Prelude.{◌≡◌, ◌≢◌, ◌∷◌, ◌++◌}

-- if no earlier check finds a fault, the first fault is that of the last check
pub last_check : (checks : List (List LoadFault)) (last : List LoadFault) → first_fault checks ≡ None → first_fault (checks ++ last ∷ []) ≡ first_or last None
last_check [] last none = refl
last_check ([] ∷ checks) last none = last_check checks last none
last_check ((fault ∷ faults) ∷ checks) last none = absurd cc

earlier_check : (checks : List (List LoadFault)) (last : List LoadFault) (fault : LoadFault) → first_fault checks ≡ Some fault → first_fault (checks ++ last ∷ []) ≡ Some fault
earlier_check [] last fault is = absurd cc
earlier_check ([] ∷ checks) last fault is = earlier_check checks last fault is
earlier_check ((found ∷ faults) ∷ checks) last fault is = is

-- a fault of the group's checks is the first fault of all checks, since device names are checked last
pub refused_group : (top : Tree) (fault : LoadFault) → unless (first_fault (group_checks top)) (group_of top) ≡ Err fault → unless (first_fault (metadata_checks top)) (tables_of (group_of top)) ≡ Err fault
refused_group top fault is =
    rw (earlier_check (group_checks top) (unnamed (group_of top)) fault (unless-err (first_fault (group_checks top)) (group_of top) fault is))

pub named_group : (top : Tree) (group : Group) → unless (first_fault (group_checks top)) (group_of top) ≡ Ok group
    → unless (first_or (unnamed group) None) (tables_of group) ≡ unless (first_fault (metadata_checks top)) (tables_of (group_of top))
named_group top group is =
    let p = unless-ok (first_fault (group_checks top)) (group_of top) group is in
    ap (λ (g : Group). unless (first_or (unnamed g) None) (tables_of g)) (sym p.1)
    ∙ ap (λ (found : Option LoadFault). unless found (tables_of (group_of top))) (sym (last_check (group_checks top) (unnamed (group_of top)) p.0))

-- the result for a text's tree is the result for the text
pub refused_tables : {X : Type 0} (source : List ℕ) (tree : Tree) (view : X → List DeviceSpec × List Disk) (result : Result X LoadFault) → SaysTree source tree
    → Answers Source view result (unless (first_fault (metadata_checks tree)) (tables_of (group_of tree))) → IfErr result (λ fault. fault.kind ≢ Memory → IsRefusedText source fault)
refused_tables source tree view (Ok x) says answers = tt
refused_tables source tree view (Err fault) says answers =
    λ not_memory. OfGroup tree says (unless-err (first_fault (metadata_checks tree)) (tables_of (group_of tree)) fault (answers.1 not_memory))

pub refused_text : (source : List ℕ) (found : TextFault) → IsUtf8 source → (found ≢ texts.Memory → HasFault source found) → (text_fault found).kind ≢ Memory → IsRefusedText source (text_fault found)
refused_text source found utf8 has not_memory = OfText utf8 found (has (λ is. not_memory (rw is))) refl
