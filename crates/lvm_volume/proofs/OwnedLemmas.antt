-- Lemmas about the result for a text when images with some of its physical volumes are at hand.
use Rattle.lvm_volume.proofs.Prelude.{inl, inr, ℕ, suc, Bool, true, false, List, [], length, map, Option, None, Result, Ok, Err, refl, sym, ap, subst, ◌∙◌, IsUtf8, is_utf8, IsUtf8-from_is_utf8, is_utf8-from_IsUtf8, TextFault, Source, Memory, NotText, LoadFault, Tree, Describes, HasFault, every_text, one_tree, IsMemoryFault, fault_at, first_fault, first_or, unless, OwnedFault, DiskFault, Group, Keyed, device_of, group_of, physical_of, Owners, id_in, ids_of, owned_group, physicals_of, untaken, bad_byte_line, metadata_checks, Gives, GivesOneThing, OfTree, OwnedAnswers, Tables, of_load, owned_tables, unless_untaken, group_checks, tables_of, text_fault, unnamed, unless-ok, no_fault as no_text_fault, one_fault as one_text_fault}
use Rattle.lvm_text.specs.declared.fault.TextFault.TheVariants as texts
use Rattle.lvm_volume.specs.declared.owned_metadata.OwnedFault.TheVariants.{Disk, Load}
use Rattle.lvm_volume.specs.OwnedMetadata.{NotUtf8, OfText}
use Rattle.lvm_volume.proofs.MetadataLemmas.{last_check}
use Rattle.std.specs.Prelude.{◌≡◌, ◌≢◌, ◌⊎◌, ◌++◌, ◌∷◌}

-- ---- the group of a tree

count_both : {X Y : Type 0} (f : Keyed → X) (g : Keyed → Y) (xs : List Keyed) → length (map f xs) ≡ length (map g xs)
count_both f g [] = refl
count_both f g (x ∷ xs) = ap (λ (n : ℕ). suc n) (count_both f g xs)

-- there are as many ids as physical volumes
pub ids_counted : (top : Tree) (ids : List (List ℕ)) (group : Group) → ids ≡ ids_of top → unless (first_fault (group_checks top)) (group_of top) ≡ Ok group → length ids ≡ length group.physicals
ids_counted top ids group are is =
    let sections : List Keyed = physicals_of top in
    ap (λ (xs : List (List ℕ)). length xs) are
    ∙ count_both id_in (physical_of (map device_of sections)) sections
    ∙ ap (λ (g : Group). length g.physicals) (unless-ok (first_fault (group_checks top)) (group_of top) group is).1

said_known : (owners : Owners) (top : Tree) (said : Result Tables LoadFault) → untaken (physicals_of top) owners.names 0 owners.ids ≡ None
    → unless (first_fault (metadata_checks top)) (tables_of (owned_group owners (ids_of top) (group_of top))) ≡ said → of_load said ≡ owned_tables owners top
said_known owners top said none is =
    let all : Result Tables OwnedFault = of_load (unless (first_fault (metadata_checks top)) (tables_of (owned_group owners (ids_of top) (group_of top)))) in
    sym (ap (λ (f : Option (ℕ × DiskFault)). unless_untaken f all) none ∙ ap of_load is)

earlier_found : {X : Type 0} (checks : List (List LoadFault)) (last : List LoadFault) (group : Group) (x : X) (fault : LoadFault) → unless (first_fault checks) group ≡ Err fault → unless (first_fault (checks ++ last ∷ [])) x ≡ Err fault
earlier_found [] last group x fault is = absurd cc
earlier_found ([] ∷ checks) last group x fault is = earlier_found checks last group x fault is
earlier_found ((found ∷ faults) ∷ checks) last group x fault is = let same : found ≡ fault = cc in rw same refl

-- if all disks can be used and a check of the group finds a fault, that is the result
pub said_refused : (owners : Owners) (top : Tree) (fault : LoadFault) → untaken (physicals_of top) owners.names 0 owners.ids ≡ None → unless (first_fault (group_checks top)) (group_of top) ≡ Err fault
    → Err (Load fault) ≡ owned_tables owners top
said_refused owners top fault none is =
    said_known owners top (Err fault) none
    (earlier_found (group_checks top) (unnamed (group_of top)) (group_of top) (tables_of (owned_group owners (ids_of top) (group_of top))) fault is)

-- if all disks can be used and no check of the group finds a fault, the result is that of the renamed group's tables
pub said_tables : (owners : Owners) (top : Tree) (ids : List (List ℕ)) (group owned : Group) (said : Result Tables LoadFault) → ids ≡ ids_of top → untaken (physicals_of top) owners.names 0 owners.ids ≡ None → unless (first_fault (group_checks top)) (group_of top) ≡ Ok group
    → owned ≡ owned_group owners ids group → unless (first_or (unnamed owned) None) (tables_of owned) ≡ said → of_load said ≡ owned_tables owners top
said_tables owners top ids group owned said are none is same tables =
    let p = unless-ok (first_fault (group_checks top)) (group_of top) group is in
    let e : owned ≡ owned_group owners (ids_of top) (group_of top) = same ∙ ap (λ (xs : List (List ℕ)). owned_group owners xs group) are ∙ ap (owned_group owners (ids_of top)) (sym p.1) in
    said_known owners top said none
    (ap (λ (found : Option LoadFault). unless found (tables_of (owned_group owners (ids_of top) (group_of top)))) (last_check (group_checks top) (unnamed (group_of top)) p.0)
    ∙ ap (λ (g : Group). unless (first_or (unnamed g) None) (tables_of g)) (sym e)
    ∙ tables)

-- ---- the result of the call

pub answers_by : {X : Type 0} (view : X → Tables) (P Q : Result Tables OwnedFault → Type 0) → ((said : Result Tables OwnedFault) → P said → Q said) → (result : Result X OwnedFault) → OwnedAnswers view P result → OwnedAnswers view Q result
answers_by view P Q f (Ok x) is = f (Ok (view x)) is
answers_by view P Q f (Err (Disk disk fault)) is = f (Err (Disk disk fault)) is
answers_by view P Q f (Err (Load fault)) is = (is.0, λ other. f (Err (Load fault)) (is.1 other))

text_memory : (found : TextFault) → (text_fault found).kind ≡ Memory → IsMemoryFault Source (text_fault found)
text_memory texts.Memory is = refl
text_memory found is = absurd cc

pub said_text : (owners : Owners) (source : List ℕ) (found : TextFault) (fault : LoadFault) → IsUtf8 source → fault ≡ text_fault found → (found ≢ texts.Memory → HasFault source found)
    → (fault.kind ≡ Memory → IsMemoryFault Source fault) × (fault.kind ≢ Memory → Gives owners source (Err (Load fault)))
said_text owners source found fault utf8 is has = (
  λ memory. subst (λ (f : LoadFault). IsMemoryFault Source f) (sym is) (text_memory found (ap (λ (f : LoadFault). f.kind) (sym is) ∙ memory)),
  λ other. OfText utf8 found (has (λ same. other (ap (λ (f : LoadFault). f.kind) is ∙ ap (λ (f : TextFault). (text_fault f).kind) same))) (ap (λ (f : LoadFault). let r : Result Tables OwnedFault = Err (Load f) in r) is),
)

-- ---- every text has exactly one result

pub gives_one : (owners : Owners) (source : List ℕ) (a b : Result Tables OwnedFault) → Gives owners source a → Gives owners source b → a ≡ b
gives_one owners source a b (NotUtf8 x same_a) (NotUtf8 y same_b) = same_a ∙ sym same_b
gives_one owners source a b (NotUtf8 x same_a) (OfText utf8 found has same_b) = absurd (x utf8)
gives_one owners source a b (NotUtf8 x same_a) (OfTree tree says same_b) = absurd (x says.utf8)
gives_one owners source a b (OfText utf8 found has same_a) (NotUtf8 y same_b) = absurd (y utf8)
gives_one owners source a b (OfText utf8 found has same_a) (OfText also other has_other same_b) = same_a ∙ ap (λ (f : TextFault). let r : Result Tables OwnedFault = Err (Load (text_fault f)) in r) (one_text_fault source found other has has_other) ∙ sym same_b
gives_one owners source a b (OfText utf8 found has same_a) (OfTree tree says same_b) = absurd (no_text_fault source tree found says.says has)
gives_one owners source a b (OfTree tree says same_a) (NotUtf8 y same_b) = absurd (y says.utf8)
gives_one owners source a b (OfTree tree says same_a) (OfText utf8 found has same_b) = absurd (no_text_fault source tree found says.says has)
gives_one owners source a b (OfTree tree says same_a) (OfTree other says_other same_b) = same_a ∙ ap (owned_tables owners) (one_tree source tree other says.says says_other.says) ∙ sym same_b

by_text : (owners : Owners) (source : List ℕ) → IsUtf8 source → ((t : Tree) × Describes source t) ⊎ ((f : TextFault) × HasFault source f) → (said : Result Tables OwnedFault) × Gives owners source said
by_text owners source utf8 (inl text) = (owned_tables owners text.0, OfTree text.0 (record { utf8 = utf8; says = text.1 }) refl)
by_text owners source utf8 (inr text) = (Err (Load (text_fault text.0)), OfText utf8 text.0 text.1 refl)

by_bytes : (owners : Owners) (source : List ℕ) (utf8 : Bool) → is_utf8 source ≡ utf8 → (said : Result Tables OwnedFault) × Gives owners source said
by_bytes owners source true e = by_text owners source (IsUtf8-from_is_utf8 source e) (every_text source)
by_bytes owners source false e = (Err (Load (fault_at Source NotText (bad_byte_line source))), NotUtf8 (λ utf8. let is = is_utf8-from_IsUtf8 source utf8 in cc) refl)

pub gives_one_thing : (owners : Owners) (source : List ℕ) → GivesOneThing owners source
gives_one_thing owners source = record { some = by_bytes owners source (is_utf8 source) refl; unique = gives_one owners source }
