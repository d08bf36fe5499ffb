-- A metadata text describes exactly one group or has exactly one fault, and never both.
use Rattle.lvm_volume.proofs.Prelude.{ℕ, Bool, true, false, List, Option, None, Some, inl, inr, refl, sym, ap, ◌∙◌, IsUtf8, is_utf8, IsUtf8-from_is_utf8, is_utf8-from_IsUtf8, TextFault, LoadFault, DeviceSpec, Disk, Source, NotText, Tree, Describes, HasFault, every_text, one_tree, fault_at, first_fault, group_of, DescribesGroup, SaysTree, IsRefusedText, OfText, OfGroup, SaysOneThing, bad_byte_line, metadata_checks, tables_of, text_fault, NotUtf8, no_fault as no_text_fault, one_fault as one_text_fault}
use Rattle.std.specs.Prelude.{◌≡◌, ◌⊎◌}

same_tree : (source : List ℕ) (t u : Tree) → SaysTree source t → SaysTree source u → t ≡ u
same_tree source t u is_t is_u = one_tree source t u is_t.says is_u.says

pub one_group : (source : List ℕ) (a b : List DeviceSpec × List Disk) → DescribesGroup source a → DescribesGroup source b → a ≡ b
one_group source a b is_a is_b =
    rw (is_a.is, same_tree source is_a.tree is_b.tree is_a.says is_b.says, ← is_b.is)

checks_of_one : (source : List ℕ) (t u : Tree) → SaysTree source t → SaysTree source u → first_fault (metadata_checks t) ≡ first_fault (metadata_checks u)
checks_of_one source t u is_t is_u = rw (same_tree source t u is_t is_u)

pub never_refused : (source : List ℕ) (tables : List DeviceSpec × List Disk) (fault : LoadFault) → DescribesGroup source tables → IsRefusedText source fault → ⊥
never_refused source tables fault is (NotUtf8 other same) = other is.says.utf8
never_refused source tables fault is (OfText utf8 found has same) = no_text_fault source is.tree found is.says.says has
never_refused source tables fault is (OfGroup tree says hit) = let same = checks_of_one source is.tree tree is.says says in let none = is.sound in absurd cc

pub one_refusal : (source : List ℕ) (f g : LoadFault) → IsRefusedText source f → IsRefusedText source g → f ≡ g
one_refusal source f g (NotUtf8 a same_a) (NotUtf8 b same_b) = same_a ∙ sym same_b
one_refusal source f g (NotUtf8 a same_a) (OfText utf8 found has same_b) = absurd (a utf8)
one_refusal source f g (NotUtf8 a same_a) (OfGroup tree says hit) = absurd (a says.utf8)
one_refusal source f g (OfText utf8 found has same_a) (NotUtf8 b same_b) = absurd (b utf8)
one_refusal source f g (OfText utf8 found has same_a) (OfText also other has_other same_b) = same_a ∙ ap text_fault (one_text_fault source found other has has_other) ∙ sym same_b
one_refusal source f g (OfText utf8 found has same_a) (OfGroup tree says hit) = absurd (no_text_fault source tree found says.says has)
one_refusal source f g (OfGroup tree says hit) (NotUtf8 b same_b) = absurd (b says.utf8)
one_refusal source f g (OfGroup tree says hit) (OfText utf8 found has same_b) = absurd (no_text_fault source tree found says.says has)
one_refusal source f g (OfGroup tree says hit) (OfGroup other says_other hit_other) = let same = checks_of_one source tree other says says_other in cc

-- ---- every text describes a group or has a fault

by_checks : (source : List ℕ) (tree : Tree) → SaysTree source tree → (found : Option LoadFault) → first_fault (metadata_checks tree) ≡ found
    → ((tables : List DeviceSpec × List Disk) × DescribesGroup source tables) ⊎ ((fault : LoadFault) × IsRefusedText source fault)
by_checks source tree says None e = inl (tables_of (group_of tree), record { tree = tree; says = says; sound = e; is = refl })
by_checks source tree says (Some fault) e = inr (fault, OfGroup tree says e)

by_text : (source : List ℕ) → IsUtf8 source → ((t : Tree) × Describes source t) ⊎ ((f : TextFault) × HasFault source f)
    → ((tables : List DeviceSpec × List Disk) × DescribesGroup source tables) ⊎ ((fault : LoadFault) × IsRefusedText source fault)
by_text source utf8 (inl text) = by_checks source text.0 (record { utf8 = utf8; says = text.1 }) (first_fault (metadata_checks text.0)) refl
by_text source utf8 (inr text) = inr (text_fault text.0, OfText utf8 text.0 text.1 refl)

by_bytes : (source : List ℕ) (utf8 : Bool) → is_utf8 source ≡ utf8 → ((tables : List DeviceSpec × List Disk) × DescribesGroup source tables) ⊎ ((fault : LoadFault) × IsRefusedText source fault)
by_bytes source true e = by_text source (IsUtf8-from_is_utf8 source e) (every_text source)
by_bytes source false e = inr (fault_at Source NotText (bad_byte_line source), NotUtf8 (λ utf8. let is = is_utf8-from_IsUtf8 source utf8 in cc) refl)

pub says_one_thing : (source : List ℕ) → SaysOneThing source
says_one_thing source = record {
  some = by_bytes source (is_utf8 source) refl;
  unique = one_group source;
  one_fault = one_refusal source;
  not_both = never_refused source;
}
