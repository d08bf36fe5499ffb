-- A tree's code: a flat list from which the tree can be recovered, with a mark at the end of each section. The code is
-- used only by proofs that two trees are equal or differ.
use Rattle.lvm_text.specs.Base.{ℕ, List, [], map, refl, append_assoc, ap, sym, ◌∙◌, inl, inr, append-nil}
use Rattle.std.specs.Coded.{Coded, code_by, coded×, coded⊎, coded_ℕ, coded_list}
use Rattle.std.specs.Prelude.{◌≡◌, ◌⊎◌, ◌∷◌, ◌++◌}
use base.Stored.{coded_unit}
use Rattle.lvm_text.specs.Tree.{Scalar, Int, Text, Values, Nothing, Section, Single, Several, Tree}

-- a scalar in a tree's code: an integer or a string
abbrev pub Flat : Type 0
Flat = ℕ ⊎ List ℕ

-- what a key holds, in a tree's code: a section, whose values come next in the code, a scalar, or a list of scalars
abbrev pub Held : Type 0
Held = Unit {0} ⊎ (Flat ⊎ List Flat)

-- an item of a tree's code: the end of a section, or a key with its line and what it holds
abbrev pub Item : Type 0
Item = Unit {0} ⊎ ((List ℕ × ℕ) × Held)

-- a scalar as it occurs in a tree's code
abbrev pub flat_scalar : Scalar → Flat
flat_scalar (Int n) = inl n
flat_scalar (Text t) = inr t

-- the scalar that a `Flat` in a tree's code was made from
abbrev pub scalar_back : Flat → Scalar
scalar_back (inl n) = Int n
scalar_back (inr t) = Text t

-- the values of a section as a flat list, as they occur in a tree's code
abbrev pub flat_values : Values → List Item
flat_values Nothing = []
flat_values (Section k n inner rest) = inr ((k, n), inl tt) ∷ (flat_values inner ++ inl tt ∷ flat_values rest)
flat_values (Single k n s rest) = inr ((k, n), inr (inl (flat_scalar s))) ∷ flat_values rest
flat_values (Several k n ss rest) = inr ((k, n), inr (inr (map flat_scalar ss))) ∷ flat_values rest

-- the state while a tree's code is read from its end: the values read so far, and, for each open section, the values after it
abbrev pub Pile : Type 0
Pile = Values × List Values

-- the state once the key of a section has been read: the section holds `inner`, and the values on top of the pile follow it
abbrev pub entered : List ℕ → ℕ → Values → List Values → Pile
entered k n inner [] = (Nothing, [])
entered k n inner (rest ∷ more) = (Section k n inner rest, more)

-- the state once a key has been read: the key and what it holds come in front of the values read so far
abbrev pub held : List ℕ → ℕ → Held → Pile → Pile
held k n (inl u) pile = entered k n pile.0 pile.1
held k n (inr (inl s)) pile = (Single k n (scalar_back s) pile.0, pile.1)
held k n (inr (inr ss)) pile = (Several k n (map scalar_back ss) pile.0, pile.1)

-- the state after a tree's code has been read from its end to its front
abbrev pub pile_of : List Item → Pile
pile_of [] = (Nothing, [])
pile_of (inl u ∷ is) = (Nothing, (pile_of is).0 ∷ (pile_of is).1)
pile_of (inr h ∷ is) = held h.0.0 h.0.1 h.1 (pile_of is)

scalar_is : (s : Scalar) → scalar_back (flat_scalar s) ≡ s
scalar_is (Int n) = refl
scalar_is (Text t) = refl

scalars_are : (ss : List Scalar) → map scalar_back (map flat_scalar ss) ≡ ss
scalars_are [] = refl
scalars_are (s ∷ ss) = rw (scalar_is s, scalars_are ss) refl

pile_is : (v : Values) (is : List Item) (more : List Values) → pile_of is ≡ (Nothing, more) → pile_of (flat_values v ++ is) ≡ (v, more)
pile_is Nothing is more e = e
pile_is (Section k n inner rest) is more e =
    let after : pile_of (inl tt ∷ (flat_values rest ++ is)) ≡ (Nothing, rest ∷ more) = rw (pile_is rest is more e) refl in
    ap (λ (xs : List Item). held k n (inl tt) (pile_of xs)) (append_assoc (flat_values inner) (inl tt ∷ flat_values rest) is)
    ∙ ap (held k n (inl tt)) (pile_is inner (inl tt ∷ (flat_values rest ++ is)) (rest ∷ more) after)
pile_is (Single k n s rest) is more e = rw (pile_is rest is more e, scalar_is s) refl
pile_is (Several k n ss rest) is more e = rw (pile_is rest is more e, scalars_are ss) refl

-- the values that a tree's code was made from
abbrev pub values_back : List Item → Values
values_back is = (pile_of is).0

pub values_back-flat_values : (v : Values) → values_back (flat_values v) ≡ v
values_back-flat_values v = ap values_back (sym (append-nil (flat_values v))) ∙ ap (λ (p : Pile). p.0) (pile_is v [] [] refl)

-- a code for scalars, by which equal scalars can be told from different ones
abbrev coded_flat : Coded Flat
coded_flat = coded⊎ coded_ℕ (coded_list coded_ℕ)

-- a code for values, made from their flat list
abbrev pub values_code : Coded Values
values_code =
    code_by (List Item) (coded_list (coded⊎ coded_unit (coded× (coded× (coded_list coded_ℕ) coded_ℕ) (coded⊎ coded_unit (coded⊎ coded_flat (coded_list coded_flat))))))
    flat_values values_back values_back-flat_values

-- a code for trees, made from a tree's line and values
abbrev pub tree_code : Coded Tree
tree_code = code_by (ℕ × Values) (coded× coded_ℕ values_code) (λ t. (t.line, t.values)) (λ p. record { line = p.0; values = p.1 }) (λ _. refl)
