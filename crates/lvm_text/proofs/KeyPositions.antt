-- The positions of keys, among the first entries and in the index, as entries are added; and the node at a position.
use Rattle.lvm_text.proofs.Prelude.{ℕ, zero, suc, min, true, false, cond, List, [], length, get_or, take, drop, Option, Some, None, refl, sym, ap, ◌∙◌, inl, inr, arith, add-one, add-zero, zero-add, length-append, length-drop, bytes_eq, cond_both, and_parts, cases_lt, drop_all, drop-append-le, bytes_eq-Decides, nat_cmp, slice_cmp, BTreeMap, Updates, node_of, values_of, has_line, lines_agree, node_view, position_of, Finds, Entry}
use Rattle.std.proofs.lemmas.Map.Text.{btree_map_updates_str}
use Rattle.lvm_text.specs.declared.index.TheConstants.{FEW}
use Rattle.lvm_text.proofs.Looks.{node_put}
use Rattle.std.specs.Prelude.{◌≡◌, ◌+◌, ◌<◌, ◌≤◌, ◌∷◌, ◌++◌}
use denote.Ref.{Bor}

-- the first of two optional positions, or the second if there is no first
abbrev either_position : Option ℕ → Option ℕ → Option ℕ
either_position None later = later
either_position (Some at) later = Some at

position_split : (n : ℕ) (es : List Entry) (key : List ℕ) (first : ℕ) → position_of key first es ≡ either_position (position_of key first (take n es)) (position_of key (first + n) (drop n es))
position_split zero es key first = rw add-zero
position_split (suc n) [] key first = refl
position_split (suc n) (e ∷ es) key first =
    cond_both (bytes_eq e.key.now key) (Some first) (position_of key (first + 1) es) (λ o. o ≡ either_position (cond (bytes_eq e.key.now key) (Some first) (position_of key (first + 1) (take n es))) (position_of key (first + suc n) (drop n es)))
    (λ same. rw same)
    (λ other. let next : first + 1 + n ≡ first + suc n = omega arith in rw (other, position_split n es key (first + 1), next))

split_here : (m : ℕ) (es : List Entry) (key : List ℕ) → position_of key 0 es ≡ either_position (position_of key 0 (take m es)) (position_of key m (drop m es))
split_here m es key = cc (position_split m es key 0, zero-add m)

-- if none of the first entries has the key, its position is among the others
pub position_many : (es : List Entry) (key : List ℕ) (m : ℕ) → m ≡ min (length es) FEW → None ≡ position_of key 0 (take m es) → position_of key 0 es ≡ position_of key FEW (drop FEW es)
position_many es key m is e =
    let all : position_of key 0 es ≡ position_of key m (drop m es) = cc (split_here m es key) in
    elim (cases_lt (length es) FEW) [
      | inl lt ↦ all ∙ ap (position_of key m) (drop_all m es (omega (arith, is, lt))) ∙ sym (ap (position_of key FEW) (drop_all FEW es (omega (arith, lt))))
      | inr le ↦ let same : m ≡ FEW = omega (arith, is, le) in cc
    ]

either_none : (a b : Option ℕ) → either_position a b ≡ None → b ≡ None
either_none None b e = e
either_none (Some n) b e = absurd cc

either_same : (a : Option ℕ) → either_position a None ≡ a
either_same None = refl
either_same (Some n) = refl

-- the position of a key after an entry was added at the end
position_push : (es : List Entry) (e : Entry) (key : List ℕ) (first : ℕ) → position_of key first (es ++ e ∷ []) ≡ either_position (position_of key first es) (cond (bytes_eq e.key.now key) (Some (first + length es)) None)
position_push [] e key first = rw add-zero
position_push (x ∷ es) e key first =
    cond_both (bytes_eq x.key.now key) (Some first) (position_of key (first + 1) es) (λ o. cond (bytes_eq x.key.now key) (Some first) (position_of key (first + 1) (es ++ e ∷ [])) ≡ either_position o (cond (bytes_eq e.key.now key) (Some (first + length (x ∷ es))) None))
    (λ same. rw same)
    (λ other. let next : first + 1 + length es ≡ first + suc (length es) = omega arith in rw (other, position_push es e key (first + 1), next))

-- while there are fewer than FEW entries, adding one leaves the index right without changing it
pub finds_few : (es : List Entry) (e : Entry) (index : BTreeMap (Bor (List ℕ)) ℕ) → length es < FEW → Finds index es → Finds index (es ++ e ∷ [])
finds_few es e index few finds = λ key.
    finds key ∙ ap (position_of key FEW) (drop_all FEW es (omega (arith, few)) ∙ sym (drop_all FEW (es ++ e ∷ []) (omega (arith, length-append es (e ∷ [])))))

pub finds_put : (es : List Entry) (e : Entry) (old new : BTreeMap (Bor (List ℕ)) ℕ) (m : ℕ) → m ≡ length es → FEW ≤ length es → position_of e.key.now 0 es ≡ None → Finds old es
    → Updates (λ x y. slice_cmp nat_cmp x.now y.now) old new e.key (Some m) → Finds new (es ++ e ∷ [])
finds_put es e old new m is many fresh finds updates = λ key.
    cc (btree_map_updates_str e.key.now old new (Some m) updates key, finds key, cond_both (bytes_eq e.key.now key) (Some (length es)) (position_of key FEW (drop FEW es)) (λ o. o ≡ position_of key FEW (drop FEW (es ++ e ∷ []))) (λ same. rw (after, none_at) (sym (rw same))) (λ other. sym (after key ∙ rw other (either_same (position_of key FEW (drop FEW es))))))
  where
    after : (key : List ℕ) → position_of key FEW (drop FEW (es ++ e ∷ [])) ≡ either_position (position_of key FEW (drop FEW es)) (cond (bytes_eq e.key.now key) (Some (length es)) None)
    after key =
        let all : FEW + length (drop FEW es) ≡ length es = omega (arith, many, length-drop FEW es) in rw (drop-append-le FEW es (e ∷ []) many, position_push (drop FEW es) e key FEW, all)

    none_at : (key : List ℕ) → bytes_eq e.key.now key ≡ true → position_of key FEW (drop FEW es) ≡ None
    none_at key same =
        let alike : e.key.now ≡ key = (bytes_eq-Decides e.key.now key).0 same in
        rw alike at (either_none (position_of e.key.now 0 (take FEW es)) (position_of e.key.now FEW (drop FEW es)) (sym (split_here FEW es e.key.now) ∙ fresh))

-- the position `at` is that of an entry, whose node is the key's
pub record Stands (es : List Entry) (key : List ℕ) (first at : ℕ) : Type 0 where
  pub after : ℕ
  pub is : at ≡ first + after
  pub within : after < length es
  pub node : (d : Entry) → node_of key (values_of es) ≡ Some (node_view (get_or es after d).node)

stands_later : (e : Entry) (es : List Entry) (key : List ℕ) (first at : ℕ) → has_line e.node.line e.node.value ≡ true → bytes_eq e.key.now key ≡ false → Stands es key (first + 1) at → Stands (e ∷ es) key first at
stands_later e es key first at line other s = record {
  after = s.after + 1;
  is = omega (arith, s.is);
  within = omega (arith, s.within);
  node = λ d. node_put key e.key.now e.node.line e.node.value (values_of es) line ∙ rw (other, add-one) (s.node d);
}

stands_here : (e : Entry) (es : List Entry) (key : List ℕ) (first at : ℕ) → has_line e.node.line e.node.value ≡ true → bytes_eq e.key.now key ≡ true → first ≡ at → Stands (e ∷ es) key first at
stands_here e es key first at line same is = record {
  after = 0;
  is = omega (arith, is);
  within = omega arith;
  node = λ d. node_put key e.key.now e.node.line e.node.value (values_of es) line ∙ rw same;
}

-- a key whose position is found from an entry on is at that position
stands : (es : List Entry) (key : List ℕ) (first at : ℕ) → lines_agree es ≡ true → position_of key first es ≡ Some at → Stands es key first at
stands [] key first at agree is = absurd cc
stands (e ∷ es) key first at agree is =
    let a = and_parts (has_line e.node.line e.node.value) (lines_agree es) agree in
    cond_both (bytes_eq e.key.now key) (Some first) (position_of key (first + 1) es) (λ o. o ≡ Some at → Stands (e ∷ es) key first at)
    (λ same here. stands_here e es key first at a.0 same cc)
    (λ other later. stands_later e es key first at a.0 other (stands es key (first + 1) at a.1 later)) is

-- a key whose position is found is at that position, and its node is the one there
pub stands_at : (es : List Entry) (key : List ℕ) (at : ℕ) → lines_agree es ≡ true → position_of key 0 es ≡ Some at → (at < length es) × ((d : Entry) → node_of key (values_of es) ≡ Some (node_view (get_or es at d).node))
stands_at es key at agree is =
    let s = stands es key 0 at agree is in
    let same : s.after ≡ at = omega (arith, s.is) in
    (omega (arith, same, s.within), λ d. rw (← same) (s.node d))

-- a key without a position has no node
pub absent : (es : List Entry) (key : List ℕ) (first : ℕ) → lines_agree es ≡ true → position_of key first es ≡ None → node_of key (values_of es) ≡ None
absent [] key first agree is = refl
absent (e ∷ es) key first agree is =
    let a = and_parts (has_line e.node.line e.node.value) (lines_agree es) agree in
    cond_both (bytes_eq e.key.now key) (Some first) (position_of key (first + 1) es) (λ o. o ≡ None → node_of key (values_of (e ∷ es)) ≡ None)
    (λ same here. absurd cc)
    (λ other later. node_put key e.key.now e.node.line e.node.value (values_of es) a.0 ∙ rw other (absent es key (first + 1) a.1 later)) is
