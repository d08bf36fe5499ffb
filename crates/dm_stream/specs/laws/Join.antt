-- Laws of a join as a sink: taking some units and then taking or leaving later ones has the same result as taking or leaving all of them. An `impl` cites the laws.
use Rattle.dm_stream.specs.Base.{ℕ, suc, Bool, true, false, cond, List, [], refl, sym, ap, subst, ◌∙◌, append_assoc, append-nil, OutputPast, since, since_more, written_to_more, written_to_none, Description, IsLawful, BlockUnit, all_but_last, since-same, IsBeginning}
use Rattle.std.proofs.lemmas.Grind.{flat_map-append}
use Rattle.dm_stream.specs.pieces.Pending.{Pending, held_units}
use Rattle.dm_stream.specs.pieces.Join.{HasUnits, HasTaken, HasLeft, join_past}
use Rattle.dm_stream.specs.pieces.Pieces.{UnitRun, fewest, joins, onto}
use Rattle.dm_stream.specs.pieces.PieceText.{piece_text, pieces_text}
use Rattle.std.specs.Prelude.{◌≡◌, ◌∷◌, ◌++◌}

-- the first piece in the list begins with this unit
pub record BeginsWith (unit : BlockUnit) (pieces : List UnitRun) : Type 0 where
  pub len : ℕ
  pub later : List UnitRun
  pub is : pieces ≡ record { first = unit; len = len } ∷ later

pub onto_begins : (unit : BlockUnit) (pieces : List UnitRun) → BeginsWith unit (onto unit pieces)
onto_begins unit [] = record { len = 1; later = []; is = refl }
onto_begins unit (piece ∷ pieces) =
    let P : Bool → Type 0 = λ b. BeginsWith unit (cond b (record { first = unit; len = suc piece.len } ∷ pieces) (record { first = unit; len = 1 } ∷ piece ∷ pieces)) in
    elim (joins unit piece.first) as P [
      | true ↦ record { len = suc piece.len; later = pieces; is = refl }
      | false ↦ record { len = 1; later = piece ∷ pieces; is = refl }
    ]

-- pieces `ps` followed by `q ∷ qs`, without the last piece, are `ps` followed by `q ∷ qs` without its last piece
last-after : (ps : List UnitRun) (q : UnitRun) (qs : List UnitRun) → all_but_last (ps ++ q ∷ qs) ≡ ps ++ all_but_last (q ∷ qs)
last-after [] q qs = refl
last-after (p ∷ []) q qs = refl
last-after (p ∷ next ∷ ps) q qs = ap (λ (rs : List UnitRun). p ∷ rs) (last-after (next ∷ ps) q qs)

pub last_of_units : (ps : List UnitRun) (units : List BlockUnit) → HasUnits units → all_but_last (ps ++ fewest units) ≡ ps ++ all_but_last (fewest units)
last_of_units ps [] some = absurd some
last_of_units ps (unit ∷ units) some =
    let b = onto_begins unit (fewest units) in
    ap (λ (qs : List UnitRun). all_but_last (ps ++ qs)) b.is ∙ last-after ps (record { first = unit; len = b.len }) b.later ∙ ap (λ (qs : List UnitRun). ps ++ all_but_last qs) (sym b.is)

some_after : (us vs : List BlockUnit) → HasUnits vs → HasUnits (us ++ vs)
some_after [] vs some = some
some_after (u ∷ us) vs some = tt

pub some_before : (us vs : List BlockUnit) → HasUnits us → HasUnits (us ++ vs)
some_before [] vs some = absurd some
some_before (u ∷ us) vs some = tt

-- if `front` is a prefix of `more`, then `text ++ front` is a prefix of `text ++ more`
beginning-after : (text more front : List ℕ) → IsBeginning more front → IsBeginning (text ++ more) (text ++ front)
beginning-after text more front begins = (begins.0, ap (λ (xs : List ℕ). text ++ xs) begins.1 ∙ sym (append_assoc text front begins.0))

pub beginning-before : (text more front : List ℕ) → IsBeginning text front → IsBeginning (text ++ more) front
beginning-before text more front begins = (begins.0 ++ more, ap (λ (xs : List ℕ). xs ++ more) begins.1 ∙ append_assoc front begins.0 more)

-- moves the brackets in a list of units made of four parts
parts : (hs us vs rest : List BlockUnit) → hs ++ (us ++ vs) ++ rest ≡ hs ++ us ++ (vs ++ rest)
parts hs us vs rest = ap (λ (xs : List BlockUnit). xs ++ rest) (sym (append_assoc hs us vs)) ∙ append_assoc (hs ++ us) vs rest

took_none : (held : Pending) (w : List ℕ) → HasTaken held held [] w w
took_none held w = record {
  settled = [];
  told = λ rest. ap (λ (us : List BlockUnit). fewest (us ++ rest)) (append-nil (held_units held.piece));
  wrote = since-same w;
  stack = refl;
  number = refl;
}

-- taking units in two parts settles the pieces that the first part settles, followed by those that the second part settles
told_both : (hs bs cs us vs : List BlockUnit) (ps qs : List UnitRun) (rest : List BlockUnit)
    → ((rest : List BlockUnit) → fewest (hs ++ us ++ rest) ≡ ps ++ fewest (bs ++ rest)) → fewest (bs ++ vs ++ rest) ≡ qs ++ fewest (cs ++ rest)
    → fewest (hs ++ (us ++ vs) ++ rest) ≡ ps ++ qs ++ fewest (cs ++ rest)
told_both hs bs cs us vs ps qs rest first second =
    ap fewest (parts hs us vs rest) ∙ first (vs ++ rest) ∙ ap (λ (xs : List BlockUnit). ps ++ fewest xs) (sym (append_assoc bs vs rest))
    ∙ ap (λ (xs : List UnitRun). ps ++ xs) second ∙ sym (append_assoc ps qs (fewest (cs ++ rest)))

same_text : (a b : Pending) (ps : List UnitRun) → b.stack ≡ a.stack → b.number ≡ a.number → pieces_text b.stack b.number ps ≡ pieces_text a.stack a.number ps
same_text a b ps e f = ap (λ (stack : Description). pieces_text stack b.number ps) e ∙ ap (λ (number : ℕ). pieces_text a.stack number ps) f

took_more : (a b c : Pending) (us vs : List BlockUnit) (w0 w1 w2 : List ℕ) → w1 ≡ w0 ++ since w0 w1 → w2 ≡ w1 ++ since w1 w2
    → HasTaken a b us w0 w1 → HasTaken b c vs w1 w2 → HasTaken a c (us ++ vs) w0 w2
took_more a b c us vs w0 w1 w2 more again first second = record {
  settled = first.settled ++ second.settled;
  told = λ rest. told_both (held_units a.piece) (held_units b.piece) (held_units c.piece) us vs first.settled second.settled rest first.told (second.told rest);
  wrote =
      since_more w0 w1 w2 more again
      ∙ ap (λ (xs : List ℕ). xs ++ since w1 w2) first.wrote
      ∙ ap (λ (xs : List ℕ). pieces_text a.stack a.number first.settled ++ xs) (second.wrote ∙ same_text a b second.settled first.stack first.number)
      ∙ sym (flat_map-append (piece_text a.stack a.number) first.settled second.settled);
  stack = second.stack ∙ first.stack;
  number = second.number ∙ first.number;
}

-- the settled lines, followed by a prefix of the later lines without the last one, are a prefix of all lines without the last one
left_after : (stack : Description) (number : ℕ) (settled : List UnitRun) (units : List BlockUnit) (all : List UnitRun) (wrote front : List ℕ) → HasUnits units → all ≡ settled ++ fewest units → wrote ≡ pieces_text stack number settled ++ front
    → IsBeginning (pieces_text stack number (all_but_last (fewest units))) front → IsBeginning (pieces_text stack number (all_but_last all)) wrote
left_after stack number settled units all wrote front some e f begins =
    subst (λ (xs : List ℕ). IsBeginning xs wrote)
    (sym (ap (λ (ps : List UnitRun). pieces_text stack number (all_but_last ps)) e ∙ ap (pieces_text stack number) (last_of_units settled units some) ∙ flat_map-append (piece_text stack number) settled (all_but_last (fewest units))))
    (subst (IsBeginning (pieces_text stack number settled ++ pieces_text stack number (all_but_last (fewest units)))) (sym f) (beginning-after (pieces_text stack number settled) _ front begins))

left_more : (a b c : Pending) (us vs : List BlockUnit) (w0 w1 w2 : List ℕ) → w1 ≡ w0 ++ since w0 w1 → w2 ≡ w1 ++ since w1 w2
    → HasTaken a b us w0 w1 → HasLeft b c vs w1 w2 → HasLeft a c (us ++ vs) w0 w2
left_more a b c us vs w0 w1 w2 more again first second = record {
  some = some_after us vs second.some;
  beginning = λ rest.
      left_after a.stack a.number first.settled (held_units b.piece ++ vs ++ rest) _ (since w0 w2) (since w1 w2)
      (some_before (held_units b.piece ++ vs) rest (some_after (held_units b.piece) vs second.some))
      (ap fewest (parts (held_units a.piece) us vs rest) ∙ first.told (vs ++ rest) ∙ ap (λ (xs : List BlockUnit). first.settled ++ fewest xs) (sym (append_assoc (held_units b.piece) vs rest)))
      (since_more w0 w1 w2 more again ∙ ap (λ (xs : List ℕ). xs ++ since w1 w2) first.wrote)
      (subst (λ (xs : List ℕ). IsBeginning xs (since w1 w2)) (same_text a b (all_but_last (fewest (held_units b.piece ++ vs ++ rest))) first.stack first.number) (second.beginning rest));
  nothing = second.nothing;
  stack = second.stack ∙ first.stack;
  number = second.number ∙ first.number;
}

pub join_lawful : {W : Type 0} (past : W → OutputPast) → IsLawful (join_past past)
join_lawful past = record {
  nothing = λ s. (took_none s.held (past s.writer.now).written, written_to_none past s.writer);
  took = λ a b c us vs first second. (
    took_more a.held b.held c.held us vs _ _ _ first.1.moved.appends second.1.moved.appends first.0 second.0,
    written_to_more past a.writer b.writer c.writer 0 first.1 second.1,
  );
  left = λ a b c us vs first second. (
    left_more a.held b.held c.held us vs _ _ _ first.1.moved.appends second.1.moved.appends first.0 second.0,
    written_to_more past a.writer b.writer c.writer 1 first.1 second.1,
  );
}
