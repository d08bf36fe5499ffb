-- Proofs that a list of pieces is a lawful sink. They are among the specs because the `impl Sink` of `PieceList` imports them.
use Rattle.dm_map.specs.Base.{List, [], append_assoc, sym, ap, ◌∙◌, append-nil}
use Rattle.dm_map.specs.Prelude.{BlockUnit, OfBeginning}
use Rattle.dm_map.specs.pieces.PieceList.{PieceListView, Appends, units_of_all}
use Rattle.std.specs.Prelude.{◌++◌}

pub appends_nothing : (a : PieceListView) → Appends a [] a
appends_nothing a = record { appended = sym (append-nil (units_of_all a.pieces)) }

pub appends_both : (a b c : PieceListView) (us vs : List BlockUnit) → Appends a us b → Appends b vs c → Appends a (us ++ vs) c
appends_both a b c us vs first second = record {
  appended = second.appended ∙ ap (λ (units : List BlockUnit). units ++ vs) first.appended ∙ append_assoc (units_of_all a.pieces) us vs;
}

pub appends_beginning : (a b c : PieceListView) (us vs : List BlockUnit) → Appends a us b → OfBeginning Appends b vs c → OfBeginning Appends a (us ++ vs) c
appends_beginning a b c us vs first second = record {
  front = us ++ second.front;
  rest = second.rest;
  whole = append_assoc us second.front second.rest ∙ ap (λ (units : List BlockUnit). us ++ units) second.whole;
  holds = appends_both a b c us second.front first second.holds;
}
