use Rattle.dm_stream.proofs.Prelude.{ℕ, List, [], get_or, inl, inr, length, set, sym, subst, ◌∙◌, arith, length-set, get_or-set_same, get_or-set_other, cases_eq, AreMade, IsLineEnd}
use Rattle.dm_stream.proofs.pieces.line_ends.LineEnds.new.Goals as goal
use Rattle.std.specs.Prelude.{◌+◌, ◌<◌}

made_more : (bound : ℕ) (ends : List (List ℕ)) (array : List ℕ) → bound < length ends → IsLineEnd bound array → AreMade bound ends → AreMade (bound + 1) (set ends bound array)
made_more bound ends array within is made len below =
    elim (cases_eq len bound) [
      | inl same ↦ subst (λ (k : ℕ). IsLineEnd k (get_or (set ends bound array) k [])) (sym same) (subst (λ (text : List ℕ). IsLineEnd bound text) (sym (get_or-set_same ends bound array [] within)) is)
      | inr other ↦ subst (λ (text : List ℕ). IsLineEnd len text) (sym (get_or-set_other ends bound len array [] other)) (made len (omega (arith, other)))
    ]

pub lengths-preserved : goal.lengths-preserved
lengths-preserved c =
    let l = c.lengths in (
      omega arith,
      length-set l.ends l.len c.line_end.result ∙ l.invariant.1,
      made_more l.len l.ends c.line_end.result (omega (arith, l.invariant.1)) c.line_end.ensures l.invariant.2,
    )
