-- Opens the borrow of `self` and closes it again with the longer list: at run time nothing changes.
use Rattle.dm_table.proofs.Prelude.{[], refl, proved, the_row}
use Rattle.std.specs.Prelude.{◌∷◌, ◌++◌}
use base.Fml.{ftrue, flft}
use mir.Syntax.{Args, a_type, named}
use mir.MapTy.{inst_fn}
use mir.Val.{vunit}
use types.Kit.{‵, raw, ◌⊛◌, ◌$◌, ◌∵◌, !, qed, move, keep, split, join, fsplit3, feq_i, suffices, frame, group, done}
use types.Run.{enter, of_opd, unit_lit, returns}
use types.ByLocal.{alloc_all, pass_all, free_all, look_at, sets}
use denote.Builtin.{SliceRefOf}
use denote.Exit.{yes}
use denote.Param.{param, layouts}
use denote.Ref.{MutRef, mut_vals, mut_Tells}
use denote.Signature.{plain}
use denote.Slice.{ShrSlice, shr_slice_vals, shr_slice_Tells, shr_slice_Lawful}
use denote.Steps.{nothing, opens, closes}
use denote.Triple.Walked.{Stays, walk_of, says, stay_ref, Goes-ref, stay_dropped, Goes-dropped, ends_at}
use Rattle.dm_table.specs.contracts.io.ghost_list.GhostList.note as f
use Rattle.dm_table.proofs.io.ghost_list.GhostList.note.Statement.{statement}
use Rattle.dm_table.proofs.io.ghost_list.GhostList.note.Code as code

pub note_spec : {M : Type 1} → statement M
note_spec 𝓤 𝓛 𝓜 𝓡 wired T L =
    let E = f.ended T in let P = param 0 T in let R = the_row P in
    let list = plain (λ _. R) in let slice = SliceRefOf (1 ∷ []) tt (plain (λ _. P)) (λ _. tt) in
    -- at the return, `self` is still borrowed, and the slice is not
    let stayed : Stays E.signature.params E.kept = (stay_ref (0 ∷ []) tt list, (stay_dropped slice yes, tt)) in
    let c = f.clauses T 𝓛 𝓜.mem 𝓡.returns in let W = walk_of 𝓛 E stayed c in
    let args : Args = layouts (a_type ∷ []) (T, tt) in
    proved 𝓛 E stayed c 𝓜 𝓡
    (Goes-ref 𝓛 3 0 tt list, (Goes-dropped 𝓛 3 slice yes (λ κs x w. refl), tt))
    (f.Key.name args) (inst_fn args code.function) (code.unfolded 𝓤 𝓛.H 𝓜 𝓡 wired (T, tt))
    (λ κs. (mut_vals, (shr_slice_vals, tt))) (λ κs. (mut_Tells (named 0) κs.0 R, (shr_slice_Tells (named 1) κs.1.0 P, tt)))
    (λ κs qs bounds a ghost are.
    let b = a.0.ref_ptr.0 in let o = a.0.ref_ptr.1 in let h = a.0.now in let more = a.1.0 in
    let y : W.Ghost = ((κs, qs, bounds, a, (mut_vals a.0, (shr_slice_vals more, tt))), tt) in
    let longer : R.Denot = record h { items = h.items ++ more.now } in
    qed 𝓛 (((‵ (flft κs.0 qs.0) ⊛ ‵ (flft κs.1.0 qs.1.0) ⊛ ‵ (flft κs.1.1.0 qs.1.1.0) ⊛ ‵ ftrue)
    ⊛ ‵ ((MutRef (named 0) κs.0 R).own_val a.0 (mut_vals a.0)) ⊛ ‵ ((ShrSlice (named 1) κs.1.0 P).own_val more (shr_slice_vals more)) ⊛ ‵ ftrue) ∷ raw ((c κs a).requires tt) ∷ []) ∵
    split ! $ split ! $ move ! (2 ∷ []) $ split ! $ keep ! (0 ∷ 2 ∷ 3 ∷ []) $
    -- [self; its token; the tokens after it]
    enter ! _ _ _ _ _ $ alloc_all ! (λ l. pass_all ! refl ((tt, tt), (shr_slice_Lawful 𝓛 (named 1) κs.1.0 P).typed more _ are.1.0) $
    fsplit3 ! $ move ! (1 ∷ 2 ∷ 3 ∷ []) $ opens ! tt R b o (λ us. closes ! tt R longer us b o $
    -- [two parts of self; its token; the first part of self; the tokens after it]
    sets ! (of_opd ! (unit_lit !)) refl (tt, tt) $
    returns ! (look_at ! 0 refl) $ free_all ! refl $ move ! (3 ∷ []) $
    suffices ! _ (ends_at 𝓛 E stayed c y vunit tt (longer, (tt, tt)) (tt, (tt, tt))) $ says ! refl $
    group ! 3 $ nothing ! $ nothing ! $ join ! $ move ! (1 ∷ 0 ∷ []) $ join ! $ move ! (1 ∷ 2 ∷ []) $ join ! $ frame ! $ frame ! $
    feq_i ! _ (vunit ∷ []) _ refl $ done !)))
