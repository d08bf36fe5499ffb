-- Makes a value without any field in memory, and picks the list that its contract names.
use Rattle.dm_table.proofs.Prelude.{List, [], refl, proved, the_row}
use Rattle.std.specs.Prelude.{◌∷◌}
use mir.Syntax.{Args, a_type}
use mir.MapTy.{inst_fn}
use mir.Val.{Val, vstruct, vcons, vnil}
use base.Fml.{ftrue, flft}
use types.Kit.{‵, raw, ◌⊛◌, ◌$◌, ◌∵◌, !, qed, keep, move, split, fjoin, fpack, feq_i, suffices, done}
use types.Part.{agg}
use types.Run.{enter, and_then, no_more, returns}
use types.ByLocal.{alloc_all, pass_all, free_all, look_at, get, sets}
use denote.Param.{param, layouts}
use denote.RattleType.{RattleType, Valss}
use denote.Laws.{Is}
use denote.Steps.{nothing, owned}
use denote.Struct.Laws.{makes}
use denote.Struct.Struct.{Shape, within}
use denote.Triple.Walked.{walk_of, says, ends_at}
use Rattle.std.specs.contracts.marker.PhantomData as mark
use Rattle.dm_table.specs.contracts.io.ghost_list.GhostList.new as f
use Rattle.dm_table.proofs.io.ghost_list.GhostList.new.Statement.{statement}
use Rattle.dm_table.proofs.io.ghost_list.GhostList.new.Code as code

abbrev none : Val
none = vstruct vnil

abbrev one : Val → Val
one v = vstruct (vcons v vnil)

abbrev shape : List RattleType → Shape
shape fields = record { name = []; args = []; types = []; fields = fields }

pub new_spec : {M : Type 1} → statement M
new_spec 𝓤 𝓛 𝓜 𝓡 wired T L =
    let c = f.clauses T 𝓛 𝓜.mem 𝓡.returns in let E = f.ended T in let W = walk_of 𝓛 E tt c in
    let P = param 0 T in let args : Args = layouts (a_type ∷ []) (T, tt) in
    proved 𝓛 E tt c 𝓜 𝓡 tt
    (f.Key.name args) (inst_fn args code.function) (code.unfolded 𝓤 𝓛.H 𝓜 𝓡 wired (T, tt))
    (λ κs. tt) (λ κs. tt) (λ κs qs bounds a ghost are.
    let y : W.Ghost = ((κs, qs, bounds, a, tt), tt) in
    let empty : (the_row P).Denot = record { of = record {}; items = [] } in
    qed 𝓛 (((‵ (flft κs.0 qs.0) ⊛ ‵ ftrue) ⊛ ‵ ftrue) ∷ raw ((c κs a).requires tt) ∷ []) ∵ split ! $ keep ! (0 ∷ []) $
    enter ! _ _ _ _ _ $ alloc_all ! (λ l. pass_all ! refl tt $
    sets ! (agg ! (no_more !)) refl (tt, tt) $ sets ! (agg ! (and_then ! (get ! refl) (no_more !))) refl (tt, (tt, tt)) $
    returns ! (look_at ! 0 refl) $ free_all ! refl $
    suffices ! _ (ends_at 𝓛 E tt c y (one none) empty tt tt) $ says ! refl $
    -- [the token]
    nothing ! $ owned ! (mark.the_row P) (Is (mark.the_row P)) (makes (mark.the_type P) tt 𝓛) (record {}) (none ∷ []) (tt, (refl, tt)) $
    nothing ! $ move ! (1 ∷ 0 ∷ []) $ fjoin ! $ feq_i ! (List Val) (one none ∷ []) _ refl $ fjoin ! $
    fpack ! (Valss (mark.the_row P ∷ [])) (within (shape (mark.the_row P ∷ [])) (record {}, tt) (one none ∷ [])) (none ∷ [], tt) $ fjoin ! $
    nothing ! $ move ! (2 ∷ 0 ∷ 1 ∷ []) $ done !))
