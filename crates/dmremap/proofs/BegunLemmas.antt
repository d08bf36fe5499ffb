-- How a run begins: it is refused before any earlier requests, or plays them.
use Rattle.dmremap.proofs.Prelude.{arith, Option, Some, None, Result, Ok, Err, sym, subst, IfErr, IsErrAnd, err_from_is_err_and, Delivery, InputPast, Description, State, EarlierFault, Ending, refused_ending, Refusal, IsOutOfMemory, IsBegunAt, ArePlayedIf, ArePlayedOver, Begins, Start, earlier_from, Done}
use Rattle.dm_stream.specs.declared.runs.earlier.EarlierFault.TheVariants as earlier
use Rattle.dmremap.specs.declared.exit.Refusal.TheVariants as refusals
use Rattle.std.specs.Prelude.{◌≡◌}

-- what holds of the error that `?` passes on holds of the result that had this error
pub handed_on : {T : Type 0} (P : Result T Refusal → Type 0) (result : Result T Refusal) (why : Refusal) → IsErrAnd result (λ found. found ≡ why) → P (Err why) → P result
handed_on P result why is holds = let p = err_from_is_err_and result is in rw (p.1, p.2) holds

-- what follows from running out of memory holds if memory ran out
pub if_out : {T Q : Type 0} (begun : Result T Refusal) → IfErr begun (λ why. IsOutOfMemory why → Q) → IsErrAnd begun IsOutOfMemory → Q
if_out (Ok prepared) told out = absurd out
if_out (Err why) told out = told out

-- running out of memory fits any start of a run
pub out_begun : (stack : Description) (before : Option Delivery) (start : Start) (why : Refusal) → IsOutOfMemory why → IsBegunAt stack before start (Err why)
out_begun stack before start (refusals.Earlier fault) memory = absurd (omega (arith, memory))
out_begun stack before start why memory = λ other. absurd (other memory)

-- refused earlier requests don't end as done; below, a refusal without earlier requests is one with them, too
pub never_done : (fault : EarlierFault) → Some Done ≡ Some (refused_ending fault) → ⊥
never_done (earlier.BadRequest number word) is = cc
never_done earlier.Read is = cc

pub begun_before : (stack : Description) (before : Option Delivery) (start : Start) (why : Refusal) → IsBegunAt stack None start (Err why) → IsBegunAt stack before start (Err why)
begun_before stack before start (refusals.Earlier fault) begun = absurd (never_done fault begun.2)
begun_before stack before start why begun = begun

-- earlier requests end alike in equal states; below, they leave the same state
pub begun_ending : (stack : Description) (before : Option Delivery) (state reached : State) (ending : Ending) → reached ≡ state → (earlier_from reached stack before).ending ≡ Some ending → (earlier_from state stack before).ending ≡ Some ending
begun_ending stack before state reached ending same ends = rw same at ends

pub begun_state : (stack : Description) (before : Option Delivery) (state reached left : State) → reached ≡ state → left ≡ (earlier_from reached stack before).state → left ≡ (earlier_from state stack before).state
begun_state stack before state reached left same leaves = rw same at leaves

pub begun_played : {X : Type 0} → (past : X → InputPast) (stack : Description) (start : Start) (state reached : State) (old new : Option X) → start ≡ Begins state → reached ≡ state → ArePlayedIf past reached stack old new → ArePlayedOver past start stack old new
begun_played past stack start state reached old new begins same played =
    subst (λ (s : Start). ArePlayedOver past s stack old new) (sym begins) (rw same at played)
