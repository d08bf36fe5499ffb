-- What a command that prints wrote, and how it would exit.
use Rattle.dmremap.proofs.Prelude.{ℕ, List, Some, Result, Ok, Err, refl, sym, ap, subst, arith, InputPast, OutputPast, written_since, Wrote, NameParts, built, End, Writes, end_of, Exit, Does, HasDone, exit_after, Prints, Refuses, Said, SaidBy, answer_said, line, name_said, AskedBy, STATUS_DONE, Done, WriteFault, Ended, Refused}
use Rattle.dmremap.proofs.AnswerLemmas.{asked_refused, does_more}
use Rattle.dmremap.proofs.ExitLemmas.{read_on_none}
use Rattle.std.specs.Prelude.{◌≡◌}

-- a command that wrote a text, or whose write failed, has printed that text
pub text_done : {E : Type 0} {old new : OutputPast} (result : Result (Unit {0}) E) (text : List ℕ) (exit : Exit) → exit ≡ exit_after result → Wrote old new result text → HasDone (Does (SaidBy (λ said. Prints text ≡ said))) old new exit
text_done {old = old} {new = new} (Ok done) text exit is wrote = rw is (record { did = (Prints text, refl, ap (λ (t : List ℕ). answer_said (Prints t)) (sym wrote.ok)); writes = wrote.moved })
text_done {old = old} {new = new} (Err fault) text exit is wrote = rw is (record { did = (text, Some (end_of (Ended Done)), (Prints text, refl, refl), wrote.left); writes = wrote.moved })

-- a command that printed a text that `Says` allows has done what `Says` allows
pub says_done : (Says : Said → Type 0) (text : List ℕ) {old new : OutputPast} (exit : Exit) → Says (Prints text) → HasDone (Does (SaidBy (λ said. Prints text ≡ said))) old new exit → HasDone (Does (SaidBy Says)) old new exit
says_done Says text {old} {new} exit says done = record {
  did = does_more {Is = SaidBy (λ said. Prints text ≡ said)} {More = SaidBy Says} (λ answer is. (is.0, subst (λ (said : Said). Says said) is.1 says, is.2)) (written_since old new) exit done.did;
  writes = done.writes;
}

-- `name` printed the name that was built
pub name_done : (parts : NameParts) (name : List ℕ) {old new : OutputPast} (exit : Exit) → Ok name ≡ built parts → HasDone (Does (SaidBy (λ said. Prints (line name) ≡ said))) old new exit
    → HasDone (Does (SaidBy (λ said. name_said (built parts) ≡ said))) old new exit
name_done parts name exit is printed = says_done (λ said. name_said (built parts) ≡ said) (line name) exit (ap name_said (sym is)) printed

-- a command that prints exits with STATUS_DONE
said_well : (said : Said) (text : List ℕ) (end : End) → answer_said said ≡ Writes text (Some end) → end.status ≡ STATUS_DONE
said_well (Prints printed) text end is =
    let same : end_of (Ended Done) ≡ end = cc in
    ap (λ (e : End). e.status) (sym same)
said_well (Refuses refusal) text end is = absurd cc

-- a command that prints reads no requests
pub asked_none : (Says : Said → Type 0) (text : List ℕ) (exit : Exit) (past : InputPast) → Does (SaidBy Says) text exit → AskedBy past past exit
asked_none Says text (Ended Done) past did = record { read_on = read_on_none past; met = omega arith; unasked = λ refused. refl }
asked_none Says text (Ended WriteFault) past did = record { read_on = read_on_none past; met = tt; unasked = λ refused. refl }
asked_none Says text (Refused refusal) past did = asked_refused past refusal
asked_none Says text exit past did = let well = said_well did.0 text (end_of exit) did.2 in absurd (omega (arith, well))
