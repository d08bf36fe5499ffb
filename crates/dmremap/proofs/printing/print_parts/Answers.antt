use Rattle.dmremap.proofs.Prelude.{None, Option, Some, refl, rules, subst, sym, IfNone, IfSome, string_bytes, Builds, IsSpaced, NameParts, Refuses, SaidBy, SplitSays, line}
use Rattle.dmremap.specs.declared.exit.Refusal.TheVariants.{Split}
use Rattle.dmremap.proofs.AnswerLemmas.{refused_done}
use Rattle.dmremap.proofs.PrintLemmas.{says_done}
use Rattle.dmremap.proofs.printing.print_parts.Goals as goal
use Rattle.std.specs.Prelude.{◌≡◌}

-- what an option's contract says of its value holds of this value; below, likewise without a value
of_some : {T : Type 0} (found : Option T) (value : T) (Holds : T → Type 0) → found ≡ Some value → IfSome found Holds → Holds value
of_some found value Holds is holds = rw is at holds

of_none : {T Holds : Type 0} (found : Option T) → found ≡ None → IfNone found Holds → Holds
of_none found is holds = rw is at holds

pub returns-in-Ok-Some : goal.returns-in-Ok-Some
returns-in-Ok-Some g c =
    let text = c.as_bytes.result.now in
    let same : text ≡ string_bytes c.in-Ok-Some.parts = search rules in
    let is = of_some c.in-Ok-Some.field-0 c.in-Ok-Some.parts (λ parts. IsSpaced c.args.name.now (string_bytes parts)) c.in-Ok-Some.field-0-is c.in-Ok-Some.ensures.some in
    says_done (SplitSays c.args.name.now) (line text) c.print_line.result (text, subst (IsSpaced c.args.name.now) (sym same) is, refl) c.print_line.ensures

pub returns-in-Ok-None : goal.returns-in-Ok-None
returns-in-Ok-None g c =
    let none : (p : NameParts) → Builds p c.args.name.now → ⊥ = of_none c.in-Ok-None.field-0 c.in-Ok-None.field-0-is c.in-Ok-None.ensures.none in
    refused_done (SaidBy (SplitSays c.args.name.now)) (g.W.Output.past c.args.output.now) Split (λ other. (Refuses Split, (none, refl), refl))
