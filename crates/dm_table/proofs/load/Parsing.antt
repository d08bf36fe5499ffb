-- A parser that returns a text's values if its checks find no fault, else the first fault, meets the contract IsParsed.
use Rattle.dm_table.proofs.Prelude.{List, None, Result, Ok, Err, refl, sym, ap, subst, ◌∙◌, Part, LoadFault, Answers, first_fault, unless, IsParsed, Vec}
use Rattle.dm_table.proofs.load.FaultLemmas.{unless-ok, unless-err}
use Rattle.std.specs.Prelude.{◌≡◌}

pub parsed : {X : Type 0} (part : Part) (describes : List X → Type 0) (checks : List (List LoadFault)) (values : List X) (answer : Result (Vec X) LoadFault)
    → (first_fault checks ≡ None → describes values) → ((other : List X) → describes other → (first_fault checks ≡ None) × (values ≡ other))
    → Answers part (λ v. v.items) answer (unless (first_fault checks) values) → IsParsed part describes checks answer
parsed {X = X} part describes checks values (Ok v) described again h =
    let read = unless-ok (first_fault checks) values v.items h in
    record {
      accepted = subst describes read.1 (described read.0);
      only = λ other d. ap Ok (sym (again other d).1 ∙ read.1);
      unique = λ a b d e. sym (again a d).1 ∙ (again b e).1;
      sound = read.0;
      fault = tt;
      memory = tt;
    }
parsed {X = X} part describes checks values (Err f) described again h =
    record {
      accepted = tt;
      only = λ other d. (
        h.0,
        λ text. let read = again other d in let taken : unless (first_fault checks) values ≡ Ok other = rw (read.0, read.1) refl in sym taken ∙ h.1 text,
      );
      unique = λ a b d e. sym (again a d).1 ∙ (again b e).1;
      sound = tt;
      fault = λ text. unless-err (first_fault checks) values f (h.1 text);
      memory = h.0;
    }
