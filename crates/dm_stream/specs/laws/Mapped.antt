-- Laws of a request mapper as a handler: answering some requests and then later ones has the same result as answering all of them.
use Rattle.dm_stream.specs.Prelude.{ℕ, List, [], Option, Some, sym, ap, ◌∙◌, append_assoc, since, since_more, Description, MapperView, State, since-same, NotMapped, Ending, BadRequest, Unknown, HasAnswered, HasStopped, Outcome, after_text, outcome_from, NumberedRequest}
use Rattle.dm_stream.specs.declared.runs.ending.NotMapped.TheVariants as causes
use Rattle.std.specs.Prelude.{◌≡◌, ◌∷◌, ◌++◌}

pub answered_none : (stack : Description) (state : State) (w : List ℕ) → HasAnswered stack state state [] w w
answered_none stack state w = record {
  told = λ rest e. ap (λ (text : List ℕ). after_text text (outcome_from stack state rest e)) (sym (since-same w));
}

-- putting one text and then another before an outcome's output is the same as putting both there at once
texts_more : (w0 w1 w2 : List ℕ) (o : Outcome) → w1 ≡ w0 ++ since w0 w1 → w2 ≡ w1 ++ since w1 w2 → after_text (since w0 w1) (after_text (since w1 w2) o) ≡ after_text (since w0 w2) o
texts_more w0 w1 w2 o e f =
    ap (λ (text : List ℕ). record { output = text; state = o.state; ending = o.ending }) (sym (append_assoc (since w0 w1) (since w1 w2) o.output))
    ∙ ap (λ (text : List ℕ). after_text text o) (sym (since_more w0 w1 w2 e f))

-- the outcome of all requests is the text written for those already answered, followed by the outcome of the others
first_answered : (stack : Description) (a b : State) (us vs rest : List NumberedRequest) (e : Option Ending) (w0 w1 : List ℕ) → HasAnswered stack a b us w0 w1
    → outcome_from stack a ((us ++ vs) ++ rest) e ≡ after_text (since w0 w1) (outcome_from stack b (vs ++ rest) e)
first_answered stack a b us vs rest e w0 w1 first =
    ap (λ (requests : List NumberedRequest). outcome_from stack a requests e) (append_assoc us vs rest) ∙ first.told (vs ++ rest) e

pub answered_more : (stack : Description) (a b c : State) (us vs : List NumberedRequest) (w0 w1 w2 : List ℕ) → w1 ≡ w0 ++ since w0 w1 → w2 ≡ w1 ++ since w1 w2
    → HasAnswered stack a b us w0 w1 → HasAnswered stack b c vs w1 w2 → HasAnswered stack a c (us ++ vs) w0 w2
answered_more stack a b c us vs w0 w1 w2 more again first second = record {
  told = λ rest e.
      first_answered stack a b us vs rest e w0 w1 first ∙ ap (after_text (since w0 w1)) (second.told rest e)
      ∙ texts_more w0 w1 w2 (outcome_from stack c rest e) more again;
}

pub stopped_more : (stack : Description) (fault : NotMapped) (a b : State) (c : MapperView) (us vs : List NumberedRequest) (w0 w1 w2 : List ℕ) → w1 ≡ w0 ++ since w0 w1 → w2 ≡ w1 ++ since w1 w2
    → HasAnswered stack a b us w0 w1 → HasStopped stack fault b c vs w1 w2 → HasStopped stack fault a c (us ++ vs) w0 w2
stopped_more stack (causes.Unknown number) a b c us vs w0 w1 w2 more again first second = (
  second.0,
  λ rest e.
      first_answered stack a b us vs rest e w0 w1 first ∙ ap (after_text (since w0 w1)) (second.1 rest e)
      ∙ ap (λ (text : List ℕ). record { output = text; state = c.state; ending = Some (BadRequest number Unknown) }) (sym (since_more w0 w1 w2 more again)),
)
stopped_more stack causes.Output a b c us vs w0 w1 w2 more again first second = λ rest e.
    let cut = second rest e in (
      cut.0,
      cut.1,
      ap (λ (o : Outcome). o.output) (first_answered stack a b us vs rest e w0 w1 first) ∙ ap (λ (text : List ℕ). since w0 w1 ++ text) cut.2
          ∙ sym (append_assoc (since w0 w1) (since w1 w2) (cut.0 ∷ cut.1))
          ∙ ap (λ (text : List ℕ). text ++ cut.0 ∷ cut.1) (sym (since_more w0 w1 w2 more again)),
    )
