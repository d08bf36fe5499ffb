-- Laws of a player of earlier requests as a handler: playing some requests and then later ones has the same result as playing all of them.
use Rattle.dm_stream.specs.Base.{ℕ, List, [], refl, ap, ◌∙◌, append_assoc, Description, State}
use Rattle.dm_stream.specs.runs.Earlier.{HasMoved, HasStoppedAt}
use Rattle.dm_stream.specs.runs.Outcome.{outcome_from}
use Rattle.dm_stream.specs.requests.Requests.{NumberedRequest}
use Rattle.std.specs.Prelude.{◌++◌}

pub moved_none : (stack : Description) (state : State) → HasMoved stack state state []
moved_none stack state = record { told = λ rest e. record { state = refl; ending = refl } }

pub moved_more : (stack : Description) (a b c : State) (us vs : List NumberedRequest) → HasMoved stack a b us → HasMoved stack b c vs → HasMoved stack a c (us ++ vs)
moved_more stack a b c us vs first second = record {
  told = λ rest e.
      let same = append_assoc us vs rest in
      let one = first.told (vs ++ rest) e in
      let two = second.told rest e in
      record {
        state = ap (λ (requests : List NumberedRequest). (outcome_from stack a requests e).state) same ∙ one.state ∙ two.state;
        ending = ap (λ (requests : List NumberedRequest). (outcome_from stack a requests e).ending) same ∙ one.ending ∙ two.ending;
      };
}

pub stopped_more : (stack : Description) (a b : State) (us vs : List NumberedRequest) (number : ℕ) → HasMoved stack a b us → HasStoppedAt stack b vs number → HasStoppedAt stack a (us ++ vs) number
stopped_more stack a b us vs number first second = record {
  told = λ rest e.
      ap (λ (requests : List NumberedRequest). (outcome_from stack a requests e).ending) (append_assoc us vs rest) ∙ (first.told (vs ++ rest) e).ending ∙ second.told rest e;
}
