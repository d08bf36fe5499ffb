-- Laws of playing units: in two parts, and on equal values. They are part of the specs, because a sink's `impl` cites them.
use Rattle.dm_replay.specs.Base.{ℕ, List, [], append_assoc, refl, sym, ap, ◌∙◌, append-nil, sector_after, sector_past, BlockUnit, ReadOf, past-append, unit_cong, Value, played as contents_played}
use Rattle.dm_map.specs.laws.Contents.{played_cong as values_cong}
use Rattle.dm_replay.specs.declared.playing.Playing.{Playing}
use Rattle.dm_replay.specs.declared.value.Value.TheVariants as value
use Rattle.dm_replay.specs.Stored.{values_of}
use Rattle.dm_replay.specs.Player.{HasPlayed}
use Rattle.dm_replay.specs.Runs.{flat}
use Rattle.dm_replay.specs.Values.{Answer, Gives, Values, played_unit, unit_answers, played, played_answers}
use Rattle.std.specs.Prelude.{◌≡◌, ◌∷◌, ◌++◌}

-- each sector of each disk has the same value in `values` and in `others`
abbrev pub AreSame : Values → Values → Type 0
AreSame values others = (disk sector : ℕ) → values disk sector ≡ others disk sector

pub played_cong : (request sector : ℕ) (units : List BlockUnit) (values others : Values) → AreSame values others → AreSame (played request sector units values) (played request sector units others)
played_cong request = values_cong value.Zero (value.Wrote request)

answer_cong : (request sector : ℕ) (unit : BlockUnit) (values others : Values) → AreSame values others → unit_answers request sector unit values ≡ unit_answers request sector unit others
answer_cong request sector (ReadOf disk at) values others same = ap (λ (x : Value). Gives x ∷ []) (same disk at)
answer_cong request sector unit values others same = refl

pub answers_cong : (request sector : ℕ) (units : List BlockUnit) (values others : Values) → AreSame values others → played_answers request sector units values ≡ played_answers request sector units others
unfolding played_answers
answers_cong request sector [] values others same = refl
answers_cong request sector (unit ∷ units) values others same =
    ap (λ (first : List Answer). first ++ played_answers request (sector_after unit sector) units (played_unit request sector unit values)) (answer_cong request sector unit values others same)
    ∙ ap (λ (rest : List Answer). unit_answers request sector unit others ++ rest)
    (answers_cong request (sector_after unit sector) units (played_unit request sector unit values) (played_unit request sector unit others) (unit_cong value.Zero (value.Wrote request sector) unit values others same))

pub played-append : (request sector : ℕ) (units more : List BlockUnit) (values : Values) → played request sector (units ++ more) values ≡ played request (sector_past units sector) more (played request sector units values)
unfolding contents_played sector_past
played-append request sector [] more values = refl
played-append request sector (unit ∷ units) more values = played-append request (sector_after unit sector) units more (played_unit request sector unit values)

pub answers-append : (request sector : ℕ) (units more : List BlockUnit) (values : Values)
    → played_answers request sector (units ++ more) values ≡ played_answers request sector units values ++ played_answers request (sector_past units sector) more (played request sector units values)
unfolding played_answers contents_played sector_past
answers-append request sector [] more values = refl
answers-append request sector (unit ∷ units) more values =
    let rest = played_unit request sector unit values in
    ap (λ (later : List Answer). unit_answers request sector unit values ++ later) (answers-append request (sector_after unit sector) units more rest)
    ∙ sym (append_assoc (unit_answers request sector unit values) (played_answers request (sector_after unit sector) units rest) (played_answers request (sector_past units (sector_after unit sector)) more (played request (sector_after unit sector) units rest)))

-- playing no units changes nothing

pub played_nothing : (a : Playing) → HasPlayed a [] a
unfolding contents_played played_answers sector_past
played_nothing a = record { values_are = λ disk sector. refl; answers_are = sym (append-nil (flat a.runs)); next_is = refl; number_is = refl }

pub played_both : (a b c : Playing) (units more : List BlockUnit) → HasPlayed a units b → HasPlayed b more c → HasPlayed a (units ++ more) c
played_both a b c units more first second =
    let held = values_of a.values.disks.items in
    let left = values_of b.values.disks.items in
    let between = played a.number a.next units held in
    let past = sector_past units a.next in
    record {
      values_are = λ disk sector.
          second.values_are disk sector
          ∙ ap (λ (number : ℕ). played number b.next more left disk sector) first.number_is
          ∙ ap (λ (next : ℕ). played a.number next more left disk sector) first.next_is
          ∙ played_cong a.number past more left between first.values_are disk sector
          ∙ ap (λ (values : Values). values disk sector) (sym (played-append a.number a.next units more held));
      answers_are = second.answers_are
          ∙ ap (λ (answers : List Answer). answers ++ played_answers b.number b.next more left) first.answers_are
          ∙ append_assoc (flat a.runs) (played_answers a.number a.next units held) (played_answers b.number b.next more left)
          ∙ ap (λ (answers : List Answer). flat a.runs ++ (played_answers a.number a.next units held ++ answers))
          (ap (λ (number : ℕ). played_answers number b.next more left) first.number_is
          ∙ ap (λ (next : ℕ). played_answers a.number next more left) first.next_is
          ∙ answers_cong a.number past more left between first.values_are)
          ∙ ap (λ (answers : List Answer). flat a.runs ++ answers) (sym (answers-append a.number a.next units more held));
      next_is = second.next_is ∙ ap (λ (next : ℕ). sector_past more next) first.next_is ∙ sym (past-append units more a.next);
      number_is = second.number_is ∙ first.number_is;
    }
