-- Laws of a player of requests as a handler: playing some requests and then later ones does the same as playing all of them.
use Rattle.dmremap.specs.Prelude.{ℕ, List, [], map, sym, ap, subst, ◌∙◌, append_assoc, append-nil, map-append, since, since_more, Description, since-same, State, NumberedRequest, Asked, Exit, WriteFault, AreAnswered, HasPlayed, HasStopped, IsCutReplay, StopsAt, asked_of}
use Rattle.dmremap.specs.declared.exit.Exit.TheVariants as exits
use Rattle.std.specs.Prelude.{◌≡◌, ◌∷◌, ◌++◌}

pub played_none : (stack : Description) (start : State) (asked : List Asked) (w : List ℕ) → HasPlayed stack start asked asked [] w w
played_none stack start asked w = record { asked = sym (append-nil asked); told = sym (since-same w) }

-- the text for some requests, followed by the text for later requests, is the text for all of them
both : (stack : Description) (start : State) (old : List Asked) (us vs : List NumberedRequest) (s t : List ℕ) → AreAnswered stack start old us s → AreAnswered stack start (old ++ map (asked_of stack) us) vs t → AreAnswered stack start old (us ++ vs) (s ++ t)
both stack start old [] vs s t first second =
    subst (λ (text : List ℕ). AreAnswered stack start old vs (text ++ t)) first (subst (λ (all : List Asked). AreAnswered stack start all vs t) (append-nil old) second)
both stack start old (u ∷ us) vs s t first second =
    let more = old ++ asked_of stack u ∷ [] in (
      first.0,
      first.1 ++ t,
      first.2,
      both stack start more us vs first.1 t first.3 (subst (λ (all : List Asked). AreAnswered stack start all vs t) (sym (append_assoc old (asked_of stack u ∷ []) (map (asked_of stack) us))) second),
      sym (append_assoc first.0 first.1 t) ∙ ap (λ (text : List ℕ). text ++ t) first.4,
    )

-- the text that a player wrote for some requests, followed by the text for later requests, is the text for all of them
told_more : (stack : Description) (start : State) (a b : List Asked) (us vs : List NumberedRequest) (w0 w1 : List ℕ) (text : List ℕ) → HasPlayed stack start a b us w0 w1 → AreAnswered stack start b vs text → AreAnswered stack start a (us ++ vs) (since w0 w1 ++ text)
told_more stack start a b us vs w0 w1 text first second =
    both stack start a us vs (since w0 w1) text first.told (subst (λ (all : List Asked). AreAnswered stack start all vs text) first.asked second)

pub played_more : (stack : Description) (start : State) (a b c : List Asked) (us vs : List NumberedRequest) (w0 w1 w2 : List ℕ) → w1 ≡ w0 ++ since w0 w1 → w2 ≡ w1 ++ since w1 w2
    → HasPlayed stack start a b us w0 w1 → HasPlayed stack start b c vs w1 w2 → HasPlayed stack start a c (us ++ vs) w0 w2
played_more stack start a b c us vs w0 w1 w2 more again first second =
    let here = map (asked_of stack) us in
    let there = map (asked_of stack) vs in
    record {
      asked = second.asked ∙ ap (λ (all : List Asked). all ++ there) first.asked ∙ append_assoc a here there ∙ ap (λ (all : List Asked). a ++ all) (sym (map-append (asked_of stack) us vs));
      told = subst (AreAnswered stack start a (us ++ vs)) (sym (since_more w0 w1 w2 more again)) (told_more stack start a b us vs w0 w1 (since w1 w2) first second.told);
    }

-- a player that first plays some requests, and then stops at a later one, stops at that one of all requests
stops_more : (IsCause : NumberedRequest → Type 0) (stack : Description) (start : State) (a b : List Asked) (us vs : List NumberedRequest) (w0 w1 w2 : List ℕ) → w1 ≡ w0 ++ since w0 w1 → w2 ≡ w1 ++ since w1 w2
    → HasPlayed stack start a b us w0 w1 → StopsAt IsCause stack start b vs (since w1 w2) → StopsAt IsCause stack start a (us ++ vs) (since w0 w2)
stops_more IsCause stack start a b us vs w0 w1 w2 more again first second = record {
  first = us ++ second.first;
  last = second.last;
  later = second.later;
  split = ap (λ (all : List NumberedRequest). us ++ all) second.split ∙ sym (append_assoc us second.first (second.last ∷ second.later));
  told = subst (AreAnswered stack start a (us ++ second.first)) (sym (since_more w0 w1 w2 more again)) (told_more stack start a b us second.first w0 w1 (since w1 w2) first second.told);
  cause = second.cause;
}

cut_more : (stack : Description) (start : State) (a b : List Asked) (us vs : List NumberedRequest) (w0 w1 w2 : List ℕ) → w1 ≡ w0 ++ since w0 w1 → w2 ≡ w1 ++ since w1 w2
    → HasPlayed stack start a b us w0 w1 → IsCutReplay stack start b vs (since w1 w2) → IsCutReplay stack start a (us ++ vs) (since w0 w2)
cut_more stack start a b us vs w0 w1 w2 more again first second = record {
  first = us ++ second.first;
  later = second.later;
  split = ap (λ (all : List NumberedRequest). us ++ all) second.split ∙ sym (append_assoc us second.first second.later);
  whole = since w0 w1 ++ second.whole;
  told = told_more stack start a b us second.first w0 w1 second.whole first second.told;
  cut = (
    second.cut.0,
    second.cut.1,
    ap (λ (text : List ℕ). since w0 w1 ++ text) second.cut.2 ∙ sym (append_assoc (since w0 w1) (since w1 w2) (second.cut.0 ∷ second.cut.1))
        ∙ ap (λ (text : List ℕ). text ++ second.cut.0 ∷ second.cut.1) (sym (since_more w0 w1 w2 more again)),
  );
}

pub stopped_more : (stack : Description) (start : State) (exit : Exit) (a b : List Asked) (us vs : List NumberedRequest) (w0 w1 w2 : List ℕ) → w1 ≡ w0 ++ since w0 w1 → w2 ≡ w1 ++ since w1 w2
    → HasPlayed stack start a b us w0 w1 → HasStopped stack start exit b vs (since w1 w2) → HasStopped stack start exit a (us ++ vs) (since w0 w2)
stopped_more stack start (exits.NotTop number) a b us vs w0 w1 w2 more again first second = stops_more _ stack start a b us vs w0 w1 w2 more again first second
stopped_more stack start exits.Memory a b us vs w0 w1 w2 more again first second = stops_more _ stack start a b us vs w0 w1 w2 more again first second
stopped_more stack start (exits.Ended WriteFault) a b us vs w0 w1 w2 more again first second = cut_more stack start a b us vs w0 w1 w2 more again first second
stopped_more stack start exit a b us vs w0 w1 w2 more again first second = absurd second
