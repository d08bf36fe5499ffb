-- One turn of the loop over lines: a request is handed on, or the requests end.
use Rattle.dm_stream.proofs.Prelude.{cond, true, false, Bool, ltb, ℕ, suc, List, [], length, drop, sym, ap, ◌∙◌, refl, append_assoc, add-one, arith, onto_first, ltb-false, append-nil, Clean, InputPast, Stand, delivery, since, stand_of, Answer, ALine, ALong, line_parts, next_answer, rest_answer, HasGrown, MetNothing, since-same, HasMet, IsAmong, NumberedRequest, Requests, after_requests, line_requests, next_requests, requests_from, requests_of, since_more, MOST_LINE_BYTES, Ending, BadRequest, RequestWord, Unended}
use Rattle.dm_stream.specs.requests.Requests.{ends as only_ends}
use Rattle.dm_stream.proofs.requests.LineParts.{some_part, next_line}
use Rattle.std.specs.Prelude.{◌≡◌, ◌≤◌, ◌==◌, ◌+◌, ◌∷◌, ◌++◌}

-- The first part between newlines

-- a first part that a newline ends stays the same, whatever bytes follow
pub part_stays : (xs line second : List ℕ) (parts : List (List ℕ)) (more : List ℕ) → line_parts xs ≡ line ∷ second ∷ parts → line_parts (xs ++ more) ≡ line ∷ line_parts (drop (suc (length line)) xs ++ more)
part_stays [] line second parts more e = cc
part_stays (x ∷ xs) line second parts more e =
    let s = some_part xs in
    let P : Bool → Type 0 = λ b. cond b ([] ∷ line_parts xs) (onto_first x (line_parts xs)) ≡ line ∷ second ∷ parts → cond b ([] ∷ line_parts (xs ++ more)) (onto_first x (line_parts (xs ++ more))) ≡ line ∷ line_parts (drop (length line) xs ++ more) in
    let at_newline : P true = λ f. let nil : [] ≡ line = cc in cc in
    let at_other : P false = λ f.
    let opened : (x ∷ s.0) ∷ s.1 ≡ line ∷ second ∷ parts = sym (ap (onto_first x) s.2) ∙ f in
    let front : x ∷ s.0 ≡ line = cc in
    let rest : s.1 ≡ second ∷ parts = cc in
    let same : line_parts xs ≡ s.0 ∷ second ∷ parts = cc in
    cc (part_stays xs s.0 second parts more same) in
    (elim (x == 10) as P [ true ↦ at_newline | false ↦ at_other ]) e

-- the line that comes next is the first of at least two parts, and not too long
pub record IsNextLine (parts : List (List ℕ)) (line : List ℕ) : Type 0 where
  pub short : length line ≤ MOST_LINE_BYTES
  pub second : List ℕ
  pub others : List (List ℕ)
  pub is : parts ≡ line ∷ second ∷ others

by_test : (b : Bool) (found line : List ℕ) → cond b ALong (ALine found) ≡ ALine line → (b ≡ false) × (found ≡ line)
by_test true found line e = cc
by_test false found line e = (refl, cc)

by_rest : (b : Bool) (stand : Stand) (rest line : List ℕ) → cond b ALong (rest_answer stand rest) ≡ ALine line → ⊥
by_rest false Clean [] line e = cc
by_rest b stand rest line e = cc

pub next_is : (stand : Stand) (parts : List (List ℕ)) (line : List ℕ) → next_answer stand parts ≡ ALine line → IsNextLine parts line
next_is stand [] line e = absurd cc
next_is stand (rest ∷ []) line e = absurd (by_rest (ltb MOST_LINE_BYTES (length rest)) stand rest line e)
next_is stand (found ∷ second ∷ others) line e =
    let h = by_test (ltb MOST_LINE_BYTES (length found)) found line e in
    record {
      short = rw h.1 at (ltb-false MOST_LINE_BYTES (length found) h.0);
      second = second;
      others = others;
      is = cc;
    }

-- What was handed on so far

-- whatever bytes follow, the requests of all bytes are those that were handed on, and then those of the held bytes from line `n` on
abbrev pub Told : (all held : List ℕ) → List NumberedRequest → ℕ → Type 0
Told all held done n =
    (stand : Stand) (more : List ℕ) → requests_from stand 1 (line_parts (all ++ more)) ≡ after_requests done (requests_from stand n (line_parts (held ++ more)))

-- the requests answered since the first states, then those of the held bytes, are the requests of all bytes, whatever follows; no end or fault was met
pub record HasHandled {H S : Type 0} (AreAnswered : H → S → List NumberedRequest → H → S → Type 0) (first now : InputPast) (h0 h1 : H) (s0 s1 : S) (held : List ℕ) (n : ℕ) : Type 0 where
  pub done : List NumberedRequest
  pub answered : AreAnswered h0 s0 done h1 s1
  pub reads : HasGrown first.handed now.handed
  pub faults : now.faults ≡ first.faults
  pub ends : now.ends ≡ first.ends
  pub told : Told (since first.handed now.handed) held done n

-- before the first byte, nothing was handed on
pub told_none : (handed held : List ℕ) → held ≡ [] → Told (since handed handed) held [] 1
told_none handed held none = λ stand more. cc (since-same handed)

-- the requests from a held line on
pub line_first : (stand : Stand) (held line more : List ℕ) (n : ℕ) → IsNextLine (line_parts held) line → requests_from stand n (line_parts (held ++ more)) ≡ line_requests n line (requests_from stand (n + 1) (line_parts (drop (length line + 1) held ++ more)))
line_first stand held line more n h =
    let rest = drop (suc (length line)) held ++ more in
    cc (part_stays held line h.second h.others more h.is, next_line stand line rest h.short, add-one (length line))

-- if the next line is a request, it is handed on after those before it
told_more : (all held new line : List ℕ) (done more : List NumberedRequest) (n : ℕ) (stand : Stand) → Told all held done n → next_answer stand (line_parts (held ++ new)) ≡ ALine line → ((rest : Requests) → line_requests n line rest ≡ after_requests more rest)
    → Told (all ++ new) (drop (length line + 1) (held ++ new)) (done ++ more) (n + 1)
told_more all held new line done more n stand told next is = λ at_end later.
    let rest = requests_from at_end (n + 1) (line_parts (drop (length line + 1) (held ++ new) ++ later)) in
    cc (append_assoc all new later, told at_end (new ++ later), append_assoc held new later, line_first at_end (held ++ new) line later n (next_is stand (line_parts (held ++ new)) line next), is rest, append_assoc done more rest.all)

-- if the next line is a request, it is handed on, after the input delivered more bytes
pub told_turn : (h0 h1 h2 held after line : List ℕ) (done more : List NumberedRequest) (n : ℕ) (stand : Stand) → Told (since h0 h1) held done n
    → h1 ≡ h0 ++ since h0 h1 → h2 ≡ h1 ++ since h1 h2
    → ALine line ≡ next_answer stand (line_parts (held ++ since h1 h2)) → ((rest : Requests) → line_requests n line rest ≡ after_requests more rest)
    → after ≡ drop (length line + 1) (held ++ since h1 h2) → Told (since h0 h2) after (done ++ more) (n + 1)
told_turn h0 h1 h2 held after line done more n stand told e f next is left =
    rw (since_more h0 h1 h2 e f, left) (told_more (since h0 h1) held (since h1 h2) line done more n stand told (sym next) is)

-- What comes next in an input

-- what comes next decides the requests of the held bytes
by_answer : (stand : Stand) (held : List ℕ) (n : ℕ) → (rest : Requests) × (requests_from stand n (line_parts held) ≡ next_requests n (next_answer stand (line_parts held)) rest)
by_answer stand held n =
    let s = some_part held in
    let rest = requests_from stand (n + 1) s.1 in
    (rest, cc)

-- the requests of all delivered bytes: those that were handed on, and then those from what comes next on
all_requests : (p0 p1 p2 : InputPast) (held : List ℕ) (n : ℕ) (done : List NumberedRequest) (answer : Answer) → Told (since p0.handed p1.handed) held done n
    → HasGrown p0.handed p1.handed → HasGrown p1.handed p2.handed → p1.faults ≡ p0.faults → p1.ends ≡ p0.ends → answer ≡ next_answer (stand_of p1 p2) (line_parts (held ++ since p1.handed p2.handed))
    → (rest : Requests) × (requests_of (delivery p0 p2) ≡ after_requests done (next_requests n answer rest))
all_requests p0 p1 p2 held n done answer told reads more faults ends next =
    let stand = stand_of p0 p2 in
    let new = since p1.handed p2.handed in
    let same : stand_of p1 p2 ≡ stand = cc in
    let b = by_answer stand (held ++ new) n in (
      b.0,
      cc (since_more p0.handed p1.handed p2.handed reads more, told stand new),
    )

-- telling the handler of a read changes nothing of what was answered
pub after_waiting : {H S : Type 0} {AreAnswered : H → S → List NumberedRequest → H → S → Type 0} {first mid : InputPast} {h0 h1 h2 : H} {s0 s1 : S} {held : List ℕ} {n : ℕ}
    → ((a b c : H) (s t u : S) (us vs : List NumberedRequest) → AreAnswered a s us b t → AreAnswered b t vs c u → AreAnswered a s (us ++ vs) c u) → HasHandled AreAnswered first mid h0 h1 s0 s1 held n → AreAnswered h1 s1 [] h2 s1
    → HasHandled AreAnswered first mid h0 h2 s0 s1 held n
after_waiting {AreAnswered = AreAnswered} {h0 = h0} {h1 = h1} {h2 = h2} {s0 = s0} {s1 = s1} both turned waits = record {
  done = turned.done;
  answered = rw (← append-nil turned.done) (both h0 h1 h2 s0 s1 s1 turned.done [] turned.answered waits);
  reads = turned.reads;
  faults = turned.faults;
  ends = turned.ends;
  told = turned.told;
}

-- if what comes next ends the requests, those that were answered are all requests
pub ended : {H S : Type 0} (AreAnswered : H → S → List NumberedRequest → H → S → Type 0) (last : InputPast) {first mid : InputPast} {h0 h1 h2 : H} {s0 s1 : S} {held : List ℕ} {n : ℕ} (answer : Answer) (e : Ending)
    → ((a b c : H) (s t u : S) (us vs : List NumberedRequest) → AreAnswered a s us b t → AreAnswered b t vs c u → AreAnswered a s (us ++ vs) c u) → HasHandled AreAnswered first mid h0 h1 s0 s1 held n → AreAnswered h1 s1 [] h2 s1
    → HasGrown mid.handed last.handed → answer ≡ next_answer (stand_of mid last) (line_parts (held ++ since mid.handed last.handed))
    → ((rest : Requests) → next_requests n answer rest ≡ only_ends e) → AreAnswered h0 s0 (requests_of (delivery first last)).all h2 s1
ended AreAnswered last {first = first} {mid = mid} {h0 = h0} {h2 = h2} {s0 = s0} {s1 = s1} {held = held} {n = n} answer e both before waits more next is =
    let turned = after_waiting both before waits in
    let a = all_requests first mid last held n turned.done answer turned.told turned.reads more turned.faults turned.ends next in
    rw (a.1, is a.0, append-nil turned.done) turned.answered

-- if neither an end nor a fault was met, a bad line may have any word
pub bad_met : (old new : InputPast) (number : ℕ) (w : RequestWord) → MetNothing old new → HasMet (BadRequest number w) old new
bad_met old new number Unended met = omega (arith, met.0)
bad_met old new number w met = met

-- if the next line is a request, those that were handed on and this one are a first part of all requests
pub among : (p0 p1 p2 : InputPast) (held : List ℕ) (n : ℕ) (done more : List NumberedRequest) (line : List ℕ) (IsFirst : List NumberedRequest → Type 0) → Told (since p0.handed p1.handed) held done n
    → HasGrown p0.handed p1.handed → HasGrown p1.handed p2.handed → p1.faults ≡ p0.faults → p1.ends ≡ p0.ends → ALine line ≡ next_answer (stand_of p1 p2) (line_parts (held ++ since p1.handed p2.handed))
    → ((rest : Requests) → line_requests n line rest ≡ after_requests more rest) → IsFirst (done ++ more) → IsAmong IsFirst (requests_of (delivery p0 p2)).all
among p0 p1 p2 held n done more line IsFirst told reads again faults none next is holds =
    let a = all_requests p0 p1 p2 held n done (ALine line) told reads again faults none next in
    record {
      first = done ++ more;
      later = a.0.all;
      is = cc (is a.0, append_assoc done more a.0.all);
      holds = holds;
    }
