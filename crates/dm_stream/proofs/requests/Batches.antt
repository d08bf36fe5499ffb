-- Requests at the front of bytes, one after the other, and what was answered of them.
use Rattle.dm_stream.proofs.Prelude.{ℕ, zero, suc, List, [], length, get_or, map, take, drop, sym, ◌∙◌, append_assoc, length-append, length-take-le, arith, append-nil, drop-drop, map-append, InputPast, delivery, since, stand_of, AreFirst, AreFirstAnswered, IsAmongFirst, front_requests, line_parts, IsAmong, NumberedRequest, Requests, after_requests, line_requests, numbered, requests_from, requests_of, Front, MOST_LINE_BYTES}
use Rattle.dm_stream.proofs.requests.HandledRequests.{HasHandled, Told, line_first}
use Rattle.dm_stream.proofs.requests.LineParts.{some_part}
use Rattle.std.specs.Prelude.{◌≡◌, ◌+◌, ◌<◌, ◌≤◌, ◌∷◌, ◌++◌}

-- the request of a line that is held is the first request of the bytes
pub line_is_first : (n : ℕ) (held : List ℕ) (len : ℕ) (requests : List NumberedRequest) → len < length held → len ≤ MOST_LINE_BYTES → line_parts held ≡ take len held ∷ line_parts (drop (len + 1) held)
    → ((rest : Requests) → line_requests n (take len held) rest ≡ after_requests requests rest) → AreFirst n held requests (n + 1) (drop (len + 1) held)
line_is_first n held len requests within short line is = λ stand more.
    let next = some_part (drop (len + 1) held) in
    let cut : length (take len held) ≡ len = length-take-le len held (omega arith) in
    cc (line_first stand held (take len held) more n (record { short = omega arith; second = next.0; others = next.1; is = cc }), is (requests_from stand (n + 1) (line_parts (drop (length (take len held) + 1) held ++ more))))

-- first requests followed by the first requests of the remaining bytes are first requests
pub first_then : (n k m : ℕ) (bytes middle rest : List ℕ) (us vs : List NumberedRequest) → AreFirst n bytes us k middle → AreFirst k middle vs m rest → AreFirst n bytes (us ++ vs) m rest
first_then n k m bytes middle rest us vs first second = λ stand more.
    let later = requests_from stand m (line_parts (rest ++ more)) in
    cc (first stand more, second stand more, append_assoc us vs later.all)

-- after one more front was parsed, all fronts so far are first requests of the held bytes
pub one_more : (n : ℕ) (held text : List ℕ) (len count : ℕ) (fronts after : List Front) (front : Front) → AreFirst (n + 1) held (front_requests fronts) (n + length fronts + 1) (drop len held) → text ≡ drop len held → count ≡ length fronts
    → front.len < length text → front.len ≤ MOST_LINE_BYTES → line_parts text ≡ take front.len text ∷ line_parts (drop (front.len + 1) text)
    → ((rest : Requests) → line_requests (n + count + 1) (take front.len text) rest ≡ after_requests (numbered front.request ∷ []) rest)
    → after ≡ fronts ++ front ∷ [] → AreFirst (n + 1) held (front_requests after) (n + length after + 1) (drop (len + (front.len + 1)) held)
one_more n held text len count fronts after front so_far left same within short line is e =
    let next = n + length fronts + 1 in
    let requests = front_requests fronts ++ numbered front.request ∷ [] in
    let one_later : next + 1 ≡ n + length (fronts ++ front ∷ []) + 1 = omega (arith, length-append fronts (front ∷ [])) in
    let last = line_is_first next text front.len (numbered front.request ∷ []) within short line
    (rw same at is) in
    let all = first_then (n + 1) next (next + 1) held (drop len held) (drop (front.len + 1) (drop len held)) (front_requests fronts) (numbered front.request ∷ []) so_far
    (rw left at last) in
    rw (e, map-append (λ (f : Front). numbered f.request) fronts (front ∷ []), ← one_later, ← drop-drop (front.len + 1) len held) all

-- a list mapped is its front mapped, an element mapped and what follows mapped
pub up_to : {X Y : Type 0} (f : X → Y) (xs : List X) (i : ℕ) (x : X) → i < length xs → x ≡ get_or xs i x → map f xs ≡ (map f (take i xs) ++ f x ∷ []) ++ map f (drop (suc i) xs)
up_to f [] i x within is = absurd (omega arith)
up_to f (y ∷ xs) zero x within is = cc
up_to f (y ∷ xs) (suc i) x within is = cc (up_to f xs i x (omega arith) is)

-- what holds of a first part of requests implies another fact of a first part of equal requests
pub among_those : (IsThis IsThat : List NumberedRequest → Type 0) (us vs : List NumberedRequest) → us ≡ vs → ((first : List NumberedRequest) → IsThis first → IsThat first) → IsAmong IsThis us → IsAmong IsThat vs
among_those IsThis IsThat us vs same follows found = record {
  first = found.first;
  later = found.later;
  is = sym same ∙ found.is;
  holds = follows found.first found.holds;
}

-- What was handled so far, and then a batch

-- a batch of the held bytes was answered, and its lines are no longer held
pub after_batch : {H S : Type 0} {AreAnswered : H → S → List NumberedRequest → H → S → Type 0} {first mid : InputPast} {h0 h1 h2 : H} {s0 s1 s2 : S} {held : List ℕ} {n : ℕ} (next len : ℕ) (read after : List ℕ)
    → ((a b c : H) (s t u : S) (us vs : List NumberedRequest) → AreAnswered a s us b t → AreAnswered b t vs c u → AreAnswered a s (us ++ vs) c u) → HasHandled AreAnswered first mid h0 h1 s0 s1 held n
    → AreFirstAnswered AreAnswered n read next (drop len read) h1 s1 h2 s2 → read ≡ held → after ≡ drop len held
    → HasHandled AreAnswered first mid h0 h2 s0 s2 after next
after_batch {AreAnswered = AreAnswered} {first = first} {mid = mid} {h0 = h0} {h1 = h1} {h2 = h2} {s0 = s0} {s1 = s1} {s2 = s2} {held = held} {n = n} next len read after both turned batch same left =
    let all = since first.handed mid.handed in
    record {
      done = turned.done ++ batch.0;
      answered = both h0 h1 h2 s0 s1 s2 turned.done batch.0 turned.answered batch.2;
      reads = turned.reads;
      faults = turned.faults;
      ends = turned.ends;
      told =
          rw left (first_then 1 n next all held (drop len held) turned.done batch.0 turned.told (rw same at batch.1));
    }

-- the handler stopped in a batch of the held bytes
pub among_batch : (p0 p1 : InputPast) (held read : List ℕ) (n : ℕ) (done : List NumberedRequest) (IsThis IsFirst : List NumberedRequest → Type 0) → Told (since p0.handed p1.handed) held done n → read ≡ held
    → IsAmongFirst IsThis n read
    → ((first : List NumberedRequest) → IsThis first → IsFirst (done ++ first)) → IsAmong IsFirst (requests_of (delivery p0 p1)).all
among_batch p0 p1 held read n done IsThis IsFirst told same batch follows =
    let stand = stand_of p0 p1 in
    let all = since p0.handed p1.handed in
    let later = requests_from stand batch.1 (line_parts (batch.2 ++ [])) in
    let whole = first_then 1 n batch.1 all held batch.2 done batch.0 told (rw same at batch.3) in
    let stops = batch.4 in
    record {
      first = done ++ stops.first;
      later = stops.later ++ later.all;
      is =
          rw (← append-nil all, whole stand [], stops.is) (simp append_assoc);
      holds = follows stops.first stops.holds;
    }
