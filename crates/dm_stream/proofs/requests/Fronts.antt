-- A line that spells a request is that request, and the requests after it are those of the bytes behind the line.
use Rattle.dm_stream.proofs.Prelude.{ℕ, List, [], length, take, drop, length-take-le, arith, le-ltb, append-nil, Stand, Open, since, RequestValues, DescribesRequest, ALine, line_parts, next_answer, since-same, grows-same, NumberedRequest, Requests, after_requests, line_requests, MOST_LINE_BYTES, MOST_REQUESTS}
use Rattle.dm_table.proofs.RequestLemmas.{read-said}
use Rattle.dm_stream.proofs.requests.LineParts.{next_held}
use Rattle.dm_stream.proofs.requests.HandledRequests.{Told, told_turn}
use Rattle.std.specs.Prelude.{◌≡◌, ◌+◌, ◌<◌, ◌≤◌, ◌∷◌, ◌++◌}

-- a line that spells a request is that request, unless there are too many lines
pub said_first : (line : List ℕ) (number : ℕ) (values : RequestValues) → number ≤ MOST_REQUESTS → DescribesRequest line values → (rest : Requests) → line_requests number line rest ≡ after_requests (record { number = number; values = values } ∷ []) rest
said_first line number values few said rest =
    cc (le-ltb MOST_REQUESTS number few, read-said line values said)

-- a line that is held comes next without a read
pub held_next : (stand : Stand) (handed held : List ℕ) (n : ℕ) → n < length held → n ≤ MOST_LINE_BYTES → line_parts held ≡ take n held ∷ line_parts (drop (n + 1) held)
    → ALine (take n held) ≡ next_answer stand (line_parts (held ++ since handed handed))
held_next stand handed held n within short first =
    cc (next_held stand held n within short first, append-nil held, since-same handed)

-- the front of the held bytes was a request, and is no longer held
pub told_front : (h0 h1 held read after : List ℕ) (len n : ℕ) (done more : List NumberedRequest) → Told (since h0 h1) held done n → h1 ≡ h0 ++ since h0 h1 → read ≡ held → len < length read → len ≤ MOST_LINE_BYTES
    → line_parts read ≡ take len read ∷ line_parts (drop (len + 1) read) → ((rest : Requests) → line_requests n (take len read) rest ≡ after_requests more rest) → after ≡ drop (len + 1) held → Told (since h0 h1) after (done ++ more) (n + 1)
told_front h0 h1 held read after len n done more told reads same within short first is left =
    told_turn h0 h1 h1 read after (take len read) done more n Open (rw same told)
    reads (grows-same h1 h1) (held_next Open h1 read len within short first) is
    (cc (length-take-le len read (omega arith), append-nil read, since-same h1))
