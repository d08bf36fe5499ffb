-- What is written for a request whose units were all taken or partly left, and what that adds to the outcome.
use Rattle.dm_stream.proofs.Prelude.{ℕ, List, [], Option, None, Some, Result, Ok, Err, OnOk, refl, ◌∙◌, append_assoc, subst, decimal, flat_map-append, append-nil, OutputPast, since, written_since, Description, OnSinkFault, Op, BlockUnit, HasTakenOrIsHome, IsHome, Pending, held_units, HasTaken, HasLeft, HasUnits, onto_begins, some_before, MapperView, HasStopped, device_of, request_answer, NumberedRequest, State, UnitRun, fewest, all_but_last, piece_text, pieces_text, unit_text, IsBeginning, IsCutShort, and_then, HasWritten, Wrote}
use Rattle.dm_map.specs.declared.walk.home.Home.{Home}
use Rattle.dm_map.specs.declared.mapper.MapFault.{MapFault}
use Rattle.dm_map.specs.declared.mapper.MapFault.TheVariants as faults
use Rattle.dm_stream.specs.declared.runs.ending.NotMapped.TheVariants as causes
use Rattle.std.specs.Prelude.{◌≡◌, ◌++◌, ◌∷◌}

pub on_sink : {R F : Type 0} (r : Result R (MapFault F)) (fault : F) (P : Type 0) → r ≡ Err (faults.Sink fault) → OnSinkFault r P → P
on_sink {R} {F} r fault P e h = rw e at h

-- what a request's result says once it is matched: its units were handed over; below, its sectors are consecutive on one disk
pub took_all : {S F : Type 0} {old new : S} {units : List BlockUnit} (takes : S → List BlockUnit → S → Type 0) (stack : Description) (op : Op) (len : ℕ) (r : Result (Option Home) (MapFault F)) → r ≡ Ok None
    → OnOk r (HasTakenOrIsHome takes stack op len r old units new) → takes old units new
took_all {F} {old} {new} {units} takes stack op len r is took = rw is at took

pub at_home : {S F : Type 0} {stack : Description} {op : Op} {len : ℕ} {old new : S} {units : List BlockUnit} (takes : S → List BlockUnit → S → Type 0) (r : Result (Option Home) (MapFault F)) (home : Home) → r ≡ Ok (Some home)
    → OnOk r (HasTakenOrIsHome takes stack op len r old units new) → IsHome stack op len home units × (new ≡ old)
at_home {F} {stack} {op} {len} {old} {new} {units} takes r home is took = rw is at took

pub state_at : {F : Type 0} (r : Result (Option Home) (MapFault F)) (answer : Option Home) (P : Type 0) → r ≡ Ok answer → OnOk r P → P
state_at {F} r answer P is h = rw is at h

-- a text with a byte at its end has a first byte
some_byte : (xs : List ℕ) (byte : ℕ) (more : List ℕ) → (first : ℕ) × (rest : List ℕ) × (xs ++ byte ∷ more ≡ first ∷ rest)
some_byte [] byte more = (byte, more, refl)
some_byte (x ∷ xs) byte more = (x, xs ++ byte ∷ more, refl)

-- a proper prefix of a text is a proper prefix of a longer text
pub cut_of_more : (text front more : List ℕ) → IsCutShort text front → IsCutShort (text ++ more) front
cut_of_more text front more h =
    (h.0, h.1 ++ more, cc (append_assoc front (h.0 ∷ h.1) more))

-- the text without its last piece is a proper prefix of the text
but_last : (stack : Description) (number : ℕ) (piece : UnitRun) (pieces : List UnitRun) → IsCutShort (pieces_text stack number (piece ∷ pieces)) (pieces_text stack number (all_but_last (piece ∷ pieces)))
but_last stack number piece [] =
    let some = some_byte (decimal number ++ 32 ∷ unit_text stack piece.first piece.len) 10 [] in
    (some.0, some.1, append-nil (piece_text stack number piece) ∙ some.2)
but_last stack number piece (next ∷ pieces) =
    let h = but_last stack number next pieces in
    let text = piece_text stack number piece in
    (h.0, h.1, cc (append_assoc text (pieces_text stack number (all_but_last (next ∷ pieces))) (h.0 ∷ h.1)))

-- the text of units without their last piece is a proper prefix of their text
but_last_of : (stack : Description) (number : ℕ) (units : List BlockUnit) → HasUnits units → IsCutShort (pieces_text stack number (fewest units)) (pieces_text stack number (all_but_last (fewest units)))
but_last_of stack number [] some = absurd some
but_last_of stack number (unit ∷ units) some =
    let b = onto_begins unit (fewest units) in
    rw b.is (but_last stack number (record { first = unit; len = b.len }) b.later)

-- a prefix of a proper prefix is a proper prefix
cut_through : (text front first : List ℕ) → IsCutShort text front → IsBeginning front first → IsCutShort text first
cut_through text front first h k =
    let some = some_byte k.0 h.0 h.1 in
    (some.0, some.1, cc (append_assoc first k.0 (h.0 ∷ h.1)))

-- if nothing was held before, the text of the units is what was written and then the text of what is held
pub taken_text : (old new : Pending) (units : List BlockUnit) (before after : List ℕ) → old.piece ≡ None → HasTaken old new units before after
    → pieces_text old.stack old.number (fewest units) ≡ since before after ++ pieces_text old.stack old.number (fewest (held_units new.piece))
taken_text old new units before after none taken =
    let text = pieces_text old.stack old.number in
    let whole : fewest units ≡ taken.settled ++ fewest (held_units new.piece) =
    cc (append-nil units, taken.told [], append-nil (held_units new.piece)) in
    cc (flat_map-append (λ p. piece_text old.stack old.number p) taken.settled (fewest (held_units new.piece)))

-- if nothing was held before a join failed, what was written is a proper prefix of the units' text
left_text : (old new : Pending) (front rest units : List BlockUnit) (before after : List ℕ) → old.piece ≡ None → front ++ rest ≡ units → HasLeft old new front before after
    → IsCutShort (pieces_text old.stack old.number (fewest units)) (since before after)
left_text old new front rest units before after none whole left =
    let all : held_units old.piece ++ front ++ rest ≡ units =
    cc in
    let text = λ (us : List BlockUnit). pieces_text old.stack old.number (all_but_last (fewest us)) in
    cut_through (pieces_text old.stack old.number (fewest units)) (text units) (since before after)
    (but_last_of old.stack old.number units (subst HasUnits whole (some_before front rest left.some)))
    (rw all at (left.beginning rest))

-- a join that holds nothing, with a request's number
abbrev pub at_start : Description → ℕ → Pending
at_start stack number = record { stack = stack; number = number; piece = None }

same_text : (stack : Description) (number : ℕ) (old : Pending) (pieces : List UnitRun) → old ≡ at_start stack number → pieces_text old.stack old.number pieces ≡ pieces_text stack number pieces
same_text stack number old pieces e = cc

-- all units were taken, and then the held piece was written or cut short: so was the text of the units
pub taken_wrote : {E : Type 0} {a b c : OutputPast} {result : Result (Unit {0}) E} (stack : Description) (number : ℕ) (old new : Pending) (units : List BlockUnit) → old ≡ at_start stack number → HasTaken old new units a.written b.written
    → HasWritten a b 0 → Wrote b c result (pieces_text new.stack new.number (fewest (held_units new.piece))) → Wrote a c result (pieces_text stack number (fewest units))
taken_wrote {a = a} {b = b} stack number old new units start taken moved wrote =
    let first = written_since a b in
    let last = pieces_text new.stack new.number (fewest (held_units new.piece)) in
    let whole : pieces_text stack number (fewest units) ≡ first ++ last =
    cc (same_text stack number old (fewest units) start, taken_text old new units a.written b.written (cc) taken, taken.stack, taken.number) in
    and_then first last whole (record { moved = moved; ok = refl; left = tt }) wrote

-- the line of consecutive sectors on a disk is the text of all units
pub home_wrote : {S E : Type 0} {c : OutputPast} {result : Result (Unit {0}) E} (old new : S) (past : S → OutputPast) (held : S → Pending) (stack : Description) (number : ℕ) (units row : List BlockUnit) → new ≡ old → held old ≡ at_start stack number → units ≡ row
    → Wrote (past new) c result (pieces_text (held new).stack (held new).number (fewest row)) → Wrote (past old) c result (pieces_text stack number (fewest units))
home_wrote {S} {c = c} {result = result} old new past held stack number units row same start is wrote =
    rw is (rw start at (subst (λ (s : S). Wrote (past s) c result (pieces_text (held s).stack (held s).number (fewest row))) same wrote))

-- if the join fails at a piece, what was written is a proper prefix of the units' text
pub cut_short : (stack : Description) (number : ℕ) (old new : Pending) (front rest units : List BlockUnit) (before after : List ℕ) → old ≡ at_start stack number → front ++ rest ≡ units → HasLeft old new front before after
    → IsCutShort (pieces_text stack number (fewest units)) (since before after)
cut_short stack number old new front rest units before after start whole left =
    rw (← same_text stack number old (fewest units) start) (left_text old new front rest units before after (cc) whole left)

-- a request whose answer was cut short stops the mapper
pub request_cut : (stack : Description) (device : ℕ) (request : NumberedRequest) (found : Option ℕ) (old : State) (new : MapperView) (w0 w1 : List ℕ) → device_of stack request.values.device ≡ found → found ≡ Some device
    → IsCutShort (request_answer stack device request old) (since w0 w1) → HasStopped stack causes.Output old new (request ∷ []) w0 w1
request_cut stack device request found old new w0 w1 by_name is cut = λ rest e.
    rw (by_name, is) (cut_of_more (request_answer stack device request old) (since w0 w1) _ cut)
