-- Lemmas about texts that are written part by part.
use Rattle.dm_table.proofs.Prelude.{ℕ, map, arith, List, [], length, take, drop, get_or, Result, Ok, Err, IsErr, IsErrAnd, inl, inr, refl, sym, ◌∙◌, append_assoc, take-append-drop, flat_map, join_with_byte, take-add, flat_map-append, drop_more, append-nil, take_rest, err_from_is_err_and, decimal, OutputPast, after_flush, written_more, IsClosedAfter, Wrote, Line, Target, Striped, column_text, target_text, body_text, target_head, body_head, columns_of, since_more}
use Rattle.dm_table.proofs.tables.BodyRows.{columns_text}
use Rattle.std.specs.Prelude.{◌≡◌, ◌+◌, ◌-◌, ◌<◌, ◌≤◌, ◌∷◌, ◌++◌}

-- a fault in the first part of a text is a fault of the whole text
pub stopped : {E : Type 0} {old new : OutputPast} {fault : E} {text : List ℕ} (first rest : List ℕ) → text ≡ first ++ rest
    → Wrote old new (Err fault) first → Wrote old new (Err fault) text
stopped first rest is h = record {
  moved = h.moved;
  ok = tt;
  left = (h.left.0, h.left.1 ++ rest, rw (is, h.left.2, append_assoc));
}

-- if the first part was written, the result of the next part is the result of both
pub and_then : {E : Type 0} {old mid new : OutputPast} {result : Result (Unit {0}) E} {text : List ℕ} (first next : List ℕ) → text ≡ first ++ next
    → Wrote {E = E} old mid (Ok tt) first → Wrote mid new result next → Wrote old new result text
and_then {old = old} {mid = mid} {new = new} {result = Ok done} first next is a b =
    let more = since_more old.written mid.written new.written a.moved.appends b.moved.appends in
    record {
      moved = written_more old mid new 0 a.moved b.moved;
      ok = cc;
      left = tt;
    }
and_then {old = old} {mid = mid} {new = new} {result = Err fault} first next is a b =
    let more = since_more old.written mid.written new.written a.moved.appends b.moved.appends in
    record {
      moved = written_more old mid new 1 a.moved b.moved;
      ok = tt;
      left = (b.left.0, b.left.1, rw (more, a.ok, append_assoc, ← b.left.2, ← is));
    }

-- ---- an output that is flushed after its last write, or has failed

-- after a failed write, the output is closed without a flush
pub closed_unflushed : {E : Type 0} (old new : OutputPast) (fault : E) (text : List ℕ) → Wrote old new (Err fault) text
    → IsClosedAfter old new (IsErr {T = Unit {0}} (Err fault)) text
closed_unflushed old new fault text wrote = record {
  finished = record {
    appends = wrote.moved.appends;
    write_fault = (λ more. refl, λ err. omega (arith, wrote.moved.fails));
    grows = omega (arith, wrote.moved.fails);
    fails_once = omega (arith, wrote.moved.fails);
    once = omega (arith, wrote.moved.unflushed);
    still_waiting = λ err less. absurd (omega (arith, less, wrote.moved.unflushed));
  };
  whole = λ well. absurd (well refl);
  failed = λ err. inl (wrote.moved.unflushed, wrote.left);
}

-- after the whole text, the output is closed with a flush, which may fail
pub closed_flushed : {E : Type 0} (old mid new : OutputPast) (result : Result (Unit {0}) E) (text : List ℕ) → Wrote {E = E} old mid (Ok tt) text → new ≡ after_flush mid result → IsClosedAfter old new (IsErr result) text
closed_flushed {E = E} old mid new result text wrote is =
    rw is (flushed result)
  where
    flushed : (r : Result (Unit {0}) E) → IsClosedAfter old (after_flush mid r) (IsErr r) text
    flushed (Ok done) = record {
      finished = record {
        appends = wrote.moved.appends;
        write_fault = (λ less. absurd (omega (arith, less, wrote.moved.fails)), λ err. absurd cc);
        grows = omega (arith, wrote.moved.fails);
        fails_once = omega (arith, wrote.moved.fails);
        once = omega (arith, wrote.moved.unflushed);
        still_waiting = λ err less. absurd cc;
      };
      whole = λ well. (sym wrote.ok, (refl, cc));
      failed = λ err. absurd cc;
    }
    flushed (Err fault) = record {
      finished = record {
        appends = wrote.moved.appends;
        write_fault = (λ less. refl, λ err. omega (arith, wrote.moved.fails));
        grows = omega (arith, wrote.moved.fails);
        fails_once = omega (arith, wrote.moved.fails);
        once = omega (arith, wrote.moved.unflushed);
        still_waiting = λ err less. wrote.moved.waits;
      };
      whole = λ well. absurd (well refl);
      failed = λ err. inr (cc, sym wrote.ok);
    }

-- the fault of a part is the fault that the function returns
pub fault_in : {E : Type 0} {old new : OutputPast} {fault : E} {text : List ℕ} (result : Result (Unit {0}) E) → IsErrAnd result (λ given. given ≡ fault)
    → Wrote old new (Err fault) text → Wrote old new result text
fault_in result is h = let given = err_from_is_err_and result is in rw (given.1, given.2) h

-- the text of all elements is the text of the first i, then of element i, then of the elements after it
pub flat_map_at : {X : Type 0} (f : X → List ℕ) (xs : List X) (i : ℕ) (x : X) → i < length xs → x ≡ get_or xs i x → flat_map f xs ≡ flat_map f (take i xs) ++ (f x ++ flat_map f (drop (i + 1) xs))
flat_map_at f xs i x below is =
    let rest : drop i xs ≡ x ∷ drop (i + 1) xs = rw is (drop_more xs i x below) in
    cc (take-append-drop _ _, flat_map-append f (take i xs) (drop i xs))

-- the text of the first i + 1 elements is that of the first i and of element i
pub flat_map_next : {X : Type 0} (f : X → List ℕ) (xs : List X) (i : ℕ) (x : X) → i < length xs → x ≡ get_or xs i x → flat_map f (take (i + 1) xs) ≡ flat_map f (take i xs) ++ f x
flat_map_next f xs i x below is =
    let rest : drop i xs ≡ x ∷ drop (i + 1) xs = rw is (drop_more xs i x below) in
    rw (← append-nil (f x), take-add, rest, flat_map-append)

-- if writing element i fails after the elements before it, writing all elements fails with that fault
pub each_stopped : {A E : Type 0} {old mid new : OutputPast} {fault : E} (f : A → List ℕ) (xs : List A) (i : ℕ) (x : A) (result : Result (Unit {0}) E)
    → i < length xs → x ≡ get_or xs i x → IsErrAnd result (λ given. given ≡ fault)
    → Wrote {E = E} old mid (Ok tt) (flat_map f (take i xs)) → Wrote mid new (Err fault) (f x) → Wrote old new result (flat_map f xs)
each_stopped f xs i x result below is given so_far h =
    let rest = flat_map f (drop (i + 1) xs) in
    fault_in result given (and_then (flat_map f (take i xs)) (f x ++ rest) (flat_map_at f xs i x below is) so_far (stopped (f x) rest refl h))

-- if element i is written after the elements before it, the first i + 1 elements are written
pub each_further : {A E : Type 0} {old mid new : OutputPast} (f : A → List ℕ) (xs : List A) (i : ℕ) (x : A) → i < length xs → x ≡ get_or xs i x
    → Wrote {E = E} old mid (Ok tt) (flat_map f (take i xs)) → Wrote {E = E} mid new (Ok tt) (f x)
    → Wrote {E = E} old new (Ok tt) (flat_map f (take (i + 1) xs))
each_further f xs i x below is so_far h = and_then (flat_map f (take i xs)) (f x) (flat_map_next f xs i x below is) so_far h

-- elements joined by a byte: the first one, and then each other one after the byte
pub joined_first : {X : Type 0} (byte : ℕ) (f : X → List ℕ) (x : X) (xs : List X) → join_with_byte byte (map f (x ∷ xs)) ≡ f x ++ flat_map (λ y. byte ∷ f y) xs
joined_first byte f x [] = sym (append-nil (f x))
joined_first byte f x (y ∷ xs) = rw (joined_first byte f y xs)

-- the elements of a slice, joined by a byte: the first one, and then each other one after the byte
pub joined_slice : {X : Type 0} (byte : ℕ) (f : X → List ℕ) (xs : List X) (x : X) → 1 ≤ length xs → x ≡ get_or xs 0 x → join_with_byte byte (map f xs) ≡ f x ++ flat_map (λ y. byte ∷ f y) (take (length xs - 1) (drop 1 xs))
joined_slice byte f [] x h is = absurd (omega arith)
joined_slice byte f (y ∷ ys) x h is = rw (take_rest (y ∷ ys) 1, is) (joined_first byte f y ys)

-- if writing the first element fails, writing the elements joined by a byte fails with that fault
pub joined_stopped : {A E : Type 0} {old new : OutputPast} {fault : E} (byte : ℕ) (f : A → List ℕ) (xs : List A) (x : A) (result : Result (Unit {0}) E)
    → 1 ≤ length xs → x ≡ get_or xs 0 x → IsErrAnd result (λ given. given ≡ fault)
    → Wrote old new (Err fault) (f x) → Wrote old new result (join_with_byte byte (map f xs))
joined_stopped byte f xs x result some is given h = fault_in result given (stopped (f x) _ (joined_slice byte f xs x some is) h)

-- if the first element is written, the result of the others, each after the byte, is the result of all
pub joined_then : {A E : Type 0} {old mid new : OutputPast} {result : Result (Unit {0}) E} (byte : ℕ) (f : A → List ℕ) (xs : List A) (x : A) → 1 ≤ length xs → x ≡ get_or xs 0 x
    → Wrote {E = E} old mid (Ok tt) (f x) → Wrote mid new result (flat_map (λ y. byte ∷ f y) (take (length xs - 1) (drop 1 xs)))
    → Wrote old new result (join_with_byte byte (map f xs))
joined_then byte f xs x some is h more = and_then (f x) _ (joined_slice byte f xs x some is) h more

-- the text of a line after `before` is its head followed by its columns
body_split : (before : List ℕ) (target : Target) → before ++ target_text target ≡ (before ++ target_head target) ++ flat_map column_text (columns_of target)
body_split before (Striped chunk columns) = rw (columns_text (decimal chunk) columns) (simp append_assoc)
body_split before _ = sym (append-nil _)

pub line_split : (name mark : List ℕ) (line : Line) → name ++ mark ++ body_text line ≡ (name ++ mark ++ body_head line) ++ flat_map column_text (columns_of line.target)
line_split name mark line =
    let before = name ++ mark ++ decimal line.start ++ 32 ∷ decimal line.len ++ 32 ∷ [] in
    let whole : name ++ mark ++ body_text line ≡ before ++ target_text line.target = simp append_assoc in
    let head : before ++ target_head line.target ≡ name ++ mark ++ body_head line = simp append_assoc in
    rw (← head) (whole ∙ body_split before line.target)
