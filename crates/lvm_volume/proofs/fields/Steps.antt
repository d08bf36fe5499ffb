-- Lemmas about steps of a reader, one after the other.
use Rattle.lvm_volume.proofs.Prelude.{inl, append_assoc, arith, ℕ, drop, get_or, length, map, List, [], Option, Some, None, Result, refl, sym, ap, ◌∙◌, IsErrAnd, result_err, append-nil, drop_more, err_from_is_err_and, flat_map, range_with_len, Source, LoadFault, Field, IsMemoryFault, fault_at, first_or, FieldReader, Check, Fields, Limits, first_of, missing, IsStep, after, or_first, first_or-found}
use Rattle.std.proofs.Math.ListN.{drop_of_length-le}
use Rattle.lvm_volume.proofs.fields.Faults.{first_after, first_here, found_more, range_more}
use Rattle.std.specs.Prelude.{◌≡◌, ◌⊎◌, ◌+◌, ◌-◌, ◌<◌, ◌≤◌, ◌∷◌, ◌++◌}

or_first_both : (found : Option LoadFault) (xs ys : List LoadFault) → or_first (or_first found xs) ys ≡ or_first found (xs ++ ys)
or_first_both None [] ys = refl
or_first_both None (x ∷ xs) ys = refl
or_first_both (Some fault) xs ys = refl

after_both : (reader : FieldReader) (xs ys : List LoadFault) → after (after reader xs) ys ≡ after reader (xs ++ ys)
after_both reader xs ys = rw (or_first_both reader.excess xs ys)

-- if the first of two steps fails, both fail
pub then_fails : {f : Check → List LoadFault} (g : Check → List LoadFault) {old new other : FieldReader} {fault : LoadFault} → IsStep f old new (Some fault) → IsStep (λ check. f check ++ g check) old other (Some fault)
then_fails {f} g h = record {
  passed = λ none. absurd cc;
  failed_at = λ it same. found_more (first_here (f Fields) (g Fields) None it) (h.failed_at it same);
}

-- if the first of two steps passes, both end as the second does
pub then_goes : {f g : Check → List LoadFault} {old mid new : FieldReader} {failed : Option LoadFault} → IsStep f old mid None → IsStep g mid new failed → IsStep (λ check. f check ++ g check) old new failed
then_goes {f} {g} {old} h k =
    let a = h.passed refl in
    let none : first_of (f Fields) ≡ None = ap first_of a.0 in
    record {
      passed = λ is. let b = k.passed is in (
        rw a.0 b.0,
        rw (b.1, a.1, after_both old (f (Limits old.extent_size)) (g (Limits old.extent_size))),
      );
      failed_at = λ fault same. found_more (λ found. first_after (f Fields) (g Fields) None none ∙ found) (k.failed_at fault same);
    }

-- a step over other faults that are equal to these
pub in_words : {f g : Check → List LoadFault} {old new : FieldReader} {failed : Option LoadFault} → ((check : Check) → f check ≡ g check) → IsStep f old new failed → IsStep g old new failed
in_words {f} {g} {old} same h = record {
  passed = λ is. let a = h.passed is in (sym (same Fields) ∙ a.0, a.1 ∙ ap (after old) (same (Limits old.extent_size)));
  failed_at = λ fault is. found_more (λ found. ap first_of (sym (same Fields)) ∙ found) (h.failed_at fault is);
}

-- a step that fails is one from any reader to any reader
pub any_new : {f : Check → List LoadFault} {old new other next : FieldReader} {fault : LoadFault} → IsStep f old new (Some fault) → IsStep f other next (Some fault)
any_new h = record { passed = λ none. absurd cc; failed_at = h.failed_at }

-- a step that fails, when its result is returned by `?`
pub exits : {X : Type 0} {f : Check → List LoadFault} {old new : FieldReader} {fault : LoadFault} (r : Result X LoadFault) → IsErrAnd r (λ e. e ≡ fault) → IsStep f old new (Some fault) → IsStep f old new (result_err r)
exits r is step = let p = err_from_is_err_and r is in rw (p.1, p.2) step

-- the last step of a list, with no faults after it
pub at_last : {f : Check → List LoadFault} {old new : FieldReader} {failed : Option LoadFault} → IsStep f old new failed → IsStep (λ check. f check ++ []) old new failed
at_last {f} h = in_words (λ check. sym (append-nil (f check))) h

after_none : (found : Option LoadFault) → found ≡ or_first found []
after_none None = refl
after_none (Some fault) = refl

-- a step over no fields
pub nothing_left : (reader : FieldReader) → IsStep (λ check. []) reader reader None
nothing_left reader = record {
  passed = λ is. (refl, ap (λ (found : Option LoadFault). record { extent_size = reader.extent_size; excess = found }) (after_none reader.excess));
  failed_at = λ fault is. absurd cc;
}

-- ---- steps in a loop over elements

-- the faults at element i and at those after it are those from i on
at_index : {X Y : Type 0} (f : Check → Y → List LoadFault) (view : X → Y) (xs : List X) (i : ℕ) (x : X) → i < length xs → x ≡ get_or xs i x
    → (check : Check) → f check (view x) ++ flat_map (f check) (map view (drop (i + 1) xs)) ≡ flat_map (f check) (map view (drop i xs))
at_index {X} f view xs i x within is check =
    ap (λ (y : X). f check (view y) ++ flat_map (f check) (map view (drop (i + 1) xs))) is ∙ sym (ap (λ (ys : List X). flat_map (f check) (map view ys)) (drop_more xs i x within))

pub stops_here : {X Y : Type 0} (f : Check → Y → List LoadFault) (view : X → Y) (xs : List X) (i : ℕ) (x : X) {old new other : FieldReader} {fault : LoadFault} → i < length xs → x ≡ get_or xs i x
    → IsStep (λ check. f check (view x)) old new (Some fault) → IsStep (λ check. flat_map (f check) (map view (drop i xs))) old other (Some fault)
stops_here f view xs i x within is h = in_words (at_index f view xs i x within is) (then_fails (λ check. flat_map (f check) (map view (drop (i + 1) xs))) h)

pub goes_on : {X Y : Type 0} (f : Check → Y → List LoadFault) (view : X → Y) (xs : List X) (i : ℕ) (x : X) {old mid new : FieldReader} {failed : Option LoadFault} → i < length xs → x ≡ get_or xs i x
    → IsStep (λ check. f check (view x)) old mid None → IsStep (λ check. flat_map (f check) (map view (drop (i + 1) xs))) mid new failed → IsStep (λ check. flat_map (f check) (map view (drop i xs))) old new failed
goes_on f view xs i x within is h k = in_words (at_index f view xs i x within is) (then_goes h k)

pub none_left : {X Y : Type 0} (f : Check → Y → List LoadFault) (view : X → Y) (xs : List X) (i : ℕ) (reader : FieldReader) → length xs ≤ i → IsStep (λ check. flat_map (f check) (map view (drop i xs))) reader reader None
none_left {X} f view xs i reader past = in_words (λ check. sym (rw (drop_of_length-le xs past))) (nothing_left reader)

-- the values made so far, with those of the elements left, are the values of all elements, also after one more element
pub made_next : {X Y Z : Type 0} (f : Y → Z) (view : X → Y) (xs : List X) (i : ℕ) (x : X) (z : Z) (done more : List Z) → i < length xs → x ≡ get_or xs i x → z ≡ f (view x) → more ≡ done ++ z ∷ []
    → more ++ map f (map view (drop (i + 1) xs)) ≡ done ++ map f (map view (drop i xs))
made_next {X} {Y} {Z} f view xs i x z done more within is said pushed =
    let left = map f (map view (drop (i + 1) xs)) in
    rw (pushed, drop_more xs i x within, ← is, ← said) (append_assoc done (z ∷ []) left)

-- ---- steps in a loop over numbers from 1 on

pub number_fails : (f : Check → ℕ → List LoadFault) (i end : ℕ) {old new other : FieldReader} {fault : LoadFault} → i < end
    → IsStep (λ check. f check (i + 1)) old new (Some fault) → IsStep (λ check. flat_map (f check) (range_with_len (i + 1) (end - i))) old other (Some fault)
number_fails f i end below h =
    in_words (λ check. sym (ap (flat_map (f check)) (range_more i end below))) (then_fails (λ check. flat_map (f check) (range_with_len (i + 1 + 1) (end - (i + 1)))) h)

pub number_goes : (f : Check → ℕ → List LoadFault) (i end : ℕ) {old mid new : FieldReader} {failed : Option LoadFault} → i < end → IsStep (λ check. f check (i + 1)) old mid None
    → IsStep (λ check. flat_map (f check) (range_with_len (i + 1 + 1) (end - (i + 1)))) mid new failed → IsStep (λ check. flat_map (f check) (range_with_len (i + 1) (end - i))) old new failed
number_goes f i end below h k = in_words (λ check. sym (ap (flat_map (f check)) (range_more i end below))) (then_goes h k)

pub no_number : (f : Check → ℕ → List LoadFault) (i end : ℕ) (reader : FieldReader) → end ≤ i → IsStep (λ check. flat_map (f check) (range_with_len (i + 1) (end - i))) reader reader None
no_number f i end reader past =
    let none : 0 ≡ end - i = omega (arith, past) in
    in_words (λ check. ap (λ (n : ℕ). flat_map (f check) (range_with_len (i + 1) n)) none) (nothing_left reader)

-- ---- the end of a reading

abbrev pub fresh : ℕ → FieldReader
fresh size = record { extent_size = size; excess = None }

-- the first fault of both checks of fields
abbrev pub of_both : (Check → List LoadFault) → ℕ → Option LoadFault
of_both f size = first_or (f Fields) (first_of (f (Limits size)))

pub ends_failed : {f : Check → List LoadFault} {old new : FieldReader} {fault : LoadFault} (size : ℕ) → IsStep f old new (Some fault) → (of_both f size ≡ Some fault) ⊎ IsMemoryFault Source fault
ends_failed {f} size h = found_more (first_or-found (f Fields) _ _) (h.failed_at _ refl)

pub ends_with : {f : Check → List LoadFault} {new : FieldReader} (size : ℕ) → IsStep f (fresh size) new None → of_both f size ≡ new.excess
ends_with {f} size h =
    let a = h.passed refl in
    ap (λ (faults : List LoadFault). first_or faults (first_of (f (Limits size)))) a.0 ∙ sym (ap (λ (reader : FieldReader). reader.excess) a.1)

-- a section that is missing fails the step
pub is_missing : (line : ℕ) (reader : FieldReader) (fault : LoadFault) → fault ≡ fault_at Source Field line → IsStep (λ check. missing check line) reader reader (Some fault)
is_missing line reader fault is = record {
  passed = λ none. absurd cc;
  failed_at = λ it same. inl (ap Some (sym is) ∙ same);
}

none_first : (faults : List LoadFault) → None ≡ first_of faults → faults ≡ []
none_first [] e = refl
none_first (f ∷ faults) e = absurd cc

-- if a step passes for every reader, neither check finds a fault
pub finds_nothing : (f : Check → List LoadFault) → ((reader : FieldReader) → IsStep f reader reader None) → (check : Check) → f check ≡ []
finds_nothing f h Fields = ((h (fresh 0)).passed refl).0
finds_nothing f h (Limits size) = none_first (f (Limits size)) (ap (λ (reader : FieldReader). reader.excess) ((h (fresh size)).passed refl).1)

pub same_both : (f g : Check → List LoadFault) (m n : ℕ) → ((check : Check) → f check ≡ g check) → m ≡ n → of_both f m ≡ of_both g n
same_both f g m n same size =
    rw (same Fields, same (Limits m)) (ap (of_both g) size)
