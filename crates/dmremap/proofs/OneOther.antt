-- Words and deliveries determine one answer, unless the output failed or memory ran out.
use Rattle.dmremap.proofs.Prelude.{true, false, ℕ, List, [], Option, Some, None, refl, sym, ap, subst, ◌∙◌, AllByRecursion, Delivery, IsClash, IsTidy, claims, Description, State, Ending, NumberedRequest, Requests, requests_of, Asked, HasTop, runs_text, spaced, Exit, Answer, End, IsOne, IsOneSettled, IsSettled, Tells, Writes, end_of, IsPlain, is_flushed, JobWords, RangeWords, print_words, check_words, read_words, replay_words, name_words, split_words, explain_words, Opened, Opening, JobAnswers, JobMakes, has_requests, is_loading, Prints, Refuses, ReportSays, Said, SaidBy, SplitSays, answer_said, line, ReplaysOver, ReplaysStack, Start, AreAnswered, IsAnswer, IsOfNone, IsPlayed, IsWhole, StopsAt, asked_of, STATUS_MEMORY, WriteFault}
use Rattle.dm_stack.specs.declared.claims.clash.Clash.{Clash}
use Rattle.dm_stack.proofs.TopLemmas.{one_clash, one_report}
use Rattle.dm_replay.proofs.OneRuns.{one_runs}
use Rattle.lvm_volume.proofs.Splits.{one_split}
use Rattle.dmremap.specs.declared.exit.Exit.TheVariants as exits
use Rattle.dmremap.specs.Whole as start
use Rattle.dmremap.proofs.ExitLemmas.{write_fault_is}
use Rattle.dmremap.proofs.OneWhole.{one_opened}
use Rattle.std.specs.Prelude.{◌≡◌, ◌≢◌, ◌∷◌, ◌++◌}

-- What is printed is determined

one_split_said : (name : List ℕ) (a b : Said) → SplitSays name a → SplitSays name b → a ≡ b
one_split_said name (Prints a) (Prints b) x y =
    ap Prints (sym x.2 ∙ ap line (x.1.2 ∙ ap spaced (one_split name x.1.0 y.1.0 x.1.1 y.1.1) ∙ sym y.1.2) ∙ y.2)
one_split_said name (Prints a) (Refuses b) x y = absurd (y.0 x.1.0 x.1.1)
one_split_said name (Refuses a) (Prints b) x y = absurd (x.0 y.1.0 y.1.1)
one_split_said name (Refuses a) (Refuses b) x y = ap Refuses (sym x.1 ∙ y.1)

one_report_said : (stack : Description) (a b : Said) → ReportSays stack a → ReportSays stack b → a ≡ b
one_report_said stack a b x y = sym x.2 ∙ ap Prints (one_report stack x.0 y.0 x.1 y.1) ∙ y.2

-- at most one answer writes or reports something that `Says` allows
one_said_by : (Says : Said → Type 0) → ((a b : Said) → Says a → Says b → a ≡ b) → IsOne (SaidBy Says)
one_said_by Says one a b x y = sym x.2 ∙ ap answer_said (one x.0 y.0 x.1 y.1) ∙ y.2

-- Answers to requests are determined

one_answer : (stack : Description) (start : State) (asked : List Asked) (request : NumberedRequest) (a b : List ℕ) → IsAnswer stack start asked request a → IsAnswer stack start asked request b → a ≡ b
one_answer stack start asked request a b is_a is_b =
    sym is_a.is ∙ ap (runs_text stack request.number) (one_runs is_a.runs is_b.runs is_a.maximal is_b.maximal (is_a.answers ∙ sym is_b.answers)) ∙ is_b.is

one_told : (stack : Description) (start : State) (asked : List Asked) (requests : List NumberedRequest) (a b : List ℕ) → AreAnswered stack start asked requests a → AreAnswered stack start asked requests b → a ≡ b
one_told stack start asked [] a b are_a are_b = sym are_a ∙ are_b
one_told stack start asked (request ∷ requests) a b (first, rest, is, are, whole) (first', rest', is', are', whole') =
    cc (one_answer stack start asked request first first' is is', one_told stack start (asked ++ asked_of stack request ∷ []) requests rest rest' are are', whole')

abbrev AreTop : Description → List NumberedRequest → Type 0
AreTop stack requests = AllByRecursion (λ request. HasTop stack request.values.device) requests

told_tops : (stack : Description) (start : State) (asked : List Asked) (requests : List NumberedRequest) (text : List ℕ) → AreAnswered stack start asked requests text → AreTop stack requests
told_tops stack start asked [] text are = tt
told_tops stack start asked (request ∷ requests) text (first, rest, is, are, whole) = (is.top, told_tops stack start (asked ++ asked_of stack request ∷ []) requests rest are)

-- Where a replay stops is determined

never_top : (stack : Description) (requests first later : List NumberedRequest) (last : NumberedRequest) → requests ≡ first ++ last ∷ later → AreTop stack requests → (HasTop stack last.values.device → ⊥) → ⊥
never_top stack requests first later last split tops none = in_midst first (subst (AreTop stack) split tops)
  where
    in_midst : (first : List NumberedRequest) → AreTop stack (first ++ last ∷ later) → ⊥
    in_midst [] tops = none tops.0
    in_midst (request ∷ first) tops = in_midst first tops.1

-- two splits of one list, each at the first request that is for no top device, are equal
same_front : (stack : Description) (first first' later later' : List NumberedRequest) (last last' : NumberedRequest) → first ++ last ∷ later ≡ first' ++ last' ∷ later'
    → AreTop stack first → AreTop stack first' → (HasTop stack last.values.device → ⊥) → (HasTop stack last'.values.device → ⊥) → (first ≡ first') × (last ≡ last')
same_front stack [] [] later later' last last' e tops tops' none none' = (refl, cc)
same_front stack [] (request ∷ first') later later' last last' e tops tops' none none' =
    let same : last ≡ request = cc in
    absurd (none (rw same tops'.0))
same_front stack (request ∷ first) [] later later' last last' e tops tops' none none' =
    let same : request ≡ last' = cc in
    absurd (none' (rw same at tops.0))
same_front stack (request ∷ first) (request' ∷ first') later later' last last' e tops tops' none none' =
    let same : request ≡ request' = cc in
    let rest : first ++ last ∷ later ≡ first' ++ last' ∷ later' = cc in
    let more = same_front stack first first' later later' last last' rest tops.1 tops'.1 none none' in
    (cc, more.1)

one_stop : (stack : Description) (start : State) (requests : List NumberedRequest) (number other : ℕ) (a b : List ℕ) → StopsAt (IsOfNone stack number) stack start [] requests a → StopsAt (IsOfNone stack other) stack start [] requests b
    → (number ≡ other) × (a ≡ b)
one_stop stack start requests number other a b is_a is_b =
    let same = same_front stack is_a.first is_b.first is_a.later is_b.later is_a.last is_b.last (sym is_a.split ∙ is_b.split)
    (told_tops stack start [] is_a.first a is_a.told) (told_tops stack start [] is_b.first b is_b.told) is_a.cause.none is_b.cause.none in (
      cc,
      one_told stack start [] is_b.first a b (rw same.0 at is_a.told) is_b.told,
    )

-- How a replay exits is determined

one_end : (stack : Description) (start : State) (requests : Requests) (a b : Exit) (x y : List ℕ) → IsPlain a → IsPlain b → IsPlayed stack start requests x a → IsPlayed stack start requests y b → (a ≡ b) × (x ≡ y)
one_end stack start requests a b x y plain plain' is is' = go a b plain plain' is is'
  where
    ran : (e : Ending) (text : List ℕ) → IsPlain (exits.Ended e) → IsPlayed stack start requests text (exits.Ended e) → IsWhole stack start requests text e
    ran WriteFault text plain is = absurd (plain.0 refl)
    ran e text plain is = is

    go : (a b : Exit) → IsPlain a → IsPlain b → IsPlayed stack start requests x a → IsPlayed stack start requests y b → (a ≡ b) × (x ≡ y)
    go (exits.Ended e) (exits.Ended e') plain plain' is is' =
        let a = ran e x plain is in let b = ran e' y plain' is' in
        let some : Some e ≡ Some e' = sym a.ends_so ∙ b.ends_so in
        (cc, one_told stack start [] requests.all x y a.told b.told)
    go (exits.Ended e) (exits.NotTop number) plain plain' is is' =
        let a = ran e x plain is in
        absurd (never_top stack requests.all is'.first is'.later is'.last is'.split (told_tops stack start [] requests.all x a.told) is'.cause.none)
    go (exits.NotTop number) (exits.Ended e') plain plain' is is' =
        let b = ran e' y plain' is' in
        absurd (never_top stack requests.all is.first is.later is.last is.split (told_tops stack start [] requests.all y b.told) is.cause.none)
    go (exits.NotTop number) (exits.NotTop other) plain plain' is is' =
        let same = one_stop stack start requests.all number other x y is is' in
        (ap exits.NotTop same.0, same.1)
    go exits.Memory b plain plain' is is' = absurd (plain.1 refl)
    go a exits.Memory plain plain' is is' = absurd (plain'.1 refl)
    go (exits.Refused refusal) b plain plain' is is' = absurd is
    go a (exits.Refused refusal) plain plain' is is' = absurd is'
    go (exits.Stopped stop) b plain plain' is is' = absurd is
    go a (exits.Stopped stop) plain plain' is is' = absurd is'

-- The answer of a replay is determined

-- a tidy stack has no two claims that clash
never_tidy : (stack : Description) (clash : Clash) → IsClash (claims stack) clash → IsTidy stack → ⊥
never_tidy stack clash is tidy = let never = one_clash (claims stack) None (Some clash) tidy is in absurd cc

-- an exit that flushes the output and isn't for lack of memory is a plain one
plain_of : (exit : Exit) (end : End) → is_flushed exit ≡ true → end ≡ end_of exit → end.status ≢ STATUS_MEMORY → IsPlain exit
plain_of exit end flag is settled = (λ five. let same = write_fault_is exit five in absurd cc, λ six. settled (ap (λ (e : End). e.status) is ∙ six))

one_of_stack : (stack : Description) (state : State) (requests : Delivery) → IsOneSettled (ReplaysStack stack state requests)
one_of_stack stack state requests (Tells a) (Tells b) such such' x y = ap Tells (x.0 ∙ sym y.0)
one_of_stack stack state requests (Tells a) (Writes text (Some b)) such such' x y = absurd (never_tidy stack x.1 x.2 y.0)
one_of_stack stack state requests (Writes text (Some a)) (Tells b) such such' x y = absurd (never_tidy stack y.1 y.2 x.0)
one_of_stack stack state requests (Writes text (Some a)) (Writes other (Some b)) such such' x y =
    let same = one_end stack state (requests_of requests) x.1 y.1 text other (plain_of x.1 a x.3 x.4 such) (plain_of y.1 b y.3 y.4 such') x.2 y.2 in
    let end : a ≡ b = x.4 ∙ ap end_of same.0 ∙ sym y.4 in
    rw (same.1, end) refl
one_of_stack stack state requests (Writes text None) b such such' x y = absurd such
one_of_stack stack state requests a (Writes text None) such such' x y = absurd such'

one_over : (begun : Start) (stack : Description) (requests : Delivery) → IsOneSettled (ReplaysOver begun stack requests)
one_over (start.Begins state) stack requests a b such such' x y = one_of_stack stack state requests a b such such' x y
one_over (start.Refuses message) stack requests a b such such' x y = x ∙ sym y
one_over start.Unsettled stack requests a b such such' x y = absurd x

-- The answer of every job is determined

-- a job that loads a source answers what it makes of the opening
pub job_loads : (job : JobWords) → is_loading job ≡ true → (Opens : Opening → Type 0) (starts : Description → Start) (reads : RangeWords → Description → Option Answer) (requests : Delivery) (answer : Answer) → Opened Opens (JobMakes job starts reads requests) answer → JobAnswers job Opens starts reads requests answer
job_loads (name_words parts) loading Opens starts reads requests answer opened = absurd cc
job_loads (split_words name) loading Opens starts reads requests answer opened = absurd cc
job_loads (explain_words text) loading Opens starts reads requests answer opened = absurd cc
job_loads job loading Opens starts reads requests answer opened = opened

one_made : (asked : JobWords) (starts : Description → Start) (reads : RangeWords → Description → Option Answer) (requests : Delivery) (stack : Description) → IsOneSettled (JobMakes asked starts reads requests stack)
one_made (print_words form from) starts reads requests stack a b such such' x y = one_said_by _ (λ c d p q. sym p ∙ q) a b x y
one_made (check_words from) starts reads requests stack a b such such' x y = one_said_by (ReportSays stack) (one_report_said stack) a b x y
one_made (replay_words from paths) starts reads requests stack a b such such' x y = one_over (starts stack) stack requests a b such such' x y
one_made (read_words from paths range) starts reads requests stack a b such such' x y = let some : Some a ≡ Some b = sym x ∙ y in cc
one_made asked starts reads requests stack a b such such' x y = absurd x

pub one_other : (asked : JobWords) (Opens : Opening → Type 0) → (is_loading asked ≡ true → (a b : Opening) → Opens a → Opens b → a ≡ b) → (starts : Description → Start) (reads : RangeWords → Description → Option Answer) (requests : Delivery) → IsOneSettled (JobAnswers asked Opens starts reads requests)
one_other (name_words parts) Opens one starts reads requests a b such such' x y = one_said_by _ (λ c d p q. sym p ∙ q) a b x y
one_other (split_words name) Opens one starts reads requests a b such such' x y = one_said_by (SplitSays name) (one_split_said name) a b x y
one_other (explain_words text) Opens one starts reads requests a b such such' x y = one_said_by _ (λ c d p q. sym p ∙ q) a b x y
one_other asked Opens one starts reads requests a b such such' x y = one_opened IsSettled Opens (one refl) (JobMakes asked starts reads requests) (one_made asked starts reads requests) a b such such' x y

-- a job that reads no requests has at most one answer, settled or not
one_stack : (asked : JobWords) (starts : Description → Start) (reads : RangeWords → Description → Option Answer) (requests : Delivery) → has_requests asked ≡ false → (stack : Description) → IsOne (JobMakes asked starts reads requests stack)
one_stack (print_words form from) starts reads requests none stack a b x y = one_said_by _ (λ c d p q. sym p ∙ q) a b x y
one_stack (check_words from) starts reads requests none stack a b x y = one_said_by (ReportSays stack) (one_report_said stack) a b x y
one_stack (replay_words from paths) starts reads requests none stack a b x y = absurd cc
one_stack (read_words from paths range) starts reads requests none stack a b x y = let some : Some a ≡ Some b = sym x ∙ y in cc
one_stack asked starts reads requests none stack a b x y = absurd x

pub one_printed : (asked : JobWords) (Opens : Opening → Type 0) → (is_loading asked ≡ true → (a b : Opening) → Opens a → Opens b → a ≡ b) → (starts : Description → Start) (reads : RangeWords → Description → Option Answer) (requests : Delivery) → has_requests asked ≡ false → IsOne (JobAnswers asked Opens starts reads requests)
one_printed (name_words parts) Opens one starts reads requests none a b x y = one_said_by _ (λ c d p q. sym p ∙ q) a b x y
one_printed (split_words name) Opens one starts reads requests none a b x y = one_said_by (SplitSays name) (one_split_said name) a b x y
one_printed (explain_words text) Opens one starts reads requests none a b x y = one_said_by _ (λ c d p q. sym p ∙ q) a b x y
one_printed asked Opens one starts reads requests none a b x y = one_opened (λ answer. Unit {0}) Opens (one refl) (JobMakes asked starts reads requests) (λ stack c d such such' p q. one_stack asked starts reads requests none stack c d p q) a b tt tt x y
