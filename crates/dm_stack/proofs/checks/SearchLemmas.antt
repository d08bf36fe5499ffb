-- The search of a graph: only what is reached is visited, and when nothing waits, all that is reached has been.
use Rattle.dm_stack.proofs.Prelude.{inl, inr, ℕ, zero, suc, Bool, true, false, not, cond, List, [], length, get_or, set, take, drop, replicate, Vec, sym, ap, ◌∙◌, true≢false, arith, get_or-set_other, get_or-set_same, Contains, cases_eq, take_more, take_all, take-append-le, length_push, length-map, length-replicate, Contains-append_left, Contains-push, Contains-push_cases, sum_by-set, links_in, links_of, Names, IsClosed, IsPath, Reaches, IsVisited, unvisited, Visits}
use Rattle.std.specs.Global.{Global}
use Rattle.dm_stack.proofs.checks.PathLemmas.{links_of-at, Reaches-named, Reaches-more}
use Rattle.std.specs.Prelude.{◌≡◌, ◌⊎◌, ◌+◌, ◌<◌, ◌∷◌, ◌++◌}

-- Marks of visited devices

IsVisited-below : (visited : List Bool) (d : ℕ) → IsVisited visited d → d < length visited
IsVisited-below [] d is = absurd cc
IsVisited-below (v ∷ vs) zero is = omega arith
IsVisited-below (v ∷ vs) (suc d) is = omega (arith, IsVisited-below vs d is)

IsVisited-none : (n d : ℕ) → IsVisited (replicate n false) d → ⊥
IsVisited-none (suc n) (suc d) is = IsVisited-none n d is
IsVisited-none n d is = absurd cc

marked_same : (visited : List Bool) (d : ℕ) → d < length visited → IsVisited (set visited d true) d
marked_same visited d below = get_or-set_same visited d true false below

marked_kept : (visited : List Bool) (d e : ℕ) → d < length visited → IsVisited visited e → IsVisited (set visited d true) e
marked_kept visited d e below is =
    elim (cases_eq e d) [ inl same ↦ rw same (marked_same visited d below) | inr other ↦ get_or-set_other visited d e true false other ∙ is ]

marked_only : (visited : List Bool) (d e : ℕ) → IsVisited (set visited d true) e → IsVisited visited e ⊎ (d ≡ e)
marked_only visited d e is = elim (cases_eq e d) [ inl same ↦ inr (sym same) | inr other ↦ inl (sym (get_or-set_other visited d e true false other) ∙ is) ]

marked_left : (visited : List Bool) (d : ℕ) → d < length visited → get_or visited d false ≡ false → unvisited (set visited d true) + 1 ≡ unvisited visited
marked_left visited d below fresh =
    let one : ◌≡◌ {A = ℕ} (cond (not (get_or visited d false)) 1 0) 1 = rw fresh in
    omega (arith, sum_by-set (λ b. cond (not b) 1 0) visited d true false below, one)

-- after a visit in place, the marks are those that the visit left
marks_whole : (n : ℕ) (after before : List Bool) → length after ≡ length before → n ≡ length before → take n (after ++ drop (length after) before) ≡ after
marks_whole n after before same is_n = take-append-le n after (drop (length after) before) (omega arith) ∙ take_all n after (omega arith)

-- One visit of the named devices

-- the next named device is visited already
skipped : (front : List ℕ) (x : ℕ) (before after : List Bool) (waited waits : List ℕ) → Visits front before after waited waits → IsVisited after x → Visits (front ++ x ∷ []) before after waited waits
skipped front x before after waited waits so_far is =
    let named : (e : ℕ) → Contains (front ++ x ∷ []) e → IsVisited after e = λ e there. elim (Contains-push_cases front x e there) [ inl earlier ↦ (so_far.marks e).1 (inr earlier) | inr same ↦ rw same at is ] in
    let only : (e : ℕ) → IsVisited after e → IsVisited before e ⊎ Contains (front ++ x ∷ []) e =
    λ e marked. elim ((so_far.marks e).0 marked) [ inl earlier ↦ inl earlier | inr there ↦ inr (Contains-append_left front (x ∷ []) e there) ] in
    record {
      marks = λ e. (only e, λ either. elim either [ inl earlier ↦ (so_far.marks e).1 (inl earlier) | inr there ↦ named e there ]);
      still = so_far.still;
      fresh = so_far.fresh;
      only = so_far.only;
      left = so_far.left;
    }

pub Visits-skip : (named : List ℕ) (i : ℕ) (before between after : List Bool) (waited waiting waits : List ℕ) → i < length named → Visits (take i named) before between waited waiting → IsVisited between (get_or named i 0) → after ≡ between
    → waits ≡ waiting → Visits (take (i + 1) named) before after waited waits
Visits-skip named i before between after waited waiting waits below so_far is after_is waits_is =
    let more = skipped (take i named) (get_or named i 0) before between waited waiting so_far is in
    rw (take_more named i 0 below, after_is, waits_is) more

-- the next named device is marked and waits
pushed : (front : List ℕ) (x : ℕ) (before after : List Bool) (waited waits : List ℕ) → Visits front before after waited waits → x < length after → get_or after x false ≡ false
    → Visits (front ++ x ∷ []) before (set after x true) waited (waits ++ x ∷ [])
pushed front x before after waited waits so_far inside unmarked =
    let here = marked_same after x inside in
    let keep : (e : ℕ) → IsVisited after e → IsVisited (set after x true) e = λ e is. marked_kept after x e inside is in
    let named : (e : ℕ) → Contains (front ++ x ∷ []) e → IsVisited (set after x true) e =
    λ e there. elim (Contains-push_cases front x e there) [ inl earlier ↦ keep e ((so_far.marks e).1 (inr earlier)) | inr same ↦ rw (← same) here ] in
    let only : (e : ℕ) → IsVisited (set after x true) e → IsVisited before e ⊎ Contains (front ++ x ∷ []) e = λ e is. elim (marked_only after x e is) [
      | inl earlier ↦ elim ((so_far.marks e).0 earlier) [ inl old ↦ inl old | inr there ↦ inr (Contains-append_left front (x ∷ []) e there) ]
      | inr same ↦ inr (rw (← same) (Contains-push front x))
    ] in
    record {
      marks = λ e. (only e, λ either. elim either [ inl earlier ↦ keep e ((so_far.marks e).1 (inl earlier)) | inr there ↦ named e there ]);
      still = λ e there. Contains-append_left waits (x ∷ []) e (so_far.still e there);
      fresh = λ e is. elim (marked_only after x e is) [
        | inl earlier ↦ elim (so_far.fresh e earlier) [ inl old ↦ inl old | inr there ↦ inr (Contains-append_left waits (x ∷ []) e there) ]
        | inr same ↦ inr (rw (← same) (Contains-push waits x))
      ];
      only = λ e there. elim (Contains-push_cases waits x e there) [
        | inl earlier ↦ elim (so_far.only e earlier) [ inl old ↦ inl old | inr is ↦ inr (keep e is) ]
        | inr same ↦ inr (rw (← same) here)
      ];
      left = omega (arith, marked_left after x inside unmarked, length_push waits x, so_far.left);
    }

pub Visits-push : (named : List ℕ) (i : ℕ) (before between after : List Bool) (waited waiting waits : List ℕ) → i < length named → Visits (take i named) before between waited waiting → get_or named i 0 < length between
    → get_or between (get_or named i 0) false ≡ false → after ≡ set between (get_or named i 0) true → waits ≡ waiting ++ get_or named i 0 ∷ [] → Visits (take (i + 1) named) before after waited waits
Visits-push named i before between after waited waiting waits below so_far inside unmarked after_is waits_is =
    let more = pushed (take i named) (get_or named i 0) before between waited waiting so_far inside unmarked in
    rw (take_more named i 0 below, after_is, waits_is) more

-- The whole search

-- the state of the search: visited devices are reached from d, and what they name is visited or they still wait
pub record Searched (g : List (List ℕ)) (d : ℕ) (visited : List Bool) (waiting : List ℕ) : Type 0 where
  pub size : length visited ≡ length g
  pub reached : (e : ℕ) → IsVisited visited e → Reaches g d e
  pub named : (e : ℕ) → Names g d e → IsVisited visited e
  pub waits : (e : ℕ) → Contains waiting e → IsVisited visited e
  pub looked : (e : ℕ) → IsVisited visited e → Contains waiting e ⊎ ((f : ℕ) → Names g e f → IsVisited visited f)

Searched-first : (g : List (List ℕ)) (d : ℕ) (after : List Bool) (waits : List ℕ) → length after ≡ length g → Visits (links_of g d) (replicate (length g) false) after [] waits → Searched g d after waits
Searched-first g d after waits size visit = record {
  size = size;
  reached = λ e is. elim ((visit.marks e).0 is) [ inl earlier ↦ absurd (IsVisited-none (length g) e earlier) | inr named ↦ Reaches-named g d e named ];
  named = λ e there. (visit.marks e).1 (inr there);
  waits = λ e there. elim (visit.only e there) [ inl earlier ↦ absurd (omega (arith, earlier.1)) | inr is ↦ is ];
  looked = λ e is. elim (visit.fresh e is) [ inl earlier ↦ absurd (IsVisited-none (length g) e earlier) | inr there ↦ inl there ];
}

-- the search after the last waiting device is looked at
Searched-next : (g : List (List ℕ)) (d next : ℕ) (before after : List Bool) (rest waits : List ℕ) → length after ≡ length g → Searched g d before (rest ++ next ∷ []) → Visits (links_of g next) before after rest waits → Searched g d after waits
Searched-next g d next before after rest waits size search visit =
    let kept : (e : ℕ) → IsVisited before e → IsVisited after e = λ e is. (visit.marks e).1 (inl is) in
    let next_named : (f : ℕ) → Names g next f → IsVisited after f = λ f there. (visit.marks f).1 (inr there) in
    record {
      size = size;
      reached = λ e is. elim ((visit.marks e).0 is) [ inl earlier ↦ search.reached e earlier | inr named ↦ Reaches-more g d next e (search.reached next (search.waits next (Contains-push rest next))) named ];
      named = λ e there. kept e (search.named e there);
      waits = λ e there. elim (visit.only e there) [ inl earlier ↦ kept e (search.waits e (Contains-append_left rest (next ∷ []) e earlier)) | inr is ↦ is ];
      looked = λ e is. elim (visit.fresh e is) [
        | inl earlier ↦ elim (search.looked e earlier) [
          | inl waited ↦ elim (Contains-push_cases rest next e waited) [
            | inl still ↦ inl (visit.still e still)
            | inr same ↦ inr (rw same at next_named)
          ]
          | inr closed ↦ inr (λ f there. kept f (closed f there))
        ]
        | inr there ↦ inl there
      ];
    }

-- when nothing waits, every device on a path from a visited one is visited
along : (g : List (List ℕ)) (d : ℕ) (visited : List Bool) → Searched g d visited [] → (x : ℕ) (between : List ℕ) (e : ℕ) → ((f : ℕ) → Names g x f → IsVisited visited f) → IsPath g x between e → IsVisited visited e
along g d visited search x [] e closed path = closed e path
along g d visited search x (m ∷ ms) e closed path =
    let onward : (f : ℕ) → Names g m f → IsVisited visited f = elim (search.looked m (closed m path.0)) [ inl waits ↦ absurd (omega (arith, waits.1)) | inr next ↦ next ] in
    along g d visited search m ms e onward path.1

-- the list at a device's index is what the device names
pub named_is : (links : List (Vec ℕ Global)) (d : ℕ) (named : Vec ℕ Global) (passed : List ℕ) → d < length links → named ≡ get_or links d named → passed ≡ named.items → passed ≡ links_of (links_in links) d
named_is links d named passed below is_named is_passed = is_passed ∙ sym (links_of-at links d named below is_named)

pub named_inside : (g : List (List ℕ)) (d n : ℕ) (passed : List ℕ) → IsClosed g → passed ≡ links_of g d → n ≡ length g → (e : ℕ) → Contains passed e → e < n
named_inside g d n passed closed is_passed is_n e there = omega (arith, closed d e (rw is_passed at there))

-- a waiting device is one of the graph's
pub Searched-below : (links : List (Vec ℕ Global)) (d next : ℕ) (marks : List Bool) (waited rest : List ℕ) → Searched (links_in links) d marks waited → waited ≡ rest ++ next ∷ [] → next < length links
Searched-below links d next marks waited rest search waited_is =
    let waits : Contains waited next = rw waited_is (Contains-push rest next) in
    omega (arith, IsVisited-below marks next (search.waits next waits), search.size, length-map links (λ v. v.items))

-- when nothing waits, a device that isn't marked isn't reached
pub Searched-none : (g : List (List ℕ)) (d : ℕ) (visited : List Bool) (waiting : List ℕ) (read : Bool) → Searched g d visited waiting → waiting ≡ [] → read ≡ get_or visited d read → read ≡ false → Reaches g d d → ⊥
Searched-none g d visited waiting read search none is_read unread reaches =
    let at_end : Searched g d visited [] = rw (← none) search in
    let is : IsVisited visited d = along g d visited at_end d reaches.between d at_end.named reaches.path in
    let not_is : get_or visited d false ≡ false = sym (rw unread at is_read) in
    absurd (true≢false (sym is ∙ not_is))

-- the search after its first visit, made in place over all marks
pub Searched-begun : (g : List (List ℕ)) (d n m : ℕ) (named : List ℕ) (marks passed after : List Bool) (none waits : List ℕ) → named ≡ links_of g d → m ≡ length g → marks ≡ replicate m false → passed ≡ marks → none ≡ [] → n ≡ length marks
    → length after ≡ length passed → Visits named passed after none waits → Searched g d (take n (after ++ drop (length after) marks)) waits
Searched-begun g d n m named marks passed after none waits named_is m_is marks_are passed_is none_is n_is same visit =
    let as_marks : length after ≡ length marks = same ∙ ap length passed_is in
    let size : length after ≡ length g = as_marks ∙ ap length marks_are ∙ length-replicate m false ∙ m_is in
    let first : Visits (links_of g d) (replicate (length g) false) after [] waits = rw (← named_is, ← m_is, ← marks_are, ← passed_is, ← none_is) visit in
    rw (marks_whole n after marks as_marks n_is) (Searched-first g d after waits size first)

-- the search after each later visit, made in place
pub Searched-on : (g : List (List ℕ)) (d next n : ℕ) (named : List ℕ) (marks passed after : List Bool) (waited rest waits : List ℕ) → named ≡ links_of g next → passed ≡ marks → n ≡ length marks → waited ≡ rest ++ next ∷ [] → length after ≡ length passed
    → Searched g d marks waited → Visits named passed after rest waits → Searched g d (take n (after ++ drop (length after) marks)) waits
Searched-on g d next n named marks passed after waited rest waits named_is passed_is n_is waited_is same search visit =
    let as_marks : length after ≡ length marks = same ∙ ap length passed_is in
    let from : Searched g d marks (rest ++ next ∷ []) = rw (← waited_is) search in
    let onward : Visits (links_of g next) marks after rest waits = rw (← named_is, ← passed_is) visit in
    rw (marks_whole n after marks as_marks n_is) (Searched-next g d next marks after rest waits (as_marks ∙ search.size) from onward)
