-- The runs after one more chunk is taken: one run is longer, or there is a new one.
use Rattle.dm_map.proofs.Prelude.{ℕ, suc, Bool, true, false, List, [], Option, Some, None, length, get_or, set, nat_eq, refl, ◌∙◌, inl, inr, arith, get_or-set_same, get_or-set_other, IsDistinct, insert, cases_eq, cases_lt, cases_order, eq-eqb, ne_eqb, get_or_append_left, get_or_push, length-set, length_push, get_or-insert_above, get_or-insert_at, get_or-insert_below, length-insert, Run, AreBegunBy, AreRuns, GoesOn, IsRun, begins, no_run, run_at, run_count, runs_after, number_in}
use Rattle.dm_map.specs.state.Runs.{end_of}
use Rattle.dm_map.proofs.state.Numbers.{number_distinct, number_other}
use Rattle.dm_map.proofs.state.RunLemmas.{begins_after, ended_before, ends_before, number_in_run}
use Rattle.std.specs.Prelude.{◌≡◌, ◌+◌, ◌-◌, ◌<◌, ◌≤◌, ◌∷◌, ◌++◌, if◌then◌else◌}

-- Whether a chunk starts a run

last_after : (before : Option ℕ) → List ℕ → Option ℕ
last_after before [] = before
last_after before (chunk ∷ rest) = last_after (Some chunk) rest

last_at : (before : Option ℕ) (first : ℕ) (rest : List ℕ) → last_after before (first ∷ rest) ≡ Some (get_or (first ∷ rest) (length rest) 0)
unfolding last_after
last_at before first [] = refl
last_at before first (next ∷ rest) = last_at (Some first) next rest

runs_push : (before : Option ℕ) (chunks : List ℕ) (chunk : ℕ) → runs_after before (chunks ++ chunk ∷ []) ≡ runs_after before chunks + (if begins (last_after before chunks) chunk then 1 else 0)
unfolding last_after
runs_push before [] chunk = omega arith
runs_push before (x ∷ chunks) chunk = let rest = runs_push (Some x) chunks chunk in omega (arith, rest)

-- a chunk that continues no run starts a new one
begins_new : (runs : List Run) (chunks : List ℕ) (chunk : ℕ) → AreRuns runs chunks → IsDistinct nat_eq chunks → ((i : ℕ) → i < length runs → GoesOn (run_at runs i) chunk (length chunks) → ⊥) → begins (last_after None chunks) chunk ≡ true
unfolding last_after
begins_new runs [] chunk kept distinct none = refl
begins_new runs (first ∷ rest) chunk kept distinct none =
    let chunks = first ∷ rest in
    let last = get_or chunks (length rest) 0 in
    let number = number_distinct chunks (length rest) 0 distinct (omega arith) in
    let apart : last + 1 ≡ chunk → ⊥ = λ e.
    let missed = kept.all last (λ i within from. elim (cases_lt last (end_of (run_at runs i))) [
      | inl inside ↦
          let each = kept.each i within in
          let found = number_in_run chunks (run_at runs i) last each distinct from inside in
          let at : (run_at runs i).number + (last - (run_at runs i).first) ≡ length rest = cc in
          absurd (none i within (omega (arith, e, from, inside, at, each.within), omega (arith, from, inside, at, each.within)))
      | inr out ↦ out
    ]) in
    absurd cc in
    rw (last_at None first rest, ne_eqb (last + 1) chunk apart) refl

goes_on_there : (chunks : List ℕ) (run : Run) (chunk : ℕ) → IsRun chunks run → GoesOn run chunk (length chunks) → begins (last_after None chunks) chunk ≡ false
goes_on_there [] run chunk each on = absurd (omega (arith, each.some, on.1))
goes_on_there (first ∷ rest) run chunk each on =
    let number : run.number + (run.len - 1) ≡ length rest = omega (arith, each.some, on.1) in
    let last = rw number at (each.its_own (run.len - 1) (omega (arith, each.some))) in
    rw (last_at None first rest, last, eq-eqb (run.first + (run.len - 1) + 1) chunk (omega (arith, each.some, on.0))) refl

-- a run stays one when another chunk is taken
run_still : (chunks : List ℕ) (chunk : ℕ) (run : Run) → IsRun chunks run → IsRun (chunks ++ chunk ∷ []) run
run_still chunks chunk run each =
    record {
      some = each.some;
      within = omega (arith, each.within, length_push chunks chunk);
      its_own = λ offset inside. get_or_append_left chunks (chunk ∷ []) 0 (run.number + offset) (omega (arith, each.within, inside)) ∙ each.its_own offset inside;
    }

-- Inserting a new run

-- a run after the inserted one has an index higher by one
moved : (runs : List Run) (at i : ℕ) (run : Run) → at ≤ length runs → at < i → run_at (insert runs at run) i ≡ run_at runs (i - 1)
moved runs at i run room above =
    let k : i - 1 + 1 ≡ i = omega (arith, above) in
    rw k at (get_or-insert_above runs at run no_run (i - 1) (omega (arith, above)) room)

rising_inserted : (runs : List Run) (chunks : List ℕ) (chunk begun number : ℕ) → AreRuns runs chunks → AreBegunBy runs chunk begun → (0 < begun → end_of (run_at runs (begun - 1)) ≤ chunk)
    → (i j : ℕ) → i < j → j < length runs + 1 → end_of (run_at (insert runs begun (record { first = chunk; number = number; len = 1 })) i) ≤ (run_at (insert runs begun (record { first = chunk; number = number; len = 1 })) j).first
rising_inserted runs chunks chunk begun number kept by ended i j less within =
    let run : Run = record { first = chunk; number = number; len = 1 } in
    let room = by.within in
    let at = get_or-insert_at runs begun run no_run room in
    elim (cases_order i begun) [
      | inl is ↦
          let later = begins_after runs chunks chunk begun (j - 1) kept by (omega (arith, is, less)) (omega (arith, is, less, within)) in
          rw (is, at, moved runs begun j run room (omega (arith, is, less))) (omega (arith, later))
      | inr (inl below) ↦
          let end = ends_before runs chunks chunk begun i kept by ended below in
          rw (get_or-insert_below runs begun run no_run i below room) (
          elim (cases_order j begun) [
            | inl is ↦ rw (is, at) end
            | inr (inl both) ↦ rw (get_or-insert_below runs begun run no_run j both room) (kept.rising i j less (omega (arith, both, room)))
            | inr (inr above) ↦
                let later = begins_after runs chunks chunk begun (j - 1) kept by (omega (arith, above)) (omega (arith, above, within)) in
                rw (moved runs begun j run room above) (omega (arith, end, later))
          ])
      | inr (inr above) ↦
          rw (moved runs begun i run room above, moved runs begun j run room (omega (arith, above, less))) (kept.rising (i - 1) (j - 1) (omega (arith, above, less)) (omega (arith, above, less, within)))
    ]

pub takes_new : (runs : List Run) (chunks : List ℕ) (chunk begun : ℕ) → AreRuns runs chunks → IsDistinct nat_eq chunks → AreBegunBy runs chunk begun → number_in chunk chunks ≡ None → (0 < begun → GoesOn (run_at runs (begun - 1)) chunk (length chunks) → ⊥) → run_count chunks ≡ length runs
    → AreRuns (insert runs begun (record { first = chunk; number = length chunks; len = 1 })) (chunks ++ chunk ∷ []) × (run_count (chunks ++ chunk ∷ []) ≡ length runs + 1)
takes_new runs chunks chunk begun kept distinct by fresh apart counted =
    let run : Run = record { first = chunk; number = length chunks; len = 1 } in
    let ended = ended_before runs chunks chunk begun kept distinct by fresh in
    let room = by.within in
    let long = length-insert runs begun run room in
    let there = get_or-insert_at runs begun run no_run room in
    let none : (i : ℕ) → i < length runs → GoesOn (run_at runs i) chunk (length chunks) → ⊥ = λ i within on.
    let each = kept.each i within in
    elim (cases_lt i (begun - 1)) [
      | inl less ↦
          let next = kept.rising i (begun - 1) less (omega (arith, less, room)) in
          let some = (kept.each (begun - 1) (omega (arith, less, room))).some in
          let end = ended (omega (arith, less)) in
          omega (arith, next, some, end, on.0)
      | inr more ↦
          elim (cases_lt i begun) [
            | inl below ↦ let is : i ≡ begun - 1 = omega (arith, more, below) in apart (omega (arith, below)) (rw is at on)
            | inr above ↦ let later = begins_after runs chunks chunk begun i kept by above within in omega (arith, later, on.0)
          ]
    ] in (
      record {
        each = λ i within. elim (cases_order i begun) [
          | inl is ↦ rw (is, there) (record {
            some = omega arith;
            within = omega (arith, length_push chunks chunk);
            its_own = λ offset inside. get_or_push chunks chunk 0 (length chunks + offset) (omega (arith, inside)) ∙ (let e : chunk ≡ chunk + offset = omega (arith, inside) in e);
          })
          | inr (inl below) ↦ rw (get_or-insert_below runs begun run no_run i below room) (run_still chunks chunk (run_at runs i) (kept.each i (omega (arith, below, room))))
          | inr (inr above) ↦ rw (moved runs begun i run room above) (run_still chunks chunk (run_at runs (i - 1)) (kept.each (i - 1) (omega (arith, above, within, long))))
        ];
        all = λ other out. number_other other chunk chunks (kept.all other (λ i within. elim (cases_lt i begun) [
          | inl below ↦ rw (get_or-insert_below runs begun run no_run i below room) at (out i (omega (arith, within, long)))
          | inr from ↦ rw (get_or-insert_above runs begun run no_run i from room) at (out (i + 1) (omega (arith, within, long)))
        ])) (λ e. let past = rw there at (out begun (omega (arith, room, long))) in omega (arith, past, e));
        rising = λ i j less within. rising_inserted runs chunks chunk begun (length chunks) kept by ended i j less (omega (arith, within, long));
      },
      rw (runs_push None chunks chunk, begins_new runs chunks chunk kept distinct none) (omega (arith, counted)),
    )

-- Lengthening a run

rising_longer : (runs : List Run) (chunks : List ℕ) (chunk begun : ℕ) (new : Run) → AreRuns runs chunks → AreBegunBy runs chunk begun → 0 < begun → new.first ≡ (run_at runs (begun - 1)).first → end_of new ≡ chunk + 1
    → (i j : ℕ) → i < j → j < length runs → end_of (run_at (set runs (begun - 1) new) i) ≤ (run_at (set runs (begun - 1) new) j).first
rising_longer runs chunks chunk begun new kept by some first end i j less within =
    let there : begun - 1 < length runs = omega (arith, some, by.within) in
    let old = kept.rising i j less within in
    elim (cases_eq i (begun - 1)) [
      | inl is ↦
          let later = begins_after runs chunks chunk begun j kept by (omega (arith, is, less)) within in
          rw (is, get_or-set_same runs (begun - 1) new no_run there, get_or-set_other runs (begun - 1) j new no_run (λ e. omega (arith, e, is, less))) (omega (arith, end, later))
      | inr other ↦
          rw (get_or-set_other runs (begun - 1) i new no_run other) (
          elim (cases_eq j (begun - 1)) [
            | inl is ↦ let same : end_of (run_at runs i) ≤ (run_at runs (begun - 1)).first = rw is at old in rw (is, get_or-set_same runs (begun - 1) new no_run there, first) same
            | inr differs ↦ rw (get_or-set_other runs (begun - 1) j new no_run differs) old
          ])
    ]

pub takes_next : (runs : List Run) (chunks : List ℕ) (chunk begun : ℕ) (new : Run) → AreRuns runs chunks → AreBegunBy runs chunk begun → 0 < begun → GoesOn (run_at runs (begun - 1)) chunk (length chunks) → run_count chunks ≡ length runs
    → new.first ≡ (run_at runs (begun - 1)).first → new.number ≡ (run_at runs (begun - 1)).number → new.len ≡ (run_at runs (begun - 1)).len + 1 → AreRuns (set runs (begun - 1) new) (chunks ++ chunk ∷ []) × (run_count (chunks ++ chunk ∷ []) ≡ length runs)
takes_next runs chunks chunk begun new kept by some on counted first from long =
    let at = begun - 1 in
    let run = run_at runs at in
    let there : at < length runs = omega (arith, some, by.within) in
    let each = kept.each at there in
    let long_as = length-set runs at new in
    let here = get_or-set_same runs at new no_run there in (
      record {
        each = λ i within. elim (cases_eq i at) [
          | inl is ↦ rw (is, here) (record {
            some = omega (arith, long);
            within = omega (arith, from, long, on.1, length_push chunks chunk);
            its_own = λ offset inside. let number : new.number + offset ≡ run.number + offset = omega (arith, from) in
                let sum : run.first + offset ≡ new.first + offset = omega (arith, first) in
                rw (number, ← sum) (elim (cases_lt offset run.len) [
                  | inl less ↦ (run_still chunks chunk run each).its_own offset less
                  | inr more ↦ get_or_push chunks chunk 0 (run.number + offset) (omega (arith, more, inside, long, on.1)) ∙ (let e : chunk ≡ run.first + offset = omega (arith, more, inside, long, on.0) in e)
                ]);
          })
          | inr other ↦ rw (get_or-set_other runs at i new no_run other) (run_still chunks chunk (run_at runs i) (kept.each i (omega (arith, within, long_as))))
        ];
        all = λ other out.
            let past = rw here at (out at (omega (arith, there, long_as))) in
            number_other other chunk chunks (kept.all other (λ i within begun. elim (cases_eq i at) [
              | inl is ↦ let begun = rw is at begun in rw is (let ends = past (omega (arith, first, begun)) in omega (arith, ends, first, long))
              | inr apart ↦ (rw (get_or-set_other runs at i new no_run apart) at (out i (omega (arith, within, long_as)))) begun
            ])) (λ e. let ends = past (omega (arith, first, e, on.0)) in omega (arith, ends, first, long, on.0, e));
        rising = λ i j less within. rising_longer runs chunks chunk begun new kept by some first (omega (arith, first, long, on.0)) i j less (omega (arith, within, long_as));
      },
      rw (runs_push None chunks chunk, goes_on_there chunks run chunk each on) (omega (arith, counted)),
    )

-- There are at most as many runs as chunks

few_more : (b : Bool) (m n : ℕ) → m ≤ n → (if b then 1 else 0) + m ≤ suc n
few_more true m n few = omega (arith, few)
few_more false m n few = omega (arith, few)

pub few_runs : (before : Option ℕ) (chunks : List ℕ) → runs_after before chunks ≤ length chunks
few_runs before [] = omega arith
few_runs before (chunk ∷ chunks) = few_more (begins before chunk) (runs_after (Some chunk) chunks) (length chunks) (few_runs (Some chunk) chunks)
