-- The ways that look-ups of chunks take through a trie.
use Rattle.dm_map.proofs.Prelude.{ℕ, Bool, zero, suc, true, false, List, [], Some, None, cond, length, get_or, replicate, set, nat_eq, refl, sym, ap, subst, ◌∙◌, inl, inr, arith, w64, bit_at, trailing_zeros, bit_xor, AllByRecursion, IsDistinct, list_any, ∥∥₁_elim, cases_eq, cases_lt, eq-eqb, eqb-true, false_from_ne_true, le-ltb, leb-true, lt-ltb, ne_eqb, or_cases, or_parts, get_or_append_left, get_or_push, get_or_read, get_or-replicate, get_or-set_other, get_or-set_same, length-replicate, length-set, length_push, nat_le, nat_lt, IsDistinct-cons, length-le_from_distinct_below, and_le_r, xor_lt, bit_at-lt, bit_at-trailing_zeros, bit_at-zero, bit_at_xor, same_from_bits, number_in, Empty, Number, Fork, Agree, AreInOwnSlots, Fits, HasMarks, IsFork, IsNumber, IsSide, IsTrie, Marks, chunk_at, end_of, is_fork, next_at, node_at, slot_of, way}
use Rattle.std.proofs.Props.{props}
use Rattle.dm_map.proofs.state.Numbers.{number_distinct}
use Rattle.dm_map.specs.declared.state.trie_taken.link.Node.{Node}
use Rattle.dm_map.specs.declared.state.trie_taken.TrieTaken.{TrieTaken}
use Rattle.dm_map.specs.declared.state.trie_taken.slots.Slots.{Slots}
use Rattle.std.specs.Prelude.{◌≡◌, ◌+◌, ◌-◌, ◌%◌, ◌^◌, ◌<◌, ◌≤◌, ◌∷◌, ◌++◌, ◌⊎◌}

-- Steps of a way

pub way-zero : (nodes : List Node) (chunk start : ℕ) → way nodes chunk start 0 ≡ start
unfolding way
way-zero nodes chunk start = refl

pub way-suc : (nodes : List Node) (chunk start steps : ℕ) → way nodes chunk start (suc steps) ≡ next_at chunk (way nodes chunk start steps) (node_at nodes (way nodes chunk start steps))
unfolding way
way-suc nodes chunk start steps = refl

pub next_stays : (chunk at : ℕ) (node : Node) → is_fork node ≡ false → next_at chunk at node ≡ at
next_stays chunk at (Fork bit pair) not_there = absurd cc
next_stays chunk at _ not_there = refl

stays_for : (nodes : List Node) (chunk start steps more : ℕ) → is_fork (node_at nodes (way nodes chunk start steps)) ≡ false → way nodes chunk start (steps + more) ≡ way nodes chunk start steps
stays_for nodes chunk start steps zero not_there = let e : steps + 0 ≡ steps = omega arith in ap (way nodes chunk start) e
stays_for nodes chunk start steps (suc more) not_there =
    let e : steps + suc more ≡ suc (steps + more) = omega arith in
    let before = stays_for nodes chunk start steps more not_there in
    cc (way-suc nodes chunk start (steps + more), next_stays chunk (way nodes chunk start steps) _ not_there)

-- a way ends where there is no fork: further steps don't change it
pub stays : (nodes : List Node) (chunk start steps all : ℕ) → steps ≤ all → is_fork (node_at nodes (way nodes chunk start steps)) ≡ false → way nodes chunk start all ≡ way nodes chunk start steps
stays nodes chunk start steps all few not_there =
    let e : all ≡ steps + (all - steps) = omega (arith, few) in
    ap (way nodes chunk start) e ∙ stays_for nodes chunk start steps (all - steps) not_there

-- The bits that are tested on a way

all_other : (bit : ℕ) (bits : List ℕ) → list_any (nat_eq bit) bits ≡ false → AllByRecursion (λ y. nat_eq bit y ≡ false) bits
all_other bit [] not_there = tt
all_other bit (x ∷ bits) not_there = let parts = or_parts (nat_eq bit x) (list_any (nat_eq bit) bits) not_there in (parts.0, all_other bit bits parts.1)

distinct_cons : (bit : ℕ) (bits : List ℕ) → list_any (nat_eq bit) bits ≡ false → IsDistinct nat_eq bits → IsDistinct nat_eq (bit ∷ bits)
distinct_cons bit bits not_there distinct = IsDistinct-cons nat_eq bit bits (all_other bit bits not_there) distinct

small_cons : (first : ℕ) (bits : List ℕ) → first < 64 → ((bit : ℕ) → list_any (nat_eq bit) bits ≡ true → bit < 64) → (bit : ℕ) → list_any (nat_eq bit) (first ∷ bits) ≡ true → bit < 64
small_cons first bits here small bit there = elim (or_cases (nat_eq bit first) (list_any (nat_eq bit) bits) there) [
  | inl is ↦ omega (arith, eqb-true bit first is, here)
  | inr later ↦ small bit later
]

pub agree_cons : (first : ℕ) (bits : List ℕ) (chunk other : ℕ) → bit_at chunk first ≡ bit_at other first → Agree bits chunk other → Agree (first ∷ bits) chunk other
agree_cons first bits chunk other here agree bit there = elim (or_cases (nat_eq bit first) (list_any (nat_eq bit) bits) there) [
  | inl is ↦ let e = eqb-true bit first is in ap (bit_at chunk) e ∙ here ∙ ap (bit_at other) (sym e)
  | inr later ↦ agree bit later
]

-- a chunk's slot is one of the table's
slot_low : (table : Slots) (chunk : ℕ) → slot_of table chunk ≤ table.mask
slot_low table chunk = by_test (nat_le chunk table.mask) refl where
  by_test : (own : Bool) → nat_le chunk table.mask ≡ own → slot_of table chunk ≤ table.mask
  by_test true own = rw own (leb-true chunk table.mask own)
  by_test false own = rw own (and_le_r _ table.mask)

-- what is known after some steps of a chunk's way: where it is, and which bits were tested
pub record OnWay (nodes : List Node) (marks : Marks) (chunk at steps : ℕ) : Type 0 where
  pub within : at < length nodes
  pub distinct : IsDistinct nat_eq (marks.tested at)
  pub small : (bit : ℕ) → list_any (nat_eq bit) (marks.tested at) ≡ true → bit < 64
  pub agree : Agree (marks.tested at) chunk (marks.like at)
  pub count : is_fork (node_at nodes at) ≡ true → length (marks.tested at) ≡ steps

on_start : (chunks : List ℕ) (nodes : List Node) (table : Slots) (trie : HasMarks chunks nodes table) → table.mask < length nodes → (chunk : ℕ) → OnWay nodes trie.marks chunk (slot_of table chunk) 0
unfolding IsDistinct
on_start chunks nodes table trie slots chunk =
    let at = slot_of table chunk in
    let low : at ≤ table.mask = slot_low table chunk in
    let none : trie.marks.tested at ≡ [] = trie.start at low in
    record {
      within = omega (arith, low, slots);
      distinct = rw none tt;
      small = λ bit there. let not_there : false ≡ true = rw none at there in absurd cc;
      agree = λ bit there. let not_there : false ≡ true = rw none at there in absurd cc;
      count = λ _. ap length none;
    }

on_next : (chunks : List ℕ) (nodes : List Node) (marks : Marks) (chunk at steps : ℕ) (node : Node) → node_at nodes at ≡ node → Fits marks chunks (length nodes) at node → OnWay nodes marks chunk at steps → OnWay nodes marks chunk (next_at chunk at node) (suc steps)
on_next chunks nodes marks chunk at steps (Fork bit pair) is fits here =
    let value = bit_at chunk bit in
    let below : value < 2 = bit_at-lt chunk bit in
    let side = fits.sides value below in
    let distinct : IsDistinct nat_eq (bit ∷ marks.tested at) = distinct_cons bit (marks.tested at) fits.fresh here.distinct in
    let agree : Agree (bit ∷ marks.tested at) chunk (marks.like (pair + value)) =
    agree_cons bit (marks.tested at) chunk (marks.like (pair + value)) (sym side.parted) (λ other there. here.agree other there ∙ sym (side.agree other there)) in
    record {
      within = omega (arith, fits.within, below);
      distinct = subst (IsDistinct nat_eq) (sym side.tested) distinct;
      small = λ other there. small_cons bit (marks.tested at) fits.small here.small other (rw side.tested at there);
      agree = rw side.tested agree;
      count = λ _. ap length side.tested ∙ ap suc (here.count (ap is_fork is));
    }
on_next chunks nodes marks chunk at steps _ is fits here = record { within = here.within; distinct = here.distinct; small = here.small; agree = here.agree; count = λ fork. let not_there : false ≡ true = sym (ap is_fork is) ∙ fork in absurd cc }

pub on_way : (chunks : List ℕ) (nodes : List Node) (table : Slots) (trie : HasMarks chunks nodes table) → table.mask < length nodes → (chunk steps : ℕ) → OnWay nodes trie.marks chunk (way nodes chunk (slot_of table chunk) steps) steps
on_way chunks nodes table trie slots chunk zero = rw (way-zero nodes chunk (slot_of table chunk)) (on_start chunks nodes table trie slots chunk)
on_way chunks nodes table trie slots chunk (suc steps) =
    let at = way nodes chunk (slot_of table chunk) steps in
    let here = on_way chunks nodes table trie slots chunk steps in
    rw (way-suc nodes chunk (slot_of table chunk) steps) (on_next chunks nodes trie.marks chunk at steps (node_at nodes at) refl (trie.fits at here.within) here)

-- at a fork there is a bit of the chunk left to test
pub record Ahead (nodes : List Node) (steps bit pair : ℕ) : Type 0 where
  pub few : steps < 64
  pub small : bit < 64
  pub within : pair + 1 < length nodes

pub ahead : (chunks : List ℕ) (nodes : List Node) (table : Slots) (chunk steps bit pair : ℕ) → HasMarks chunks nodes table → table.mask < length nodes → node_at nodes (way nodes chunk (slot_of table chunk) steps) ≡ Fork bit pair → Ahead nodes steps bit pair
ahead chunks nodes table chunk steps bit pair trie slots is =
    let at = way nodes chunk (slot_of table chunk) steps in
    let here = on_way chunks nodes table trie slots chunk steps in
    let fits : IsFork trie.marks (length nodes) at bit pair = subst (Fits trie.marks chunks (length nodes) at) is (trie.fits at here.within) in
    let most = length-le_from_distinct_below (bit ∷ trie.marks.tested at) 64 (distinct_cons bit (trie.marks.tested at) fits.fresh here.distinct) (small_cons bit (trie.marks.tested at) fits.small here.small) in
    record { few = omega (arith, here.count (ap is_fork is), most); small = fits.small; within = fits.within }

pub no_fork : (node : Node) → ((bit pair : ℕ) → node ≡ Fork bit pair → ⊥) → is_fork node ≡ false
no_fork (Fork bit pair) not_there = absurd (not_there bit pair refl)
no_fork _ not_there = refl

-- if a chunk's way ends at a number, it is the number of a taken chunk, and the only one that the chunk can have
number_on : (chunks : List ℕ) (nodes : List Node) (table : Slots) (trie : HasMarks chunks nodes table) → table.mask < length nodes → (chunk number : ℕ) → node_at nodes (end_of nodes table chunk) ≡ Number number → IsNumber trie.marks chunks (end_of nodes table chunk) number
number_on chunks nodes table trie slots chunk number is =
    let at = end_of nodes table chunk in
    let here = on_way chunks nodes table trie slots chunk 64 in
    subst (Fits trie.marks chunks (length nodes) at) is (trie.fits at here.within)

-- a chunk that is at no index of the list has no number
number_absent : (chunk : ℕ) (chunks : List ℕ) → ((number : ℕ) → number < length chunks → chunk_at chunks number ≡ chunk → ⊥) → number_in chunk chunks ≡ None
number_absent chunk [] none = refl
number_absent chunk (first ∷ chunks) none =
    rw (ne_eqb first chunk (none 0 (omega arith)), number_absent chunk chunks (λ number within is. none (suc number) (omega (arith, within)) is)) refl

-- a chunk that has no number differs from every taken chunk
pub fresh_apart : (xs : List ℕ) (i chunk : ℕ) → IsDistinct nat_eq xs → i < length xs → number_in chunk xs ≡ None → get_or xs i 0 ≡ chunk → ⊥
fresh_apart xs i chunk distinct within none is =
    let found = number_distinct xs i 0 distinct within in absurd cc

-- A trie without chunks

pub no_trie : (slots : ℕ) (table : Slots) → IsTrie [] (replicate slots Empty) table
no_trie slots table =
    record {
      marked = record {
        marks = record { tested = λ _. []; like = λ _. 0 };
        start = λ _ _. refl;
        fits = λ at within. subst (Fits (record { tested = λ _. []; like = λ _. 0 }) [] (length (replicate slots Empty)) at) (sym (get_or-replicate slots at Empty Empty (omega (arith, within, length-replicate slots Empty)))) tt;
      };
      ends = λ number within. absurd (omega (arith, within));
    }

-- Taking a chunk

-- replacing a node that isn't a fork by another that isn't changes no chunk's way
put_way : (nodes after : List Node) (here : ℕ) → is_fork (node_at nodes here) ≡ false → is_fork (node_at after here) ≡ false → ((at : ℕ) → (at ≡ here → ⊥) → node_at after at ≡ node_at nodes at)
    → (chunk start steps : ℕ) → way after chunk start steps ≡ way nodes chunk start steps
put_way nodes after here before now others chunk start zero = way-zero after chunk start ∙ sym (way-zero nodes chunk start)
put_way nodes after here before now others chunk start (suc steps) =
    let at = way nodes chunk start steps in
    let same = put_way nodes after here before now others chunk start steps in
    let next : next_at chunk at (node_at after at) ≡ next_at chunk at (node_at nodes at) = elim (cases_eq at here) [
      | inl is ↦ next_stays chunk at (node_at after at) (cc) ∙ sym (next_stays chunk at (node_at nodes at) cc)
      | inr other ↦ ap (next_at chunk at) (others at other)
    ] in
    cc (way-suc after chunk start steps, way-suc nodes chunk start steps)

-- what the marks say of a node still holds when the list has one more chunk
chunk_before : (chunks : List ℕ) (chunk number : ℕ) → number < length chunks → chunk_at (chunks ++ chunk ∷ []) number ≡ chunk_at chunks number
chunk_before chunks chunk number within = get_or_append_left chunks (chunk ∷ []) 0 number within

chunk_last : (chunks : List ℕ) (chunk : ℕ) → chunk_at (chunks ++ chunk ∷ []) (length chunks) ≡ chunk
chunk_last chunks chunk = get_or_push chunks chunk 0 (length chunks) refl

-- numbers at the indexes that equal their chunks
pub none_own : (slots : ℕ) → AreInOwnSlots [] (replicate slots Empty)
none_own slots at number within is =
    let nothing : Empty ≡ Number number = sym (get_or-replicate slots at Empty Empty (omega (arith, within, length-replicate slots Empty))) ∙ is in absurd cc

pub put_own : (chunks : List ℕ) (nodes : List Node) (at chunk : ℕ) → at ≡ chunk → at < length nodes → AreInOwnSlots chunks nodes → AreInOwnSlots (chunks ++ chunk ∷ []) (set nodes at (Number (length chunks)))
put_own chunks nodes at chunk same inside own slot number within is =
    let node = Number (length chunks) in
    elim (cases_eq slot at) [
      | inl here ↦
          let new : Number (length chunks) ≡ Number number = sym (get_or-set_same nodes at node Empty inside) ∙ ap (node_at (set nodes at node)) (sym here) ∙ is in
          let e : length chunks ≡ number = cc in
          (omega (arith, length_push chunks chunk, e), ap (chunk_at (chunks ++ chunk ∷ [])) (sym e) ∙ chunk_last chunks chunk ∙ sym same ∙ sym here)
      | inr other ↦
          let old = own slot number (omega (arith, within, length-set nodes at node)) (sym (get_or-set_other nodes at slot node Empty other) ∙ is) in
          (omega (arith, old.0, length_push chunks chunk), chunk_before chunks chunk number old.0 ∙ old.1)
    ]

agree_moved : (bits now : List ℕ) (x y z w : ℕ) → now ≡ bits → z ≡ x → w ≡ y → Agree bits x y → Agree now z w
agree_moved bits now x y z w same left right agree bit there =
    cc (agree bit (rw same at there))

fits_more : (marks after : Marks) (chunks : List ℕ) (new count most at : ℕ) (node : Node) → ((at : ℕ) → at < count → after.tested at ≡ marks.tested at) → ((at : ℕ) → at < count → after.like at ≡ marks.like at) → count ≤ most → at < count → Fits marks chunks count at node
    → Fits after (chunks ++ new ∷ []) most at node
fits_more marks after chunks new count most at Empty tested like more below fits = tt
fits_more marks after chunks new count most at (Number number) tested like more below fits =
    record {
      within = omega (arith, fits.within, length_push chunks new);
      agree = agree_moved (marks.tested at) (after.tested at) (chunk_at chunks number) (marks.like at) _ _ (tested at below) (chunk_before chunks new number fits.within) (like at below) fits.agree;
    }
fits_more marks after chunks new count most at (Fork test pair) tested like more below fits =
    record {
      within = omega (arith, fits.within, more);
      small = fits.small;
      fresh = ap (list_any (nat_eq test)) (tested at below) ∙ fits.fresh;
      sides = λ value two.
          let side = fits.sides value two in
          let there : pair + value < count = omega (arith, fits.within, two) in
          record {
            tested = cc (tested (pair + value) there, tested at below);
            agree = agree_moved (marks.tested at) (after.tested at) (marks.like (pair + value)) (marks.like at) _ _ (tested at below) (like (pair + value) there) (like at below) side.agree;
            parted = cc (like (pair + value) there);
          };
    }

new_number : (marks : Marks) (chunks : List ℕ) (at number which : ℕ) → number < length chunks → chunk_at chunks number ≡ which → Agree (marks.tested at) which (marks.like at) → IsNumber marks chunks at number
new_number marks chunks at number which within is agree = record { within = within; agree = rw is agree }

-- every chunk's way ends at its number, if those of earlier chunks are unchanged and the new chunk's way ends at its number
ends_on : (chunks : List ℕ) (chunk : ℕ) (at : ℕ → Node) → ((number : ℕ) → number < length chunks → at (chunk_at chunks number) ≡ Number number) → at chunk ≡ Number (length chunks)
    → (number : ℕ) → number < length (chunks ++ chunk ∷ []) → at (chunk_at (chunks ++ chunk ∷ []) number) ≡ Number number
ends_on chunks chunk at before new number within = elim (cases_lt number (length chunks)) [
  | inl below ↦ ap at (chunk_before chunks chunk number below) ∙ before number below
  | inr past ↦
      let last : number ≡ length chunks = omega (arith, past, within, length_push chunks chunk) in
      cc (chunk_last chunks chunk)
]

pub put_trie : (chunks : List ℕ) (nodes : List Node) (table : Slots) (chunk : ℕ) → IsTrie chunks nodes table → table.mask < length nodes → node_at nodes (end_of nodes table chunk) ≡ Empty
    → IsTrie (chunks ++ chunk ∷ []) (set nodes (end_of nodes table chunk) (Number (length chunks))) table
put_trie chunks nodes table chunk trie slots empty =
    let here = end_of nodes table chunk in
    let after = set nodes here (Number (length chunks)) in
    let on = on_way chunks nodes table trie.marked slots chunk 64 in
    let within : here < length nodes = on.within in
    let count : length after ≡ length nodes = length-set nodes here (Number (length chunks)) in
    let now : node_at after here ≡ Number (length chunks) = get_or-set_same nodes here (Number (length chunks)) Empty within in
    let others : (at : ℕ) → (at ≡ here → ⊥) → node_at after at ≡ node_at nodes at = λ at other. get_or-set_other nodes here at (Number (length chunks)) Empty other in
    let same : (other : ℕ) → end_of after table other ≡ end_of nodes table other = λ other. put_way nodes after here (ap is_fork empty) (ap is_fork now) others other (slot_of table other) 64 in
    let marks = trie.marked.marks in
    let fits : (at : ℕ) → at < length after → Fits marks (chunks ++ chunk ∷ []) (length after) at (node_at after at) = λ at there. let there' : at < length nodes = omega (arith, there, count) in elim (cases_eq at here) [
      | inl is ↦ subst (Fits marks (chunks ++ chunk ∷ []) (length after) at) (sym (ap (node_at after) is ∙ now))
          (new_number marks (chunks ++ chunk ∷ []) at (length chunks) chunk (omega (arith, length_push chunks chunk)) (chunk_last chunks chunk) (rw is on.agree))
      | inr other ↦ subst (Fits marks (chunks ++ chunk ∷ []) (length after) at) (sym (others at other)) (fits_more marks marks chunks chunk (length nodes) (length after) at (node_at nodes at) (λ _ _. refl) (λ _ _. refl) (omega (arith, count)) there' (trie.marked.fits at there'))
    ] in
    record {
      marked = record { marks = marks; start = trie.marked.start; fits = fits };
      ends = ends_on chunks chunk (λ other. node_at after (end_of after table other))
          (λ number below. elim (cases_eq (end_of nodes table (chunk_at chunks number)) here) [
            | inl is ↦ let no : Empty ≡ Number number = sym empty ∙ ap (node_at nodes) (sym is) ∙ trie.ends number below in absurd cc
            | inr other ↦ ap (node_at after) (same (chunk_at chunks number)) ∙ others _ other ∙ trie.ends number below
          ])
          (ap (node_at after) (same chunk) ∙ now);
    }

-- replacing a number by a fork: a way that ended there continues to one of the fork's links, and any other way is unchanged
part_way : (nodes after : List Node) (here bit chunk start : ℕ) → is_fork (node_at nodes here) ≡ false → node_at after here ≡ Fork bit (length nodes) → ((at : ℕ) → at < length nodes → (at ≡ here → ⊥) → node_at after at ≡ node_at nodes at)
    → is_fork (node_at after (length nodes + bit_at chunk bit)) ≡ false → ((steps : ℕ) → way nodes chunk start steps < length nodes)
    → (steps : ℕ) → (way after chunk start steps ≡ way nodes chunk start steps) ⊎ ((way nodes chunk start steps ≡ here) × (way after chunk start steps ≡ length nodes + bit_at chunk bit))
part_way nodes after here bit chunk start before now others leaf within zero = inl (way-zero after chunk start ∙ sym (way-zero nodes chunk start))
part_way nodes after here bit chunk start before now others leaf within (suc steps) =
    let at = way nodes chunk start steps in
    let old = way-suc nodes chunk start steps in
    let new = way-suc after chunk start steps in
    elim (part_way nodes after here bit chunk start before now others leaf within steps) [
      | inl same ↦
          let next : way after chunk start (suc steps) ≡ next_at chunk at (node_at after at) = cc in
          elim (cases_eq at here) [
            | inl is ↦ inr (
              old ∙ next_stays chunk at (node_at nodes at) (cc) ∙ is,
              cc,
            )
            | inr other ↦ inl (next ∙ ap (next_at chunk at) (others at (within steps) other) ∙ sym old)
          ]
      | inr past ↦ inr (
        old ∙ next_stays chunk at (node_at nodes at) (cc) ∙ past.0,
        cc (next_stays chunk (length nodes + bit_at chunk bit) (node_at after (length nodes + bit_at chunk bit)) leaf),
      )
    ]

-- after has a new fork on this bit at an index, with two new links at the end, which lead to the numbers of the two chunks
pub record IsParted (nodes after : List Node) (here bit chunk other new old : ℕ) : Type 0 where
  pub count : length after ≡ length nodes + 2
  pub fork : node_at after here ≡ Fork bit (length nodes)
  pub mine : node_at after (length nodes + bit_at chunk bit) ≡ Number new
  pub theirs : node_at after (length nodes + bit_at other bit) ≡ Number old
  pub others : (at : ℕ) → at < length nodes → (at ≡ here → ⊥) → node_at after at ≡ node_at nodes at

-- the marks after the fork: those from before, and marks for its two new links
record AreMore (marks after : Marks) (count here bit chunk other : ℕ) : Type 0 where
  tested : (at : ℕ) → at < count → after.tested at ≡ marks.tested at
  like : (at : ℕ) → at < count → after.like at ≡ marks.like at
  longer : (at : ℕ) → count ≤ at → after.tested at ≡ bit ∷ marks.tested here
  mine : after.like (count + bit_at chunk bit) ≡ chunk
  theirs : after.like (count + bit_at other bit) ≡ other

more_marks : (marks : Marks) (count here bit chunk other : ℕ) → Marks
more_marks marks count here bit chunk other = record {
  tested = λ at. cond (nat_lt at count) (marks.tested at) (bit ∷ marks.tested here);
  like = λ at. cond (nat_lt at count) (marks.like at) (cond (nat_eq at (count + bit_at chunk bit)) chunk other);
}

more_are : (marks : Marks) (count here bit chunk other : ℕ) → (bit_at chunk bit ≡ bit_at other bit → ⊥) → AreMore marks (more_marks marks count here bit chunk other) count here bit chunk other
unfolding more_marks
more_are marks count here bit chunk other apart =
    record {
      tested = λ at below. rw (lt-ltb at count below) refl;
      like = λ at below. rw (lt-ltb at count below) refl;
      longer = λ at past. rw (le-ltb at count past) refl;
      mine = rw (le-ltb (count + bit_at chunk bit) count (omega arith), eq-eqb (count + bit_at chunk bit) (count + bit_at chunk bit) refl) refl;
      theirs = rw (le-ltb (count + bit_at other bit) count (omega arith), ne_eqb (count + bit_at other bit) (count + bit_at chunk bit) (λ e. apart (omega (arith, e)))) refl;
    }

-- the marks behind the new fork, for one value of its bit
new_side : (marks after : Marks) (count here bit chunk other value which : ℕ) → AreMore marks after count here bit chunk other → here < count → value ≡ bit_at which bit → after.like (count + bit_at which bit) ≡ which → Agree (marks.tested here) which (marks.like here) → IsSide after here bit count value
new_side marks after count here bit chunk other value which more below is like agree =
    let same : after.like (count + value) ≡ which = cc in
    record {
      tested = cc (more.longer (count + value) (omega arith), more.tested here below);
      agree = agree_moved (marks.tested here) (after.tested here) which (marks.like here) _ _ (more.tested here below) same (more.like here below) agree;
      parted = cc;
    }

-- a value below 2 is one of two different bits
one_of : (value a b : ℕ) → value < 2 → a < 2 → b < 2 → (a ≡ b → ⊥) → (value ≡ a) ⊎ (value ≡ b)
one_of value a b two left right apart = elim (cases_eq value a) [ inl is ↦ inl is | inr other ↦ inr (omega (arith, two, left, right, apart, other)) ]

part_marks : (chunks : List ℕ) (nodes after : List Node) (table : Slots) (here bit chunk other number : ℕ) (trie : HasMarks chunks nodes table) → table.mask < length nodes → bit < 64 → (bit_at chunk bit ≡ bit_at other bit → ⊥)
    → OnWay nodes trie.marks chunk here 64 → IsNumber trie.marks chunks here number → chunk_at chunks number ≡ other → IsParted nodes after here bit chunk other (length chunks) number → HasMarks (chunks ++ chunk ∷ []) after table
part_marks chunks nodes after table here bit chunk other number trie slots small apart on at_number other_is parted =
    let marks = trie.marks in
    let count = length nodes in
    let all = chunks ++ chunk ∷ [] in
    let now = more_marks marks count here bit chunk other in
    let more = more_are marks count here bit chunk other apart in
    let below : here < count = on.within in
    let theirs : Agree (marks.tested here) other (marks.like here) = rw other_is at at_number.agree in
    let fresh : list_any (nat_eq bit) (marks.tested here) ≡ false = false_from_ne_true (list_any (nat_eq bit) (marks.tested here)) (λ t. apart (on.agree bit t ∙ sym (theirs bit t))) in
    let fork : IsFork now (count + 2) here bit count =
    record {
      within = omega arith;
      small = small;
      fresh = ap (list_any (nat_eq bit)) (more.tested here below) ∙ fresh;
      sides = λ value two. elim (one_of value (bit_at chunk bit) (bit_at other bit) two (bit_at-lt chunk bit) (bit_at-lt other bit) apart) [
        | inl is ↦ new_side marks now count here bit chunk other value chunk more below is more.mine on.agree
        | inr is ↦ new_side marks now count here bit chunk other value other more below is more.theirs theirs
      ];
    } in
    let long = length_push chunks chunk in
    let mine : IsNumber now all (count + bit_at chunk bit) (length chunks) = new_number now all (count + bit_at chunk bit) (length chunks) chunk (omega (arith, long)) (chunk_last chunks chunk) (λ b _. ap (λ (c : ℕ). bit_at c b) (sym more.mine)) in
    let their : IsNumber now all (count + bit_at other bit) number = new_number now all (count + bit_at other bit) number other (omega (arith, long, at_number.within)) (chunk_before chunks chunk number at_number.within ∙ other_is) (λ b _. ap (λ (c : ℕ). bit_at c b) (sym more.theirs)) in
    let fits : (at : ℕ) → at < count + 2 → Fits now all (count + 2) at (node_at after at) = λ at there. elim (cases_lt at count) [
      | inl old ↦ elim (cases_eq at here) [
        | inl is ↦ rw is (subst (Fits now all (count + 2) here) (sym parted.fork) fork)
        | inr another ↦ subst (Fits now all (count + 2) at) (sym (parted.others at old another)) (fits_more marks now chunks chunk count (count + 2) at (node_at nodes at) more.tested more.like (omega arith) old (trie.fits at old))
      ]
      | inr past ↦
          let is : at ≡ count + (at - count) = omega (arith, past) in
          let two : at - count < 2 = omega (arith, past, there) in
          elim (one_of (at - count) (bit_at chunk bit) (bit_at other bit) two (bit_at-lt chunk bit) (bit_at-lt other bit) apart) [
            | inl v ↦ rw (is, v) (subst (Fits now all (count + 2) (count + bit_at chunk bit)) (sym parted.mine) mine)
            | inr v ↦ rw (is, v) (subst (Fits now all (count + 2) (count + bit_at other bit)) (sym parted.theirs) their)
          ]
    ] in
    record {
      marks = now;
      start = λ at low. more.tested at (omega (arith, low, slots)) ∙ trie.start at low;
      fits = rw parted.count fits;
    }

pub part_trie : (chunks : List ℕ) (nodes after : List Node) (table : Slots) (bit chunk other number : ℕ) → IsTrie chunks nodes table → table.mask < length nodes → bit < 64 → (bit_at chunk bit ≡ bit_at other bit → ⊥)
    → node_at nodes (end_of nodes table chunk) ≡ Number number → chunk_at chunks number ≡ other → IsParted nodes after (end_of nodes table chunk) bit chunk other (length chunks) number → IsTrie (chunks ++ chunk ∷ []) after table
part_trie chunks nodes after table bit chunk other number trie slots small apart is other_is parted =
    let here = end_of nodes table chunk in
    let count = length nodes in
    let on = on_way chunks nodes table trie.marked slots chunk 64 in
    let at_number = number_on chunks nodes table trie.marked slots chunk number is in
    let marked = part_marks chunks nodes after table here bit chunk other number trie.marked slots small apart on at_number other_is parted in
    let wide : table.mask < length after = omega (arith, slots, parted.count) in
    let stops : (c : ℕ) → end_of after table c ≡ here → ⊥ = λ c e.
    let more = ahead (chunks ++ chunk ∷ []) after table c 64 bit count marked wide (ap (node_at after) e ∙ parted.fork) in absurd (omega (arith, more.few)) in
    let ways : (c : ℕ) → is_fork (node_at after (count + bit_at c bit)) ≡ false → (end_of after table c ≡ end_of nodes table c) ⊎ ((end_of nodes table c ≡ here) × (end_of after table c ≡ count + bit_at c bit)) =
    λ c leaf. part_way nodes after here bit c (slot_of table c) (ap is_fork is) parted.fork parted.others leaf (λ steps. (on_way chunks nodes table trie.marked slots c steps).within) 64 in
    let leaf : (c : ℕ) → is_fork (node_at after (count + bit_at c bit)) ≡ false = λ c. elim (one_of (bit_at c bit) (bit_at chunk bit) (bit_at other bit) (bit_at-lt c bit) (bit_at-lt chunk bit) (bit_at-lt other bit) apart) [
      | inl v ↦ cc
      | inr v ↦ cc
    ] in
    record {
      marked = marked;
      ends = ends_on chunks chunk (λ c. node_at after (end_of after table c))
          (λ n below.
          let c = chunk_at chunks n in
          let old : node_at nodes (end_of nodes table c) ≡ Number n = trie.ends n below in
          elim (ways c (leaf c)) [
            | inl same ↦ ap (node_at after) same ∙ parted.others (end_of nodes table c) (on_way chunks nodes table trie.marked slots c 64).within (λ e. stops c (same ∙ e)) ∙ old
            | inr past ↦
                let number_is : Number number ≡ Number n = sym is ∙ ap (node_at nodes) (sym past.0) ∙ old in
                let e : number ≡ n = cc in
                let c_is : c ≡ other = ap (chunk_at chunks) (sym e) ∙ other_is in
                cc
          ])
          (elim (ways chunk (leaf chunk)) [
            | inl same ↦ absurd (stops chunk same)
            | inr past ↦ ap (node_at after) past.1 ∙ parted.mine
          ]);
    }

-- The lowest bit in which two numbers differ
xor_some : (a b : ℕ) → (a ≡ b → ⊥) → 0 < bit_xor a b
xor_some a b differ = elim (cases_lt 0 (bit_xor a b)) [
  | inl some ↦ some
  | inr none ↦
      let zeros : bit_xor a b ≡ 0 = omega (arith, none) in
      let bits : (i : ℕ) → bit_at a i ≡ bit_at b i = λ i.
      let even : (bit_at a i + bit_at b i) % 2 ≡ 0 = cc (bit_at_xor a b i, bit_at-zero i) in
      omega (arith, bit_at-lt a i, bit_at-lt b i, even) in
      absurd (differ (same_from_bits a b bits))
]

pub lowest_apart : (chunk other : ℕ) → chunk < 2 ^ 64 → other < 2 ^ 64 → (other ≡ chunk → ⊥) → (trailing_zeros w64 (bit_xor other chunk) < 64) × (bit_at chunk (trailing_zeros w64 (bit_xor other chunk)) ≡ bit_at other (trailing_zeros w64 (bit_xor other chunk)) → ⊥)
lowest_apart chunk other low high differ =
    let both = bit_xor other chunk in
    let some : 0 < both = xor_some other chunk differ in
    let within : both < 2 ^ 64 = xor_lt 64 other chunk high low in
    let bit = trailing_zeros w64 both in
    let lowest = bit_at-trailing_zeros w64 both some within in
    let one : bit_at both bit ≡ 1 = lowest.1 in
    let sum : bit_at both bit ≡ (bit_at other bit + bit_at chunk bit) % 2 = bit_at_xor other chunk bit in
    (lowest.0, λ same. let odd : (bit_at chunk bit + bit_at chunk bit) % 2 ≡ 1 = cc in omega (arith, odd))

last_two : (nodes : List Node) (node : Node) (value : ℕ) → value < 2 → node_at ((nodes ++ node ∷ []) ++ node ∷ []) (length nodes + value) ≡ node
last_two nodes node value two = elim (cases_eq value 0) [
  | inl first ↦
      let at : length nodes + value ≡ length nodes = omega (arith, first) in
      ap (node_at ((nodes ++ node ∷ []) ++ node ∷ [])) at ∙ get_or_append_left (nodes ++ node ∷ []) (node ∷ []) Empty (length nodes) (omega (arith, length_push nodes node)) ∙ get_or_push nodes node Empty (length nodes) refl
  | inr second ↦ get_or_push (nodes ++ node ∷ []) node Empty (length nodes + value) (omega (arith, length_push nodes node, two, second))
]

-- pushing two links and setting them and the fork gives the nodes with a new fork
pub is_parted : (nodes : List Node) (here bit chunk other mine theirs : ℕ) → here < length nodes → (bit_at chunk bit ≡ bit_at other bit → ⊥)
    → IsParted nodes (set (set ((nodes ++ Number theirs ∷ []) ++ Number theirs ∷ []) (length nodes + bit_at chunk bit) (Number mine)) here (Fork bit (length nodes))) here bit chunk other mine theirs
is_parted nodes here bit chunk other mine theirs within apart =
    let count = length nodes in
    let value = bit_at chunk bit in
    let both = (nodes ++ Number theirs ∷ []) ++ Number theirs ∷ [] in
    let one = set both (count + value) (Number mine) in
    let long : length both ≡ count + 2 = omega (arith, length_push (nodes ++ Number theirs ∷ []) (Number theirs), length_push nodes (Number theirs)) in
    let same : length one ≡ length both = length-set both (count + value) (Number mine) in
    let two : value < 2 = bit_at-lt chunk bit in
    let two' : bit_at other bit < 2 = bit_at-lt other bit in
    record {
      count = length-set one here (Fork bit count) ∙ same ∙ long;
      fork = get_or-set_same one here (Fork bit count) Empty (omega (arith, within, same, long));
      mine = get_or-set_other one here (count + value) (Fork bit count) Empty (λ e. omega (arith, e, within)) ∙ get_or-set_same both (count + value) (Number mine) Empty (omega (arith, long, two));
      theirs = get_or-set_other one here (count + bit_at other bit) (Fork bit count) Empty (λ e. omega (arith, e, within))
          ∙ get_or-set_other both (count + value) (count + bit_at other bit) (Number mine) Empty (λ e. apart (omega (arith, e)))
          ∙ last_two nodes (Number theirs) (bit_at other bit) two';
      others = λ at below other. get_or-set_other one here at (Fork bit count) Empty other
          ∙ get_or-set_other both (count + value) at (Number mine) Empty (λ e. omega (arith, e, below))
          ∙ get_or_append_left (nodes ++ Number theirs ∷ []) (Number theirs ∷ []) Empty at (omega (arith, below, length_push nodes (Number theirs)))
          ∙ get_or_append_left nodes (Number theirs ∷ []) Empty at below;
    }

-- The table of taken chunks, as `TrieTaken` keeps it

-- the node at which a chunk's way ends
abbrev pub last_node : TrieTaken → (chunk : ℕ) → Node
last_node taken chunk = node_at taken.links.items (end_of taken.links.items taken.slots chunk)

pub end_within : (taken : TrieTaken) (chunk : ℕ) → end_of taken.links.items taken.slots chunk < length taken.links.items
end_within taken chunk = ∥∥₁_elim taken.leads (hlevel props) (λ trie. (on_way taken.chunks.items taken.links.items taken.slots trie.marked taken.table chunk 64).within)

pub bit_ahead : (taken : TrieTaken) (chunk steps bit pair : ℕ) → node_at taken.links.items (way taken.links.items chunk (slot_of taken.slots chunk) steps) ≡ Fork bit pair → (steps < 64) × (bit < 64) × (pair + 1 < length taken.links.items)
bit_ahead taken chunk steps bit pair is =
    ∥∥₁_elim taken.leads (hlevel props) (λ trie. let more = ahead taken.chunks.items taken.links.items taken.slots chunk steps bit pair trie.marked taken.table is in (more.few, more.small, more.within))

pub end_stops : (taken : TrieTaken) (chunk bit pair : ℕ) → last_node taken chunk ≡ Fork bit pair → ⊥
end_stops taken chunk bit pair is = let more = bit_ahead taken chunk 64 bit pair is in absurd (omega (arith, more.0))

pub number_within : (taken : TrieTaken) (chunk number : ℕ) → last_node taken chunk ≡ Number number → number < length taken.chunks.items
number_within taken chunk number is = ∥∥₁_elim taken.leads (hlevel props) (λ trie. (number_on taken.chunks.items taken.links.items taken.slots trie.marked taken.table chunk number is).within)

-- with own slots, the number at an index is that of the chunk equal to the index
pub own_number : (taken : TrieTaken) (chunk number : ℕ) → taken.own_slots ≡ true → chunk < length taken.links.items → node_at taken.links.items chunk ≡ Number number → chunk_at taken.chunks.items number ≡ chunk
own_number taken chunk number on within is = ∥∥₁_elim taken.own (hlevel props) (λ own. (own on chunk number within is).1)

-- a chunk whose way doesn't end at its number isn't taken
pub not_taken : (taken : TrieTaken) (chunk : ℕ) → ((number : ℕ) → chunk_at taken.chunks.items number ≡ chunk → last_node taken chunk ≡ Number number → ⊥) → number_in chunk taken.chunks.items ≡ None
not_taken taken chunk none =
    number_absent chunk taken.chunks.items (λ number within is. ∥∥₁_elim taken.leads (hlevel props) (λ trie. none number is (ap (last_node taken) (sym is) ∙ trie.ends number within)))

-- a chunk whose way ends at an empty node isn't taken
pub not_empty : (taken : TrieTaken) (chunk : ℕ) → last_node taken chunk ≡ Empty → number_in chunk taken.chunks.items ≡ None
not_empty taken chunk last = not_taken taken chunk (λ number is found. let wrong : Empty ≡ Number number = sym last ∙ found in absurd cc)

-- a chunk whose way ends at the number of an equal chunk has that number
pub its_number : (taken : TrieTaken) (chunk number seen : ℕ) → last_node taken chunk ≡ Number number → seen ≡ get_or taken.chunks.items number seen → seen ≡ chunk → number_in chunk taken.chunks.items ≡ Some number
its_number taken chunk number seen last read is =
    let there = number_within taken chunk number last in
    let same : chunk_at taken.chunks.items number ≡ chunk = sym (get_or_read taken.chunks.items number seen there read 0) ∙ is in
    ap (λ c. number_in c taken.chunks.items) (sym same) ∙ number_distinct taken.chunks.items number 0 taken.once there

pub not_other : (taken : TrieTaken) (chunk number seen : ℕ) → last_node taken chunk ≡ Number number → seen ≡ get_or taken.chunks.items number seen → (seen ≡ chunk → ⊥) → number_in chunk taken.chunks.items ≡ None
not_other taken chunk number seen last read differ =
    not_taken taken chunk (λ other is found.
    let one : Number number ≡ Number other = sym last ∙ found in
    let same : number ≡ other = cc in
    differ (get_or_read taken.chunks.items number seen (number_within taken chunk number last) read 0 ∙ ap (chunk_at taken.chunks.items) same ∙ is))

-- the node that was read is the one at its index
pub node_read : (nodes : List Node) (at : ℕ) (seen node : Node) → at < length nodes → seen ≡ get_or nodes at seen → node ≡ seen → node_at nodes at ≡ node
node_read nodes at seen node within read is = sym (get_or_read nodes at seen within read Empty) ∙ sym is

pub last_read : (taken : TrieTaken) (chunk at : ℕ) (seen node : Node) → at ≡ end_of taken.links.items taken.slots chunk → seen ≡ get_or taken.links.items at seen → node ≡ seen → last_node taken chunk ≡ node
last_read taken chunk at seen node ends read is =
    rw ends at (node_read taken.links.items at seen node (omega (arith, ends, end_within taken chunk)) read is)
