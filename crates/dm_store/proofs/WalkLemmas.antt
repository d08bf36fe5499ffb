-- What the reader knows about a list when it stops, and after one more pair.
use Rattle.dm_store.proofs.Prelude.{ℕ, Bool, true, false, List, [], Option, Some, None, Result, Ok, Err, refl, sym, ap, subst, ◌∙◌, arith, is_some, not, eq-eqb, ne_eqb, div-add-mod', mul-le-mul_right, SectorFault, ListFault, Range, Unread, Pair, Store, Sectors, each, pair, pair_in, old_chunks, bytes_or_none, area_count, row_sector, pair_count, rest_count, IsPair, Walked, next_fault, Stored, Refused, ended, ended_by, is_any_again, is_clear, is_clear_in, list_fault, is_listed, is_near, is_placed, list_count, listed, of_count, of_list, rest_fault, number_in}
use Rattle.dm_table.specs.io.LittleEndian.{eight_at}
use Rattle.dm_store.proofs.ListLemmas.{count_full, count_stop, each_more, fault_more, old_more}
use Rattle.std.proofs.Math.Seq.{drop-nil}
use Rattle.std.specs.Prelude.{◌≡◌, ◌+◌, ◌*◌, ◌/◌, ◌%◌, ◌<◌, ◌≤◌, ◌==◌, ◌∷◌, ◌++◌}

-- if a list has a fault, the chunks taken from it make no difference
of_same : (f : Option ListFault) (a b : List ℕ) → (f ≡ None → a ≡ b) → of_list f a ≡ of_list f b
of_same None a b same = ap (of_list None) (same refl)
of_same (Some x) a b same = refl

-- what the reader knows after some pairs is what the definition says for that many
pub of_walked : (sectors : Sectors) (store : Store) (number : ℕ) (f : Option ListFault) (chunks : List ℕ) → Walked sectors store number f chunks
    → of_list f chunks ≡ of_list (list_fault store (pair sectors store.chunk) number) (old_chunks (pair sectors store.chunk) number)
of_walked sectors store number f chunks walked =
    of_same f chunks (old_chunks (pair sectors store.chunk) number) walked.taken ∙ ap (λ (x : Option ListFault). of_list x (old_chunks (pair sectors store.chunk) number)) walked.faulty

-- what the definition says for a list that fills all areas
pub count_all : (sectors : Sectors) (store : Store) → of_count sectors store (pair_count store.chunk store.len)
    ≡ of_list (list_fault store (pair sectors store.chunk) (pair_count store.chunk store.len)) (old_chunks (pair sectors store.chunk) (pair_count store.chunk store.len))
count_all sectors store = rw (eq-eqb (pair_count store.chunk store.len) (pair_count store.chunk store.len) refl) refl

pub count_less : (sectors : Sectors) (store : Store) (number : ℕ) → number < pair_count store.chunk store.len → of_count sectors store number
    ≡ ended sectors store.chunk number (of_list (list_fault store (pair sectors store.chunk) number) (old_chunks (pair sectors store.chunk) number))
count_less sectors store number less =
    let other : number ≡ pair_count store.chunk store.len → ⊥ = λ same. omega (arith, less, same) in
    rw (ne_eqb number (pair_count store.chunk store.len) other) refl

pub full_list : (sectors : Sectors) (store : Store) (number : ℕ) (f : Option ListFault) (chunks : List ℕ) → Walked sectors store number f chunks
    → number ≡ pair_count store.chunk store.len → of_list f chunks ≡ listed sectors store
full_list sectors store number f chunks walked full =
    let all : list_count sectors store ≡ pair_count store.chunk store.len = count_full (λ i. is_listed (pair sectors store.chunk i)) (pair_count store.chunk store.len) (subst (λ (n : ℕ). each (λ i. is_listed (pair sectors store.chunk i)) n ≡ true) full walked.so_far) in
    of_walked sectors store number f chunks walked
    ∙ ap (λ (n : ℕ). of_list (list_fault store (pair sectors store.chunk) n) (old_chunks (pair sectors store.chunk) n)) full
    ∙ sym (count_all sectors store)
    ∙ sym (ap (of_count sectors store) all)

pub stopped_list : (sectors : Sectors) (store : Store) (number : ℕ) (f : Option ListFault) (chunks : List ℕ) → Walked sectors store number f chunks
    → number < pair_count store.chunk store.len → is_listed (pair sectors store.chunk number) ≡ false
    → listed sectors store ≡ ended sectors store.chunk number (of_list f chunks)
stopped_list sectors store number f chunks walked less free =
    let stop : list_count sectors store ≡ number = count_stop (λ i. is_listed (pair sectors store.chunk i)) number (pair_count store.chunk store.len) walked.so_far free (omega (arith, less)) in
    ap (of_count sectors store) stop
    ∙ count_less sectors store number less
    ∙ ap (ended sectors store.chunk number) (sym (of_walked sectors store number f chunks walked))

-- a pair whose sector was read
pub pair_known : (sectors : Sectors) (chunk number : ℕ) (block : List ℕ) → sectors (row_sector chunk (number / 32)) ≡ Ok block → pair sectors chunk number ≡ pair_in block (number % 32)
pair_known sectors chunk number block is = ap (λ (r : Result (List ℕ) SectorFault). pair_in (bytes_or_none r) (number % 32)) is

-- no bytes spell the number 0
pub none_there : (at : ℕ) → eight_at [] at ≡ 0
unfolding eight_at
none_there at = rw (drop-nil at) refl

pub pair_unread : (sectors : Sectors) (chunk number : ℕ) (fault : SectorFault) → sectors (row_sector chunk (number / 32)) ≡ Err fault → is_listed (pair sectors chunk number) ≡ false
pair_unread sectors chunk number fault is = ap (λ (r : Result (List ℕ) SectorFault). is_listed (pair_in (bytes_or_none r) (number % 32))) is ∙ ap (λ (n : ℕ). not (n == 0)) (none_there (16 * (number % 32) + 8))

-- the rest of the area after a list: all zero pairs, or up to one that isn't
pub rest_clear : (sectors : Sectors) (chunk number : ℕ) (list : Stored) → each (λ i. is_clear sectors chunk (number + i)) (rest_count chunk number) ≡ true → ended sectors chunk number list ≡ list
rest_clear sectors chunk number list all =
    let most : ℕ = rest_count chunk number in
    ap (λ (n : ℕ). ended_by sectors chunk number n list) (count_full (λ i. is_clear sectors chunk (number + i)) most all) ∙ rw (eq-eqb most most refl) refl

pub rest_stops : (sectors : Sectors) (chunk number next : ℕ) (row : Result (List ℕ) SectorFault) (list : Stored) → each (λ i. is_clear sectors chunk (number + i)) next ≡ true → next < rest_count chunk number
    → sectors (row_sector chunk ((number + next) / 32)) ≡ row → is_clear_in row ((number + next) % 32) ≡ false → ended sectors chunk number list ≡ Refused (rest_fault row)
rest_stops sectors chunk number next row list clear less is other =
    let most : ℕ = rest_count chunk number in
    let stop : is_clear sectors chunk (number + next) ≡ false = rw is other in
    let before : next ≡ most → ⊥ = λ same. omega (arith, less, same) in
    ap (λ (n : ℕ). ended_by sectors chunk number n list) (count_stop (λ i. is_clear sectors chunk (number + i)) next most clear stop (omega (arith, less)))
    ∙ rw (ne_eqb next most before) (ap (λ (r : Result (List ℕ) SectorFault). Refused (rest_fault r)) is)

-- a list that ends within an area has pairs left in the area
pub rest_some : (chunk store_len number : ℕ) → number < pair_count chunk store_len → 0 < rest_count chunk number
rest_some chunk store_len number inside =
    let some : 0 < 32 * chunk = grind (arith, inside) in
    let less : number % (32 * chunk) < 32 * chunk = grind (arith, some) in
    omega (arith, less)

-- the pairs left in the area after a list are pairs of the store's areas
pub rest_inside : (chunk store_len number next : ℕ) → number < pair_count chunk store_len → next < rest_count chunk number → number + next < pair_count chunk store_len
rest_inside chunk store_len number next inside less =
    let areas : ℕ = area_count chunk store_len in let most : ℕ = 32 * chunk in
    let whole : number / most * most + number % most ≡ number = div-add-mod' number most in
    let some : 0 < most = omega (arith, less) in
    let area : number / most < areas = grind (arith, inside, some) in
    let wide : (number / most + 1) * most ≤ areas * most = mul-le-mul_right most (omega (arith, area)) in
    let parts : (number / most + 1) * most ≡ number / most * most + most = grind arith in
    omega (arith, whole, wide, parts, less)

pub ended_list : (sectors : Sectors) (store : Store) (number : ℕ) (f : Option ListFault) (chunks : List ℕ) (pair : Pair) → Walked sectors store number f chunks
    → number < pair_count store.chunk store.len → IsPair sectors store.chunk number pair → pair.new ≡ 0 → listed sectors store ≡ ended sectors store.chunk number (of_list f chunks)
ended_list sectors store number f chunks pair walked less is free =
    stopped_list sectors store number f chunks walked less (ap is_listed (pair_known sectors store.chunk number is.row is.read ∙ sym is.is) ∙ rw free refl)

pub unread_list : (sectors : Sectors) (store : Store) (number : ℕ) (f : Option ListFault) (chunks : List ℕ) (fault : SectorFault) → Walked sectors store number f chunks
    → number < pair_count store.chunk store.len → sectors (row_sector store.chunk (number / 32)) ≡ Err fault
    → Refused (Unread fault) ≡ listed sectors store
unfolding each
unread_list sectors store number f chunks fault walked less is =
    let here : number + 0 ≡ number = omega arith in
    let unread : sectors (row_sector store.chunk ((number + 0) / 32)) ≡ Err fault = rw here is in
    sym (stopped_list sectors store number f chunks walked less (pair_unread sectors store.chunk number fault is)
    ∙ rest_stops sectors store.chunk number 0 (Err fault) (of_list f chunks) refl (rest_some store.chunk store.len number less) unread refl)

-- a list without a fault had none before its last pair
pub no_fault_before : (p n a : Bool) (f : Option ListFault) → next_fault p n a f ≡ None → f ≡ None
no_fault_before p n a None e = refl
no_fault_before true false a (Some Range) e = absurd cc
no_fault_before true true a (Some Range) e = absurd cc
no_fault_before p n a f e = absurd cc

-- if a list has a fault, the chunks taken make no difference to the next one
next_same : (p n a b : Bool) (f : Option ListFault) → (f ≡ None → a ≡ b) → next_fault p n a f ≡ next_fault p n b f
next_same p n a b None same = ap (λ (x : Bool). next_fault p n x None) (same refl)
next_same true false a b (Some Range) same = refl
next_same true true a b (Some Range) same = refl
next_same p n a b f same = refl

pub one_more : (sectors : Sectors) (store : Store) (number : ℕ) (f after : Option ListFault) (here : Pair) (chunks more : List ℕ) → Walked sectors store number f chunks
    → IsPair sectors store.chunk number here → (here.new ≡ 0 → ⊥)
    → after ≡ next_fault (is_placed store number here) (is_near store here) (is_some (number_in here.old chunks)) f
    → (after ≡ None → more ≡ chunks ++ here.old ∷ [])
    → Walked sectors store (number + 1) after more
one_more sectors store number f after here chunks more walked is some next taken =
    let pairs : ℕ → Pair = pair sectors store.chunk in
    let before : List ℕ = old_chunks pairs number in
    let known : pairs number ≡ here = pair_known sectors store.chunk number is.row is.read ∙ sym is.is in
    record {
      so_far = each_more (λ i. is_listed (pairs i)) number walked.so_far (ap is_listed known ∙ rw (ne_eqb here.new 0 some) refl);
      faulty = next
          ∙ next_same (is_placed store number here) (is_near store here) (is_some (number_in here.old chunks)) (is_some (number_in here.old before)) f
          (λ none. ap (λ (xs : List ℕ). is_some (number_in here.old xs)) (walked.taken none))
          ∙ ap (λ (x : Option ListFault). next_fault (is_placed store number here) (is_near store here) (is_some (number_in here.old before)) x) walked.faulty
          ∙ ap (λ (x : Pair). next_fault (is_placed store number x) (is_near store x) (is_some (number_in x.old before)) (list_fault store pairs number)) (sym known)
          ∙ sym (fault_more store pairs number);
      taken = λ none. taken none
          ∙ ap (λ (xs : List ℕ). xs ++ here.old ∷ []) (walked.taken (no_fault_before (is_placed store number here) (is_near store here) (is_some (number_in here.old chunks)) f (sym next ∙ none)))
          ∙ ap (λ (x : Pair). before ++ x.old ∷ []) (sym known)
          ∙ sym (old_more pairs number);
    }

pub walked_none : (sectors : Sectors) (store : Store) (chunks : List ℕ) → chunks ≡ [] → Walked sectors store 0 None chunks
unfolding each old_chunks is_any_again
walked_none sectors store chunks none = record { so_far = refl; faulty = refl; taken = λ e. none }
