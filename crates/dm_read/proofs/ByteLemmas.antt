-- The bytes of consecutive sectors, block by block.
use Rattle.dm_read.proofs.Prelude.{ℕ, zero, suc, List, [], Option, Some, None, Result, Ok, Err, take, drop, append_assoc, refl, sym, ap, ◌∙◌, arith, take-add, append-nil, drop-drop, sector_in, ByteFault, Stop, Reading, after, bytes_of, OutputPast, written_since, HasWritten, Wrote, IsCutShort, since_more, written_more, Filled, AreFilled}
use Rattle.dm_read.proofs.BlockLemmas.{sector_is}
use Rattle.std.specs.Prelude.{◌≡◌, ◌+◌, ◌-◌, ◌*◌, ◌<◌, ◌≤◌, ◌∷◌, ◌++◌}

-- a sector of a block without its first sector is the next sector of the whole block
sector_behind : (block : List ℕ) (i : ℕ) → sector_in (drop 512 block) i ≡ sector_in block (i + 1)
sector_behind block i =
    let e : 512 + 512 * i ≡ 512 * (i + 1) = omega arith in
    sector_is (drop 512 block) i ∙ ap (λ (zs : List ℕ). take 512 zs) (drop-drop (512 * i) 512 block) ∙ ap (λ (n : ℕ). take 512 (drop n block)) e ∙ sym (sector_is block (i + 1))

-- if the first sectors are those of a block, the bytes read begin with the block's
pub block_first : (sectors : ℕ → Result (List ℕ) ByteFault) (from n len : ℕ) (block : List ℕ) → n ≤ len → ((i : ℕ) → i < n → sectors (from + i) ≡ Ok (sector_in block i))
    → bytes_of sectors from len ≡ after (take (512 * n) block) (bytes_of sectors (from + n) (len - n))
unfolding bytes_of
block_first sectors from zero len block within each = let e : from + 0 ≡ from = omega arith in let k : len - 0 ≡ len = omega arith in rw (e, k) refl
block_first sectors from (suc n) zero block within each = absurd (omega (arith, within))
block_first sectors from (suc n) (suc len) block within each =
    let here : sectors from ≡ Ok (sector_in block 0) = ap sectors (let e : from ≡ from + 0 = omega arith in e) ∙ each 0 (omega arith) in
    let later : bytes_of sectors (suc from) len ≡ after (take (512 * n) (drop 512 block)) (bytes_of sectors (suc from + n) (len - n)) =
    block_first sectors (suc from) n len (drop 512 block) (omega (arith, within)) (λ i less.
    ap sectors (let e : suc from + i ≡ from + (i + 1) = omega arith in e) ∙ each (i + 1) (omega (arith, less)) ∙ ap (λ (b : List ℕ). let r : Result (List ℕ) ByteFault = Ok b in r) (sym (sector_behind block i))) in
    let tail : Reading = bytes_of sectors (suc from + n) (len - n) in
    let parts : take (512 * suc n) block ≡ sector_in block 0 ++ take (512 * n) (drop 512 block) =
    ap (λ (k : ℕ). take k block) (let e : 512 * suc n ≡ 512 + 512 * n = omega arith in e) ∙ take-add 512 (512 * n) block ∙ ap (λ (zs : List ℕ). zs ++ take (512 * n) (drop 512 block)) (sym (sector_is block 0)) in
    let e : from + suc n ≡ suc from + n = omega arith in
    let k : suc len - suc n ≡ len - n = omega arith in
    rw (here, later, parts, e, k) (ap (λ (zs : List ℕ). let r : Reading = record { bytes = zs; stop = tail.stop } in r) (sym (append_assoc (sector_in block 0) (take (512 * n) (drop 512 block)) tail.bytes)))

-- the bytes read begin with those of a block that was filled with the first sectors
pub block_filled : (sectors : ℕ → Result (List ℕ) ByteFault) (from len : ℕ) (filled : Filled) (block : List ℕ) → filled.count ≤ len → AreFilled (λ i. sectors (from + i)) filled 0 block
    → bytes_of sectors from len ≡ after (take (512 * filled.count) block) (bytes_of sectors (from + filled.count) (len - filled.count))
block_filled sectors from len filled block within are =
    block_first sectors from filled.count len block within (λ i less. are.each i less ∙ ap (λ (k : ℕ). let r : Result (List ℕ) ByteFault = Ok (sector_in block k) in r) (let e : 0 + i ≡ i = omega arith in e))

-- if the first sector has no bytes, nothing is read, and the reading stops there
pub stopped_first : (sectors : ℕ → Result (List ℕ) ByteFault) (from len : ℕ) (fault : ByteFault) → 1 ≤ len → sectors from ≡ Err fault
    → bytes_of sectors from len ≡ record { bytes = []; stop = Some (record { sector = from; fault = fault }) }
unfolding bytes_of
stopped_first sectors from zero fault some is = absurd (omega (arith, some))
stopped_first sectors from (suc len) fault some is = rw is refl

-- reading no sectors gives no bytes and doesn't stop
pub none_left : (sectors : ℕ → Result (List ℕ) ByteFault) (from : ℕ) → bytes_of sectors from 0 ≡ record { bytes = []; stop = None }
unfolding bytes_of
none_left sectors from = refl

-- ---- parts of a reading that were written

-- if writing the next part fails, what was written is a proper prefix of all bytes
pub part_cut : {E : Type 0} (old mid new : OutputPast) (whole next rest : Reading) (first : List ℕ) (fault : E) → HasWritten old mid 0 → whole ≡ after (written_since old mid) next → next ≡ after first rest
    → Wrote mid new (Err fault) first → IsCutShort whole.bytes (written_since old new)
part_cut old mid new whole next rest first fault moved is parts failed =
    let more = since_more old.written mid.written new.written moved.appends failed.moved.appends in
    let some : List ℕ = failed.left.0 ∷ failed.left.1 in (
      failed.left.0,
      failed.left.1 ++ rest.bytes,
      ap (λ (r : Reading). r.bytes) is ∙ ap (λ (r : Reading). written_since old mid ++ r.bytes) parts
          ∙ ap (λ (bytes : List ℕ). written_since old mid ++ (bytes ++ rest.bytes)) failed.left.2
          ∙ ap (λ (bytes : List ℕ). written_since old mid ++ bytes) (append_assoc (written_since mid new) some rest.bytes)
          ∙ sym (append_assoc (written_since old mid) (written_since mid new) (some ++ rest.bytes))
          ∙ ap (λ (bytes : List ℕ). bytes ++ (some ++ rest.bytes)) (sym more),
    )

-- after the next part is written, no write has failed yet; below, what was written is followed by the rest of the reading
pub part_moved : {E : Type 0} (old mid new : OutputPast) (first : List ℕ) → HasWritten old mid 0 → Wrote {E = E} mid new (Ok tt) first → HasWritten old new 0
part_moved old mid new first moved wrote = written_more old mid new 0 moved wrote.moved

pub part_written : {E : Type 0} (old mid new : OutputPast) (whole next rest : Reading) (first : List ℕ) → HasWritten old mid 0 → whole ≡ after (written_since old mid) next → next ≡ after first rest
    → Wrote {E = E} mid new (Ok tt) first → whole ≡ after (written_since old new) rest
part_written old mid new whole next rest first moved is parts wrote =
    let more : written_since old new ≡ written_since old mid ++ first =
    since_more old.written mid.written new.written moved.appends wrote.moved.appends ∙ ap (λ (bytes : List ℕ). written_since old mid ++ bytes) wrote.ok in
    is ∙ ap (λ (r : Reading). after (written_since old mid) r) parts
    ∙ ap (λ (bytes : List ℕ). let r : Reading = record { bytes = bytes; stop = rest.stop } in r) (sym (append_assoc (written_since old mid) first rest.bytes))
    ∙ ap (λ (bytes : List ℕ). after bytes rest) (sym more)

-- if no bytes are left, all were written
pub all_written : (text : List ℕ) (whole rest : Reading) (stop : Option Stop) → whole ≡ after text rest → rest ≡ record { bytes = []; stop = stop } → (text ≡ whole.bytes) × (stop ≡ whole.stop)
all_written text whole rest stop is none = (
  sym (ap (λ (r : Reading). r.bytes) is ∙ ap (λ (r : Reading). text ++ r.bytes) none ∙ append-nil text),
  sym (ap (λ (r : Reading). r.stop) is ∙ ap (λ (r : Reading). r.stop) none),
)
