-- What the head of one physical volume contains, and what the heads of a volume group's disks contain together.
use Rattle.lvm_head.specs.Base.{ℕ, zero, suc, List, [], Result, Ok, Err, length, list_any, bytes_eq, Area, HeadFault, Differ, Twice, Memory}
use Rattle.lvm_head.specs.declared.fault.HeadRefusal.{HeadRefusal}
use Rattle.lvm_head.specs.Disks.{Contents, Sectors, ◌>>=◌}
use Rattle.lvm_head.specs.Labels.{areas_of, id_of, label_of, undivided}
use Rattle.lvm_head.specs.Texts.{area_text}
use Rattle.std.specs.Prelude.{◌≡◌, ◌≢◌, ◌+◌, ◌==◌, ◌∷◌, ◌++◌, if◌then◌else◌}

-- the common text of two texts, each of which may be [] for no text, or a fault if neither is [] and they differ
abbrev pub same_text : (text next : List ℕ) → Result (List ℕ) HeadFault
same_text text next =
    if length text == 0 then Ok next else (if length next == 0 then Ok text else (if bytes_eq text next then Ok text else Err Differ))

-- the common text of `text` and of all areas, where [] is no text, or a fault if two texts differ
unfoldable pub areas_text : Sectors → (text : List ℕ) → List Area → Result (List ℕ) HeadFault
areas_text sectors text [] = Ok text
areas_text sectors text (area ∷ later) = area_text sectors area >>= same_text text >>= (λ after. areas_text sectors after later)

-- the content of a head: the id of the physical volume, and the metadata text of its volume group, or [] if there is no text
pub record Said : Type 0 where
  pub id : List ℕ
  pub text : List ℕ

-- the content of the head of a disk with these sectors, or the first fault
abbrev pub head_of : Sectors → Result Said HeadFault
head_of sectors =
    undivided sectors >>= (λ whole. label_of sectors >>= (λ label. areas_of label >>= (λ areas.
    areas_text sectors [] areas >>= (λ text. Ok (record { id = id_of label; text = text })))))

-- ---- the heads of several disks

-- the content of several heads: the id of each disk's physical volume, and the common metadata text, or [] if there is no text
pub record AllSaid : Type 0 where
  pub ids : List (List ℕ)
  pub text : List ℕ

-- the content of the heads so far and of one more, or a fault if the new head's text differs or its id is among the ids so far
abbrev pub joined : AllSaid → Said → Result AllSaid HeadFault
joined all said = same_text all.text said.text >>= (λ text. if list_any (bytes_eq said.id) all.ids then Err Twice else Ok (record { ids = all.ids ++ said.id ∷ []; text = text }))

abbrev pub at_disk : (disk : ℕ) → Result AllSaid HeadFault → Result AllSaid HeadRefusal
at_disk disk (Ok all) = Ok all
at_disk disk (Err fault) = Err (record { disk = disk; fault = fault })

-- the content of the heads so far and of the heads of `count` disks from number `disk` on, or the first disk with a fault
unfoldable pub heads_from : Contents → AllSaid → (disk count : ℕ) → Result AllSaid HeadRefusal
heads_from held all disk zero = Ok all
heads_from held all disk (suc count) = at_disk disk (head_of (held disk) >>= joined all) >>= (λ after. heads_from held after (disk + 1) count)

-- the content of the heads of disks 0 to count - 1, or the first disk with a fault
abbrev pub heads_of : Contents → (count : ℕ) → Result AllSaid HeadRefusal
heads_of held count = heads_from held (record { ids = []; text = [] }) 0 count

-- ---- the result of a call

-- a call returned the expected result `said`, compared through `view`, unless memory ran out
abbrev pub Returns : {X Y : Type 0} → (X → Y) → Result X HeadFault → (said : Result Y HeadFault) → Type 0
Returns view (Ok value) said = said ≡ Ok (view value)
Returns view (Err fault) said = fault ≢ Memory → said ≡ Err fault
