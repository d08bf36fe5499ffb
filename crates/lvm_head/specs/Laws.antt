-- The law about heads: reading a head returns exactly the id and the text that the head spells.
use Rattle.lvm_head.specs.Base.{[], ℕ, true, false, List, None, Result, Ok, length, slice_index, All, Any, Area, Location, HeadFault}
use Rattle.lvm_head.specs.Areas.{is_header, is_near, is_none, is_within, location_in, ring_place}
use Rattle.lvm_head.specs.Disks.{Sectors}
use Rattle.lvm_head.specs.Heads.{Said, head_of}
use Rattle.lvm_head.specs.Labels.{areas_of, id_of, is_sound, is_taken, is_member, is_partitioned, label_in}
use Rattle.lvm_head.specs.Sums.{sum_of}
use Rattle.lvm_head.specs.Texts.{byte_at}
use Rattle.std.specs.Prelude.{◌≡◌, ◌↔◌, ◌⊎◌, ◌<◌, ◌≤◌, ◌/◌, ◌++◌, ◌∷◌}

-- ---- the label that a head spells

-- sector 0 contains no partition table, and neither sector 0 nor sector 8 contains the superblock of an md array's member
pub record IsUndivided (sectors : Sectors) : Type 0 where
  pub first : List ℕ
  pub later : List ℕ
  pub is_first : sectors 0 ≡ Ok first
  pub is_later : sectors 8 ≡ Ok later
  pub whole : is_partitioned first ≡ false
  pub alone : is_member first ≡ false
  pub alone_later : is_member later ≡ false

-- the label is valid and in one of sectors 0 to 3, and lvm2 regards no sector before it as a label
pub record IsTheLabel (sectors : Sectors) (label : List ℕ) : Type 0 where
  pub place : ℕ
  pub inside : place < 4
  pub read : sectors place ≡ Ok label
  pub taken : is_taken place label ≡ true
  pub sound : is_sound label ≡ true
  pub first : (i : ℕ) → i < place → label_in i (sectors i) ≡ None

-- ---- the text that a location spells

-- the first `count` values of the function `byte` are these bytes, and none of the values is a fault
pub record HasBytes (byte : ℕ → Result ℕ HeadFault) (count : ℕ) (bytes : List ℕ) : Type 0 where
  pub len : length bytes ≡ count
  pub are : (i : ℕ) → i < count → byte i ≡ Ok (slice_index bytes i)

-- the text consists of these bytes, which end with a newline, or of these bytes without the NUL at their end
pub data IsEnded (text bytes : List ℕ) : Type 0 where
  AtNul : bytes ≡ text ++ 0 ∷ [] → IsEnded text bytes
  AtNewline : bytes ≡ text → (before : List ℕ) → text ≡ before ++ 10 ∷ [] → IsEnded text bytes

-- the location spells a text: the bytes in the ring buffer have the location's checksum, and are the text, possibly with a NUL at the end
pub record SpellsText (sectors : Sectors) (start : ℕ) (location : Location) (text : List ℕ) : Type 0 where
  pub some : is_none location ≡ false
  pub within : is_within location ≡ true
  pub short : location.size ≤ 1048576
  pub bytes : List ℕ
  pub has : HasBytes (λ i. byte_at sectors (ring_place start location i)) location.size bytes
  pub sum : sum_of bytes ≡ location.sum
  pub ends : IsEnded text bytes

-- the area has a valid header, whose location spells the text, or names no text if the text is []
pub record SpellsArea (sectors : Sectors) (text : List ℕ) (area : Area) : Type 0 where
  pub header : List ℕ
  pub near : is_near area ≡ true
  pub begins : sectors (area.start / 512) ≡ Ok header
  pub sound : is_header area header ≡ true
  pub says : ((is_none (location_in header) ≡ true) × (text ≡ [])) ⊎ SpellsText sectors area.start (location_in header) text

-- ---- what a whole head spells

-- a head spells an id and a text: the label contains the id, each area spells the text or none, and at least one area spells the text unless it is []
pub record SpellsHead (sectors : Sectors) (said : Said) : Type 0 where
  pub undivided : IsUndivided sectors
  pub label : List ℕ
  pub is_label : IsTheLabel sectors label
  pub id : said.id ≡ id_of label
  pub areas : List Area
  pub are_areas : areas_of label ≡ Ok areas
  pub each : All (λ area. SpellsArea sectors [] area ⊎ SpellsArea sectors said.text area) areas
  pub some : (said.text ≡ []) ⊎ Any (SpellsArea sectors said.text) areas

-- for all sectors, `head_of` returns an id and a text exactly if the head spells them
abbrev pub ReadsBack : Type 0
ReadsBack = (sectors : Sectors) (said : Said) → (head_of sectors ≡ Ok said) ↔ SpellsHead sectors said
