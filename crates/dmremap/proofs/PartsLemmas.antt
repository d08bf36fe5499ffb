-- How parts were read that opened a stack, before and after its exception stores.
use Rattle.dmremap.proofs.Prelude.{List, Option, None, Result, Ok, Err, IfErr, inr, subst, LoadFault, InputPast, Description, Contents, Place, Refusal, IsReadOnIf, delivered_if, ArePartsOpened, ArePartsRead, AreSettled, places_in, AreImagesAsked, IsBegunAt, stored_start}
use Rattle.dmremap.specs.declared.parts.Parts.{Parts}
use Rattle.dmremap.specs.declared.prepared.Prepared.{Prepared}
use Rattle.std.specs.Prelude.{◌≡◌}

-- if every refusal with one property has another, so does the refusal in an error result
pub refused_more : {T : Type 0} {P Q : Refusal → Type 0} (result : Result T Refusal) → ((refusal : Refusal) → P refusal → Q refusal) → IfErr result P → IfErr result Q
refused_more (Ok value) more told = tt
refused_more (Err refusal) more told = more refusal told

pub refused_any : {T : Type 0} {P : Refusal → Type 0} (result : Result T Refusal) → ((refusal : Refusal) → P refusal) → IfErr result P
refused_any (Ok value) any = tt
refused_any (Err refusal) any = any refusal

-- a run begins from the stores in the images of PATHS as it was when the parts were opened
pub parts_begun : {P : Type 0} (past : P → InputPast) (stack : Description) (held : Contents) (first old new : Option P) (result : Result Prepared Refusal) → old ≡ first
    → IsBegunAt stack None (stored_start (delivered_if past old new) held stack) result → IsBegunAt stack None (stored_start (delivered_if past first new) held stack) result
parts_begun {P} past stack held first old new result same begun = subst (λ (paths : Option P). IsBegunAt stack None (stored_start (delivered_if past paths new) held stack) result) same begun

-- the places of disks are those of PATHS as it was when the parts were opened
pub parts_places : {P : Type 0} (past : P → InputPast) (stack : Description) (first old new : Option P) (result : Result (List (Option Place)) LoadFault) → old ≡ first
    → AreSettled (places_in (delivered_if past old new) stack) result → AreSettled (places_in (delivered_if past first new) stack) result
parts_places {P} past stack first old new result same settled = subst (λ (paths : Option P). AreSettled (places_in (delivered_if past paths new) stack) result) same settled

-- FILE, DISKS, PATHS and images were read in turn
pub parts_read : {S D P I : Type 0} (source_past : S → InputPast) (disks_past : D → InputPast) (paths_past : P → InputPast) (IsSeen : I → Contents → Type 0) (stack : Description) (first old new : Parts S D P I) → ArePartsOpened source_past disks_past stack first old
    → new.source ≡ old.source → new.disks ≡ old.disks → IsReadOnIf paths_past old.paths new.paths → AreImagesAsked stack (delivered_if paths_past old.paths new.paths) old.images new.images → ((held : Contents) → IsSeen new.images held → IsSeen old.images held)
    → ArePartsRead source_past disks_past paths_past IsSeen first new
parts_read source_past disks_past paths_past IsSeen stack first old new opened source disks paths asked still = record {
  source = rw source opened.source;
  disks = rw disks opened.disks;
  paths = rw opened.paths at paths;
  in_turn = record {
    paths_asked = inr (stack, rw (source, disks) opened.opened);
    images_asked = inr (stack, rw (source, disks) opened.opened, rw (opened.paths, opened.images) at asked);
  };
  images = λ held seen. rw opened.images at (still held seen);
}
