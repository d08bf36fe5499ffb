-- Lemmas about options by cases.
use Rattle.lvm_text.proofs.Prelude.{Option, Some, None, MatchOption, option_map}

-- what holds of an optional value holds of the mapped value, if g says so
pub mapped : {X Y : Type 0} (o : Option X) (f : X → Y) (P : X → Type 0) (Q : Y → Type 0) → ((n : X) → P n → Q (f n)) → MatchOption o (Unit {0}) P → MatchOption (option_map f o) (Unit {0}) Q
mapped None f P Q g h = tt
mapped (Some n) f P Q g h = g n h
