-- What a log of reads reveals about the contents of images.
use Rattle.dm_store.specs.Base.{ℕ, List, [], drop, take, AreRead}
use Rattle.dm_store.specs.declared.asked.Asked.{Asked}
use Rattle.dm_store.specs.Images.{Contents}
use Rattle.std.specs.Prelude.{◌+◌, ◌∷◌}

-- the reads that were made, the paths of all of them joined, and the bytes that all of them returned joined
pub record Logged : Type 0 where
  pub asked : List Asked
  pub paths : List ℕ
  pub given : List ℕ

-- how many bytes the paths of these reads have in total; for `given_total`, how many bytes the reads asked for
unfoldable pub path_total : List Asked → ℕ
path_total [] = 0
path_total (first ∷ later) = first.path_len + path_total later

unfoldable pub given_total : List Asked → ℕ
given_total [] = 0
given_total (first ∷ later) = first.len + given_total later

-- if the images had the contents `held`, each read in the log would have the result that it had
unfoldable pub Agrees : Contents → List Asked → (paths given : List ℕ) → Type 0
Agrees held [] paths given = Unit {0}
Agrees held (first ∷ later) paths given =
    AreRead (held first.line (take first.path_len paths)) first.sector first.answer (take first.len given)
    × Agrees held later (drop first.path_len paths) (drop first.len given)

abbrev pub AgreesWith : Contents → Logged → Type 0
AgreesWith held logged = Agrees held logged.asked logged.paths logged.given
