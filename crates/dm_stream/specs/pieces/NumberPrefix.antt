-- The number and the space with which each line of a request begins.
use Rattle.dm_stream.specs.Base.{ℕ, List, [], decimal, code}
use Rattle.std.specs.Prelude.{◌∷◌, ◌++◌}

-- the request's number and a space
abbrev pub number_prefix : ℕ → List ℕ
number_prefix number = decimal number ++ code " " ∷ []
