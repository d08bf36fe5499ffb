-- Paths can be continued at their ends, and a device on a cycle names another one on a cycle.
use Rattle.dm_stack.proofs.Prelude.{ℕ, List, [], length, get_or, Vec, get_or-map, links_in, links_of, Names, IsPath, Reaches}
use Rattle.std.specs.Global.{Global}
use Rattle.std.specs.Prelude.{◌≡◌, ◌<◌, ◌∷◌, ◌++◌}

-- the devices that d names, from the vector at its index
pub links_of-at : (links : List (Vec ℕ Global)) (d : ℕ) (named : Vec ℕ Global) → d < length links → named ≡ get_or links d named → links_of (links_in links) d ≡ named.items
links_of-at links d named below is_named = rw is_named (get_or-map (λ (v : Vec ℕ Global). v.items) links d named [] below)

-- a path continues to what its last device names
path_more : (g : List (List ℕ)) (d : ℕ) (between : List ℕ) (e f : ℕ) → IsPath g d between e → Names g e f → IsPath g d (between ++ e ∷ []) f
path_more g d [] e f path named = (path, named)
path_more g d (m ∷ ms) e f path named = (path.0, path_more g m ms e f path.1 named)

pub Reaches-named : (g : List (List ℕ)) (d e : ℕ) → Names g d e → Reaches g d e
Reaches-named g d e named = record { between = []; path = named }

pub Reaches-more : (g : List (List ℕ)) (d e f : ℕ) → Reaches g d e → Names g e f → Reaches g d f
Reaches-more g d e f reaches named = record { between = reaches.between ++ e ∷ []; path = path_more g d reaches.between e f reaches.path named }

-- a device on a cycle names a device on a cycle
turned : (g : List (List ℕ)) (d : ℕ) (between : List ℕ) → IsPath g d between d → (m : ℕ) × (Names g d m) × Reaches g m m
turned g d [] path = (d, path, Reaches-named g d d path)
turned g d (m ∷ ms) path = (m, path.0, Reaches-more g m d m (record { between = ms; path = path.1 }) path.0)

pub Reaches-turned : (g : List (List ℕ)) (d : ℕ) → Reaches g d d → (m : ℕ) × (Names g d m) × Reaches g m m
Reaches-turned g d reaches = turned g d reaches.between reaches.path
