-- A log of reads with one more read.
use Rattle.dm_store.proofs.Prelude.{ℕ, List, [], drop, length, length-drop, arith, take-append-le, take_all, drop-append-le, Asked, AreRead, Contents, Agrees, given_total, path_total}
use Rattle.std.specs.Prelude.{◌≡◌, ◌↔◌, ◌+◌, ◌≤◌, ◌∷◌, ◌++◌}

pub path_more : (log : List Asked) (asked : Asked) → path_total (log ++ asked ∷ []) ≡ path_total log + asked.path_len
unfolding path_total
path_more [] asked = omega arith
path_more (first ∷ later) asked = rw (path_more later asked) (omega arith)

pub given_more : (log : List Asked) (asked : Asked) → given_total (log ++ asked ∷ []) ≡ given_total log + asked.len
unfolding given_total
given_more [] asked = omega arith
given_more (first ∷ later) asked = rw (given_more later asked) (omega arith)

-- contents agree with the log and one more read exactly if they agree with the log and with the read
pub agrees_more : (held : Contents) (log : List Asked) (asked : Asked) (paths path given bytes : List ℕ)
    → length paths ≡ path_total log → length given ≡ given_total log → length path ≡ asked.path_len → length bytes ≡ asked.len
    → Agrees held (log ++ asked ∷ []) (paths ++ path) (given ++ bytes) ↔ (Agrees held log paths given × AreRead (held asked.line path) asked.sector asked.answer bytes)
unfolding Agrees path_total given_total
agrees_more held [] asked [] path [] bytes no_paths no_given path_len len =
    rw (take_all asked.path_len path (omega (arith, path_len)), take_all asked.len bytes (omega (arith, len))) (λ agrees. (tt, agrees.0), λ both. (both.1, tt))
agrees_more held [] asked [] path (b ∷ given) bytes no_paths no_given path_len len = absurd (omega (arith, no_given))
agrees_more held [] asked (b ∷ paths) path given bytes no_paths no_given path_len len = absurd (omega (arith, no_paths))
agrees_more held (first ∷ later) asked paths path given bytes all_paths all_given path_len len =
    let near : first.path_len ≤ length paths = omega (arith, all_paths) in
    let within : first.len ≤ length given = omega (arith, all_given) in
    let rest_paths : length (drop first.path_len paths) ≡ path_total later = omega (arith, all_paths, length-drop first.path_len paths) in
    let rest : length (drop first.len given) ≡ given_total later = omega (arith, all_given, length-drop first.len given) in
    let parts = agrees_more held later asked (drop first.path_len paths) path (drop first.len given) bytes rest_paths rest path_len len in
    rw (take-append-le first.path_len paths path near, take-append-le first.len given bytes within, drop-append-le first.path_len paths path near, drop-append-le first.len given bytes within)
    (λ agrees. let more = parts.0 agrees.1 in ((agrees.0, more.0), more.1), λ both. (both.0.0, parts.1 (both.0.1, both.1)))
