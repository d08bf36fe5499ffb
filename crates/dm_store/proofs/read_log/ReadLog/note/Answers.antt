use Rattle.dm_store.proofs.Prelude.{ℕ, List, length, length-append, refl, sym, ap, ◌∙◌, Asked, given_total, path_total}
use Rattle.dm_store.proofs.LogLemmas.{agrees_more, given_more, path_more}
use Rattle.dm_store.proofs.read_log.ReadLog.note.Goals as goal
use Rattle.std.specs.Prelude.{◌≡◌, ◌+◌, ◌++◌}

pub invariant_of-self : goal.invariant_of-self
invariant_of-self c =
    let log = c.self.inside in let path : List ℕ = c.args.path.now in let bytes : List ℕ = c.args.bytes.now in
    let asked : Asked = record { line = c.args.line; path_len = length path; sector = c.args.sector; len = length bytes; answer = c.args.answer } in
    let paths : c.note-2.new.self.items ≡ log.paths.items ++ path = c.note-2.ensures ∙ ap (λ (xs : List ℕ). log.paths.items ++ xs) c.as_bytes.ensures.value in (
      ap (λ (xs : List ℕ). length xs) paths ∙ length-append log.paths.items path ∙ ap (λ (n : ℕ). n + length path) c.self.invariant.0 ∙ sym (path_more log.asked.items asked) ∙ ap (λ (rs : List Asked). path_total rs) (sym c.note.ensures),
      ap (λ (xs : List ℕ). length xs) c.note-3.ensures ∙ length-append log.given.items bytes ∙ ap (λ (n : ℕ). n + length bytes) c.self.invariant.1 ∙ sym (given_more log.asked.items asked) ∙ ap (λ (rs : List Asked). given_total rs) (sym c.note.ensures),
    )

pub returns : goal.returns
returns c = λ held.
    let log = c.self.inside in let path : List ℕ = c.args.path.now in let bytes : List ℕ = c.args.bytes.now in
    let asked : Asked = record { line = c.args.line; path_len = length path; sector = c.args.sector; len = length bytes; answer = c.args.answer } in
    let paths : c.note-2.new.self.items ≡ log.paths.items ++ path = c.note-2.ensures ∙ ap (λ (xs : List ℕ). log.paths.items ++ xs) c.as_bytes.ensures.value in
    rw (← c.self.view_is, c.note.ensures, paths, c.note-3.ensures) (agrees_more held log.asked.items asked log.paths.items path log.given.items bytes c.self.invariant.0 c.self.invariant.1 refl refl)
