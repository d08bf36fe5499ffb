use Rattle.dmremap.proofs.Prelude.{◌∙◌, ℕ, true, false, List, Result, ap, arith, drop, get_or, length, sym, is_ok, drop_more, DiskPath, len_of, ReadFault}
use Rattle.dmremap.proofs.ImagesLemmas.{short_end, short_next}
use Rattle.dmremap.proofs.images_load.first_short.Goals as goal
use Rattle.std.specs.Prelude.{◌≡◌, ◌+◌, ◌-◌, ◌<◌, ◌∷◌}

pub returns-in-Err-clause-is : goal.returns-in-Err-clause-is
returns-in-Err-clause-is g c = λ held seen.
    let paths : List DiskPath = c.args.disks.now.paths.items in
    let disk : ℕ = c.loop-disk.disk in
    let path : DiskPath = c.index.result.now in
    let below : disk < length paths = omega (arith, c.loop-disk-test.true, c.len-disk-end.ensures, c.args.disks.now.paths.ok.0) in
    let there : path ≡ get_or paths disk path = c.index.ensures ∙ ap (λ (xs : List DiskPath). get_or xs disk path) c.loop-disk.invariant.paths in
    let here : drop disk paths ≡ path ∷ drop (disk + 1) paths = drop_more paths disk path below ∙ ap (λ (first : DiskPath). first ∷ drop (disk + 1) paths) (sym there) in
    let last : c.saturating_sub.result ≡ len_of c.args.stack.now path.disk - 1 = c.saturating_sub.ensures ∙ ap (λ (n : ℕ). n - 1) (c.len_of-len.ensures.is ∙ ap (len_of c.args.stack.now) c.as_str.ensures.text) in
    let no : is_ok (held disk (len_of c.args.stack.now path.disk - 1)) ≡ false = ap (λ (n : ℕ). is_ok (held disk n)) (sym last) ∙ ap (λ (r : Result (List ℕ) ReadFault). is_ok r) (c.in-Err.ensures.is held seen) in
    sym (c.loop-disk.invariant.short held (c.read_sector.ensures.still held seen) ∙ short_next c.args.stack.now held paths path disk false here no)

pub loop-disk-preserved : goal.loop-disk-preserved
loop-disk-preserved g c = record {
  sector = let same = c.read_sector.auto.into in omega (arith, same, c.loop-disk.invariant.sector);
  paths = c.read_sector.ensures.listed ∙ c.loop-disk.invariant.paths;
  still = λ held seen. c.loop-disk.invariant.still held (c.read_sector.ensures.still held seen);
  short = λ held seen.
      let paths : List DiskPath = c.args.disks.now.paths.items in
      let disk : ℕ = c.loop-disk.disk in
      let path : DiskPath = c.index.result.now in
      let below : disk < length paths = omega (arith, c.loop-disk-test.true, c.len-disk-end.ensures, c.args.disks.now.paths.ok.0) in
      let there : path ≡ get_or paths disk path = c.index.ensures ∙ ap (λ (xs : List DiskPath). get_or xs disk path) c.loop-disk.invariant.paths in
      let here : drop disk paths ≡ path ∷ drop (disk + 1) paths = drop_more paths disk path below ∙ ap (λ (first : DiskPath). first ∷ drop (disk + 1) paths) (sym there) in
      let last : c.saturating_sub.result ≡ len_of c.args.stack.now path.disk - 1 = c.saturating_sub.ensures ∙ ap (λ (n : ℕ). n - 1) (c.len_of-len.ensures.is ∙ ap (len_of c.args.stack.now) c.as_str.ensures.text) in
      let yes : is_ok (held disk (len_of c.args.stack.now path.disk - 1)) ≡ true = ap (λ (n : ℕ). is_ok (held disk n)) (sym last) ∙ ap (λ (r : Result (List ℕ) ReadFault). is_ok r) (c.in-Ok.ensures.is held seen) in
      c.loop-disk.invariant.short held (c.read_sector.ensures.still held seen) ∙ short_next c.args.stack.now held paths path disk true here yes;
}

pub returns-clause-is : goal.returns-clause-is
returns-clause-is g c = λ held seen.
    sym (c.loop-disk.invariant.short held seen ∙ short_end c.args.stack.now held c.args.disks.now.paths.items c.loop-disk.disk (omega (arith, c.loop-disk-test.false, c.len-disk-end.ensures, c.args.disks.now.paths.ok.0)))
