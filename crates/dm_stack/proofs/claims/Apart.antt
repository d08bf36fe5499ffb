-- If no claims clash, two spans with a sector that they may not share are the same span of the same line.
use Rattle.dm_stack.proofs.Prelude.{ℕ, false, Some, length, sym, ap, subst, ◌∙◌, option_map, slice_get, range_with_len, get_or_from_slice_get, slice_get-map, slice_get_within, Line, Use, Span, spans, Claim, Lower, Device, NeverMeet, HasSector, IsTidy, IsTop, claims, device_claims, may_share, span_claim, span_end, Description, lines_at, lower_len, lower_of}
use Rattle.dm_stack.specs.claims.Claims.{line_claims}
use Rattle.dm_stack.proofs.claims.MeetLemmas.{share_turn}
use Rattle.dm_stack.proofs.claims.Parts.{PairsAt, number_at, pairs_at, pairs_part, part_there, same_part, same_place}
use Rattle.std.specs.Prelude.{◌≡◌, ◌<◌, ◌≤◌}

-- the span with this number, of the line with this number in the device, names this lower device or disk
pub record IsNamed (stack : Description) (device place column : ℕ) (line : Line) (lower : Lower) : Type 0 where
  pub there : device < length stack.devices
  pub line_at : slice_get (lines_at stack device) place ≡ Some line
  pub span : Span
  pub span_at : slice_get (spans line) column ≡ Some span
  pub on : lower_of stack span.to ≡ lower

-- the span names this lower sector, for this kind of use
pub record IsVia (stack : Description) (device place column : ℕ) (line : Line) (lower : Lower) (at : ℕ) (kind : Use) : Type 0 where
  pub there : device < length stack.devices
  pub line_at : slice_get (lines_at stack device) place ≡ Some line
  pub span : Span
  pub span_at : slice_get (spans line) column ≡ Some span
  pub on : lower_of stack span.to ≡ lower
  pub from : span.offset ≤ at
  pub before : at < span_end (lower_len stack (lower_of stack span.to)) span.offset span.len
  pub used : span.kind ≡ kind

claim_at : (stack : Description) (device place column : ℕ) (line : Line) (lower : Lower) (at : ℕ) (kind : Use) (via : IsVia stack device place column line lower at kind) → slice_get (line_claims stack device line) column ≡ Some (span_claim stack device via.span)
claim_at stack device place column line lower at kind via = slice_get-map (span_claim stack device) (spans line) column ∙ ap (option_map (span_claim stack device)) via.span_at

-- Two claims of one device, line by line and span by span

pub record AreOne (d e i j : ℕ) (l m : Line) : Type 0 where
  pub devices : d ≡ e
  pub lines : l ≡ m
  pub columns : i ≡ j

by_device : (stack : Description) (d e p q i j : ℕ) (l m : Line) (x y : Claim) → d ≡ e → PairsAt NeverMeet (device_claims stack d) → slice_get (lines_at stack d) p ≡ Some l → slice_get (lines_at stack e) q ≡ Some m
    → slice_get (line_claims stack d l) i ≡ Some x → slice_get (line_claims stack e m) j ≡ Some y → (NeverMeet x y → ⊥) → (NeverMeet y x → ⊥) → AreOne d e i j l m
by_device stack d e p q i j l m x y same pairs on_p on_q at_i at_j never neither =
    let on_q = rw (← same) at on_q in let at_j = rw (← same) at at_j in
    let places : p ≡ q = same_part NeverMeet (line_claims stack d) (lines_at stack d) p q i j l m x y pairs on_p on_q at_i at_j never neither in
    let lines : l ≡ m = cc (sym on_p ∙ ap (slice_get (lines_at stack d)) places ∙ on_q) in
    record { devices = same; lines = lines; columns = same_place NeverMeet (line_claims stack d l) i j x y (pairs_part NeverMeet (line_claims stack d) (lines_at stack d) p l pairs on_p) at_i (rw lines at_j) never neither }

-- two spans that name one sector are the same if they may not share it
pub one_via : (stack : Description) (d e p q i j : ℕ) (l m : Line) (lower : Lower) (at : ℕ) (one other : Use) → IsTidy stack → IsVia stack d p i l lower at one → IsVia stack e q j m lower at other → may_share one other ≡ false → AreOne d e i j l m
one_via stack d e p q i j l m lower at one other tidy a b rivals =
    let x = span_claim stack d a.span in let y = span_claim stack e b.span in
    let clash : may_share x.kind y.kind ≡ false = rw a.used (ap (may_share one) b.used ∙ rivals) in
    let has_x : HasSector x lower at = record { on = a.on; from = a.from; before = a.before } in
    let has_y : HasSector y lower at = record { on = b.on; from = b.from; before = b.before } in
    let never : NeverMeet x y → ⊥ = λ apart. apart lower at (record { here = has_x; there = has_y; rivals = clash }) in
    let neither : NeverMeet y x → ⊥ = λ apart. apart lower at (record { here = has_y; there = has_x; rivals = share_turn y.kind x.kind ∙ clash }) in
    let pairs = pairs_at NeverMeet (claims stack) tidy in
    let ids = range_with_len 0 (length stack.devices) in
    let at_d = claim_at stack d p i l lower at one a in let at_e = claim_at stack e q j m lower at other b in
    let on_d = part_there (line_claims stack d) (lines_at stack d) p i l x a.line_at at_d in
    let on_e = part_there (line_claims stack e) (lines_at stack e) q j m y b.line_at at_e in
    let number_d = number_at (length stack.devices) d a.there in
    let same : d ≡ e = same_part NeverMeet (device_claims stack) ids d e on_d.0 on_e.0 d e x y pairs number_d (number_at (length stack.devices) e b.there) on_d.1 on_e.1 never neither in
    by_device stack d e p q i j l m x y same (pairs_part NeverMeet (device_claims stack) ids d d pairs number_d) a.line_at b.line_at at_d at_e never neither

-- no line names a top device
pub top_named : (stack : Description) (top d p i : ℕ) (l : Line) (lower : Lower) → IsTop stack top → IsNamed stack d p i l lower → lower ≡ Device top → ⊥
top_named stack top d p i l lower is_top via same =
    let x = span_claim stack d via.span in
    let at_i = slice_get-map (span_claim stack d) (spans l) i ∙ ap (option_map (span_claim stack d)) via.span_at in
    let on_d = part_there (line_claims stack d) (lines_at stack d) p i l x via.line_at at_i in
    let on_all = part_there (device_claims stack) (range_with_len 0 (length stack.devices)) d on_d.0 d x (number_at (length stack.devices) d via.there) on_d.1 in
    let none = is_top on_all.0 x (slice_get_within (claims stack) on_all.0 x on_all.1) in
    subst (λ (c : Claim). c.to ≡ Device top → ⊥) (get_or_from_slice_get (claims stack) on_all.0 x x on_all.1) none (via.on ∙ same)
