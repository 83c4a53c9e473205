-- `calls::closing` meets its contract: 21, 22 and 5 write nothing, and a listed group's line has room.
use mathlib.Core.Path.{sym, ap, ◌∙◌, subst}
use Rattle.std.proofs.Common.{◌≡◌, Some, None, arith}
use Rattle.std.proofs.lemmas.Result.{err_from_is_err_and}
use Rattle.calls.specs.Keeping.{line_begun, line_count, is_written}
use Rattle.calls.specs.Totals.{closing_by, ShortLine, totals_closed, totals_short}
use Rattle.calls.specs.Calling.{bytes_said, closing_left}
use Rattle.calls.specs.declared.ClosingError.TheVariants.{Unlisted}
use Rattle.calls.proofs.closing.Goals as goal

pub returns-in_err-totals : goal.returns-in_err-totals
returns-in_err-totals c =
    let p = err_from_is_err_and c.from_residual.result c.from_residual.ensures.1 in
    let none : c.closing_totals.result ≡ None = grind arith in
    let why : c.in_err-totals.field-0.0 ≡ Unlisted = grind arith in
    let ok = sym c.state_ok.ensures ∙ c.if-not-state_ok.false in
    rw (p.1, p.2, why) (sym (totals_closed c.args.mem.now c.args.place ok c.args.to.now c.if-to-lt-CLOSING.false ∙ ap (λ x. closing_by x c.args.to.now) (sym c.closing_totals.ensures ∙ none)))

pub unwrap-requires : goal.unwrap-requires
unwrap-requires c =
    let some : c.closing_totals.result ≡ Some c.in_ok-totals.totals = grind arith in
    let ok = sym c.state_ok.ensures ∙ c.if-not-state_ok.false in
    is_written _ _ _ _ _ c.write_closing.ensures (subst ShortLine (sym c.closing_totals.ensures ∙ some) (totals_short c.args.mem.now c.args.place ok), c.if-to-lt-CLOSING.false)

pub returns : goal.returns
returns c =
    let some : c.closing_totals.result ≡ Some c.in_ok-totals.totals = grind arith in
    let ok = sym c.state_ok.ensures ∙ c.if-not-state_ok.false in
    let totals = sym c.closing_totals.ensures ∙ some in
    let bytes = line_count _ _ _ _ _ c.write_closing.ensures (subst ShortLine totals (totals_short c.args.mem.now c.args.place ok), c.if-to-lt-CLOSING.false) _ c.unwrap.ensures in
    let buffer = line_begun _ _ _ _ _ c.write_closing.ensures (subst ShortLine totals (totals_short c.args.mem.now c.args.place ok), c.if-to-lt-CLOSING.false) in
    (λ j. closing_left (bytes_said (bytes j)) (buffer j)) ∙ sym (totals_closed c.args.mem.now c.args.place ok c.args.to.now c.if-to-lt-CLOSING.false ∙ ap (λ x. closing_by x c.args.to.now) totals)
