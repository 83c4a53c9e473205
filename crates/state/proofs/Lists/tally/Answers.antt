-- `state::Lists::tally` meets its contract: every place before is in range, its owner listed, and its value added.
use Rattle.std.proofs.Common.{◌≡◌, sym, ◌∙◌, subst, true, arith, below_more}
use Rattle.laws.specs.Numbered.{apart}
use Rattle.books.specs.Layout.{groups_at}
use Rattle.books.specs.View.{rows_of, head_in}
use Rattle.state.specs.Places.{some_listed}
use Rattle.state.specs.Whole.{fine_at, desks_same}
use Rattle.state.proofs.Lists.tally.Goals as goal

pub loop-i-init : goal.loop-i-init
loop-i-init c = record { sums = c.requires; fine = λ j lt. absurd (omega arith) }

pub add_value-requires-clause-due : goal.add_value-requires-clause-due
add_value-requires-clause-due c = let m = c.args.self.mem.now in
    let found = some_listed _ _ _ (sym c.in-Some.ensures) in
    record {
      taken = c.loop-i-test.true;
      fine = sym c.place_ok.ensures ∙ c.if-not-place_ok.false;
      desk = found.0;
      listed = found.1;
      alone = subst (λ t. apart t (head_in (rows_of m) groups_at) ≡ true) (desks_same m) c.args.self.listed.desks_apart;
    }

pub loop-i-preserved : goal.loop-i-preserved
loop-i-preserved c = let found = some_listed _ _ _ (sym c.in-Some.ensures) in
    record {
      sums = c.add_value.ensures.good c.if-not-add_value.false;
      fine = below_more _ _ c.loop-i.invariant.fine (fine_at _ _ _ found.0 found.1 (sym c.place_ok.ensures ∙ c.if-not-place_ok.false));
    }
