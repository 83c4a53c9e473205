-- `calls::judge_indexed` meets its contract: a line alone is judged as a block of one.
use mathlib.Core.Path.{sym, ap, ◌∙◌}
use Rattle.calls.specs.Blocks.{lines_of, asked}
use Rattle.calls.specs.Taking.{one_taken}
use Rattle.calls.proofs.judge_indexed.Goals as goal

pub returns-in-Line : goal.returns-in-Line
returns-in-Line c =
    let m = c.args.mem.now in
    one_taken m c.in-Line.line.now c.args.to.now c.in_ok-make_index.ensures.0 c.requires.in_bounds c.judge_line.ensures ∙ sym (ap (λ x. asked m (lines_of x) c.args.to.now) c.in-Line.is)
