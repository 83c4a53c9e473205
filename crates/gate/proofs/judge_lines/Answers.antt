-- `gate::judge_lines` meets its contract: what is held after the text, and what its calls leave, is what the lines that are left of it make of memory.
use Rattle.std.proofs.Common.{refl, sym, ◌∙◌, arith}
use Rattle.lines.proofs.Places.{none_ends}
use Rattle.gate.specs.Passing.{passed, none_left}
use Rattle.gate.proofs.judge_lines.Goals as goal

pub overflow_add-at : goal.overflow_add-at
overflow_add-at g c = let w = passed _ c.loop-taken.mem c.loop-taken.answers c.in-Ok.ensures c.args.text.now c.loop-taken.at c.loop-taken.invariant.0 refl in omega arith

pub overflow_sub-answers : goal.overflow_sub-answers
overflow_sub-answers g c = let w = passed _ c.loop-taken.mem c.loop-taken.answers c.in-Ok.ensures c.args.text.now c.loop-taken.at c.loop-taken.invariant.0 refl in omega arith

pub loop-taken-smaller : goal.loop-taken-smaller
loop-taken-smaller g c = let w = passed _ c.loop-taken.mem c.loop-taken.answers c.in-Ok.ensures c.args.text.now c.loop-taken.at c.loop-taken.invariant.0 refl in omega (arith, w.within, w.some_done (omega (arith, c.block.auto.to)))

pub loop-taken-preserved : goal.loop-taken-preserved
loop-taken-preserved g c = let w = passed _ c.loop-taken.mem c.loop-taken.answers c.in-Ok.ensures c.args.text.now c.loop-taken.at c.loop-taken.invariant.0 refl in (w.within, c.loop-taken.invariant.1 ∙ w.held, c.loop-taken.invariant.2 ∙ w.calls)

pub returns-then-answers-taken-ge-ANSWER : goal.returns-then-answers-taken-ge-ANSWER
returns-then-answers-taken-ge-ANSWER g c = let w = passed _ c.loop-taken.mem c.loop-taken.answers c.in-Ok.ensures c.args.text.now c.loop-taken.at c.loop-taken.invariant.0 refl in
    let none = w.all_done (omega (arith, c.block.auto.to)) in
    (w.within, c.loop-taken.invariant.1 ∙ w.held ∙ none_ends _ none, sym (c.loop-taken.invariant.2 ∙ w.calls ∙ none_left _ _ none))
