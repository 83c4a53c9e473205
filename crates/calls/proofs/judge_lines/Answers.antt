-- `calls::judge_lines` meets its contract: what the block leaves is what the lines that are left make of memory and of what is left of the buffer.
use mathlib.Core.Path.{sym, ap, ◌∙◌}
use native.Mathlib.Omega.{arith}
use borrow.Author.Rules.{rules}
use Rattle.books.specs.Layout.{room_for}
use Rattle.books.proofs.Judged.{valid_counted}
use Rattle.rules.specs.Meaning.{exactly}
use Rattle.calls.specs.Calling.{Recorded}
use Rattle.calls.specs.Taking.{tail, tail_room, still_ok, few_bytes, next_line, no_more_room, no_more_lines}
use Rattle.calls.specs.Indexing.{linkable}
use Rattle.calls.proofs.judge_lines.Goals as goal

pub bounds-mem-4 : goal.bounds-mem-4
bounds-mem-4 c = let p = c.loop-to in omega (arith, (valid_counted p.mem ((exactly p.mem).0 p.invariant.sound)).long)

pub overflow_add-written : goal.overflow_add-written
overflow_add-written c = let p = c.loop-to in omega (arith, few_bytes p.mem c.line_at-line.result.now (tail p.to p.written) p.invariant.sound (tail_room p.to p.written c.loop-to-test.true) c.judge_line-written.ensures)

pub link_place-requires : goal.link_place-requires
link_place-requires c =
    let p = c.loop-to in
    linkable p.mem c.line_at-line.result.now (tail p.to p.written) p.invariant.sound (tail_room p.to p.written c.loop-to-test.true) p.invariant.indexed (omega (arith, c.requires.mem_in_bounds, ap room_for p.auto.mem)) (ap (λ (r : Recorded). r.memory) c.judge_line-written.ensures) c.judge_line-written.auto.mem

pub loop-to-preserved : goal.loop-to-preserved
loop-to-preserved c =
    let p = c.loop-to in
    let l = c.line_at-line in
    let j = c.judge_line-written.ensures in
    let room = c.loop-to-test.true in
    let few = few_bytes p.mem l.result.now (tail p.to p.written) p.invariant.sound (tail_room p.to p.written room) j in record {
      end_within = search rules;
      at_within = search rules;
      fewer = search rules;
      sound = still_ok p.mem l.result.now (tail p.to p.written) p.invariant.sound (tail_room p.to p.written room) j;
      indexed = c.link_place.ensures;
      taken = p.invariant.taken ∙ next_line _ p.count p.bytes p.written p.mem p.to l.result.now l.ensures.line (omega arith) p.invariant.sound p.invariant.end_within room _ _ _ j;
    }

pub returns-after-loop-to : goal.returns-after-loop-to
returns-after-loop-to c = sym (c.loop-to.invariant.taken ∙ no_more_room _ _ _ _ _ _ c.loop-to.invariant.end_within c.loop-to-test.false)

pub returns-then-line-eq0 : goal.returns-then-line-eq0
returns-then-line-eq0 c = sym (c.loop-to.invariant.taken ∙ no_more_lines _ _ _ _ _ _ _ c.line_at-line.ensures.line c.if-line-eq0.true c.loop-to.invariant.end_within)
