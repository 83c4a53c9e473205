-- `lines::keep_rest` meets its contract: what is held lies in the text, so it is copied whole.
use Rattle.std.proofs.Common.{◌≡◌, List, ℕ, ◌+◌, ◌-◌, ◌≤◌, length, ap, ◌∙◌, arith, zero-add}
use Rattle.fields.specs.Parts.{said}
use Rattle.lines.specs.Splitting.{lent, to_front}
use Rattle.lines.proofs.Fronts.{front, front_is, front_within, front_few}
use Rattle.lines.proofs.keep_rest.Goals as goal

-- what is lent is what is held
held : (t f p : List ℕ) (from to : ℕ) → f ≡ lent p → p ≡ said t (record { from = from; to = to }) → f ≡ front t from to
held t f p from to e q = e ∙ ap lent q

pub overflow_add-from : goal.overflow_add-from
overflow_add-from c =
    let h = held c.args.text.now _ _ c.args.from c.args.to c.lent-count.ensures c.part.ensures in
    omega (arith, ap length h, front_within c.args.text.now c.args.from c.args.to (rw (← h) (omega arith)))

pub copy_within-requires : goal.copy_within-requires
copy_within-requires c =
    let h = held c.args.text.now _ _ c.args.from c.args.to c.lent-count.ensures c.part.ensures in
    let w : c.args.from + length c.lent-count.result.now ≤ length c.args.text.now = omega (arith, ap length h, front_within c.args.text.now c.args.from c.args.to (rw (← h) (omega arith))) in
    record { start_le_end = omega arith; in_bounds = w; dest_in_bounds = omega arith; not_exhausted = tt }

pub returns-then-count-gt0 : goal.returns-then-count-gt0
unfolding to_front
returns-then-count-gt0 c =
    let t = c.args.text.now in
    let from = c.args.from in
    let n = length c.lent-count.result.now in
    let h = held t _ _ from c.args.to c.lent-count.ensures c.part.ensures in
    let z : from + n - from ≡ n = omega arith in
    record { memory = c.copy_within.ensures.after ∙ rw (z, zero-add, h, front_is t from c.args.to); answer = ap length h; few = omega (arith, ap length h, front_few t from c.args.to) }

pub returns-else-count-gt0 : goal.returns-else-count-gt0
unfolding to_front
returns-else-count-gt0 c =
    let t = c.args.text.now in
    let from = c.args.from in
    let h = held t _ _ from c.args.to c.lent-count.ensures c.part.ensures in
    let z : length (front t from c.args.to) ≡ 0 = omega (arith, ap length h) in
    let e = rw z at (front_is t from c.args.to) in
    record { memory = rw (z, ← e); answer = ap length h; few = omega arith }
