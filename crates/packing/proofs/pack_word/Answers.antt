-- `packing::pack_word` meets its contract: the word so far is that of the bytes that were passed, from the last on.
use Rattle.std.proofs.Common.{◌≡◌, ◌+◌, ◌-◌, ◌*◌, ◌^◌, ◌<◌, [], ◌∷◌, ◌++◌, length, get_or, arith, ◌∙◌}
use Rattle.std.proofs.Math.Nat.{pow-le-pow_right}
use Rattle.std.proofs.lemmas.List.{length-reverse, length_push, get_or-reverse, get_or_read}
use Rattle.std.proofs.lemmas.Iterator.Adapters.{YieldsList-from_rev_slice}
use Rattle.std.proofs.lemmas.Iterator.Consumers.{YieldsList-turn, YieldsList-end}
use lib.Seq.{drop-length}
use Rattle.rulebook.specs.Names.{word}
use Rattle.packing.specs.Spelling.{word_step, word_grows}
use Rattle.packing.proofs.pack_word.Goals as goal

pub loop-b-init : goal.loop-b-init
unfolding word
loop-b-init c =
    let text = c.args.text.now in
    let z : length text - 0 ≡ length text = omega arith in
    (omega arith, rw (z, drop-length text), omega (arith, pow-le-pow_right {n = 256} (omega arith) {i = 0} {j = 8 - (length text - 0)} (omega arith)))

-- the byte of this turn stands before those that were passed
record Turn (c : goal.After-from) : Type 0 where
  some : length c.loop-b.yielded < length c.args.text.now
  byte : c.from.result ≡ get_or c.args.text.now (length c.args.text.now - length c.loop-b.yielded - 1) 0

turn : (c : goal.After-from) → Turn c
turn c =
    let text = c.args.text.now in
    let k = length c.loop-b.yielded in
    let n = length-reverse text in
    let t = YieldsList-turn (YieldsList-from_rev_slice text cc) c.loop-b.yielded _ c.loop-b.yielded_by _ _ c.in-Some.b c.in-Some.is c.next.ensures.steps in
    let m : length text - 1 - k ≡ length text - k - 1 = omega arith in
    record {
      some = omega (arith, t.0);
      byte = c.from.ensures ∙ get_or_read _ k _ t.0 t.1 0 ∙ get_or-reverse text k 0 (omega (arith, t.0)) ∙ rw m;
    }

grows : (c : goal.After-from) → (c.from.result + 256 * c.loop-b.w < 256 ^ (8 - (length c.args.text.now - length c.loop-b.yielded - 1))) × (c.from.result + 256 * c.loop-b.w < 256 ^ 8)
grows c =
    let left = length c.args.text.now - length c.loop-b.yielded in
    word_grows left c.loop-b.w c.from.result (omega (arith, (turn c).some)) (omega arith) c.loop-b.invariant.2 (omega (arith, (turn c).byte, c.type_inv.text (left - 1)))

pub overflow_mul-w : goal.overflow_mul-w
overflow_mul-w c = omega (arith, (grows c).1)

pub overflow_add-w : goal.overflow_add-w
overflow_add-w c = omega (arith, (grows c).1)

pub loop-b-preserved : goal.loop-b-preserved
loop-b-preserved c =
    let text = c.args.text.now in
    let left = length text - length c.loop-b.yielded in
    let n = length_push c.loop-b.yielded c.in-Some.b in
    let e : length text - length (c.loop-b.yielded ++ (c.in-Some.b ∷ [])) ≡ left - 1 = omega arith in
    (omega (arith, (turn c).some), rw (e, word_step text left (omega (arith, (turn c).some)) (omega arith), (turn c).byte, c.loop-b.invariant.1), rw e (grows c).0)

pub returns : goal.returns
returns c =
    let text = c.args.text.now in
    let n = length-reverse text in
    let t = YieldsList-end (YieldsList-from_rev_slice text cc) c.loop-b.yielded _ c.loop-b.yielded_by _ _ c.in-None.is c.next.ensures.steps in
    let z : length text - length c.loop-b.yielded ≡ 0 = omega (arith, t.1) in
    rw z at c.loop-b.invariant.1
