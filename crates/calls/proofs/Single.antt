-- Each public call's statement allows one answer, one memory and one buffer only. The claims are about the contracts themselves (`Post`).
use mathlib.Core.Path.{◌≡◌, refl, sym, ap, ◌∙◌}
use mathlib.Core.Bool.{cond}
use lib.Dec.{eqb}
use Rattle.std.specs.Prelude.{ℕ, Result, Ok, Err}
use Rattle.calls.proofs.record.Kinds as record-kinds
use Rattle.calls.proofs.record.Reads as record-reads
use Rattle.calls.proofs.block.Kinds as block-kinds
use Rattle.calls.proofs.block.Reads as block_reads
use Rattle.calls.proofs.closing.Kinds as closing-kinds
use Rattle.calls.proofs.closing.Reads as closing-reads
use Rattle.fields.proofs.Single.{Once}
use Rattle.fields.specs.Out.{Said}
use Rattle.calls.specs.Calling.{answer_said, closing_said, Recorded, Closing}
use Rattle.calls.specs.Blocks.{Block, Took, took}
use Rattle.calls.specs.declared.CallError.{CallError}
use Rattle.calls.specs.declared.ClosingError.{ClosingError}
use Rattle.calls.specs.declared.Taken.{Taken}

-- an answer is told by its number and its bytes
abbrev answer_for : Said → Result ℕ CallError
answer_for x = cond (eqb x.number 0) (Ok x.bytes) (Err (cond (eqb x.number 21) CallError.ShortBuffer CallError.BadState))

answer_back : (x : Result ℕ CallError) → answer_for (answer_said x) ≡ x
answer_back (Ok n) = refl
answer_back (Err CallError.ShortBuffer) = refl
answer_back (Err CallError.BadState) = refl

abbrev taken_for : Took → Result Taken CallError
taken_for x = cond (eqb x.number 0) (Ok (record { count = x.lines; bytes = x.bytes; written = x.written })) (Err (cond (eqb x.number 21) CallError.ShortBuffer CallError.BadState))

taken_back : (x : Result Taken CallError) → taken_for (took x) ≡ x
taken_back (Ok t) = refl
taken_back (Err CallError.ShortBuffer) = refl
taken_back (Err CallError.BadState) = refl

abbrev closing_for : Said → Result ℕ ClosingError
closing_for x = cond (eqb x.number 0) (Ok x.bytes) (Err (cond (eqb x.number 21) ClosingError.ShortBuffer (cond (eqb x.number 22) ClosingError.BadState ClosingError.Unlisted)))

closing_back : (x : Result ℕ ClosingError) → closing_for (closing_said x) ≡ x
closing_back (Ok n) = refl
closing_back (Err ClosingError.ShortBuffer) = refl
closing_back (Err ClosingError.BadState) = refl
closing_back (Err ClosingError.Unlisted) = refl

record_once : Once 3 record-kinds.ps record-kinds.r record-reads.Post (λ κs x s. x)
record_once κs a x y s t p q = sym (answer_back x) ∙ ap (λ (r : Recorded). answer_for r.said) (p ∙ sym q) ∙ answer_back y

record_memory : Once 3 record-kinds.ps record-kinds.r record-reads.Post (λ κs x s. s.0.now)
record_memory κs a x y s t p q = ap (λ (r : Recorded). r.memory) (p ∙ sym q)

record_buffer : Once 3 record-kinds.ps record-kinds.r record-reads.Post (λ κs x s. s.1.1.0.now)
record_buffer κs a x y s t p q = ap (λ (r : Recorded). r.buffer) (p ∙ sym q)

block_once : Once 3 block-kinds.ps block-kinds.r block_reads.Post (λ κs x s. x)
block_once κs a x y s t p q = sym (taken_back x) ∙ ap (λ (r : Block). taken_for (record { number = r.number; lines = r.lines; bytes = r.bytes; written = r.written })) (p ∙ sym q) ∙ taken_back y

block_memory : Once 3 block-kinds.ps block-kinds.r block_reads.Post (λ κs x s. s.0.now)
block_memory κs a x y s t p q = ap (λ (r : Block). r.memory) (p ∙ sym q)

block_buffer : Once 3 block-kinds.ps block-kinds.r block_reads.Post (λ κs x s. s.1.1.0.now)
block_buffer κs a x y s t p q = ap (λ (r : Block). r.buffer) (p ∙ sym q)

closing_once : Once 2 closing-kinds.ps closing-kinds.r closing-reads.Post (λ κs x s. x)
closing_once κs a x y s t p q = sym (closing_back x) ∙ ap (λ (r : Closing). closing_for r.said) (p ∙ sym q) ∙ closing_back y

closing_buffer : Once 2 closing-kinds.ps closing-kinds.r closing-reads.Post (λ κs x s. s.1.1.0.now)
closing_buffer κs a x y s t p q = ap (λ (r : Closing). r.buffer) (p ∙ sym q)
