-- Each public call's statement allows one answer only, and one output where it writes. The claims are about the contracts themselves (`Post`).
use mathlib.Core.Path.{◌≡◌, refl, sym, ap, ◌∙◌}
use mathlib.Core.Bool.{cond}
use mathlib.Core.Option.{Option, none, some}
use Prim.Native.Nat.{ℕ}
use Rattle.std.specs.Prelude.{Result, Ok, Err}
use lib.Dec.{eqb}
use Rattle.fields.proofs.Single.{Once}
use Rattle.meo.proofs.order_of.Kinds as order-of-kinds
use Rattle.meo.proofs.order_of.Reads as order-of-reads
use Rattle.meo.proofs.write.Kinds as write-kinds
use Rattle.meo.proofs.write.Reads as write-reads
use Rattle.meo.proofs.read.Kinds as read-kinds
use Rattle.meo.proofs.read.Reads as read-reads
use Rattle.fields.specs.Out.{Said}
use Rattle.meo.specs.Messages.{sent_said, Heard, found_said}
use Rattle.meo.specs.declared.NewOrder.{NewOrder}
use Rattle.meo.specs.declared.SendError.{SendError}
use Rattle.meo.specs.declared.ReadError.{ReadError}

order_of_once : Once 0 order-of-kinds.ps order-of-kinds.r order-of-reads.Post (λ κs x s. x)
order_of_once κs a x y s t p q = p ∙ sym q

-- the answer that says so
abbrev sent_for : Said → Result (Unit {0}) SendError
sent_for x = cond (eqb x.number 0) (Ok tt) (cond (eqb x.number 41) (Err SendError.BadMessage) (cond (eqb x.number 42) (Err SendError.BadOrder) (Err SendError.ShortOutput)))

sent_back : (x : Result (Unit {0}) SendError) → sent_for (sent_said x) ≡ x
sent_back (Ok u) = refl
sent_back (Err SendError.BadMessage) = refl
sent_back (Err SendError.BadOrder) = refl
sent_back (Err SendError.ShortOutput) = refl

abbrev found_or : ℕ → Option NewOrder → Result NewOrder ReadError
found_or k none = cond (eqb k 41) (Err ReadError.BadMessage) (Err ReadError.BadOrder)
found_or k (some n) = Ok n

found_back : (x : Result NewOrder ReadError) → found_or (found_said x).number (found_said x).order ≡ x
found_back (Ok n) = refl
found_back (Err ReadError.BadMessage) = refl
found_back (Err ReadError.BadOrder) = refl

write_once : Once 3 write-kinds.ps write-kinds.r write-reads.Post (λ κs x s. x)
write_once κs a x y s t p q = sym (sent_back x) ∙ ap sent_for (p.0 ∙ sym q.0) ∙ sent_back y

write_output : Once 3 write-kinds.ps write-kinds.r write-reads.Post (λ κs x s. s.1.1.1.0.now)
write_output κs a x y s t p q = p.1 ∙ sym q.1

read_once : Once 1 read-kinds.ps read-kinds.r read-reads.Post (λ κs x s. x)
read_once κs a x y s t p q = sym (found_back x) ∙ ap (λ (r : Heard). found_or r.number r.order) (p ∙ sym q) ∙ found_back y
