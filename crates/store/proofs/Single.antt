-- Each public call's statement allows one answer only, and one memory where it writes. The claims are about the contracts themselves (`Post`).
use Prim.{Unit}
use Rattle.std.specs.Prelude.{Result, Ok, Err}
use mathlib.Core.Path.{◌≡◌, refl, sym, ◌∙◌}
use native.Mathlib.Omega.{arith}
use Rattle.store.proofs.room.Kinds as room-kinds
use Rattle.store.proofs.room.Reads as room-reads
use Rattle.store.proofs.make_fresh.Kinds as make-fresh-kinds
use Rattle.store.proofs.make_fresh.Reads as make-fresh-reads
use Rattle.fields.proofs.Single.{Once}
use Rattle.store.specs.Making.{made_number}
use Rattle.store.specs.declared.MakeError.{MakeError}
use Rattle.store.specs.declared.MakeError.TheVariants.{TooShort}

room_once : Once 0 room-kinds.ps room-kinds.r room-reads.Post (λ κs x s. x)
room_once κs a x y s t p q = p ∙ sym q

-- an answer is told by its number
by_number : (x y : Result (Unit {0}) MakeError) → made_number x ≡ made_number y → x ≡ y
by_number (Ok x) (Ok y) e = refl
by_number (Ok x) (Err TooShort) e = absurd (omega arith)
by_number (Err TooShort) (Ok x) e = absurd (omega arith)
by_number (Err TooShort) (Err TooShort) e = refl

make_fresh_once : Once 1 make-fresh-kinds.ps make-fresh-kinds.r make-fresh-reads.Post (λ κs x s. x)
make_fresh_once κs a x y s t p q = by_number x y (p.0 ∙ sym q.0)

make_fresh_memory : Once 1 make-fresh-kinds.ps make-fresh-kinds.r make-fresh-reads.Post (λ κs x s. s.0.now)
make_fresh_memory κs a x y s t p q = p.1 ∙ sym q.1
