-- The statement of a call that asks nothing allows one answer only. The claims are about the contracts themselves (`Post`).
use mathlib.Core.Path.{sym, ◌∙◌}
use Rattle.checks.proofs.bad_price.Kinds as bad-price-kinds
use Rattle.checks.proofs.bad_price.Reads as bad-price-reads
use Rattle.checks.proofs.try_cancel.Kinds as try-cancel-kinds
use Rattle.checks.proofs.try_cancel.Reads as try-cancel-reads
use Rattle.checks.proofs.try_refused.Kinds as try-refused-kinds
use Rattle.checks.proofs.try_refused.Reads as try-refused-reads
use Rattle.checks.proofs.try_reduction.Kinds as try-reduction-kinds
use Rattle.checks.proofs.try_reduction.Reads as try-reduction-reads
use Rattle.fields.proofs.Single.{Once}
use Rattle.checks.proofs.Refusing.{said_once}

bad_price_once : Once 0 bad-price-kinds.ps bad-price-kinds.r bad-price-reads.Post (λ κs x s. x)
bad_price_once κs a x y s t p q = p ∙ sym q

try_cancel_once : Once 0 try-cancel-kinds.ps try-cancel-kinds.r try-cancel-reads.Post (λ κs x s. x)
try_cancel_once κs a x y s t p q = said_once x y (p ∙ sym q)

try_refused_once : Once 0 try-refused-kinds.ps try-refused-kinds.r try-refused-reads.Post (λ κs x s. x)
try_refused_once κs a x y s t p q = said_once x y (p ∙ sym q)

try_reduction_once : Once 0 try-reduction-kinds.ps try-reduction-kinds.r try-reduction-reads.Post (λ κs x s. x)
try_reduction_once κs a x y s t p q = said_once x y (p ∙ sym q)
