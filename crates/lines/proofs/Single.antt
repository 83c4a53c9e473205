-- Each public call's statement allows one answer only, and one text where it writes. The claims are about the contracts themselves (`Post`).
use mathlib.Core.Path.{sym, ◌∙◌}
use Rattle.fields.proofs.Single.{Once}
use Rattle.lines.proofs.line_at.Kinds as line-at-kinds
use Rattle.lines.proofs.line_at.Reads as line-at-reads
use Rattle.lines.proofs.lent.Kinds as lent-kinds
use Rattle.lines.proofs.lent.Reads as Lent-reads
use Rattle.lines.proofs.keep_rest.Kinds as keep-rest-kinds
use Rattle.lines.proofs.keep_rest.Reads as keep-rest-reads

line_at_once : Once 1 line-at-kinds.ps line-at-kinds.r line-at-reads.Post (λ κs x s. x.now)
line_at_once κs a x y s t p q = p.0 ∙ sym q.0

lent_once : Once 1 lent-kinds.ps lent-kinds.r Lent-reads.Post (λ κs x s. x.now)
lent_once κs a x y s t p q = p ∙ sym q

keep_rest_once : Once 1 keep-rest-kinds.ps keep-rest-kinds.r keep-rest-reads.Post (λ κs x s. x)
keep_rest_once κs a x y s t p q = p.1.0 ∙ sym q.1.0

keep_rest_text : Once 1 keep-rest-kinds.ps keep-rest-kinds.r keep-rest-reads.Post (λ κs x s. s.0.now)
keep_rest_text κs a x y s t p q = p.0 ∙ sym q.0
