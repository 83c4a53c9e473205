-- The statement of `judge`, which the public call `calls::record` stands on, allows one answer only. The claim is about the contract itself (`Post`).
use mathlib.Core.Path.{sym, ◌∙◌}
use Rattle.judge.proofs.judge.Kinds as judge-kinds
use Rattle.judge.proofs.judge.Reads as judge-reads
use Rattle.fields.proofs.Single.{Once}

judge_once : Once 2 judge-kinds.ps judge-kinds.r judge-reads.Post (λ κs x s. x)
judge_once κs a x y s t p q = p ∙ sym q
