-- Each public call's statement allows one answer only, and one buffer where it writes. The claims are about the contracts themselves (`Post`).
use mathlib.Core.Path.{sym, ◌∙◌}
use Rattle.answers.proofs.write_answer.Kinds as write-answer-kinds
use Rattle.answers.proofs.write_answer.Reads as write-answer-reads
use Rattle.answers.proofs.write_closing.Kinds as write-closing-kinds
use Rattle.answers.proofs.write_closing.Reads as write-closing-reads
use Rattle.fields.specs.Out.{left}
use Rattle.fields.proofs.Single.{Once}

write_answer_once : Once 2 write-answer-kinds.ps write-answer-kinds.r write-answer-reads.Post (λ κs x s. left s.1.1.1.0.now x)
write_answer_once κs a x y s t p q = p ∙ sym q

write_closing_once : Once 1 write-closing-kinds.ps write-closing-kinds.r write-closing-reads.Post (λ κs x s. left s.1.0.now x)
write_closing_once κs a x y s t p q = p ∙ sym q
