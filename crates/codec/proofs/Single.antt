-- Each public call's statement allows one answer only, and one buffer where it writes. The claims are about the contracts themselves (`Post`).
use mathlib.Core.Path.{sym, ◌∙◌}
use Rattle.codec.proofs.read.Kinds as read-kinds
use Rattle.codec.proofs.read.Reads as read-reads
use Rattle.codec.proofs.kind_letter.Kinds as kind-letter-kinds
use Rattle.codec.proofs.kind_letter.Reads as kind-letter-reads
use Rattle.codec.proofs.write_record.Kinds as write-record-kinds
use Rattle.codec.proofs.write_record.Reads as write-record-reads
use Rattle.fields.specs.Out.{left}
use Rattle.fields.proofs.Single.{Once}

read_once : Once 1 read-kinds.ps read-kinds.r read-reads.Post (λ κs x s. x)
read_once κs a x y s t p q = p ∙ sym q

kind_letter_once : Once 0 kind-letter-kinds.ps kind-letter-kinds.r kind-letter-reads.Post (λ κs x s. x)
kind_letter_once κs a x y s t p q = p ∙ sym q

write_record_once : Once 2 write-record-kinds.ps write-record-kinds.r write-record-reads.Post (λ κs x s. left s.1.1.0.now x)
write_record_once κs a x y s t p q = p ∙ sym q
