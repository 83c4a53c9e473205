-- Each exported call's statement allows one answer, one memory and one buffer only. The claims are about the contracts themselves (`Post`).
use mathlib.Core.Path.{sym, ◌∙◌}
use Rattle.host.proofs.ticketmoss_words.Kinds as words-kinds
use Rattle.host.proofs.ticketmoss_words.Reads as words-reads
use Rattle.host.proofs.ticketmoss_places.Kinds as places-kinds
use Rattle.host.proofs.ticketmoss_places.Reads as places-reads
use Rattle.host.proofs.ticketmoss_fresh.Kinds as fresh-kinds
use Rattle.host.proofs.ticketmoss_fresh.Reads as fresh-reads
use Rattle.host.proofs.ticketmoss_state.Kinds as state-kinds
use Rattle.host.proofs.ticketmoss_state.Reads as state-reads
use Rattle.host.proofs.ticketmoss_record.Kinds as record-kinds
use Rattle.host.proofs.ticketmoss_record.Reads as record-reads
use Rattle.host.proofs.ticketmoss_block.Kinds as block-kinds
use Rattle.host.proofs.ticketmoss_block.Reads as block_reads
use Rattle.host.proofs.ticketmoss_closing.Kinds as closing-kinds
use Rattle.host.proofs.ticketmoss_closing.Reads as closing-reads
use Rattle.host.proofs.ticketmoss_order_write.Kinds as write-kinds
use Rattle.host.proofs.ticketmoss_order_write.Reads as write-reads
use Rattle.host.proofs.ticketmoss_order_read.Kinds as read-kinds
use Rattle.host.proofs.ticketmoss_order_read.Reads as read-reads
use Rattle.fields.proofs.Single.{Once}

words_once : Once 0 words-kinds.ps words-kinds.r words-reads.Post (λ κs x s. x)
words_once κs a x y s t p q = p ∙ sym q

places_once : Once 0 places-kinds.ps places-kinds.r places-reads.Post (λ κs x s. x)
places_once κs a x y s t p q = p ∙ sym q

fresh_once : Once 1 fresh-kinds.ps fresh-kinds.r fresh-reads.Post (λ κs x s. x)
fresh_once κs a x y s t p q = p.0 ∙ sym q.0

fresh_memory : Once 1 fresh-kinds.ps fresh-kinds.r fresh-reads.Post (λ κs x s. s.0.now)
fresh_memory κs a x y s t p q = p.1 ∙ sym q.1

state_once : Once 1 state-kinds.ps state-kinds.r state-reads.Post (λ κs x s. x)
state_once κs a x y s t p q = p ∙ sym q

record_once : Once 3 record-kinds.ps record-kinds.r record-reads.Post (λ κs x s. x)
record_once κs a x y s t p q = p.0 ∙ sym q.0

record_memory : Once 3 record-kinds.ps record-kinds.r record-reads.Post (λ κs x s. s.0.now)
record_memory κs a x y s t p q = p.1.0 ∙ sym q.1.0

record_buffer : Once 3 record-kinds.ps record-kinds.r record-reads.Post (λ κs x s. s.1.1.0.now)
record_buffer κs a x y s t p q = p.1.1 ∙ sym q.1.1

block_once : Once 4 block-kinds.ps block-kinds.r block_reads.Post (λ κs x s. x)
block_once κs a x y s t p q = p.0 ∙ sym q.0

block_memory : Once 4 block-kinds.ps block-kinds.r block_reads.Post (λ κs x s. s.0.now)
block_memory κs a x y s t p q = p.1.0 ∙ sym q.1.0

block_buffer : Once 4 block-kinds.ps block-kinds.r block_reads.Post (λ κs x s. s.1.1.0.now)
block_buffer κs a x y s t p q = p.1.1.0 ∙ sym q.1.1.0

block_taken : Once 4 block-kinds.ps block-kinds.r block_reads.Post (λ κs x s. s.1.1.1.0.now)
block_taken κs a x y s t p q = p.1.1.1 ∙ sym q.1.1.1

closing_once : Once 2 closing-kinds.ps closing-kinds.r closing-reads.Post (λ κs x s. x)
closing_once κs a x y s t p q = p.0 ∙ sym q.0

closing_buffer : Once 2 closing-kinds.ps closing-kinds.r closing-reads.Post (λ κs x s. s.1.1.0.now)
closing_buffer κs a x y s t p q = p.1 ∙ sym q.1

order_write_once : Once 3 write-kinds.ps write-kinds.r write-reads.Post (λ κs x s. x)
order_write_once κs a x y s t p q = p.0 ∙ sym q.0

order_write_output : Once 3 write-kinds.ps write-kinds.r write-reads.Post (λ κs x s. s.1.1.0.now)
order_write_output κs a x y s t p q = p.1 ∙ sym q.1

order_read_once : Once 2 read-kinds.ps read-kinds.r read-reads.Post (λ κs x s. x)
order_read_once κs a x y s t p q = p.0 ∙ sym q.0

order_read_words : Once 2 read-kinds.ps read-kinds.r read-reads.Post (λ κs x s. s.1.0.now)
order_read_words κs a x y s t p q = p.1 ∙ sym q.1
