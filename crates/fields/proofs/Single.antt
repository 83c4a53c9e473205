-- Each public call's statement allows one answer only, and one buffer where it writes. The claims are about the contracts themselves (`Post`).
use mathlib.Core.Path.{◌≡◌, sym, ◌∙◌}
use mathlib.Core.List.{List}
use Prim.Native.Nat.{ℕ}
use contract.Lifetimes.{Lfts}
use denote.Triple.Clauses.{AtExit}
use borrow.Fn.Kinds.{ParamKind, ResultKind, Out, Dens, res_t, ended_of}
use Rattle.fields.proofs.FormFromU8.from.Kinds as from-kinds
use Rattle.fields.proofs.FormFromU8.from.Reads as from-reads
use Rattle.fields.proofs.byte_at.Kinds as byte-at-kinds
use Rattle.fields.proofs.byte_at.Reads as byte-at-reads
use Rattle.fields.proofs.field.Kinds as field-kinds
use Rattle.fields.proofs.field.Reads as field-reads
use Rattle.fields.proofs.part.Kinds as part-kinds
use Rattle.fields.proofs.part.Reads as part-reads
use Rattle.fields.proofs.Form.takes_byte.Kinds as form-takes-byte-kinds
use Rattle.fields.proofs.Form.takes_byte.Reads as form-takes-byte-reads
use Rattle.fields.proofs.Form.is_text.Kinds as form-is-text-kinds
use Rattle.fields.proofs.Form.is_text.Reads as form-is-text-reads
use Rattle.fields.proofs.takes_byte.Kinds as takes-byte-kinds
use Rattle.fields.proofs.takes_byte.Reads as takes-byte-reads
use Rattle.fields.proofs.is_text.Kinds as is-text-kinds
use Rattle.fields.proofs.is_text.Reads as is-text-reads
use Rattle.fields.proofs.identifier_at.Kinds as identifier-at-kinds
use Rattle.fields.proofs.identifier_at.Reads as identifier-at-reads
use Rattle.fields.proofs.mpid_at.Kinds as mpid-at-kinds
use Rattle.fields.proofs.mpid_at.Reads as mpid-at-reads
use Rattle.fields.proofs.side_at.Kinds as side-at-kinds
use Rattle.fields.proofs.side_at.Reads as side-at-reads
use Rattle.fields.proofs.yes_no_at.Kinds as yes-no-at-kinds
use Rattle.fields.proofs.yes_no_at.Reads as yes-no-at-reads
use Rattle.fields.proofs.serial_at.Kinds as serial-at-kinds
use Rattle.fields.proofs.serial_at.Reads as serial-at-reads
use Rattle.fields.proofs.size_at.Kinds as size-at-kinds
use Rattle.fields.proofs.size_at.Reads as size-at-reads
use Rattle.fields.proofs.price_at.Kinds as price-at-kinds
use Rattle.fields.proofs.price_at.Reads as price-at-reads
use Rattle.fields.proofs.quoted_at.Kinds as quoted-at-kinds
use Rattle.fields.proofs.quoted_at.Reads as quoted-at-reads
use Rattle.fields.proofs.limit_at.Kinds as limit-at-kinds
use Rattle.fields.proofs.limit_at.Reads as limit-at-reads
use Rattle.fields.proofs.is_ended.Kinds as is-ended-kinds
use Rattle.fields.proofs.is_ended.Reads as is-ended-reads
use Rattle.fields.proofs.Writer.put.Kinds as put-kinds
use Rattle.fields.proofs.Writer.put.Reads as put_reads
use Rattle.fields.proofs.Writer.put_all.Kinds as put-all-kinds
use Rattle.fields.proofs.Writer.put_all.Reads as put-all-reads
use Rattle.fields.proofs.Writer.put_text.Kinds as put-text-kinds
use Rattle.fields.proofs.Writer.put_text.Reads as put-text-reads
use Rattle.fields.proofs.Writer.put_number.Kinds as put-number-kinds
use Rattle.fields.proofs.Writer.put_number.Reads as put-number-reads
use Rattle.fields.proofs.Writer.put_letter.Kinds as put-letter-kinds
use Rattle.fields.proofs.Writer.put_letter.Reads as put-letter-reads
use Rattle.fields.proofs.Writer.put_texts.Kinds as put-texts-kinds
use Rattle.fields.proofs.Writer.put_texts.Reads as put-texts-reads
use Rattle.fields.proofs.Writer.put_numbers.Kinds as put-numbers-kinds
use Rattle.fields.proofs.Writer.put_numbers.Reads as put-numbers-reads
use Rattle.fields.proofs.hand_over.Kinds as hand-over-kinds
use Rattle.fields.proofs.hand_over.Reads as hand-over-reads
use Rattle.fields.specs.declared.Writer.{Writer}
use Rattle.fields.specs.Out.{cursor, Leaves, left}
use Rattle.fields.specs.Out as written

-- two answers to one call are the same, as far as a reading of them tells, and so are the two buffers that it leaves
abbrev pub Once : {B : Type 0} (n : ℕ) (ps : List (ParamKind n)) (r : ResultKind n) → Out n ps r → ((κs : Lfts n) → (res_t r κs).Denot → AtExit (ended_of n ps r) κs → B) → Type 0
Once n ps r P seen = (κs : Lfts n) (a : Dens κs ps) (x y : (res_t r κs).Denot) (s t : AtExit (ended_of n ps r) κs) → P κs a x s → P κs a y t → seen κs x s ≡ seen κs y t

-- a writer after a call: which buffer it holds, and where it stands in which bytes
abbrev stands : Writer → ℕ × written.Out
stands w = (w.to.ghost_name, cursor w)

one_stand : (w v u : Writer) (o : written.Out) → Leaves w v o → Leaves w u o → stands v ≡ stands u
one_stand w v u o p q = rw (p.0, p.1, q.0, q.1)

from_once : Once 0 from-kinds.ps from-kinds.r from-reads.Post (λ κs x s. x)
from_once κs a x y s t p q = p ∙ sym q

byte_at_once : Once 1 byte-at-kinds.ps byte-at-kinds.r byte-at-reads.Post (λ κs x s. x)
byte_at_once κs a x y s t p q = p ∙ sym q

field_once : Once 1 field-kinds.ps field-kinds.r field-reads.Post (λ κs x s. x.now)
field_once κs a x y s t p q = p ∙ sym q

part_once : Once 1 part-kinds.ps part-kinds.r part-reads.Post (λ κs x s. x.now)
part_once κs a x y s t p q = p ∙ sym q

takes_byte_once : Once 0 takes-byte-kinds.ps takes-byte-kinds.r takes-byte-reads.Post (λ κs x s. x)
takes_byte_once κs a x y s t p q = p ∙ sym q

is_text_once : Once 1 is-text-kinds.ps is-text-kinds.r is-text-reads.Post (λ κs x s. x)
is_text_once κs a x y s t p q = p ∙ sym q

form_takes_byte_once : Once 0 form-takes-byte-kinds.ps form-takes-byte-kinds.r form-takes-byte-reads.Post (λ κs x s. x)
form_takes_byte_once κs a x y s t p q = p ∙ sym q

form_is_text_once : Once 1 form-is-text-kinds.ps form-is-text-kinds.r form-is-text-reads.Post (λ κs x s. x)
form_is_text_once κs a x y s t p q = p ∙ sym q

identifier_at_once : Once 1 identifier-at-kinds.ps identifier-at-kinds.r identifier-at-reads.Post (λ κs x s. x)
identifier_at_once κs a x y s t p q = p ∙ sym q

mpid_at_once : Once 1 mpid-at-kinds.ps mpid-at-kinds.r mpid-at-reads.Post (λ κs x s. x)
mpid_at_once κs a x y s t p q = p ∙ sym q

side_at_once : Once 1 side-at-kinds.ps side-at-kinds.r side-at-reads.Post (λ κs x s. x)
side_at_once κs a x y s t p q = p ∙ sym q

yes_no_at_once : Once 1 yes-no-at-kinds.ps yes-no-at-kinds.r yes-no-at-reads.Post (λ κs x s. x)
yes_no_at_once κs a x y s t p q = p ∙ sym q

serial_at_once : Once 1 serial-at-kinds.ps serial-at-kinds.r serial-at-reads.Post (λ κs x s. x)
serial_at_once κs a x y s t p q = p ∙ sym q

size_at_once : Once 1 size-at-kinds.ps size-at-kinds.r size-at-reads.Post (λ κs x s. x)
size_at_once κs a x y s t p q = p ∙ sym q

price_at_once : Once 1 price-at-kinds.ps price-at-kinds.r price-at-reads.Post (λ κs x s. x)
price_at_once κs a x y s t p q = p ∙ sym q

quoted_at_once : Once 1 quoted-at-kinds.ps quoted-at-kinds.r quoted-at-reads.Post (λ κs x s. x)
quoted_at_once κs a x y s t p q = p ∙ sym q

limit_at_once : Once 1 limit-at-kinds.ps limit-at-kinds.r limit-at-reads.Post (λ κs x s. x)
limit_at_once κs a x y s t p q = p ∙ sym q

is_ended_once : Once 1 is-ended-kinds.ps is-ended-kinds.r is-ended-reads.Post (λ κs x s. x)
is_ended_once κs a x y s t p q = p ∙ sym q

put_once : Once 2 put-kinds.ps put-kinds.r put_reads.Post (λ κs x s. stands s.0.now)
put_once κs a x y s t p q = one_stand a.0.now s.0.now t.0.now _ p q

put_all_once : Once 3 put-all-kinds.ps put-all-kinds.r put-all-reads.Post (λ κs x s. stands s.0.now)
put_all_once κs a x y s t p q = one_stand a.0.now s.0.now t.0.now _ p q

put_text_once : Once 3 put-text-kinds.ps put-text-kinds.r put-text-reads.Post (λ κs x s. stands s.0.now)
put_text_once κs a x y s t p q = one_stand a.0.now s.0.now t.0.now _ p q

put_number_once : Once 2 put-number-kinds.ps put-number-kinds.r put-number-reads.Post (λ κs x s. stands s.0.now)
put_number_once κs a x y s t p q = one_stand a.0.now s.0.now t.0.now _ p q

put_letter_once : Once 2 put-letter-kinds.ps put-letter-kinds.r put-letter-reads.Post (λ κs x s. stands s.0.now)
put_letter_once κs a x y s t p q = one_stand a.0.now s.0.now t.0.now _ p q

put_texts_once : Once 3 put-texts-kinds.ps put-texts-kinds.r put-texts-reads.Post (λ κs x s. stands s.0.now)
put_texts_once κs a x y s t p q = one_stand a.0.now s.0.now t.0.now _ p q

put_numbers_once : Once 2 put-numbers-kinds.ps put-numbers-kinds.r put-numbers-reads.Post (λ κs x s. stands s.0.now)
put_numbers_once κs a x y s t p q = one_stand a.0.now s.0.now t.0.now _ p q

hand_over_once : Once 2 hand-over-kinds.ps hand-over-kinds.r hand-over-reads.Post (λ κs x s. left s.1.1.0.now x)
hand_over_once κs a x y s t p q = p ∙ sym q
