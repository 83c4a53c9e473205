-- Each public call's statement allows one answer only. The claims are about the contracts themselves (`Post`).
use mathlib.Core.Path.{sym, ap, ◌∙◌}
use Rattle.packing.proofs.pack_identifier.Kinds as pack-identifier-kinds
use Rattle.packing.proofs.pack_identifier.Reads as pack-identifier-reads
use Rattle.packing.proofs.pack_mpid.Kinds as pack-mpid-kinds
use Rattle.packing.proofs.pack_mpid.Reads as pack-mpid-reads
use Rattle.packing.proofs.pack_number.Kinds as pack-number-kinds
use Rattle.packing.proofs.pack_number.Reads as pack-number-reads
use Rattle.packing.proofs.is_identifier.Kinds as is-identifier-kinds
use Rattle.packing.proofs.is_identifier.Reads as is-identifier-reads
use Rattle.packing.proofs.is_mpid.Kinds as is-mpid-kinds
use Rattle.packing.proofs.is_mpid.Reads as is-mpid-reads
use Rattle.packing.proofs.in_range.Kinds as in-range-kinds
use Rattle.packing.proofs.in_range.Reads as in-range-reads
use Rattle.packing.proofs.is_side.Kinds as is-side-kinds
use Rattle.packing.proofs.is_side.Reads as is-side-reads
use Rattle.rulebook.specs.Names.{Ident}
use Rattle.fields.proofs.Single.{Once}
use Rattle.packing.specs.declared.Ident.{Ident as Words}

pack_identifier_once : Once 1 pack-identifier-kinds.ps pack-identifier-kinds.r pack-identifier-reads.Post (λ κs x s. x)
pack_identifier_once κs a x y s t p q = ap words (p ∙ sym q)
  where
    words : Ident → Words
    words x = record { head = x.head; middle = x.middle; tail = x.tail }

pack_mpid_once : Once 1 pack-mpid-kinds.ps pack-mpid-kinds.r pack-mpid-reads.Post (λ κs x s. x)
pack_mpid_once κs a x y s t p q = p ∙ sym q

pack_number_once : Once 1 pack-number-kinds.ps pack-number-kinds.r pack-number-reads.Post (λ κs x s. x)
pack_number_once κs a x y s t p q = p ∙ sym q

is_identifier_once : Once 0 is-identifier-kinds.ps is-identifier-kinds.r is-identifier-reads.Post (λ κs x s. x)
is_identifier_once κs a x y s t p q = p ∙ sym q

is_mpid_once : Once 0 is-mpid-kinds.ps is-mpid-kinds.r is-mpid-reads.Post (λ κs x s. x)
is_mpid_once κs a x y s t p q = p ∙ sym q

in_range_once : Once 0 in-range-kinds.ps in-range-kinds.r in-range-reads.Post (λ κs x s. x)
in_range_once κs a x y s t p q = p ∙ sym q

is_side_once : Once 0 is-side-kinds.ps is-side-kinds.r is-side-reads.Post (λ κs x s. x)
is_side_once κs a x y s t p q = p ∙ sym q
