-- Document 02, order 2, over the two calls: an N that is written and read back, a message that is read and written again, and whose line is written.
use Rattle.std.specs.Prelude.{◌≡◌, refl, true, false, cond, ◌↔◌, List, ℕ, ◌≤◌, length, take, drop, get_or, eqb, Ok}
use Rattle.std.proofs.Common.{sym, ap, ◌∙◌, subst, arith, take_at, ltb-false, le-ltb, eqb-true}
use Rattle.std.proofs.Math.Option.{Option, none, some}
use Prim.Native.Char.{code}
use Rattle.std.proofs.lemmas.Bool.{not-false}
use Rattle.laws.specs.Tests.{on, is_none}
use Rattle.laws.specs.Tables.{find, All}
use Rattle.laws.specs.Checks.{first, first_clear, rules_met}
use Rattle.rulebook.specs.Names.{bytes, ident_of, mpid_of}
use Rattle.rulebook.specs.Lines.{new, Record, ask, identifier, mpid}
use Rattle.fields.specs.Parts.{said}
use Rattle.fields.specs.Trips.{says_has}
use Rattle.fields.specs.Out.{Said, refuses, begun}
use Rattle.packing.specs.Exactly.{letter_exactly, number_exactly}
use Rattle.codec.specs.Readings.{record_of, letter_of, reading}
use Rattle.codec.specs.Lines.{InForm}
use Rattle.codec.proofs.Lines.{read_in_form}
use Rattle.codec.specs.declared.Reading.{Reading}
use Rattle.codec.specs.declared.Reading.TheVariants.{Broken, Group, Symbol, Open, New, Change, Cancel, Block, Unblock, Quote, Fill, Reduction, CancelRefused}
use Rattle.meo.specs.Table.{Order, table}
use Rattle.meo.specs.Messages.{no_order, order_of, reading_of, order_said, in_form, is_message, message, sent_said, write_checks, write_said, write_left, order_at, plain, read_checks, Heard, found_said, read_said, Holds, Byte}
use Rattle.meo.specs.Laying.{formed, message_long, message_length}
use Rattle.meo.proofs.Trips.{holds_lay, again, message_read, message_itself}
use Rattle.meo.specs.declared.NewOrder.{NewOrder}

-- ── what a call that is not refused has tried ──
said_none : (k : ℕ) (x : Said) → (cond (eqb k 0) x (refuses k)).number ≡ 0 → k ≡ 0
said_none k x = on (λ t. eqb k 0 ≡ t → (cond t x (refuses k)).number ≡ 0 → k ≡ 0) (eqb k 0) (λ e q p. eqb-true k 0 q) (λ e q p. p) refl

record Written (l : List ℕ) (n : NewOrder) (h b : List ℕ) : Type 0 where
  pub typed : is_message h ≡ true
  pub formed : in_form l n ≡ true
  pub room : 131 ≤ length b

written : (l : List ℕ) (n : NewOrder) (h b : List ℕ) → (write_said l n h b).number ≡ 0 → Written l n h b
unfolding write_said
written l n h b e = let c = first_clear (write_checks l n h b) refl (said_none (first (write_checks l n h b)) (sent_said (Ok tt)) e) in
    record { typed = not-false (is_message h) c.0; formed = not-false (in_form l n) c.1.0; room = ltb-false (length b) 131 c.1.1.0 }

-- and what it leaves
passes : (l : List ℕ) (n : NewOrder) (h b : List ℕ) → Written l n h b → (write_said l n h b ≡ sent_said (Ok tt)) × (write_left l n h b ≡ begun (message h (order_said l n)) b)
unfolding write_said write_left first
passes l n h b w = (rw (w.typed, w.formed, le-ltb (length b) 131 w.room), rw (w.typed, w.formed, le-ltb (length b) 131 w.room))

record Read (m : List ℕ) : Type 0 where
  pub typed : is_message m ≡ true
  pub formed : in_form m (order_at m) ≡ true
  pub bare : plain m (order_at m).name.to ≡ true

read : (m : List ℕ) → (read_said m).number ≡ 0 → Read m
unfolding read_said
read m e = let c = first_clear (read_checks m) refl e in record { typed = not-false (is_message m) c.0; formed = not-false (in_form m (order_at m)) c.1.0; bare = not-false (plain m (order_at m).name.to) c.1.1.0 }

-- THEOREM. "nothing written": a call that is refused leaves the output as it was
pub refused_leaves : (l : List ℕ) (n : NewOrder) (h b : List ℕ) → ((write_said l n h b).number ≡ 0 → ⊥) → write_left l n h b ≡ b
unfolding write_said write_left
refused_leaves l n h b = on (λ t. ((cond t (sent_said (Ok tt)) (refuses (first (write_checks l n h b)))).number ≡ 0 → ⊥) → cond t (begun (message h (order_said l n)) b) b ≡ b) (eqb (first (write_checks l n h b)) 0) (λ e no. absurd (no refl)) (λ e no. refl)

-- ── written then read ──
-- what the first bytes of the output are, once it is written
abbrev pub sent_bytes : List ℕ → NewOrder → List ℕ → List ℕ → List ℕ
sent_bytes l n h b = take 131 (write_left l n h b)

sent_are : (l : List ℕ) (n : NewOrder) (h b : List ℕ) → Written l n h b → sent_bytes l n h b ≡ message h (order_said l n)
sent_are l n h b w =
    let m = message h (order_said l n) in
    let k = message_length l n h w.formed (message_long h w.typed) in
    rw (passes l n h b w).1 (take_at m (drop (length m) b) 131 k)

-- THEOREM. The N is found again, and says what was written
pub written_read : (l : List ℕ) (n : NewOrder) (h b : List ℕ) → (write_said l n h b).number ≡ 0
    → (found : NewOrder) × (read_said (sent_bytes l n h b) ≡ found_said (Ok found)) × (order_said (sent_bytes l n h b) found ≡ order_said l n)
written_read l n h b e =
    let w = written l n h b e in
    let t = message_read l n h w.formed (message_long h w.typed) in
    (again l n, rw (sent_are l n h b w) t.0, rw (sent_are l n h b w) t.1)

-- so it is the same record
pub same_record : (l m : List ℕ) (n found : NewOrder) → order_said m found ≡ order_said l n → record_of m (reading_of found) ≡ record_of l (reading_of n)
same_record l m n found e = ap recorded e
  where
    recorded : Order → Record
    recorded o = ask (record { key = record { owner = record { mpid = mpid_of o.mpid }; name = ident_of o.name }; deal = new o.symbol o.side o.size o.price })

-- ── read then written ──
-- the N that is read is the one where the table has it
pub read_order : (m : List ℕ) (n : NewOrder) → read_said m ≡ found_said (Ok n) → ((read_said m).number ≡ 0) × (n ≡ order_at m)
unfolding read_said
read_order m n q =
    let z = ap (λ (x : Heard). x.number) q in
    (z, ap (λ (x : Heard). got x.order) (sym q) ∙ rw z)
  where
    got : Option NewOrder → NewOrder
    got none = n
    got (some x) = x

-- THEOREM. Two N that leave as the same bytes say the same, whatever their house messages
pub told_apart : (l l' : List ℕ) (n n' : NewOrder) (h h' b b' : List ℕ) → (write_said l n h b).number ≡ 0 → (write_said l' n' h' b').number ≡ 0
    → sent_bytes l n h b ≡ sent_bytes l' n' h' b' → order_said l n ≡ order_said l' n'
told_apart l l' n n' h h' b b' e e' q =
    let x = written_read l n h b e in
    let y = written_read l' n' h' b' e' in
    let m = sent_bytes l' n' h' b' in
    let f = (read_order m x.0 (subst (λ (m : List ℕ). read_said m ≡ found_said (Ok x.0)) q x.1)).1 ∙ sym (read_order m y.0 y.1).1 in
    sym x.2 ∙ ap (λ (m : List ℕ). order_said m x.0) q ∙ ap (order_said m) f ∙ y.2

-- THEOREM. The message is written again, if its other fields hold the house values
pub read_written : (m : List ℕ) → All Byte m → (n : NewOrder) → read_said m ≡ found_said (Ok n) → (h b : List ℕ) → is_message h ≡ true → Holds m h 0 (table (order_said m n)) → 131 ≤ length b
    → (write_said m n h b ≡ sent_said (Ok tt)) × (write_left m n h b ≡ begun m b)
unfolding message
read_written m bytes n q h b t k room =
    let z = read_order m n q in
    let r = read m z.0 in
    let w : Written m (order_at m) h b = record { typed = t; formed = r.formed; room = room } in
    subst (λ (n : NewOrder). Holds m h 0 (table (order_said m n)) → (write_said m n h b ≡ sent_said (Ok tt)) × (write_left m n h b ≡ begun m b)) (sym z.1)
    (λ k. ((passes m (order_at m) h b w).0, (passes m (order_at m) h b w).1 ∙ ap (λ (x : List ℕ). begun x b) (holds_lay m h 0 (table (order_said m (order_at m))) k ∙ message_itself m bytes r.typed r.formed r.bare))) k

-- THEOREM. A message is read exactly where it is some N in its forms, written over itself
pub read_exactly : (m : List ℕ) → All Byte m → ((read_said m).number ≡ 0) ↔ ((l : List ℕ) × (n : NewOrder) × (in_form l n ≡ true) × (is_message m ≡ true) × (message m (order_said l n) ≡ m))
read_exactly m bytes = (
  λ z. let r = read m z in (m, order_at m, r.formed, r.typed, message_itself m bytes r.typed r.formed r.bare),
  λ w. subst (λ (x : List ℕ). (read_said x).number ≡ 0) w.4 (ap (λ (x : Heard). x.number) (message_read w.0 w.1 m w.2 (message_long m w.3)).0),
)

-- ── whose line is written ──
formless : (l : List ℕ) → in_form l no_order ≡ true → ⊥
formless l e = omega (arith, (formed l no_order e).symbol_in.0)

only_new : (l : List ℕ) (r : Reading) → in_form l (order_of r) ≡ true → letter_of r ≡ code "N"
only_new l Broken e = absurd (formless l e)
only_new l (Group m l1 l2 l3 l4 l5 l6 z x) e = absurd (formless l e)
only_new l (Symbol s) e = absurd (formless l e)
only_new l Open e = absurd (formless l e)
only_new l (New i m s x z p) e = refl
only_new l (Change i m t z p) e = absurd (formless l e)
only_new l (Cancel i m t) e = absurd (formless l e)
only_new l (Block i m) e = absurd (formless l e)
only_new l (Unblock i m) e = absurd (formless l e)
only_new l (Quote n s b o) e = absurd (formless l e)
only_new l (Fill n m t z p) e = absurd (formless l e)
only_new l (Reduction n m t z) e = absurd (formless l e)
only_new l (CancelRefused n m t) e = absurd (formless l e)

new_formed : (l : List ℕ) (r : Reading) → InForm l r → letter_of r ≡ code "N" → in_form l (order_of r) ≡ true
unfolding in_form
new_formed l Broken i e = absurd (omega arith)
new_formed l (Group m l1 l2 l3 l4 l5 l6 z x) i e = absurd (omega arith)
new_formed l (Symbol s) i e = absurd (omega arith)
new_formed l Open i e = absurd (omega arith)
new_formed l (New i m s x z p) (a, (b, (c, (d, (e, (f, u)))))) q =
    let side_in = subst (λ (c : ℕ). is_none (find (eqb c) (bytes "BSHE")) ≡ false) (sym (ap (λ (l : List ℕ). get_or l 0 0) d.0)) d.1 in
    rules_met _ (says_has (identifier (ident_of (said l i))) (said l i) refl a, (says_has (mpid (mpid_of (said l m))) (said l m) refl b, ((number_exactly _ _ s).1 (c.1, c.2), ((letter_exactly (bytes "BSHE") x).1 side_in, ((number_exactly _ _ z).1 (e.1, e.2), ((number_exactly _ _ p).1 (f.1, f.2), tt))))))
new_formed l (Change i m t z p) i' e = absurd (omega arith)
new_formed l (Cancel i m t) i' e = absurd (omega arith)
new_formed l (Block i m) i' e = absurd (omega arith)
new_formed l (Unblock i m) i' e = absurd (omega arith)
new_formed l (Quote n s b o) i' e = absurd (omega arith)
new_formed l (Fill n m t z p) i' e = absurd (omega arith)
new_formed l (Reduction n m t z) i' e = absurd (omega arith)
new_formed l (CancelRefused n m t) i' e = absurd (omega arith)

-- THEOREM. The N of a line has its forms exactly where the line is an N's
pub line_in_form : (l : List ℕ) → (in_form l (order_of (reading l)) ≡ true) ↔ (letter_of (reading l) ≡ code "N")
line_in_form l = (only_new l (reading l), new_formed l (reading l) (read_in_form l))
