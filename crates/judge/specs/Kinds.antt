-- Kind by kind: what a reading in its form gives the code, and that the words which the code makes of it say its record.
-- A text in its form has no more bytes than are packed.
use Rattle.std.specs.Prelude.{◌≡◌, List, [], ◌∷◌, ℕ, ◌≤◌, eqb, length, take, get_or}
use Rattle.std.proofs.Common.{sym, ap, ◌∙◌, subst, arith, take_all}
use Rattle.std.proofs.Props.{props}
use Rattle.std.specs.Coded.{Unit-prop}
use Prim.Native.Char.{code}
use Rattle.rulebook.specs.Names.{Ident, Mpid, word, ident_of, mpid_of, Key}
use Rattle.rulebook.specs.Lines.{side_letter, new, change, cancel, fill, reduction, cancel_refused, group, ask, tell, identifier, mpid, side, size, price}
use Rattle.fields.specs.Parts.{said}
use Rattle.fields.specs.Series.{side_of}
use Rattle.fields.specs.Forms.{Says}
use Rattle.fields.specs.declared.Place.{Place}
use Rattle.packing.specs.Words.{named}
use Rattle.packing.specs.declared.Ident.{Ident as IdentWords}
use Rattle.codec.specs.Readings.{key_of, record_of}
use Rattle.codec.specs.Lines.{InForm}
use Rattle.codec.specs.declared.Reading.{Reading}
use Rattle.codec.specs.declared.Reading.TheVariants.{Group, New, Change, Cancel, Fill, Reduction, CancelRefused}
use Rattle.store.specs.Finding.{mpid_word, named_by}
use Rattle.store.specs.declared.Key.{Key as KeyWords}
use Rattle.rulings.specs.Standing.{Small, SmallDeal, SmallNews}
use Rattle.rulings.specs.declared.Deal.{Deal}
use Rattle.rulings.specs.declared.News.{News}
use Rattle.judge.specs.Verdicts.{terms_of}

-- an MPID's and an identifier's bytes are no more than are packed
pub record Short (l : List ℕ) (mpid name : Place) : Type 0 where
  pub four : length (said l mpid) ≤ 4
  pub twenty : length (said l name) ≤ 20

whole_ident : (l : List ℕ) (p : Place) → length (said l p) ≤ 20 → ident_of (take 24 (said l p)) ≡ ident_of (said l p)
whole_ident l p h = ap ident_of (take_all 24 (said l p) (omega arith))

whole_mpid : (l : List ℕ) (p : Place) → length (said l p) ≤ 4 → mpid_of (take 4 (said l p)) ≡ mpid_of (said l p)
whole_mpid l p h = ap mpid_of (take_all 4 (said l p) h)

pub whole_key : (l : List ℕ) (m i : Place) → Short l m i → (k : KeyWords) → k.owner ≡ word (take 4 (said l m)) → named k.name ≡ ident_of (take 24 (said l i)) → named_by k ≡ key_of l m i
whole_key l m i s k o n = λ j. record { owner = record { mpid = (ap mpid_word o ∙ whole_mpid l m s.four) j }; name = (n ∙ whole_ident l i s.twenty) j }

-- ── what fields in their forms give ──
-- an MPID and an identifier, whichever stands first
pub short_after : (l : List ℕ) (m i : Place) {R : Type 0} → Says (identifier (ident_of (said l i))) (said l i) × (Says (mpid (mpid_of (said l m))) (said l m) × R) → Short l m i
short_after l m i f = record { four = f.1.0.2; twenty = f.0.2 }

pub short_before : (l : List ℕ) (m i : Place) {R : Type 0} → Says (mpid (mpid_of (said l m))) (said l m) × (Says (identifier (ident_of (said l i))) (said l i) × R) → Short l m i
short_before l m i f = record { four = f.0.2; twenty = f.1.0.2 }

-- a side's letter
pub side_said : (x w : ℕ) → w ≡ x → Says (side (side_of x)) (x ∷ []) → side_letter (side_of w) ≡ w
side_said x w e s = subst (λ x. side_letter (side_of x) ≡ x) (sym e) (sym (ap (λ l. get_or l 0 0) s.0))

-- a size and a price
pub small_said : {z p : ℕ} {a b : List ℕ} {R : Type 0} → Says (size z) a × (Says (price p) b × R) → Small z p
small_said f = record { small = f.0.2; cheap = f.1.0.2 }

-- a request's numbers, or a notice's, are in their forms in one way
pub SmallDeal-prop : (d : Deal) → IsProp (SmallDeal d)
SmallDeal-prop (Deal.New s x z p) = Prim.hlevel props
SmallDeal-prop (Deal.Change t z p) = Prim.hlevel props
SmallDeal-prop (Deal.Cancel t) = Unit-prop
SmallDeal-prop Deal.Block = Unit-prop
SmallDeal-prop Deal.Unblock = Unit-prop

pub SmallNews-prop : (n : News) → IsProp (SmallNews n)
SmallNews-prop (News.Quote s b o) = Unit-prop
SmallNews-prop (News.Fill t z p) = Prim.hlevel props
SmallNews-prop (News.Reduction t z) = Prim.hlevel props
SmallNews-prop (News.CancelRefused t) = Unit-prop

-- ── the kinds ──
module _ (l : List ℕ) (rec : Reading) (f : InForm l rec) where
  pub formed : {r : Reading} → rec ≡ r → InForm l r
  formed e = subst (InForm l) e f

  pub group_said : {m : Place} {a b c d e g z x : ℕ} → rec ≡ Group m a b c d e g z x → (w : ℕ) → w ≡ word (take 4 (said l m)) → group (mpid_word w) (terms_of (record { gross_trade = a; net_trade = b; gross_open = c; net_open = d; gross_both = e; net_both = g; max_size = z; short_sales = eqb x (code "Y") })) ≡ record_of l rec
  group_said {m} {a} {b} {c} {d} {e} {g} {z} {x} r w q = ap (λ (o : Mpid). group o (terms_of (record { gross_trade = a; net_trade = b; gross_open = c; net_open = d; gross_both = e; net_both = g; max_size = z; short_sales = eqb x (code "Y") }))) (ap mpid_word q ∙ whole_mpid l m (formed r).0.2) ∙ sym (ap (record_of l) r)

  pub new_said : {i m : Place} {s x z p : ℕ} → rec ≡ New i m s x z p → (w : ℕ) → w ≡ x → ask (record { key = key_of l m i; deal = new s (side_of w) z p }) ≡ record_of l rec
  new_said {i} {m} {s} {x} {z} {p} e w q = ap (λ (x : ℕ). ask (record { key = key_of l m i; deal = new s (side_of x) z p })) q ∙ sym (ap (record_of l) e)

  pub change_said : {i m t : Place} {z p : ℕ} → rec ≡ Change i m t z p → (n : IdentWords) → named n ≡ ident_of (take 24 (said l t)) → ask (record { key = key_of l m i; deal = change (named n) z p }) ≡ record_of l rec
  change_said {i} {m} {t} {z} {p} e n q = ap (λ (n : Ident). ask (record { key = key_of l m i; deal = change n z p })) (q ∙ whole_ident l t (formed e).1.1.0.2) ∙ sym (ap (record_of l) e)

  pub cancel_said : {i m t : Place} → rec ≡ Cancel i m t → (n : IdentWords) → named n ≡ ident_of (take 24 (said l t)) → ask (record { key = key_of l m i; deal = cancel (named n) }) ≡ record_of l rec
  cancel_said {i} {m} {t} e n q = ap (λ (n : Ident). ask (record { key = key_of l m i; deal = cancel n })) (q ∙ whole_ident l t (formed e).1.1.0.2) ∙ sym (ap (record_of l) e)

  pub fill_said : {n z p : ℕ} {m t : Place} → rec ≡ Fill n m t z p → (k : Key) → k ≡ key_of l m t → tell n (fill k z p) ≡ record_of l rec
  fill_said {n} {z} {p} e k q = ap (λ (k : Key). tell n (fill k z p)) q ∙ sym (ap (record_of l) e)

  pub reduction_said : {n z : ℕ} {m t : Place} → rec ≡ Reduction n m t z → (k : Key) → k ≡ key_of l m t → tell n (reduction k z) ≡ record_of l rec
  reduction_said {n} {z} e k q = ap (λ (k : Key). tell n (reduction k z)) q ∙ sym (ap (record_of l) e)

  pub refused_said : {n : ℕ} {m t : Place} → rec ≡ CancelRefused n m t → (k : Key) → k ≡ key_of l m t → tell n (cancel_refused k) ≡ record_of l rec
  refused_said {n} e k q = ap (λ (k : Key). tell n (cancel_refused k)) q ∙ sym (ap (record_of l) e)
