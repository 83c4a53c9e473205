-- Document 01, "Requests and identifiers": a request whose key a place has, compared with the remembered one "in kind and every field".
-- A taken place's words are those that its request would be written with, and no two requests have the same words.
use Rattle.std.specs.Prelude.{◌≡◌, refl, Bool, true, false, ◌&&◌, cond, List, [], ◌∷◌, ℕ, ◌<◌, eqb, get_or}
use Rattle.std.proofs.Common.{sym, ap, ap₂, ◌∙◌, subst, arith, eq-eqb, ne_eqb, eqb-true}
use Rattle.std.proofs.Math.Bool.{decide}
use Prim.Native.Char.{code}
use Rattle.std.proofs.Props.{props}
use Rattle.std.specs.Coded.{Unit-prop}
use Rattle.std.proofs.Math.Decide.{ℕ_discrete}
use Rattle.laws.specs.Tests.{on, Exact, exact_by, exact_discrete, decide_exact}
use Rattle.laws.specs.Checks.{all_hold, rules_read, rules_met, stop, pass, last_call}
use Rattle.laws.specs.Rows.{Sheet, patch}
use Rattle.rulebook.specs.Names.{Key, same_ident, same_key, ident_exact, key_exact}
use Rattle.rulebook.specs.Lines.{side_letter, Side-discrete, Deal, Deal-discrete, Request, same_request}
use Rattle.rulebook.specs.Kept.{Asked}
use Rattle.rulebook.specs.Judging.{Verdict, reply}
use Rattle.fields.specs.Series.{side_of}
use Rattle.books.specs.Layout.{requests, request_start, places_at, kind_at, number_at, symbol_at, side_at, size_at, price_at}
use Rattle.books.specs.View.{deal_in, asked_of, head_in, rows_of}
use Rattle.books.specs.Writing.{Said, said}
use Rattle.books.specs.Rules.{Valid}
use Rattle.books.proofs.Refining.{asked_back}
use Rattle.books.proofs.Judged.{valid_counted}
use Rattle.packing.specs.Words.{named}
use Rattle.store.specs.Finding.{named_by, key_at}
use Rattle.store.specs.declared.Key.{Key as KeyWords}
use Rattle.rules.specs.Passing.{HasRow, word_at, target_at}
use Rattle.edits.specs.InRows.{asking_words}
use Rattle.edits.specs.declared.Asking.{Asking}
use Rattle.rulings.specs.Rulings.{deal_said}
use Rattle.rulings.specs.declared.Deal.{Deal as DealWords}

-- ── what is compared ──
-- a side's letter is one of the four
abbrev pub Sided : DealWords → Type 0
Sided (DealWords.New s x z p) = side_letter (side_of x) ≡ x
Sided (DealWords.Change t z p) = Unit {0}
Sided (DealWords.Cancel t) = Unit {0}
Sided DealWords.Block = Unit {0}
Sided DealWords.Unblock = Unit {0}

pub Sided-prop : (d : DealWords) → IsProp (Sided d)
Sided-prop (DealWords.New s x z p) = Prim.hlevel props
Sided-prop (DealWords.Change t z p) = Unit-prop
Sided-prop (DealWords.Cancel t) = Unit-prop
Sided-prop DealWords.Block = Unit-prop
Sided-prop DealWords.Unblock = Unit-prop

-- the request that the code's words are
abbrev pub requested : KeyWords → DealWords → Request
requested k d = record { key = named_by k; deal = deal_said d }

-- "it gets the remembered outcome and number again ..; otherwise 6"
abbrev pub compared : Sheet → ℕ → Request → Verdict
compared S i r = cond (same_request (asked_of S i).request r) (reply (asked_of S i).number) (reply 6)

-- the i-th place is taken by the request with this key
pub record Known (m : List ℕ) (key : KeyWords) (i : ℕ) : Type 0 where
  pub valid : Valid m
  pub placed : i < head_in (rows_of m) places_at
  pub keyed : key_at (rows_of m) i ≡ named_by key

-- its words are there
pub known_row : (m : List ℕ) (key : KeyWords) (i b : ℕ) → Known m key i → b ≡ request_start m i → HasRow m b
known_row m key i b k e = record { room = omega (arith, valid_counted m k.valid, k.placed, e) }

-- the words of the request that begins at a word, and those of the code
abbrev pub said_at : List ℕ → ℕ → Said
said_at m b = record { kind = word_at m b kind_at; target = target_at m b; sym = word_at m b symbol_at; side = word_at m b side_at; size = word_at m b size_at; price = word_at m b price_at }

abbrev pub asking_said : Asking → Said
asking_said q = record { kind = q.kind; target = named q.target; sym = q.sym; side = q.side; size = q.size; price = q.price }

abbrev words_same : Said → Said → List Bool
words_same x y = eqb x.kind y.kind ∷ eqb x.sym y.sym ∷ eqb x.side y.side ∷ eqb x.size y.size ∷ eqb x.price y.price ∷ same_ident x.target y.target ∷ []

unfoldable pub same_said : Said → Said → Bool
same_said x y = all_hold (words_same x y)

-- an N's words, where its side's letter is a side's
pub new_asking : (d : DealWords) (s x z p : ℕ) → d ≡ DealWords.New s x z p → Sided d → record { kind = code "N"; target = record { head = 0; middle = 0; tail = 0 }; sym = s; side = x; size = z; price = p } ≡ asking_words (deal_said d)
new_asking d s x z p e h = ap (λ (c : ℕ). record { kind = code "N"; target = record { head = 0; middle = 0; tail = 0 }; sym = s; side = c; size = z; price = p }) (sym (subst Sided e h)) ∙ sym (ap (λ d. asking_words (deal_said d)) e)

-- ── words tried one after the other ──
pub stop_other : (a b : ℕ) (bs : List Bool) → (a ≡ b → ⊥) → ◌≡◌ {A = Bool} false (all_hold (eqb a b ∷ bs))
stop_other a b bs h = stop (eqb a b) bs (ne_eqb a b h)

pub pass_same : (a b : ℕ) (x : Bool) (bs : List Bool) → a ≡ b → x ≡ all_hold bs → x ≡ all_hold (eqb a b ∷ bs)
pass_same a b x bs h k = pass (eqb a b) x bs (eq-eqb a b h) k

pub ruleset words_tried = (stop_other, pass_same, last_call)

-- ── the words are the same exactly if the requests are ──
said_exact : Exact same_said
unfolding same_said
said_exact = record {
  self = λ x. let e : (n : ℕ) → eqb n n ≡ true = λ n. eq-eqb n n refl in rules_met (words_same x x) (e x.kind, (e x.sym, (e x.side, (e x.size, (e x.price, (ident_exact.self x.target, tt))))));
  only = λ x y e. let w = rules_read (words_same x y) e in
      λ j. record {
        kind = eqb-true x.kind y.kind w.0 j;
        target = ident_exact.only x.target y.target w.1.1.1.1.1.0 j;
        sym = eqb-true x.sym y.sym w.1.0 j;
        side = eqb-true x.side y.side w.1.1.0 j;
        size = eqb-true x.size y.size w.1.1.1.0 j;
        price = eqb-true x.price y.price w.1.1.1.1.0 j;
      };
}

-- a deal is read back from its words
abbrev deal_from : Said → Deal
deal_from q = deal_in (patch 0 (q.kind ∷ 0 ∷ q.target.head ∷ q.target.middle ∷ q.target.tail ∷ q.sym ∷ q.side ∷ q.size ∷ q.price ∷ []) (λ k. 0))

deal_again : (k : Key) (d : Deal) → deal_from (said d) ≡ d
deal_again k d = ap (λ (a : Asked). a.request.deal) (asked_back (record { request = record { key = k; deal = d }; number = 0 }) (λ k. 0) (λ k. 0))

deal_exact : Key → Exact (λ x y. same_said (said x) (said y))
deal_exact k = exact_by said said_exact (λ x y e. sym (deal_again k x) ∙ ap deal_from e ∙ deal_again k y)

-- two tests of equality agree
tests_agree : {A : Type 0} {s t : A → A → Bool} → Exact s → Exact t → (x y : A) → s x y ≡ t x y
tests_agree {s = s} {t = t} e f x y = on (λ b. s x y ≡ b → b ≡ t x y) (s x y) (λ z q. sym (subst (λ y. t x y ≡ true) (e.only x y q) (f.self x)))
    (λ z q. on (λ b. t x y ≡ b → false ≡ b) (t x y) (λ z p. sym q ∙ subst (λ y. s x y ≡ true) (f.only x y p) (e.self x)) (λ z p. refl) refl) refl

-- the words of a taken place are those of what they say
as_said : (m : List ℕ) → Valid m → (i : ℕ) → i < head_in (rows_of m) places_at → said_at m (request_start m i) ≡ said (deal_in (rows_of m requests i))
as_said m v i lt = let cell : (n : ℕ) → _ ≡ _ = λ n. ap (λ l. get_or l n 0) (v.places_tidy i lt).as_written in
    λ j. record { kind = cell 0 j; target = record { head = cell 2 j; middle = cell 3 j; tail = cell 4 j }; sym = cell 5 j; side = cell 6 j; size = cell 7 j; price = cell 8 j }

abbrev same_deal : Deal → Deal → Bool
same_deal x y = decide (Deal-discrete ℕ_discrete Side-discrete (exact_discrete ident_exact) x y)

-- THEOREM. At a taken place with the request's key, the words are the same exactly if the rulebook says that the requests are
pub same_words : (m : List ℕ) → Valid m → (i : ℕ) → i < head_in (rows_of m) places_at → (r : Request) → key_at (rows_of m) i ≡ r.key →
    same_said (said_at m (request_start m i)) (said r.deal) ≡ same_request (asked_of (rows_of m) i).request r
unfolding same_request
same_words m v i lt r e = let S = rows_of m in
    ap (λ (q : Said). same_said q (said r.deal)) (as_said m v i lt)
    ∙ tests_agree (deal_exact r.key) (decide_exact (Deal-discrete ℕ_discrete Side-discrete (exact_discrete ident_exact))) (deal_in (S requests i)) r.deal
    ∙ sym (ap (λ b. b && same_deal (deal_in (S requests i)) r.deal) (ap (λ (k : Key). same_key k r.key) e ∙ key_exact.self r.key))

-- what the code finds out about a place, and what it then answers
module _ (m : List ℕ) (key : KeyWords) (deal : DealWords) (i b : ℕ) (a : Asking) (k : Known m key i) (at : b ≡ request_start m i) (q : a ≡ asking_words (deal_said deal)) where
  tried : same_said (said_at m b) (asking_said a) ≡ same_request (asked_of (rows_of m) i).request (requested key deal)
  tried = ap₂ (λ (b : ℕ) (a : Asking). same_said (said_at m b) (asking_said a)) at q ∙ same_words m k.valid i k.placed (requested key deal) k.keyed

  pub retried : same_said (said_at m b) (asking_said a) ≡ true → reply (word_at m b number_at) ≡ compared (rows_of m) i (requested key deal)
  retried e = ap (λ (b : ℕ). reply (word_at m b number_at)) at ∙ sym (rw (sym tried ∙ e) refl)

  pub differs : same_said (said_at m b) (asking_said a) ≡ false → reply 6 ≡ compared (rows_of m) i (requested key deal)
  differs e = sym (rw (sym tried ∙ e) refl)
