-- What the code tries of a row is what the rules ask of it.
use Rattle.std.specs.Prelude.{◌≡◌, ◌&&◌, ◌||◌, ℕ, zero, suc, ◌+◌, ◌≤◌, ◌<◌, get_or}
use Rattle.std.proofs.Math.Path.{refl, subst}
use Rattle.std.proofs.Common.{sym, ap, ◌∙◌, add-zero}
use Rattle.std.proofs.Math.Bool.{Bool, true, false, cond}
use Rattle.std.proofs.lemmas.Bool.{false≢true}
use mathlib.Core.List.{List, [], ◌∷◌}
use Prim.Native.Char.{code}
use native.Mathlib.Omega.{arith}
use Rattle.std.proofs.Math.Decide.{dec_lt}
use Rattle.std.proofs.Math.Dec.{leb, eqb}
use borrow.Author.Tests.{leb-true, le-leb, eqb-true, eqb-false, eq-eqb}
use Rattle.laws.specs.Tests.{on, both, two}
use Rattle.laws.specs.Tables.{◌also◌}
use Rattle.laws.specs.Numbered.{every_each}
use Rattle.laws.specs.Rows.{Row}
use Rattle.laws.specs.Checks.{all_hold, rules_read, rules_met}
use Rattle.rulebook.specs.Names.{bytes, Key}
use Rattle.rulebook.specs.Lines.{ceiling, Side, buy, sell, short, exempt, side_letter, Deal, new, change, cancel, block, unblock, side, letter, identifier, size, price, Fits, Formed, from_to, yes_no, group, ask, tell, quote, mpid}
use Rattle.rulebook.proofs.Cases.{in_range}
use Rattle.rulebook.proofs.Keeping.{name_fits}
use Rattle.rulebook.specs.Kept.{metrics}
use Rattle.fields.specs.Series.{side_of}
use Rattle.fields.specs.Values.{says_side}
use Rattle.packing.specs.Fitting.{fits}
use Rattle.packing.specs.Exactly.{fits_exactly, letter_exactly, formed_exactly, mpid_exactly, identifier_exactly}
use Rattle.books.specs.Layout.{request_start, order_start, width_of, limit_cells, mark_cells, total_cells, target_cells, not_of_change, not_of_cancel, not_of_block, groups, symbols, keys, requests, orders, opened_at, gross_trade_at, net_trade_at, gross_open_at, net_open_at, gross_both_at, net_both_at, max_size_at, short_sales_at, blocked_at, traded_buys_at, traded_sells_at, open_buys_at, open_sells_at, id_at, bid_at, offer_at, kind_at, number_at, target_at, target_middle_at, target_tail_at, symbol_at, side_at, size_at, price_at, order_price_at, order_size_at, done_at, cancel_asked_at}
use Rattle.books.specs.View.{flag, mpid_in, group_in, tally_in, key_in, target_in, deal_in, asked_in, opens, head_in, rows_of}
use Rattle.books.specs.Writing.{request_words}
use Rattle.books.specs.Rules.{words_in}
use Rattle.rules.specs.Meaning.{words_same, same_itself}
use Rattle.rules.specs.Testing.{request_fits, figures_fit, no_figures, totals_fit, group_fits, symbol_fits, no_totals}
use Rattle.rules.specs.Passing.{number_ok, sized_ok, new_ok, change_ok, cancel_ok, deal_ok, request_ok, is_order, figures_ok, words_within, word_within, within_words, word_at, early, group_start, symbol_start, totals_ok, group_ok, symbol_ok}

ranged : (low high n : ℕ) → low ≤ n → n ≤ high → from_to low high n ≡ true
ranged low high n a b = two (le-leb low n a) (le-leb n high b)

yes_no_fits : (b : Bool) → Fits (yes_no b)
yes_no_fits true = refl
yes_no_fits false = refl

-- "before O": the code's way to say it
pub early_is : (opened : ℕ) (b : Bool) → early opened b ≡ (flag opened || b)
unfolding early
early_is n b = on (λ t. cond t true b ≡ (t || b)) (flag n) (λ e. refl) (λ e. refl)

either : (a : Bool) {b c : Bool} → (b ≡ true → c ≡ true) → (a || b) ≡ true → (a || c) ≡ true
either true f e = refl
either false f e = f e

-- words in a row, one by one
abbrev Run : List ℕ → ℕ → ℕ → ℕ → ℕ → Type 0
Run m b most from zero = Unit {0}
Run m b most from (suc n) = (word_at m b from ≤ most) × Run m b most (suc from) n

run_at : (m : List ℕ) (b most from n : ℕ) → Run m b most from n → (k : ℕ) → from ≤ k → k < from + n → word_at m b k ≤ most
run_at m b most from zero r k le lt = absurd (omega arith)
run_at m b most from (suc n) r k le lt = elim (dec_lt from k) [
  | yes p ↦ run_at m b most (suc from) n r.1 k p (omega arith)
  | no np ↦ subst (λ (k : ℕ). word_at m b k ≤ most) (let q : from ≡ k = omega arith in q) r.0
]

run_within : (m : List ℕ) (b most from n : ℕ) → Run m b most from n → words_within m (b + from) n most ≡ true
run_within m b most from n r = within_words m b from n most (run_at m b most from n r)

-- ── groups ──
pub record GroupRules (m : List ℕ) (i : ℕ) : Type 0 where
  pub fits_form : group_fits (rows_of m groups i) ≡ true
  pub gross : leb (metrics (tally_in (rows_of m groups i))).gross_both ceiling ≡ true
  pub quiet : (flag (head_in (rows_of m) opened_at) || no_totals (rows_of m groups i)) ≡ true

zeros_within : (m : List ℕ) (i : ℕ) → words_within m (group_start i + traded_buys_at) total_cells 0 ≡ true → no_totals (rows_of m groups i) ≡ true
unfolding no_totals
zeros_within m i e = let z : (k : ℕ) → traded_buys_at ≤ k → k < traded_buys_at + total_cells → word_at m (group_start i) k ≡ 0 = λ k a b. let h = word_within m (group_start i) traded_buys_at total_cells 0 e k a b in omega arith in
    two (eq-eqb _ 0 (z traded_buys_at (omega arith) (omega arith))) (two (eq-eqb _ 0 (z traded_sells_at (omega arith) (omega arith))) (two (eq-eqb _ 0 (z open_buys_at (omega arith) (omega arith))) (eq-eqb _ 0 (z open_sells_at (omega arith) (omega arith)))))

pub group_read : (m : List ℕ) (i : ℕ) → group_ok m i ≡ true → GroupRules m i
unfolding group_ok totals_ok group_fits totals_fit
group_read m i e =
    let b = group_start i in
    let w = rules_read _ e in
    let t = rules_read _ w.1.1.1.1.0 in
    let lim : (k : ℕ) → gross_trade_at ≤ k → k < gross_trade_at + limit_cells → word_at m b k ≤ ceiling = word_within m b gross_trade_at limit_cells ceiling w.1.0 in
    let mark : (k : ℕ) → short_sales_at ≤ k → k < short_sales_at + mark_cells → word_at m b k ≤ 1 = word_within m b short_sales_at mark_cells 1 w.1.1.1.0 in
    let tot : (k : ℕ) → traded_buys_at ≤ k → k < traded_buys_at + total_cells → word_at m b k ≤ ceiling = word_within m b traded_buys_at total_cells ceiling t.0 in
    let z = in_range 1 1_000_000 (word_at m b max_size_at) w.1.1.0 in
    record {
      fits_form = two ((formed_exactly (group (mpid_in (rows_of m groups i)) (group_in (rows_of m groups i)).terms)).1
          ((mpid_exactly (mpid_in (rows_of m groups i))).0 w.0 also (omega arith, lim gross_trade_at (omega arith) (omega arith)) also (omega arith, lim net_trade_at (omega arith) (omega arith)) also (omega arith, lim gross_open_at (omega arith) (omega arith))
          also (omega arith, lim net_open_at (omega arith) (omega arith)) also (omega arith, lim gross_both_at (omega arith) (omega arith)) also (omega arith, lim net_both_at (omega arith) (omega arith)) also z also yes_no_fits (group_in (rows_of m groups i)).terms.short_sales also tt))
          (two (le-leb _ 1 (mark short_sales_at (omega arith) (omega arith))) (two (le-leb _ 1 (mark blocked_at (omega arith) (omega arith)))
          (two (le-leb _ ceiling (tot traded_buys_at (omega arith) (omega arith))) (two (le-leb _ ceiling (tot traded_sells_at (omega arith) (omega arith))) (two (le-leb _ ceiling (tot open_buys_at (omega arith) (omega arith))) (le-leb _ ceiling (tot open_sells_at (omega arith) (omega arith))))))));
      gross = t.1.0;
      quiet = either (flag (head_in (rows_of m) opened_at)) (zeros_within m i) (sym (early_is _ _) ∙ t.1.1.0);
    }

within_zeros : (m : List ℕ) (i : ℕ) → no_totals (rows_of m groups i) ≡ true → words_within m (group_start i + traded_buys_at) total_cells 0 ≡ true
unfolding no_totals
within_zeros m i e =
    let w = both e in
    let v = both w.1 in
    let u = both v.1 in
    let zero_at : (k : ℕ) → eqb (word_at m (group_start i) k) 0 ≡ true → word_at m (group_start i) k ≤ 0 = λ k q. omega (arith, eqb-true (word_at m (group_start i) k) 0 q) in
    run_within m (group_start i) 0 traded_buys_at total_cells (zero_at traded_buys_at w.0 also zero_at traded_sells_at v.0 also zero_at open_buys_at u.0 also zero_at open_sells_at u.1 also tt)

pub group_met : (m : List ℕ) (i : ℕ) → GroupRules m i → group_ok m i ≡ true
unfolding group_ok totals_ok group_fits totals_fit
group_met m i r =
    let b = group_start i in
    let w = both r.fits_form in
    let s = both w.1 in
    let k = both s.1 in
    let t = both k.1 in
    let v = both t.1 in
    let u = both v.1 in
    let f = (formed_exactly (group (mpid_in (rows_of m groups i)) (group_in (rows_of m groups i)).terms)).0 w.0 in
    let z = f.1.1.1.1.1.1.1.0 in
    rules_met _ (
    (mpid_exactly (mpid_in (rows_of m groups i))).1 f.0
    also run_within m b ceiling gross_trade_at limit_cells (f.1.0.1 also f.1.1.0.1 also f.1.1.1.0.1 also f.1.1.1.1.0.1 also f.1.1.1.1.1.0.1 also f.1.1.1.1.1.1.0.1 also tt)
    also ranged 1 1_000_000 (word_at m b max_size_at) z.0 z.1
    also run_within m b 1 short_sales_at mark_cells (leb-true _ _ s.0 also leb-true _ _ k.0 also tt)
    also rules_met _ (run_within m b ceiling traded_buys_at total_cells (leb-true _ _ t.0 also leb-true _ _ v.0 also leb-true _ _ u.0 also leb-true _ _ u.1 also tt) also r.gross also early_is _ _ ∙ either (flag (head_in (rows_of m) opened_at)) (within_zeros m i) r.quiet also tt)
    also tt
    )

-- ── symbols ──
pub symbol_read : (m : List ℕ) (i : ℕ) → symbol_ok m i ≡ true → symbol_fits (rows_of m symbols i) ≡ true
unfolding symbol_ok symbol_fits
symbol_read m i e =
    let b = symbol_start i in
    let w = rules_read _ e in
    let q : (k : ℕ) → bid_at ≤ k → k < bid_at + 2 → word_at m b k ≤ 999_999_999_999 = word_within m b bid_at 2 999_999_999_999 w.1.0 in
    (formed_exactly (tell 1 (quote (word_at m b id_at) (word_at m b bid_at) (word_at m b offer_at)))).1
    ((omega arith, omega arith) also in_range 1 4_294_967_295 (word_at m b id_at) w.0 also (omega arith, q bid_at (omega arith) (omega arith)) also (omega arith, q offer_at (omega arith) (omega arith)) also tt)

pub symbol_met : (m : List ℕ) (i : ℕ) → symbol_fits (rows_of m symbols i) ≡ true → symbol_ok m i ≡ true
unfolding symbol_ok symbol_fits
symbol_met m i e =
    let b = symbol_start i in
    let f = (formed_exactly (tell 1 (quote (word_at m b id_at) (word_at m b bid_at) (word_at m b offer_at)))).0 e in
    rules_met _ (ranged 1 4_294_967_295 (word_at m b id_at) f.1.0.0 f.1.0.1 also run_within m b 999_999_999_999 bid_at 2 (f.1.1.0.1 also f.1.1.1.0.1 also tt) also tt)

-- ── requests ──
side_fits : (x : Side) → Fits (side x)
side_fits buy = refl
side_fits sell = refl
side_fits short = refl
side_fits exempt = refl

-- a letter of a side is that of the side it is read as, and no other word is
side_letter_read : (c : ℕ) → fits (letter (bytes "BSHE") c) ≡ true → c ≡ side_letter (side_of c)
unfolding fits
side_letter_read c h = let s = says_side c h in ap (λ l. get_or l 0 0) s.0

side_letter_fits : (c : ℕ) → c ≡ side_letter (side_of c) → fits (letter (bytes "BSHE") c) ≡ true
side_letter_fits c e = subst (λ (c : ℕ). fits (letter (bytes "BSHE") c) ≡ true) (sym e) ((letter_exactly (bytes "BSHE") (side_letter (side_of c))).1 (side_fits (side_of c)))

module _ (m : List ℕ) (i : ℕ) where
  abbrev b : ℕ
  b = request_start m i

  abbrev r : Row
  r = rows_of m requests i

  abbrev key : Key
  key = key_in (rows_of m keys i)

  -- what a deal says, in its form and as it is written
  pub record DealRules (d : Deal) : Type 0 where
    pub form : Formed (ask (record { key = key; deal = d }))
    pub written : words_in r ≡ request_words (record { request = record { key = key; deal = d }; number = r number_at })

  same_nine : {k' a b c s x z p : ℕ} → r kind_at ≡ k' → r target_at ≡ a → r target_middle_at ≡ b → r target_tail_at ≡ c → r symbol_at ≡ s → r side_at ≡ x → r size_at ≡ z → r price_at ≡ p →
      words_in r ≡ k' ∷ r number_at ∷ a ∷ b ∷ c ∷ s ∷ x ∷ z ∷ p ∷ []
  same_nine k a b c s x z p = λ i. k i ∷ r number_at ∷ a i ∷ b i ∷ c i ∷ s i ∷ x i ∷ z i ∷ p i ∷ []

  nine : {k' n a b c s x z p : ℕ} → words_in r ≡ k' ∷ n ∷ a ∷ b ∷ c ∷ s ∷ x ∷ z ∷ p ∷ [] → (r kind_at ≡ k') × (r target_at ≡ a) × (r target_middle_at ≡ b) × (r target_tail_at ≡ c) × (r symbol_at ≡ s) × (r side_at ≡ x) × (r size_at ≡ z) × (r price_at ≡ p)
  nine e = (ap (word_of kind_at) e, ap (word_of target_at) e, ap (word_of target_middle_at) e, ap (word_of target_tail_at) e, ap (word_of symbol_at) e, ap (word_of side_at) e, ap (word_of size_at) e, ap (word_of price_at) e)
    where
      word_of : ℕ → List ℕ → ℕ
      word_of k l = get_or l k 0

  zero_word : (from n : ℕ) → words_within m (b + from) n 0 ≡ true → (k : ℕ) → from ≤ k → k < from + n → word_at m b k ≡ 0
  zero_word from n e k le lt = let h = word_within m b from n 0 e k le lt in omega arith

  -- by the kind's letter, as the code and the reading of a row both take it
  by_kind : (P : Bool → Deal → Type 0) →
      (r kind_at ≡ code "N" → P (new_ok m b) (new (r symbol_at) (side_of (r side_at)) (r size_at) (r price_at))) →
      (r kind_at ≡ code "M" → P (change_ok m b) (change (target_in r) (r size_at) (r price_at))) →
      (r kind_at ≡ code "C" → P (cancel_ok m b) (cancel (target_in r))) →
      (r kind_at ≡ code "B" → P (words_within m (b + target_at) not_of_block 0) block) →
      (r kind_at ≡ code "R" → P (words_within m (b + target_at) not_of_block 0) unblock) →
      ((r kind_at ≡ code "R" → ⊥) → P false unblock) → P (deal_ok m b) (deal_in r)
  unfolding deal_ok
  by_kind P n c x k u o = on (λ t. P (cond t (new_ok m b) rest₁) (cond t (new (r symbol_at) (side_of (r side_at)) (r size_at) (r price_at)) deal₁)) (eqb (r kind_at) (code "N")) (λ e. n (eqb-true _ _ e))
      (λ e. on (λ t. P (cond t (change_ok m b) rest₂) (cond t (change (target_in r) (r size_at) (r price_at)) deal₂)) (eqb (r kind_at) (code "M")) (λ e. c (eqb-true _ _ e))
      (λ e. on (λ t. P (cond t (cancel_ok m b) rest₃) (cond t (cancel (target_in r)) deal₃)) (eqb (r kind_at) (code "C")) (λ e. x (eqb-true _ _ e))
      (λ e. on (λ t. P (cond t (words_within m (b + target_at) not_of_block 0) rest₄) (cond t block unblock)) (eqb (r kind_at) (code "B")) (λ e. k (eqb-true _ _ e))
      (λ e. on (λ t. P (cond t (words_within m (b + target_at) not_of_block 0) false) unblock) (eqb (r kind_at) (code "R")) (λ e. u (eqb-true _ _ e)) (λ e. o (eqb-false _ _ e))))))
    where
      rest₄ : Bool
      rest₄ = cond (eqb (r kind_at) (code "R")) (words_within m (b + target_at) not_of_block 0) false

      rest₃ : Bool
      rest₃ = cond (eqb (r kind_at) (code "B")) (words_within m (b + target_at) not_of_block 0) rest₄

      rest₂ : Bool
      rest₂ = cond (eqb (r kind_at) (code "C")) (cancel_ok m b) rest₃

      rest₁ : Bool
      rest₁ = cond (eqb (r kind_at) (code "M")) (change_ok m b) rest₂

      deal₃ : Deal
      deal₃ = cond (eqb (r kind_at) (code "B")) block unblock

      deal₂ : Deal
      deal₂ = cond (eqb (r kind_at) (code "C")) (cancel (target_in r)) deal₃

      deal₁ : Deal
      deal₁ = cond (eqb (r kind_at) (code "M")) (change (target_in r) (r size_at) (r price_at)) deal₂

  sized_read : sized_ok m b ≡ true → Fits (size (r size_at)) × Fits (price (r price_at))
  unfolding sized_ok
  sized_read e = let w = rules_read _ e in (in_range 1 1_000_000 (r size_at) w.0, in_range 1 999_999_999_999 (r price_at) w.1.0)

  sized_met : Fits (size (r size_at)) → Fits (price (r price_at)) → sized_ok m b ≡ true
  unfolding sized_ok
  sized_met z p = rules_met _ (ranged 1 1_000_000 (r size_at) z.0 z.1 also ranged 1 999_999_999_999 (r price_at) p.0 p.1 also tt)

  deal_read : Fits (identifier key.name) → Fits (mpid key.owner.mpid) → deal_ok m b ≡ true → DealRules (deal_in r)
  unfolding new_ok change_ok cancel_ok
  deal_read n o = by_kind (λ t d. t ≡ true → DealRules d)
      (λ k e. let w = rules_read _ e in let z = zero_word target_at target_cells w.0 in let q = sized_read w.1.1.1.0 in record {
        form = n also o also in_range 1 4_294_967_295 (r symbol_at) w.1.0 also side_fits (side_of (r side_at)) also q.0 also q.1 also tt;
        written = same_nine k (z target_at (omega arith) (omega arith)) (z target_middle_at (omega arith) (omega arith)) (z target_tail_at (omega arith) (omega arith)) refl (side_letter_read (r side_at) w.1.1.0) refl refl;
      })
      (λ k e. let w = rules_read _ e in let z = zero_word symbol_at not_of_change w.0 in let q = sized_read w.1.1.0 in record {
        form = n also o also (identifier_exactly (target_in r)).0 w.1.0 also q.0 also q.1 also tt;
        written = same_nine k refl refl refl (z symbol_at (omega arith) (omega arith)) (z side_at (omega arith) (omega arith)) refl refl;
      })
      (λ k e. let w = rules_read _ e in let z = zero_word symbol_at not_of_cancel w.0 in record {
        form = n also o also (identifier_exactly (target_in r)).0 w.1.0 also tt;
        written = same_nine k refl refl refl (z symbol_at (omega arith) (omega arith)) (z side_at (omega arith) (omega arith)) (z size_at (omega arith) (omega arith)) (z price_at (omega arith) (omega arith));
      })
      (λ k e. record { form = n also o also tt; written = bare k e })
      (λ k e. record { form = n also o also tt; written = bare k e })
      (λ k e. absurd (false≢true e))
    where
      bare : {k' : ℕ} → r kind_at ≡ k' → words_within m (b + target_at) not_of_block 0 ≡ true → words_in r ≡ k' ∷ r number_at ∷ 0 ∷ 0 ∷ 0 ∷ 0 ∷ 0 ∷ 0 ∷ 0 ∷ []
      bare k e = let z = zero_word target_at not_of_block e in same_nine k (z target_at (omega arith) (omega arith)) (z target_middle_at (omega arith) (omega arith)) (z target_tail_at (omega arith) (omega arith)) (z symbol_at (omega arith) (omega arith))
          (z side_at (omega arith) (omega arith)) (z size_at (omega arith) (omega arith)) (z price_at (omega arith) (omega arith))

  deal_met : DealRules (deal_in r) → deal_ok m b ≡ true
  unfolding new_ok change_ok cancel_ok
  deal_met = by_kind (λ t d. DealRules d → t ≡ true)
      (λ k d. let w = nine d.written in let f = d.form in
      rules_met _ (run_within m b 0 target_at target_cells (nil w.1 also nil w.2 also nil w.3 also tt) also ranged 1 4_294_967_295 (r symbol_at) f.1.1.0.0 f.1.1.0.1 also side_letter_fits (r side_at) w.5 also sized_met f.1.1.1.1.0 f.1.1.1.1.1.0 also tt))
      (λ k d. let w = nine d.written in let f = d.form in
      rules_met _ (run_within m b 0 symbol_at not_of_change (nil w.4 also nil w.5 also tt) also (identifier_exactly (target_in r)).1 f.1.1.0 also sized_met f.1.1.1.0 f.1.1.1.1.0 also tt))
      (λ k d. let w = nine d.written in
      rules_met _ (run_within m b 0 symbol_at not_of_cancel (nil w.4 also nil w.5 also nil w.6 also nil w.7 also tt) also (identifier_exactly (target_in r)).1 d.form.1.1.0 also tt))
      (λ k d. bare d.written) (λ k d. bare d.written) (λ ne d. absurd (ne (nine d.written).0))
    where
      nil : {n : ℕ} → n ≡ 0 → n ≤ 0
      nil e = omega arith

      bare : {k n : ℕ} → words_in r ≡ k ∷ n ∷ 0 ∷ 0 ∷ 0 ∷ 0 ∷ 0 ∷ 0 ∷ 0 ∷ [] → words_within m (b + target_at) not_of_block 0 ≡ true
      bare e = let w = nine e in run_within m b 0 target_at not_of_block (nil w.1 also nil w.2 also nil w.3 also nil w.4 also nil w.5 also nil w.6 also nil w.7 also tt)

  -- a place's request, if its owner is a listed MPID
  pub request_read : Fits (mpid key.owner.mpid) → request_ok m i b ≡ true → request_fits (rows_of m keys i) r ≡ true
  unfolding request_ok request_fits number_ok
  request_read o e =
      let w = rules_read _ e in
      let d = deal_read ((identifier_exactly key.name).0 w.0) o w.1.1.0 in
      two ((formed_exactly (ask (asked_in (rows_of m keys i) r).request)).1 d.form) (two w.1.0 (same_itself _ _ d.written))

  pub request_met : request_fits (rows_of m keys i) r ≡ true → request_ok m i b ≡ true
  unfolding request_ok request_fits number_ok
  request_met e =
      let w = both e in
      let v = both w.1 in
      let f = (formed_exactly (ask (asked_in (rows_of m keys i) r).request)).0 w.0 in
      rules_met _ ((identifier_exactly key.name).1 (name_fits (ask (asked_in (rows_of m keys i) r).request) f) also v.0 also deal_met (record { form = f; written = words_same _ _ v.1 }) also tt)

  -- ── orders ──
  abbrev ob : ℕ
  ob = order_start m i

  pub is_order_is : is_order m b ≡ opens r
  unfolding is_order all_hold
  is_order_is = on (λ t. (eqb (r kind_at) (code "N") && (t && true)) ≡ (eqb (r kind_at) (code "N") && t)) (eqb (r number_at) 0) (λ e. refl) (λ e. refl)

  -- the figures of a place, and that done is at most size
  pub record OrderRules : Type 0 where
    pub figures : figures_fit r (rows_of m orders i) ≡ true
    pub done_most : leb (rows_of m orders i done_at) (rows_of m orders i order_size_at) ≡ true

  pub order_read : opens r ≡ true → figures_ok m ob ≡ true → OrderRules
  unfolding figures_ok figures_fit
  order_read q e = let w = rules_read _ e in
      let z = in_range 1 1_000_000 (word_at m ob order_size_at) w.1.0 in
      let p = in_range 1 999_999_999_999 (word_at m ob order_price_at) w.0 in
      record { figures = rw q (two ((fits_exactly (size (word_at m ob order_size_at)) tt).1 z) (two ((fits_exactly (price (word_at m ob order_price_at)) tt).1 p) w.1.1.0)); done_most = w.1.1.1.0 }

  pub order_met : opens r ≡ true → OrderRules → figures_ok m ob ≡ true
  unfolding figures_ok figures_fit
  order_met q o =
      let w = both (rw q at o.figures) in
      let v = both w.1 in
      let z = (fits_exactly (size (word_at m ob order_size_at)) tt).0 w.0 in
      let p = (fits_exactly (price (word_at m ob order_price_at)) tt).0 v.0 in
      rules_met _ (ranged 1 999_999_999_999 (word_at m ob order_price_at) p.0 p.1 also ranged 1 1_000_000 (word_at m ob order_size_at) z.0 z.1 also v.1 also o.done_most also tt)

  pub unused_read : opens r ≡ false → words_within m ob (width_of orders) 0 ≡ true → OrderRules
  unfolding figures_fit no_figures words_within
  unused_read q e = let z : (k : ℕ) → k < width_of orders → word_at m ob k ≡ 0 = λ k lt. let h = leb-true (word_at m ob k) 0 (every_each (λ k. leb (word_at m ob k) 0) (width_of orders) e k lt) in omega arith in
      let price_none = z order_price_at (omega arith) in let size_none = z order_size_at (omega arith) in let Done-none = z done_at (omega arith) in
      record { figures = rw q (two (eq-eqb _ 0 price_none) (two (eq-eqb _ 0 size_none) (two (eq-eqb _ 0 Done-none) (eq-eqb _ 0 (z cancel_asked_at (omega arith)))))); done_most = le-leb (word_at m ob done_at) (word_at m ob order_size_at) (omega arith) }

  pub unused_met : opens r ≡ false → OrderRules → words_within m ob (width_of orders) 0 ≡ true
  unfolding figures_fit no_figures
  unused_met q o =
      let w = both (rw q at o.figures) in
      let v = both w.1 in
      let u = both v.1 in
      let nil : (k : ℕ) → eqb (word_at m ob k) 0 ≡ true → word_at m ob k ≤ 0 = λ k q. omega (arith, eqb-true (word_at m ob k) 0 q) in
      subst (λ (a : ℕ). words_within m a (width_of orders) 0 ≡ true) (add-zero ob) (run_within m ob 0 order_price_at (width_of orders) (nil order_price_at w.0 also nil order_size_at v.0 also nil done_at u.0 also nil cancel_asked_at u.1 also tt))
