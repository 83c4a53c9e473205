-- A group's tally after an order is added or amended: its stored totals, with the order's part exchanged.
use Rattle.std.specs.Prelude.{◌≡◌, refl, Bool, cond, List, [], ◌∷◌, ◌++◌, ℕ, ◌+◌, ◌*◌, ◌-◌, ◌≤◌}
use Rattle.std.proofs.Common.{sym, ap, ◌∙◌, subst, arith, add-zero, zero-mul, mul-le-mul, mul-le-mul_right, eq-eqb, ne_eqb}
use Rattle.std.proofs.Math.Bool.{true, false}
use Rattle.std.specs.Bool.{beq}
use Rattle.std.proofs.Math.Option.{some}
use Rattle.laws.specs.Tests.{on}
use Rattle.laws.specs.Tables.{sum, sum_append, look, put, sum_put, part_within}
use Rattle.rulebook.specs.Names.{Mpid, mpid_exact}
use Rattle.rulebook.specs.Lines.{ceiling, is_buy}
use Rattle.rulebook.specs.Kept.{Figures, Order, Group, by_key, remaining, with_figures, traded, open_value, worth, Tally, tally, metrics}
use Rattle.fields.specs.Series.{side_of}
use Rattle.books.proofs.Refining.{buy_read}

-- remaining x price
abbrev pub value_said : Figures → ℕ
value_said f = remaining f * f.price

-- an order's part of the open values of its side exchanged for another
unfoldable pub exchanged : Bool → ℕ → ℕ → Tally → Tally
exchanged true old new t = record { tb = t.tb; ts = t.ts; ob = t.ob - old + new; os = t.os }
exchanged false old new t = record { tb = t.tb; ts = t.ts; ob = t.ob; os = t.os - old + new }

-- a fill counted for its side
unfoldable pub paid : Bool → ℕ → Tally → Tally
paid true v t = record { tb = t.tb + v; ts = t.ts; ob = t.ob; os = t.os }
paid false v t = record { tb = t.tb; ts = t.ts + v; ob = t.ob; os = t.os }

-- what an order is worth to its own desk, on each side
mine : (p : Mpid) (b : Bool) (o : Order) → p ≡ o.ticket.key.owner.mpid → worth p b o ≡ cond (beq b (is_buy o.ticket.side)) (open_value o) 0
unfolding worth
mine p b o e = rw (e, mpid_exact.self o.ticket.key.owner.mpid) refl

module _ (g : Group) (os os' : List Order) (old new : ℕ) where
  -- on its own side an order's part is exchanged, on the other nothing is
  abbrev Moved : Bool → Bool → Type 0
  Moved c b = (sum (worth g.mpid b) os' + cond (beq b c) old 0 ≡ sum (worth g.mpid b) os + cond (beq b c) new 0) × (cond (beq b c) old 0 ≤ sum (worth g.mpid b) os)

  moved : (c : Bool) → ((b : Bool) → Moved c b) → tally g os' ≡ exchanged c old new (tally g os)
  unfolding exchanged
  moved true h =
      let p : sum (worth g.mpid true) os' ≡ sum (worth g.mpid true) os - old + new = omega (arith, h true) in
      let q : sum (worth g.mpid false) os' ≡ sum (worth g.mpid false) os = omega (arith, h false) in
      λ i. record { tb = g.traded_buys; ts = g.traded_sells; ob = p i; os = q i }
  moved false h =
      let p : sum (worth g.mpid true) os' ≡ sum (worth g.mpid true) os = omega (arith, h true) in
      let q : sum (worth g.mpid false) os' ≡ sum (worth g.mpid false) os - old + new = omega (arith, h false) in
      λ i. record { tb = g.traded_buys; ts = g.traded_sells; ob = p i; os = q i }

no_part : (t : Bool) → ◌≡◌ {A = ℕ} (cond t 0 0) 0
no_part true = refl
no_part false = refl

-- LAW. The tally with an order more
pub tally_adds : (g : Group) (os : List Order) (o : Order) → g.mpid ≡ o.ticket.key.owner.mpid → tally g (os ++ (o ∷ [])) ≡ exchanged (is_buy o.ticket.side) 0 (open_value o) (tally g os)
tally_adds g os o e = let c = is_buy o.ticket.side in
    moved g os (os ++ (o ∷ [])) 0 (open_value o) c (λ b.
    (omega (arith, sum_append (worth g.mpid b) os (o ∷ []), mine g.mpid b o e, no_part (beq b c)), omega (arith, no_part (beq b c))))

-- LAW. The tally with other figures of an order
pub tally_puts : (g : Group) (os : List Order) (x : Order) (f : Figures) → g.mpid ≡ x.ticket.key.owner.mpid → look by_key x.ticket.key os ≡ some x →
    tally g (put by_key (with_figures x f) os) ≡ exchanged (is_buy x.ticket.side) (open_value x) (open_value (with_figures x f)) (tally g os)
tally_puts g os x f e l = let y = with_figures x f in
    moved g os (put by_key y os) (open_value x) (open_value y) (is_buy x.ticket.side) (λ b.
    (omega (arith, sum_put by_key (worth g.mpid b) y os l, mine g.mpid b x e, mine g.mpid b y e), omega (arith, part_within by_key (worth g.mpid b) x.ticket.key os l, mine g.mpid b x e)))

-- LAW. The tally of a group with a fill more
pub tally_traded : (g : Group) (os : List Order) (b : Bool) (v : ℕ) → tally (traded b v g) os ≡ paid b v (tally g os)
unfolding paid
tally_traded g os true v = λ i. record { tb = g.traded_buys + v; ts = add-zero g.traded_sells i; ob = (tally g os).ob; os = (tally g os).os }
tally_traded g os false v = λ i. record { tb = add-zero g.traded_buys i; ts = g.traded_sells + v; ob = (tally g os).ob; os = (tally g os).os }

-- ── bounds ──
pub value_none : (z d p : ℕ) → z ≤ d → 0 ≡ (z - d) * p
value_none z d p h = let q : z - d ≡ 0 = omega arith in sym (ap (λ n. n * p) q ∙ zero-mul p)

-- what an order may be worth at most
abbrev pub most_value : ℕ
most_value = 1_000_000_000_000_000_000

pub product_small : (z p : ℕ) → z ≤ 1_000_000 → p ≤ 999_999_999_999 → z * p ≤ most_value
product_small z p h k = let w : z * p ≤ 1_000_000 * 999_999_999_999 = mul-le-mul {n₂ = 1_000_000} h k in omega (arith, w)

pub value_small : (z d p : ℕ) → z ≤ 1_000_000 → p ≤ 999_999_999_999 → (z - d) * p ≤ most_value
value_small z d p h k = product_small (z - d) p (omega arith) k

pub exchanged_small : (b : Bool) (old new : ℕ) (t : Tally) → new ≤ most_value → (metrics t).gross_both ≤ ceiling → (metrics (exchanged b old new t)).gross_both ≤ ceiling + most_value
unfolding exchanged
exchanged_small true old new t h k = omega arith
exchanged_small false old new t h k = omega arith

pub exchanged_less : (b : Bool) (old new : ℕ) (t : Tally) → new ≤ old → old ≤ cond b t.ob t.os → (metrics t).gross_both ≤ ceiling → (metrics (exchanged b old new t)).gross_both ≤ ceiling
unfolding exchanged
exchanged_less true old new t h k l = omega arith
exchanged_less false old new t h k l = omega arith

pub worked_less : (z d more p : ℕ) → (z - (d + more)) * p ≤ (z - d) * p
worked_less z d more p = mul-le-mul_right p (omega arith)

-- an order's part of its desk's open value
pub value_within : (g : Group) (os : List Order) (x : Order) → g.mpid ≡ x.ticket.key.owner.mpid → look by_key x.ticket.key os ≡ some x → open_value x ≤ cond (is_buy x.ticket.side) (tally g os).ob (tally g os).os
value_within g os x e l = go (is_buy x.ticket.side) refl
  where
    own : (b : Bool) → is_buy x.ticket.side ≡ b → worth g.mpid b x ≡ open_value x
    own b q = mine g.mpid b x e ∙ ap (λ t. cond (beq b t) (open_value x) 0) q ∙ on (λ b. cond (beq b b) (open_value x) 0 ≡ open_value x) b (λ h. refl) (λ h. refl)

    go : (b : Bool) → is_buy x.ticket.side ≡ b → open_value x ≤ cond b (tally g os).ob (tally g os).os
    go true q = omega (arith, part_within by_key (worth g.mpid true) x.ticket.key os l, own true q)
    go false q = omega (arith, part_within by_key (worth g.mpid false) x.ticket.key os l, own false q)

pub paid_small : (b : Bool) (v : ℕ) (t : Tally) → v ≤ most_value → (metrics t).gross_both ≤ ceiling → (metrics (paid b v t)).gross_both ≤ ceiling + most_value
unfolding paid
paid_small true v t h k = omega arith
paid_small false v t h k = omega arith

-- an order's part, by its side's letter
pub part_bought : (side x y : ℕ) {old : ℕ} → side ≡ 66 → old ≤ cond (is_buy (side_of side)) x y → old ≤ x
part_bought side x y {old} e h = subst (λ b. old ≤ cond b x y) (buy_read side ∙ eq-eqb side 66 e) h

pub part_sold : (side x y : ℕ) {old : ℕ} → (side ≡ 66 → ⊥) → old ≤ cond (is_buy (side_of side)) x y → old ≤ y
part_sold side x y {old} n h = subst (λ b. old ≤ cond b x y) (buy_read side ∙ ne_eqb side 66 n) h
