-- The open values of all groups, summed in one pass over the places: a total for each group's buys and one for its sells.
use Rattle.std.specs.Prelude.{◌≡◌, refl, Bool, true, false, ◌&&◌, cond, Option, None, Some, List, ℕ, ◌+◌, ◌-◌, ◌*◌, ◌≤◌, ◌<◌, leb, eqb, length, get_or, set, replicate}
use Rattle.std.proofs.Common.{sym, ◌∙◌, ap, subst, arith, mul-le-mul, add-one, length-set, get_or-set_same, get_or-set_other}
use Rattle.std.specs.Bool.{beq}
use Rattle.std.proofs.lemmas.Bool.{false≢true}
use Rattle.std.proofs.Math.Decide.{dec_lt}
use Rattle.std.proofs.lemmas.Bool.Decides.{nat_tests}
use Rattle.std.proofs.lemmas.List.{get_or-replicate, length-replicate}
use borrow.Author.Tests.{leb-true, eqb-true, eqb-false, eq-eqb, ne_eqb}
use Rattle.laws.specs.Tests.{on, first_fails, second_fails}
use Rattle.laws.specs.Tables.{sum}
use Rattle.laws.specs.Numbered.{apart, apart_each, every, every_no, total, total_none, total_more, total_grows, sum_those, least_is}
use Rattle.laws.specs.Checks.{rules_read}
use Rattle.laws.specs.Rows.{Sheet}
use Rattle.rulebook.specs.Names.{same_mpid}
use Rattle.rulebook.specs.Lines.{ceiling, is_buy}
use Rattle.rulebook.proofs.Cases.{in_range}
use Rattle.rulebook.specs.Kept.{open_value, is_of, worth}
use Rattle.books.specs.Layout.{order_start, orders, width_of, groups, groups_at, places_at, mpid_at, open_buys_at, open_sells_at, order_price_at, order_size_at, done_at}
use Rattle.books.specs.View.{mpid_in, head_in, rows_of, opens_of, order_of, orders_in}
use Rattle.books.specs.Writing.{group_index}
use Rattle.books.specs.Refining.{Counted}
use Rattle.rules.specs.Passing.{word_at, figures_ok}
use Rattle.rules.specs.Testing.{sums_are}
use Rattle.state.specs.declared.Sides.{Sides}
use Rattle.state.specs.Places.{same_desk, figures_right, place_ok, desk_at}

-- what the j-th place counts for a group's buys (true) or sells
abbrev pub part_at : Sheet → ℕ → Bool → ℕ → ℕ
part_at S g b j = cond (opens_of S j) (worth (mpid_in (S groups g)) b (order_of S j)) 0

-- and the first i places
unfoldable pub part : Sheet → ℕ → Bool → ℕ → ℕ
part S g b i = total (part_at S g b) i

-- of what a group has open, its buys (true) or its sells
abbrev pub on_side : Bool → Sides → ℕ
on_side b s = cond b s.buys s.sells

abbrev pub no_sides : Sides
no_sides = record { buys = 0; sells = 0 }

-- what a group's row has stored
abbrev pub stored_in : Sheet → ℕ → Sides
stored_in S g = record { buys = S groups g open_buys_at; sells = S groups g open_sells_at }

-- so much more on one side
abbrev pub more_on : Bool → ℕ → Sides → Sides
more_on b v s = cond b (record { buys = s.buys + v; sells = s.sells }) (record { buys = s.buys; sells = s.sells + v })

-- or none, where that passes the ceiling
unfoldable pub with_value : Bool → ℕ → Sides → Option Sides
with_value b v s = cond (leb (more_on b v s).buys ceiling && leb (more_on b v s).sells ceiling) (Some (more_on b v s)) None

-- each total is that of the first i places, and none is above the ceiling
pub record Sums (S : Sheet) (sums : List Sides) (i : ℕ) : Type 0 where
  pub long : length sums ≡ 64
  pub each : (g : ℕ) (b : Bool) → g < head_in S groups_at → on_side b (get_or sums g no_sides) ≡ part S g b i
  pub within : (g : ℕ) (b : Bool) → g < head_in S groups_at → part S g b i ≤ ceiling

-- one of them is
pub record Over (S : Sheet) (i : ℕ) : Type 0 where
  pub at : ℕ
  pub side : Bool
  pub listed : at < head_in S groups_at
  pub more : ceiling < part S at side i

-- the totals of i places, or that one of them is above
pub record Added (S : Sheet) (sums : List Sides) (i : ℕ) (r : Bool) : Type 0 where
  pub good : r ≡ true → Sums S sums i
  pub over : r ≡ false → Over S i

pub added : {S : Sheet} {sums : List Sides} {i : ℕ} → Sums S sums i → Added S sums i true
added s = record { good = λ e. s; over = λ e. absurd (false≢true (sym e)) }

pub passed : {S : Sheet} {sums : List Sides} {i : ℕ} → Over S i → Added S sums i false
passed o = record { good = λ e. absurd (false≢true e); over = λ e. o }

part_more : (S : Sheet) (g : ℕ) (b : Bool) (i : ℕ) → part S g b (i + 1) ≡ part S g b i + part_at S g b i
unfolding part
part_more S g b i = rw add-one (total_more (part_at S g b) i)

pub over_later : {S : Sheet} (i n : ℕ) → i ≤ n → Over S i → Over S n
unfolding part
over_later {S} i n le o = record { at = o.at; side = o.side; listed = o.listed; more = omega (arith, o.more, total_grows (part_at S o.at o.side) i n le) }

pub sums_none : (S : Sheet) → head_in S groups_at ≤ 64 → Sums S (replicate 64 no_sides) 0
unfolding part
sums_none S few = record {
  long = length-replicate 64 no_sides;
  each = λ g b lt. ap (on_side b) (get_or-replicate 64 g no_sides no_sides (omega arith)) ∙ on (λ b. on_side b no_sides ≡ 0) b (λ e. refl) (λ e. refl) ∙ sym (total_none (part_at S g b));
  within = λ g b lt. omega (arith, total_none (part_at S g b));
}

-- a place without an order adds nothing
pub sums_skip : (S : Sheet) (sums : List Sides) (i : ℕ) → Sums S sums i → opens_of S i ≡ false → Sums S sums (i + 1)
sums_skip S sums i s e = record { long = s.long; each = λ g b lt. s.each g b lt ∙ sym (kept g b); within = λ g b lt. omega (arith, s.within g b lt, kept g b) }
  where
    kept : (g : ℕ) (b : Bool) → part S g b (i + 1) ≡ part S g b i
    kept g b = part_more S g b i ∙ rw e (omega arith)

-- of a group and a side that an order is not of, it is worth nothing
not_worth : (S : Sheet) (g : ℕ) (b : Bool) (i : ℕ) → is_of (mpid_in (S groups g)) b (order_of S i).ticket ≡ false → part_at S g b i ≡ 0
unfolding worth
not_worth S g b i e = on (λ t. cond t (cond (is_of (mpid_in (S groups g)) b (order_of S i).ticket) (open_value (order_of S i)) 0) 0 ≡ 0) (opens_of S i) (λ q. rw e refl) (λ q. refl)

same_bool : (b : Bool) → beq b b ≡ true
same_bool true = refl
same_bool false = refl

-- an order's side, as the row has it
abbrev pub side_of_row : Sheet → ℕ → Bool
side_of_row S i = is_buy (order_of S i).ticket.side

beq_same : (c b : Bool) → beq c b ≡ true → c ≡ b
beq_same true true e = refl
beq_same true false e = absurd (false≢true e)
beq_same false true e = absurd (false≢true e)
beq_same false false e = refl

-- what is on the other side stays
other_kept : (c b : Bool) (v : ℕ) (s : Sides) → beq c b ≡ false → on_side c (more_on b v s) ≡ on_side c s
other_kept true true v s e = absurd (false≢true (sym e))
other_kept true false v s e = refl
other_kept false true v s e = refl
other_kept false false v s e = absurd (false≢true (sym e))

side_more : (b : Bool) (v : ℕ) (s : Sides) → on_side b (more_on b v s) ≡ on_side b s + v
side_more true v s = refl
side_more false v s = refl

-- a value more is kept, or passes the ceiling
kept_so : (x y : ℕ) (s t : Sides) → cond (leb x ceiling && leb y ceiling) (Some s) None ≡ Some t → (t ≡ s) × (x ≤ ceiling) × (y ≤ ceiling)
kept_so x y s t e = grind (arith, nat_tests)

over_buys : (x y : ℕ) (s : Sides) → cond (leb x ceiling && leb y ceiling) (Some s) None ≡ None → y ≤ ceiling → ceiling < x
over_buys x y s e h = grind (arith, nat_tests)

over_sells : (x y : ℕ) (s : Sides) → cond (leb x ceiling && leb y ceiling) (Some s) None ≡ None → x ≤ ceiling → ceiling < y
over_sells x y s e h = grind (arith, nat_tests)

value_kept : (b : Bool) (v : ℕ) (s t : Sides) → with_value b v s ≡ Some t → (t ≡ more_on b v s) × (on_side b s + v ≤ ceiling)
unfolding with_value
value_kept b v s t e =
    let w = kept_so (more_on b v s).buys (more_on b v s).sells (more_on b v s) t e in
    (w.0, on (λ c. on_side c (more_on c v s) ≤ ceiling → on_side c s + v ≤ ceiling) b (λ q h. h) (λ q h. h) (on (λ c. on_side c (more_on b v s) ≤ ceiling) b (λ q. w.1) (λ q. w.2)))

value_over : (b : Bool) (v : ℕ) (s : Sides) → ((c : Bool) → on_side c s ≤ ceiling) → with_value b v s ≡ None → ceiling < on_side b s + v
unfolding with_value
value_over true v s most e = over_buys (s.buys + v) s.sells (more_on true v s) e (most false)
value_over false v s most e = over_sells s.buys (s.sells + v) (more_on false v s) e (most true)

-- the sum over the orders is that over the places
sums_read : (S : Sheet) (g : ℕ) (b : Bool) → sum (worth (mpid_in (S groups g)) b) (orders_in S) ≡ part S g b (head_in S places_at)
unfolding part
sums_read S g b = sum_those (worth (mpid_in (S groups g)) b) (opens_of S) (order_of S) (head_in S places_at)

side_broken : (S : Sheet) (g : ℕ) (b : Bool) → (S groups g open_buys_at ≤ ceiling) × (S groups g open_sells_at ≤ ceiling) → ceiling < part S g b (head_in S places_at) → sums_are S g ≡ false
unfolding sums_are
side_broken S g true most h = first_fails _ (ne_eqb (S groups g open_buys_at) (sum (worth (mpid_in (S groups g)) true) (orders_in S)) (λ e. omega (arith, most.0, sums_read S g true)))
side_broken S g false most h = second_fails (eqb (S groups g open_buys_at) (sum (worth (mpid_in (S groups g)) true) (orders_in S)))
    (ne_eqb (S groups g open_sells_at) (sum (worth (mpid_in (S groups g)) false) (orders_in S)) (λ e. omega (arith, most.1, sums_read S g false)))

-- an order's value is to be added to its owner's total
pub record Adding (m : List ℕ) (sums : List Sides) (i k v : ℕ) : Type 0 where
  pub so_far : Sums (rows_of m) sums i
  pub few : head_in (rows_of m) groups_at ≤ 64
  pub lt : k < head_in (rows_of m) groups_at
  pub own : rows_of m groups k mpid_at ≡ (order_of (rows_of m) i).ticket.key.owner.mpid.code
  pub alone : apart (same_desk m) (head_in (rows_of m) groups_at) ≡ true
  pub holds : opens_of (rows_of m) i ≡ true
  pub is : v ≡ open_value (order_of (rows_of m) i)

module _ (m : List ℕ) (sums : List Sides) (i k v : ℕ) (a : Adding m sums i k v) where
  abbrev S : Sheet
  S = rows_of m

  abbrev b : Bool
  b = side_of_row S i

  -- what the group has open so far
  abbrev so_far : Sides
  so_far = get_or sums k no_sides

  value : part_at S k b i ≡ v
  unfolding worth
  value = rw (a.holds, eq-eqb (S groups k mpid_at) (order_of S i).ticket.key.owner.mpid.code a.own, same_bool b) (sym a.is)

  sum_after : part S k b (i + 1) ≡ on_side b so_far + v
  sum_after = omega (arith, part_more S k b i, a.so_far.each k b a.lt, value)

  pub sum_small : (c : Bool) → on_side c so_far ≤ ceiling
  sum_small c = omega (arith, a.so_far.each k c a.lt, a.so_far.within k c a.lt)

  pub sums_over : with_value b v so_far ≡ None → Over S (i + 1)
  sums_over e = record { at = k; side = b; listed = a.lt; more = omega (arith, sum_after, value_over b v so_far sum_small e) }

  -- another group's, or the other side's
  other_desk : (g : ℕ) → (g ≡ k → ⊥) → g < head_in S groups_at → same_mpid (mpid_in (S groups g)) (order_of S i).ticket.key.owner.mpid ≡ false
  other_desk g ne h = ne_eqb (S groups g mpid_at) (order_of S i).ticket.key.owner.mpid.code (λ e. elim (dec_lt g k) [
    | yes p ↦ clash g k p a.lt (e ∙ sym a.own)
    | no np ↦ clash k g (let q : k < g = omega (arith, np, ne) in q) h (a.own ∙ sym e)
  ])
    where
      clash : (p q : ℕ) → p < q → q < head_in S groups_at → S groups p mpid_at ≡ S groups q mpid_at → ⊥
      clash p q l n e = false≢true (sym (apart_each (same_desk m) (head_in S groups_at) a.alone p q l n) ∙ eq-eqb (S groups p mpid_at) (S groups q mpid_at) e)

  kept_desk : (g : ℕ) (c : Bool) → (g ≡ k → ⊥) → g < head_in S groups_at → part S g c (i + 1) ≡ part S g c i
  kept_desk g c ne h = let z = not_worth S g c i (first_fails _ (other_desk g ne h)) in omega (arith, part_more S g c i, z)

  other_side : (c : Bool) → beq c b ≡ false → part S k c (i + 1) ≡ part S k c i
  other_side c e = let z = not_worth S k c i (second_fails (same_mpid (mpid_in (S groups k)) (order_of S i).ticket.key.owner.mpid) e) in omega (arith, part_more S k c i, z)

  pub sums_add : (t : Sides) → with_value b v so_far ≡ Some t → Sums S (set sums k t) (i + 1)
  sums_add t e = record { long = simp length-set a.so_far.long; each = λ g c h. (one g c h).0; within = λ g c h. (one g c h).1 }
    where
      kept : (t ≡ more_on b v so_far) × (on_side b so_far + v ≤ ceiling)
      kept = value_kept b v so_far t e

      elsewhere : (g : ℕ) (c : Bool) → g < head_in S groups_at → (g ≡ k → ⊥) → (on_side c (get_or (set sums k t) g no_sides) ≡ part S g c (i + 1)) × (part S g c (i + 1) ≤ ceiling)
      elsewhere g c h ne = let same = kept_desk g c ne h in (ap (on_side c) (get_or-set_other sums k g t no_sides ne) ∙ a.so_far.each g c h ∙ sym same, omega (arith, a.so_far.within g c h, same))

      here : get_or (set sums k t) k no_sides ≡ more_on b v so_far
      here = get_or-set_same sums k t no_sides (omega (arith, a.so_far.long, a.few, a.lt)) ∙ kept.0

      this_side : (on_side b (get_or (set sums k t) k no_sides) ≡ part S k b (i + 1)) × (part S k b (i + 1) ≤ ceiling)
      this_side = (ap (on_side b) here ∙ side_more b v so_far ∙ sym sum_after, omega (arith, sum_after, kept.1))

      that_side : (c : Bool) → beq c b ≡ false → (on_side c (get_or (set sums k t) k no_sides) ≡ part S k c (i + 1)) × (part S k c (i + 1) ≤ ceiling)
      that_side c q = let same = other_side c q in (ap (on_side c) here ∙ other_kept c b v so_far q ∙ a.so_far.each k c a.lt ∙ sym same, omega (arith, a.so_far.within k c a.lt, same))

      one : (g : ℕ) (c : Bool) → g < head_in S groups_at → (on_side c (get_or (set sums k t) g no_sides) ≡ part S g c (i + 1)) × (part S g c (i + 1) ≤ ceiling)
      one g c h = on (λ z. eqb g k ≡ z → (on_side c (get_or (set sums k t) g no_sides) ≡ part S g c (i + 1)) × (part S g c (i + 1) ≤ ceiling)) (eqb g k)
          (λ z e. subst (λ g. (on_side c (get_or (set sums k t) g no_sides) ≡ part S g c (i + 1)) × (part S g c (i + 1) ≤ ceiling)) (sym (eqb-true g k e))
          (on (λ z. beq c b ≡ z → (on_side c (get_or (set sums k t) k no_sides) ≡ part S k c (i + 1)) × (part S k c (i + 1) ≤ ceiling)) (beq c b)
          (λ z q. subst (λ c. (on_side c (get_or (set sums k t) k no_sides) ≡ part S k c (i + 1)) × (part S k c (i + 1) ≤ ceiling)) (sym (beq_same c b q)) this_side)
          (λ z q. that_side c q) refl))
          (λ z e. elsewhere g c h (eqb-false g k e)) refl

-- ── at the end of the pass ──
-- a total above the ceiling is no stored one
pub sums_broken : (S : Sheet) → ((g : ℕ) → g < head_in S groups_at → (S groups g open_buys_at ≤ ceiling) × (S groups g open_sells_at ≤ ceiling)) → Over S (head_in S places_at) → every (sums_are S) (head_in S groups_at) ≡ false
sums_broken S most o = every_no (sums_are S) (head_in S groups_at) o.at o.listed (side_broken S o.at o.side (most o.at o.listed) o.more)

-- and else the stored ones are compared
pub sums_compared : (S : Sheet) (sums : List Sides) → Sums S sums (head_in S places_at) → (g : ℕ) → g < head_in S groups_at →
    sums_are S g ≡ (eqb (S groups g open_buys_at) (get_or sums g no_sides).buys && eqb (S groups g open_sells_at) (get_or sums g no_sides).sells)
unfolding sums_are
sums_compared S sums s g lt = rw (s.each g true lt, s.each g false lt, sums_read S g true, sums_read S g false) refl

-- ── an order's value in the code ──
-- an order's words are there, and in range
pub record Priced (m : List ℕ) (b : ℕ) : Type 0 where
  pub room : b + width_of orders ≤ length m
  pub done_most : word_at m b done_at ≤ word_at m b order_size_at
  pub value_most : (word_at m b order_size_at - word_at m b done_at) * word_at m b order_price_at ≤ 999_999_999_999_000_000

unfoldable pub value_at : List ℕ → ℕ → ℕ
value_at m b = (word_at m b order_size_at - word_at m b done_at) * word_at m b order_price_at

-- the i-th place is taken and in range, and the k-th group is its owner's
pub record Due (m : List ℕ) (i k : ℕ) : Type 0 where
  pub taken : i < head_in (rows_of m) places_at
  pub fine : place_ok m i ≡ true
  pub desk : k ≡ desk_at m i
  pub listed : k < head_in (rows_of m) groups_at
  pub alone : apart (same_desk m) (head_in (rows_of m) groups_at) ≡ true

-- the figures of an order that is in range
figures_at : (m : List ℕ) (i : ℕ) → place_ok m i ≡ true → opens_of (rows_of m) i ≡ true → figures_ok m (order_start m i) ≡ true
unfolding place_ok figures_right
figures_at m i e q = (rules_read _ (rw q at (rules_read _ e).1.0)).0

pub priced : (m : List ℕ) (i : ℕ) → Counted m → i < head_in (rows_of m) places_at → place_ok m i ≡ true → opens_of (rows_of m) i ≡ true → Priced m (order_start m i)
unfolding figures_ok
priced m i c lt e q =
    let w = rules_read _ (figures_at m i e q) in
    let p = in_range 1 999_999_999_999 (word_at m (order_start m i) order_price_at) w.0 in
    let z = in_range 1 1_000_000 (word_at m (order_start m i) order_size_at) w.1.0 in
    record { room = omega (arith, c.whole, c.few_places); done_most = leb-true _ _ w.1.1.1.0; value_most = mul-le-mul {n₂ = 1_000_000} (omega (arith, z.1)) p.1 }

-- is what the books say of it
pub value_is : (m : List ℕ) (i : ℕ) → value_at m (order_start m i) ≡ open_value (order_of (rows_of m) i)
unfolding value_at open_value
value_is m i = refl

pub value_small : (m : List ℕ) (b : ℕ) → Priced m b → value_at m b ≤ 999_999_999_999_000_000
unfolding value_at
value_small m b p = p.value_most

-- the owner's group has the owner's MPID
pub desk_owns : (m : List ℕ) (i k : ℕ) → k ≡ desk_at m i → k < head_in (rows_of m) groups_at → rows_of m groups k mpid_at ≡ (order_of (rows_of m) i).ticket.key.owner.mpid.code
unfolding group_index
desk_owns m i k e lt = sym (eqb-true _ _ (subst (λ k. k < head_in (rows_of m) groups_at → same_mpid (order_of (rows_of m) i).ticket.key.owner.mpid (mpid_in (rows_of m groups k)) ≡ true) (sym e)
    (least_is (λ j. same_mpid (order_of (rows_of m) i).ticket.key.owner.mpid (mpid_in (rows_of m groups j))) (head_in (rows_of m) groups_at)).here lt))

pub adding : (m : List ℕ) (sums : List Sides) (i k v : ℕ) → Counted m → Due m i k → Sums (rows_of m) sums i → opens_of (rows_of m) i ≡ true → v ≡ open_value (order_of (rows_of m) i) → Adding m sums i k v
adding m sums i k v c d s q e = record { so_far = s; few = c.few_groups; lt = d.listed; own = desk_owns m i k d.desk d.listed; alone = d.alone; holds = q; is = e }
