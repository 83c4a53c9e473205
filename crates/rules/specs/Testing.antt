-- Document 01, "Outcomes", "State rules", as a test of the lent words: 22 where it fails.
-- Only what is in use is judged: listed groups, listed symbols, taken places.
use Rattle.std.specs.Prelude.{Bool, true, false, ◌&&◌, ◌||◌, cond, List, [], ◌∷◌, ℕ, leb, ltb, eqb, length}
use Rattle.laws.specs.Tables.{sum}
use Rattle.laws.specs.Checks.{all_hold}
use Rattle.laws.specs.Numbered.{every, apart}
use Rattle.laws.specs.Rows.{Row, Sheet}
use Rattle.rulebook.specs.Names.{same_mpid}
use Rattle.rulebook.specs.Lines.{ceiling, group, ask, tell, quote, size, price}
use Rattle.rulebook.specs.Kept.{metrics, worth}
use Rattle.rulebook.specs.Rules.{is_kept}
use Rattle.packing.specs.Fitting.{fits, formed}
use Rattle.books.specs.Layout.{least_words, room_of, groups, symbols, keys, requests, orders, opened_at, last_at, groups_at, symbols_at, places_at, short_sales_at, blocked_at, traded_buys_at, traded_sells_at, open_buys_at, open_sells_at, id_at, bid_at, offer_at, number_at, symbol_at, order_price_at, order_size_at, done_at, cancel_asked_at}
use Rattle.books.specs.View.{flag, mpid_in, group_in, tally_in, asked_in, opens, head_in, asked_of, opens_of, same_place, orders_in, rows_of}
use Rattle.books.specs.Writing.{group_index, symbol_index, request_words}
use Rattle.books.specs.Rules.{words_in}

-- ── every field in range ──
unfoldable pub head_fits : Row → Bool
head_fits h = leb (h opened_at) 1 && leb (h last_at) 4_294_967_295

unfoldable pub totals_fit : Row → Bool
totals_fit r = leb (r traded_buys_at) ceiling && (leb (r traded_sells_at) ceiling && (leb (r open_buys_at) ceiling && leb (r open_sells_at) ceiling))

unfoldable pub group_fits : Row → Bool
group_fits r = formed (group (mpid_in r) (group_in r).terms) && (leb (r short_sales_at) 1 && (leb (r blocked_at) 1 && totals_fit r))

unfoldable pub symbol_fits : Row → Bool
symbol_fits r = formed (tell 1 (quote (r id_at) (r bid_at) (r offer_at)))

-- word for word
unfoldable pub same_words : List ℕ → List ℕ → Bool
same_words [] [] = true
same_words [] (y ∷ ys) = false
same_words (x ∷ xs) [] = false
same_words (x ∷ xs) (y ∷ ys) = eqb x y && same_words xs ys

-- a request in its form, a number that the table remembers, and the words as they would be written
unfoldable pub request_fits : Row → Row → Bool
request_fits k r = formed (ask (asked_in k r).request) && ((eqb (r number_at) 0 || is_kept (r number_at)) && same_words (words_in r) (request_words (asked_in k r)))

unfoldable pub no_figures : Row → Bool
no_figures o = eqb (o order_price_at) 0 && (eqb (o order_size_at) 0 && (eqb (o done_at) 0 && eqb (o cancel_asked_at) 0))

unfoldable pub figures_fit : Row → Row → Bool
figures_fit r o = cond (opens r) (fits (size (o order_size_at)) && (fits (price (o order_price_at)) && leb (o cancel_asked_at) 1)) (no_figures o)

-- ── listed ──
unfoldable pub desk_listed : Sheet → ℕ → Bool
desk_listed S i = ltb (group_index S (asked_of S i).request.key.owner.mpid) (head_in S groups_at)

unfoldable pub symbol_listed : Sheet → ℕ → Bool
symbol_listed S i = cond (opens_of S i) (ltb (symbol_index S (S requests i symbol_at)) (head_in S symbols_at)) true

-- ── totals ──
unfoldable pub no_totals : Row → Bool
no_totals r = eqb (r traded_buys_at) 0 && (eqb (r traded_sells_at) 0 && (eqb (r open_buys_at) 0 && eqb (r open_sells_at) 0))

unfoldable pub sums_are : Sheet → ℕ → Bool
sums_are S i = let r = S groups i in
    eqb (r open_buys_at) (sum (worth (mpid_in r) true) (orders_in S)) && eqb (r open_sells_at) (sum (worth (mpid_in r) false) (orders_in S))

-- ── the rules ──
unfoldable pub rules : ℕ → Sheet → List Bool
rules room S = let h = head_in S in let ng = h groups_at in let ns = h symbols_at in let np = h places_at in
    -- counts within room
    leb ng 64 ∷ leb ns 256 ∷ leb np room
    -- every field in range
    ∷ head_fits h ∷ every (λ i. group_fits (S groups i)) ng ∷ every (λ i. symbol_fits (S symbols i)) ns
    ∷ every (λ i. request_fits (S keys i) (S requests i)) np ∷ every (λ i. figures_fit (S requests i) (S orders i)) np
    -- listed MPIDs, symbols and identifier pairs distinct
    ∷ apart (λ i j. same_mpid (mpid_in (S groups i)) (mpid_in (S groups j))) ng ∷ apart (λ i j. eqb (S symbols i id_at) (S symbols j id_at)) ns ∷ apart (same_place S) np
    -- every request's MPID and every order's symbol listed
    ∷ every (desk_listed S) np ∷ every (symbol_listed S) np
    -- before O no place taken and every total 0
    ∷ (flag (h opened_at) || eqb np 0) ∷ (flag (h opened_at) || every (λ i. no_totals (S groups i)) ng)
    -- done at most size
    ∷ every (λ i. leb (S orders i done_at) (S orders i order_size_at)) np
    -- open values equal to the sums over the table
    ∷ every (sums_are S) ng
    -- gross of both at most the ceiling
    ∷ every (λ i. leb (metrics (tally_in (S groups i))).gross_both ceiling) ng
    ∷ []

-- 22: "lent state breaks a state rule, or is too short for groups and symbols"
unfoldable pub state_ok : List ℕ → Bool
state_ok m = leb least_words (length m) && all_hold (rules (room_of m) (rows_of m))
