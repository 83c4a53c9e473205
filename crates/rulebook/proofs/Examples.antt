-- Document 01's sample day, and the starred cases of "Both sides of a line", computed from the definitions.
use Rattle.std.specs.Prelude.{◌≡◌, refl, true, false, not, ◌&&◌, cond, List, [], ◌∷◌, map, ℕ, eqb}
use Rattle.std.proofs.Math.Bool.{decide}
use Rattle.std.proofs.Math.Option.{Option, none, some, Option-elim}
use Rattle.std.proofs.Math.Decide.{ℕ_discrete}
use Rattle.std.proofs.Common.{arith}
use Prim.Native.Char.{Char, code}
use Rattle.laws.specs.Tests.{exact_discrete}
use Rattle.laws.specs.Tables.{All, look, put}
use Rattle.laws.specs.Checks.{first, numbers}
use Rattle.rulebook.specs.Names.{bytes, word, ident_of, mpid_of, Mpid, Key}
use Rattle.rulebook.specs.Lines.{Side, buy, sell, ceiling, Metrics, Deal, new, change, cancel, block, unblock, Record, open_day, group, symbol, ask, tell, quote, fill, reduction, same_request, Field, letter, number, identifier, mpid, serial, size, yes_no, from_to, highest, Fits, Line, line, Formed}
use Rattle.rulebook.specs.Kept.{Figures, Order, Group, Symbol, Tally, open_value, worth, limit_checks, fresh_books}
use Rattle.rulebook.specs.Prices.{bad_price, rows, off_market}
use Rattle.rulebook.specs.Outcomes.{Answer, record_numbers, answer_line, closing}
use Rattle.rulebook.specs.Judging.{enact, apply, new_checks, change_checks, cancel_checks, fill_checks, reduction_checks, refused_checks, deal_ruling, news_ruling, judge_request, judge_notice, judge}
use Rattle.rulebook.specs.Day.{run, Entry, log}

-- ── "A whole day" ──
abbrev desk : Mpid
desk = mpid_of (bytes "ABCD")

-- the desk's identifiers T1 to T4
abbrev name : Char → Key
name c = record { owner = record { mpid = desk }; name = ident_of (code "T" ∷ code c ∷ []) }

abbrev asks : Char → Deal → Record
asks c d = ask (record { key = name c; deal = d })

unfoldable pub sample : List Record
sample =
    group desk (record { limits = record { gross_trade = 5000000000; net_trade = 5000000000; gross_open = 2000000000; net_open = 2000000000; gross_both = 6000000000; net_both = 6000000000 }; max_size = 25000; short_sales = false })
    ∷ symbol 7
    ∷ open_day
    ∷ tell 1 (quote 7 9990000 10000000)
    ∷ asks "1" (new 7 buy 100 10000000)
    ∷ asks "1" (new 7 buy 100 10000000)
    ∷ asks "1" (new 7 buy 200 10000000)
    ∷ asks "2" (new 7 buy 101 10000000)
    ∷ tell 2 (fill (name "1") 40 9990000)
    ∷ tell 2 (fill (name "1") 40 9990000)
    ∷ asks "2" (new 7 buy 101 10000000)
    ∷ tell 4 (reduction (name "1") 60)
    ∷ asks "3" (cancel (name "1").name)
    ∷ tell 3 (reduction (name "1") 60)
    ∷ asks "4" (change (name "1").name 100 10000000)
    ∷ []

-- an answer line: kind, name, outcome, number, sent
abbrev answers : Char → Field → Char → ℕ → ℕ → Line
answers kind field outcome n sent = line kind (field ∷ letter (bytes "PKSRA") (code outcome) ∷ number 0 (highest record_numbers) n ∷ number 0 1 sent ∷ [])

abbrev about : Char → Field
about c = identifier (name c).name

unfoldable pub sample_answers : List Line
sample_answers =
    answers "G" (mpid desk) "P" 0 0
    ∷ answers "S" (serial 7) "P" 0 0
    ∷ answers "O" (letter (bytes "-") (code "-")) "P" 0 0
    ∷ answers "Q" (serial 1) "K" 0 0
    ∷ answers "N" (about "1") "P" 0 1
    ∷ answers "N" (about "1") "P" 0 0
    ∷ answers "N" (about "1") "R" 6 0
    ∷ answers "N" (about "2") "R" 33 0
    ∷ answers "F" (serial 2) "K" 0 0
    ∷ answers "F" (serial 2) "S" 0 0
    ∷ answers "N" (about "2") "R" 33 0
    ∷ answers "D" (serial 4) "R" 18 0
    ∷ answers "C" (about "3") "P" 0 1
    ∷ answers "D" (serial 3) "K" 0 0
    ∷ answers "M" (about "4") "R" 9 0
    ∷ []

abbrev total : ℕ → Field
total = number 0 ceiling

abbrev answer : Char → ℕ → ℕ → Answer
answer o n s = record { outcome = o; number = n; sent = s }

-- to unfold this is to let every definition of judging compute
unfoldable pub judging : Unit {0}
unfolding word fresh_books judge judge_request judge_notice Option-elim look put first deal_ruling news_ruling new_checks change_checks cancel_checks fill_checks reduction_checks refused_checks limit_checks bad_price off_market rows open_value worth apply enact same_request decide ℕ_discrete exact_discrete
judging = tt

-- THEOREM. The sample day gets document 01's answers
pub sample_answered : map (λ e. answer_line e.line e.answer) (log (fresh_books 400) sample) ≡ sample_answers
unfolding judging sample sample_answers
sample_answered = refl

-- THEOREM. and its closing line, and no other
pub sample_closed : map (closing (run (fresh_books 400) sample)) (0 ∷ 1 ∷ []) ≡ some (line "E" (mpid desk ∷ total 399600000 ∷ total 0 ∷ total 0 ∷ total 0 ∷ yes_no false ∷ [])) ∷ none ∷ []
unfolding judging sample
sample_closed = refl

desk_fits : Fits (mpid desk)
unfolding word
desk_fits = (bytes "ABCD", refl, omega arith, omega arith, (refl, (refl, (refl, (refl, tt)))))

-- an identifier of two bytes, T and one that the form takes
about_fits : (c : Char) → (from_to 33 126 (code c) && not (eqb (code c) (code "|"))) ≡ true → Fits (about c)
about_fits c h = (code "T" ∷ code c ∷ [], refl, omega arith, omega arith, (refl, (h, tt)))

buys_fit : (c : Char) (z : ℕ) → Fits (about c) → Fits (size z) → Formed (asks c (new 7 buy z 10000000))
buys_fit c z f h = (f, (desk_fits, (omega arith, (refl, (h, omega arith)))))

-- THEOREM. Its records are in their forms, so that what is proved of such records says something
pub sample_formed : All Formed sample
unfolding sample
sample_formed =
    let t1 = about_fits "1" refl in
    let n1 = buys_fit "1" 100 t1 (omega arith) in
    let n2 = buys_fit "2" 101 (about_fits "2" refl) (omega arith) in
    let f : Formed (tell 2 (fill (name "1") 40 9990000)) = (omega arith, (desk_fits, (t1, omega arith))) in (
      (desk_fits, (omega arith, (omega arith, (omega arith, (omega arith, (omega arith, (omega arith, (omega arith, (refl, tt))))))))),
      (
        omega arith,
        (
          tt,
          (
            omega arith,
            (
              n1,
              (
                n1,
                (
                  buys_fit "1" 200 t1 (omega arith),
                  (
                    n2,
                    (
                      f,
                      (
                        f,
                        (
                          n2,
                          (
                            (omega arith, (desk_fits, (t1, omega arith))),
                            ((about_fits "3" refl, (desk_fits, (t1, tt))), ((omega arith, (desk_fits, (t1, omega arith))), ((about_fits "4" refl, (desk_fits, (t1, omega arith))), tt))),
                          ),
                        ),
                      ),
                    ),
                  ),
                ),
              ),
            ),
          ),
        ),
      ),
    )

-- ── "Readings that look right and are not" ──
-- a desk that may have 20 dollars open
unfoldable pub readings : List Record
readings =
    group desk (record { limits = record { gross_trade = ceiling; net_trade = ceiling; gross_open = 20_000_000; net_open = ceiling; gross_both = ceiling; net_both = ceiling }; max_size = 2; short_sales = false })
    ∷ symbol 7
    ∷ open_day
    ∷ asks "1" (new 7 buy 1 10_000_000)
    ∷ asks "2" unblock
    ∷ asks "3" block
    ∷ asks "2" unblock
    ∷ asks "4" (new 7 buy 1 10_000_000)
    ∷ asks "5" unblock
    ∷ asks "6" (cancel (name "1").name)
    ∷ asks "7" (new 7 buy 2 10_000_000)
    ∷ tell 1 (reduction (name "9") 1)
    ∷ tell 1 (reduction (name "1") 1)
    ∷ tell 2 (reduction (name "1") 1)
    ∷ asks "7" (new 7 buy 2 10_000_000)
    ∷ []

-- the retried R lifts no later block; the passed C lowers no open value; the number of a notice set aside is taken; the refusal is not judged afresh
unfoldable pub readings_answers : List Answer
readings_answers =
    answer "P" 0 0
    ∷ answer "P" 0 0
    ∷ answer "P" 0 0
    ∷ answer "P" 0 1
    ∷ answer "P" 0 0
    ∷ answer "P" 0 0
    ∷ answer "P" 0 0
    ∷ answer "R" 10 0
    ∷ answer "P" 0 0
    ∷ answer "P" 0 1
    ∷ answer "R" 33 0
    ∷ answer "A" 9 0
    ∷ answer "S" 0 0
    ∷ answer "K" 0 0
    ∷ answer "R" 33 0
    ∷ []

-- THEOREM. Four of them, in one day; the others are about price protection, below
pub readings_answered : map (λ (e : Entry). e.answer) (log (fresh_books 400) readings) ≡ readings_answers
unfolding judging readings readings_answers
readings_answered = refl

-- ── the order of refusals, at the end of "Outcomes" ──
-- what stands where 15 stood (document 02, order 1)
abbrev limit_numbers : List ℕ
limit_numbers = 31 ∷ 32 ∷ 33 ∷ 34 ∷ 35 ∷ 36 ∷ []

-- THEOREM. Each list of checks has the numbers that the paper gives its kind, in its order
pub stated_order : (g : Group) (s : Option Symbol) (t : Tally) (o : Order) (f : Figures) (z : ℕ) →
    (numbers (new_checks g s t o) ≡ 8 ∷ 10 ∷ 11 ∷ 12 ∷ 13 ∷ 14 ∷ limit_numbers)
    × (numbers (change_checks g s t o f) ≡ 9 ∷ 17 ∷ 10 ∷ 12 ∷ 16 ∷ 13 ∷ 14 ∷ limit_numbers)
    × (numbers (cancel_checks o) ≡ 9 ∷ 17 ∷ [])
    × (numbers (fill_checks t z o) ≡ 9 ∷ 19 ∷ 20 ∷ [])
    × (numbers (reduction_checks z o) ≡ 9 ∷ 19 ∷ [])
    × (numbers (refused_checks o) ≡ 9 ∷ [])
unfolding new_checks change_checks limit_checks cancel_checks fill_checks reduction_checks refused_checks
stated_order g s t o f z = (refl, refl, refl, refl, refl, refl)

-- ── "Both sides of a line" ──
-- a buy or a sell of one share at a price against a bid and an offer, 0 for none known, by a desk with a limit on gross open and none else, and the number that it gets
pub record Case : Type 0 where
  pub side : Side
  pub price : ℕ
  pub bid : ℕ
  pub offer : ℕ
  pub open_limit : ℕ
  pub number : ℕ

-- a buy against an offer, a sell against a bid, a buy against a limit
abbrev buys : ℕ → ℕ → ℕ → Case
buys o p n = record { side = buy; price = p; bid = 0; offer = o; open_limit = ceiling; number = n }

abbrev sells : ℕ → ℕ → ℕ → Case
sells b p n = record { side = sell; price = p; bid = b; offer = 0; open_limit = ceiling; number = n }

abbrev limited : ℕ → ℕ → ℕ → Case
limited l p n = record { side = buy; price = p; bid = 0; offer = 0; open_limit = l; number = n }

-- 1 to 12 and 14, and a tenth of an offer that is no whole number of millionths
unfoldable pub cases : List Case
cases =
    buys 10_000_000 11_000_000 14
    ∷ buys 10_000_000 10_990_000 0
    ∷ buys 9_000_000 9_900_000 14
    ∷ buys 9_000_000 9_890_000 0
    ∷ buys 99_000_000 108_950_000 0
    ∷ buys 99_000_000 109_000_000 14
    ∷ sells 100_000_000 90_000_000 14
    ∷ sells 100_000_000 90_010_000 0
    ∷ sells 100_000 50_000 0
    ∷ buys 0 1_005_000 13
    ∷ buys 0 999_900 0
    ∷ buys 0 999_950 13
    ∷ limited 10_000_000 10_000_000 0
    ∷ limited 9_999_999 10_000_000 33
    ∷ buys 15_009_091 16_510_000 0
    ∷ []

-- a day that ends in the case: the desk, a symbol, the quote, the N
abbrev day : Case → List Record
day c =
    let l : Metrics = record { gross_trade = ceiling; net_trade = ceiling; gross_open = c.open_limit; net_open = ceiling; gross_both = ceiling; net_both = ceiling } in
    group desk (record { limits = l; max_size = 1; short_sales = false }) ∷ symbol 7 ∷ open_day ∷ tell 1 (quote 7 c.bid c.offer) ∷ asks "1" (new 7 c.side 1 c.price) ∷ []

-- what the case is to get, after setup and the quote: P and sent if its number is 0, else R
abbrev due : Case → List Answer
due c = answer "P" 0 0 ∷ answer "P" 0 0 ∷ answer "P" 0 0 ∷ answer "K" 0 0 ∷ cond (eqb c.number 0) (answer "P" 0 1) (answer "R" c.number 0) ∷ []

-- THEOREM. Every case gets its number
pub both_sides : map (λ c. map (λ (e : Entry). e.answer) (log (fresh_books 1) (day c))) cases ≡ map due cases
unfolding judging cases
both_sides = refl
