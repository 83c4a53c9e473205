-- Every edit that judging makes is one that the words can take, so what it writes says the books after the record.
use Rattle.std.specs.Prelude.{◌≡◌, refl, List, ℕ, eqb}
use Rattle.std.proofs.Common.{subst, arith}
use Rattle.std.proofs.Math.Option.{some}
use Prim.Native.Char.{code}
use Rattle.laws.specs.Tests.{some_of, second_fails}
use Rattle.laws.specs.Tables.{look, look_self, look_key, puts, Steady}
use Rattle.laws.specs.Numbered.{length_numbered}
use Rattle.rulebook.specs.Names.{Mpid, Key}
use Rattle.rulebook.specs.Lines.{Deal, News, Record}
use Rattle.rulebook.specs.Kept.{Order, Group, Ledger, Books, by_mpid, by_id, by_key}
use Rattle.rulebook.specs.Judging.{idle, named, deal_ruling, news_ruling, judge}
use Rattle.rulebook.specs.Day.{step}
use Rattle.rulebook.proofs.Cases.{number_not, kept_number, judge_cases, deal_cases, news_cases}
use Rattle.books.specs.Layout.{groups_at, symbols_at, places_at}
use Rattle.books.specs.View.{head_in, group_of, symbol_of, asked_of, books_in, rows_of, view}
use Rattle.books.specs.Writing.{said, write}
use Rattle.books.specs.Rules.{Valid}
use Rattle.books.specs.Refining.{Counted, Linked, AptOrder, AptGroup, AptDeed, Apt}
use Rattle.books.proofs.Refining.{counted, refines}

idle_apt : (l : Ledger) → AptDeed l idle
idle_apt l = record { order = tt; group = tt; symbol = tt }

-- an order that a key names may be amended, and its desk is listed
amend_apt : (l : Ledger) (k : Key) {g : Group} {o : Order} → look by_mpid k.owner.mpid l.groups ≡ some g → look by_key k l.orders ≡ some o → AptOrder l (puts o)
amend_apt l k {g} {o} d e =
    ((g, subst (λ (k : Key). look by_mpid k.owner.mpid l.groups ≡ some g) (look_key by_key k l.orders e) d), (o, look_self by_key k l.orders e, refl))

-- a listed group may take another mark and other totals
group_apt : (l : Ledger) (m : Mpid) {g : Group} → look by_mpid m l.groups ≡ some g → AptGroup l (puts g)
group_apt l m {g} e = (g, look_self by_mpid m l.groups e, refl)

deal_apt : (l : Ledger) (g : Group) (k : Key) (d : Deal) → look by_mpid k.owner.mpid l.groups ≡ some g → let u = deal_ruling l g k d in
    Linked (record { request = record { key = k; deal = d }; number = u.number }) u.deed.order × AptDeed l u.deed
deal_apt l g k d e = deal_cases l g k (λ d u. Linked (record { request = record { key = k; deal = d }; number = u.number }) u.deed.order × AptDeed l u.deed) (record {
  on_held = λ d n h. (second_fails (eqb (said d).kind (code "N")) (number_not n (kept_number n h)), idle_apt l);
  on_order = λ s x z p h c. ((refl, refl), record { order = (g, e); group = tt; symbol = tt });
  on_change = λ n z p o q v b c. (refl, record { order = amend_apt l (named k n) e q; group = tt; symbol = tt });
  on_cancel = λ n o q v. (refl, record { order = amend_apt l (named k n) e q; group = tt; symbol = tt });
  on_block = (refl, record { order = tt; group = group_apt l k.owner.mpid e; symbol = tt });
  on_unblock = (refl, record { order = tt; group = group_apt l k.owner.mpid e; symbol = tt });
}) d

news_apt : (l : Ledger) (w : News) → let u = news_ruling l w in Steady u.deed.order × AptDeed l u.deed
news_apt l w = news_cases l (λ w u. Steady u.deed.order × AptDeed l u.deed) (record {
  on_aside = λ w n h. (tt, idle_apt l);
  on_quote = λ s x y h. (tt, record { order = tt; group = tt; symbol = some_of (look by_id s l.symbols) h });
  on_fill = λ k z p g o s h c. (tt, record { order = amend_apt l k s.desk s.stands; group = group_apt l k.owner.mpid s.desk; symbol = tt });
  on_reduction = λ k z g o s h. (tt, record { order = amend_apt l k s.desk s.stands; group = group_apt l k.owner.mpid s.desk; symbol = tt });
  on_refused = λ k g o s. (tt, record { order = amend_apt l k s.desk s.stands; group = tt; symbol = tt });
}) w

pub judged_apt : (b : Books) (x : Record) → Apt b (judge b x).edit
judged_apt b x = judge_cases b (λ x v. Apt b v.edit) (record {
  on_early = λ x n j q. tt;
  on_open = λ h. tt;
  on_group = λ m t h q k. record { steady = tt; deed = record { order = tt; group = k; symbol = tt } };
  on_symbol = λ s h q k. record { steady = tt; deed = record { order = tt; group = tt; symbol = k } };
  on_known = λ r n h e. tt;
  on_new = λ r g h f. let a = deal_apt b.ledger g r.key r.deal f.desk in record { free = f.roomy; linked = a.0; deed = a.1 };
  on_seen = λ n w h q. tt;
  on_next = λ n w h q. let a = news_apt b.ledger w in record { steady = a.0; deed = a.1 };
}) x

-- a memory that meets the state rules has its counts within it
pub valid_counted : (m : List ℕ) → Valid m → Counted m
unfolding books_in
valid_counted m v = let S = rows_of m in
    counted m v.long (omega (arith, v.sound.ledger.few_groups, length_numbered (group_of S) (head_in S groups_at)))
    (omega (arith, v.sound.ledger.few_symbols, length_numbered (symbol_of S) (head_in S symbols_at))) (omega (arith, v.sound.few_asked, length_numbered (asked_of S) (head_in S places_at)))

-- THEOREM. Over a memory that meets the state rules, what a record writes says the books after it
pub judged : (m : List ℕ) → Valid m → (x : Record) → view (write (judge (view m) x).edit m) ≡ step (view m) x
judged m v x = refines m (valid_counted m v) (judge (view m) x).edit (judged_apt (view m) x)
