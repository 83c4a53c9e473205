-- The kinds of requests and notices: a request is neither an O nor a notice, a notice neither an O nor a request, and no kind is a tab or an LF.
use Rattle.std.specs.Prelude.{◌≡◌, refl, Bool, true, false, not, ℕ, eqb}
use Prim.Native.String.{String}
use Rattle.laws.specs.Tests.{is_none}
use Rattle.laws.specs.Tables.{find}
use Rattle.rulebook.specs.Names.{bytes}
use Rattle.rulebook.specs.Lines.{Deal, new, change, cancel, block, unblock, Request, News, quote, fill, reduction, cancel_refused, Record, ask, tell, line_of}
use Rattle.fields.specs.Trips.{clear}

abbrev pub has_kind : String → Record → Bool
has_kind s x = not (is_none (find (eqb (line_of x).kind) (bytes s)))

abbrev Kinds : Record → Bool → Bool → Type 0
Kinds x request notice = (has_kind "O" x ≡ false) × (has_kind "NMCBR" x ≡ request) × (has_kind "QFDH" x ≡ notice) × (clear (line_of x).kind ≡ true)

pub deal_kinds : (r : Request) → Kinds (ask r) true false
deal_kinds r = deal r.deal
  where
    deal : (d : Deal) → Kinds (ask (record { key = r.key; deal = d })) true false
    deal (new s x z p) = (refl, refl, refl, refl)
    deal (change n z p) = (refl, refl, refl, refl)
    deal (cancel n) = (refl, refl, refl, refl)
    deal block = (refl, refl, refl, refl)
    deal unblock = (refl, refl, refl, refl)

pub news_kinds : (n : ℕ) (w : News) → Kinds (tell n w) false true
news_kinds n (quote s x y) = (refl, refl, refl, refl)
news_kinds n (fill k z p) = (refl, refl, refl, refl)
news_kinds n (reduction k z) = (refl, refl, refl, refl)
news_kinds n (cancel_refused k) = (refl, refl, refl, refl)
