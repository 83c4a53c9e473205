-- Document 01, "The day's lines" and "Requests and identifiers": what a record is, and the form of each of its fields.
-- A record is what a line says. Whether bytes are the line of a record is the line reader's to show.
use Rattle.std.specs.Prelude.{◌≡◌, Bool, true, false, not, ◌&&◌, ◌||◌, cond, List, [], ◌∷◌, ℕ, ◌≤◌, max, leb, eqb, length}
use Rattle.std.proofs.Math.Bool.{decide}
use Rattle.std.proofs.Math.Decide.{ℕ_discrete}
use Prim.Native.Char.{Char, code}
use Rattle.laws.specs.Tests.{is_none, exact_discrete}
use Rattle.laws.specs.Tables.{find, All}
use Rattle.rulebook.specs.Names.{bytes, Ident, ident_of, Mpid, Key, ident_exact, same_key}

-- ── the records ──
pub data Side : Type 0 where
  buy sell short exempt : Side
  deriving Discrete as Side-discrete

abbrev pub side_letter : Side → ℕ
side_letter buy = code "B"
side_letter sell = code "S"
side_letter short = code "H"
side_letter exempt = code "E"

-- "H and E count as sells everywhere"
abbrev pub is_buy : Side → Bool
is_buy x = eqb (side_letter x) (code "B")

abbrev pub is_short : Side → Bool
is_short x = eqb (side_letter x) (code "H") || eqb (side_letter x) (code "E")

-- a number for each of 004's six metrics, in its order: the metrics themselves, or their limits
pub record Metrics : Type 0 where
  pub gross_trade : ℕ
  pub net_trade : ℕ
  pub gross_open : ℕ
  pub net_open : ℕ
  pub gross_both : ℕ
  pub net_both : ℕ

-- what a G sets for its group
pub record Terms : Type 0 where
  pub limits : Metrics
  pub max_size : ℕ
  pub short_sales : Bool

-- what a request asks for
pub data Deal : Type 0 where
  new : (sym : ℕ) (side : Side) (size price : ℕ) → Deal
  change : (target : Ident) (size price : ℕ) → Deal
  cancel : (target : Ident) → Deal
  block unblock : Deal
  deriving Discrete as Deal-discrete

pub record Request : Type 0 where
  pub key : Key
  pub deal : Deal

-- what a notice tells; its MPID and target are the key of an order
pub data News : Type 0 where
  quote : (sym bid offer : ℕ) → News
  fill : (target : Key) (size price : ℕ) → News
  reduction : (target : Key) (size : ℕ) → News
  cancel_refused : (target : Key) → News

-- `broken` is a line that breaks a form
pub data Record : Type 0 where
  broken open_day : Record
  group : (mpid : Mpid) (terms : Terms) → Record
  symbol : (id : ℕ) → Record
  ask : Request → Record
  tell : (number : ℕ) (news : News) → Record

-- "equal in kind and every field"
unfoldable pub same_request : Request → Request → Bool
same_request x y = same_key x.key y.key && decide (Deal-discrete ℕ_discrete Side-discrete (exact_discrete ident_exact) x.deal y.deal)

-- ── the forms ──
abbrev pub ceiling : ℕ
ceiling = 4_000_000_000_000_000_000

-- a field with its form: so many bytes that a test takes, one byte of a set, a number in a range
pub data Field : Type 0 where
  text : (least most : ℕ) (takes : ℕ → Bool) (packed : Ident) → Field
  letter : (set : List ℕ) (byte : ℕ) → Field
  number : (low high value : ℕ) → Field

abbrev pub Fits : Field → Type 0
Fits (text least most takes x) = (cs : List ℕ) × (ident_of cs ≡ x) × (least ≤ length cs) × (length cs ≤ most) × All (λ c. takes c ≡ true) cs
Fits (letter set c) = is_none (find (eqb c) set) ≡ false
Fits (number low high n) = (low ≤ n) × (n ≤ high)

abbrev pub from_to : ℕ → ℕ → ℕ → Bool
from_to low high n = leb low n && leb n high

-- in one of some ranges, and the highest number of them
abbrev pub among : List (ℕ × ℕ) → ℕ → Bool
among [] n = false
among (r ∷ rs) n = from_to r.0 r.1 n || among rs n

abbrev pub highest : List (ℕ × ℕ) → ℕ
highest [] = 0
highest (r ∷ rs) = max r.1 (highest rs)

abbrev pub identifier : Ident → Field
identifier = text 1 20 (λ c. from_to 33 126 c && not (eqb c (code "|")))

abbrev pub mpid : Mpid → Field
mpid m = text 4 4 (λ c. from_to (code "A") (code "Z") c || from_to (code "0") (code "9") c) (record { head = m.code; middle = 0; tail = 0 })

-- a symbol ID or a notice number
abbrev pub serial : ℕ → Field
serial = number 1 4_294_967_295

abbrev pub side : Side → Field
side x = letter (bytes "BSHE") (side_letter x)

abbrev pub size : ℕ → Field
size = number 1 1_000_000

abbrev pub price : ℕ → Field
price = number 1 999_999_999_999

-- a bid or an offer; 0 is "none known"
abbrev pub quoted : ℕ → Field
quoted = number 0 999_999_999_999

abbrev pub limit : ℕ → Field
limit = number 0 ceiling

abbrev pub yes_no : Bool → Field
yes_no x = letter (bytes "YN") (cond x (code "Y") (code "N"))

-- ── the table of records: the kind's letter, and the fields after it ──
pub record Line : Type 0 where
  pub kind : ℕ
  pub fields : List Field

abbrev pub line : Char → List Field → Line
line c fs = record { kind = code c; fields = fs }

abbrev pub request_line : Ident → Mpid → Deal → Line
request_line i m (new s x z p) = line "N" (identifier i ∷ mpid m ∷ serial s ∷ side x ∷ size z ∷ price p ∷ [])
request_line i m (change t z p) = line "M" (identifier i ∷ mpid m ∷ identifier t ∷ size z ∷ price p ∷ [])
request_line i m (cancel t) = line "C" (identifier i ∷ mpid m ∷ identifier t ∷ [])
request_line i m block = line "B" (identifier i ∷ mpid m ∷ [])
request_line i m unblock = line "R" (identifier i ∷ mpid m ∷ [])

abbrev pub notice_line : ℕ → News → Line
notice_line n (quote s b o) = line "Q" (serial n ∷ serial s ∷ quoted b ∷ quoted o ∷ [])
notice_line n (fill k z p) = line "F" (serial n ∷ mpid k.owner.mpid ∷ identifier k.name ∷ size z ∷ price p ∷ [])
notice_line n (reduction k z) = line "D" (serial n ∷ mpid k.owner.mpid ∷ identifier k.name ∷ size z ∷ [])
notice_line n (cancel_refused k) = line "H" (serial n ∷ mpid k.owner.mpid ∷ identifier k.name ∷ [])

abbrev pub limits : Metrics → List Field → List Field
limits l fs = limit l.gross_trade ∷ limit l.net_trade ∷ limit l.gross_open ∷ limit l.net_open ∷ limit l.gross_both ∷ limit l.net_both ∷ fs

abbrev pub line_of : Record → Line
line_of broken = line "?" []
line_of (group m t) = line "G" (mpid m ∷ limits t.limits (size t.max_size ∷ yes_no t.short_sales ∷ []))
line_of (symbol s) = line "S" (serial s ∷ [])
line_of open_day = line "O" []
line_of (ask r) = request_line r.key.name r.key.owner.mpid r.deal
line_of (tell n w) = notice_line n w

-- a record whose fields have their forms
abbrev pub Formed : Record → Type 0
Formed x = All Fits (line_of x).fields
