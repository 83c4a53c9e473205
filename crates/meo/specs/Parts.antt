-- Rows one after the other: where each stands, how long all are, and what is laid over a house message.
use Rattle.std.specs.Prelude.{◌≡◌, refl, List, [], ◌∷◌, ◌++◌, map, ℕ, zero, suc, ◌+◌, ◌-◌, ◌*◌, ◌/◌, ◌%◌, ◌^◌, ◌≤◌, ◌<◌, length, take, drop}
use Rattle.std.proofs.Common.{sym, ap, ◌∙◌, append_assoc, arith, add-zero, zero-add, length-take, length-drop, length-append, take_all, take-add, take_at, drop_at, drop-drop, length-take-le}
use Rattle.std.proofs.Math.Nat.{pow-succ'}
use Rattle.std.proofs.lemmas.List.{length-replicate, take-append-le, drop-append-le}
use Rattle.std.proofs.Math.Seq.{take-append-add, drop-append-add}
use Rattle.laws.specs.Tables.{All, all_parts, sum, sum_append}
use Rattle.rulebook.specs.Names.{word}
use Rattle.fields.specs.Parts.{stretch}
use Rattle.fields.specs.Out.{Out, out, puts}
use Rattle.fields.specs.Puts.{puts_room}
use Rattle.packing.specs.Words.{row}
use Rattle.meo.specs.Messages.{Byte}
use Rattle.meo.specs.Table.{filled, Row, string, alphanumeric, binary, house, upon, width, cell, lay}

-- ── stretches ──
-- a stretch is not longer than it says
pub stretch_whole : (m : List ℕ) (a b n : ℕ) → b ≤ a + n → take n (stretch m a b) ≡ stretch m a b
unfolding stretch
stretch_whole m a b n h = take_all n (take (b - a) (drop a m)) (rw length-take (omega arith))

pub length_stretch : (m : List ℕ) (a b : ℕ) → a ≤ b → b ≤ length m → length (stretch m a b) ≡ b - a
unfolding stretch
length_stretch m a b h k = length-take-le (b - a) (drop a m) (omega (arith, length-drop a m))

-- two stretches, the second from where the first ends
pub stretch_add : (m : List ℕ) (a u v : ℕ) → stretch m a (a + u) ++ stretch m (a + u) (a + u + v) ≡ stretch m a (a + (u + v))
unfolding stretch
stretch_add m a u v =
    let p : a + u - a ≡ u = omega arith in
    let q : a + u + v - (a + u) ≡ v = omega arith in
    let r : a + (u + v) - a ≡ u + v = omega arith in
    rw (p, q, r, ← drop-drop u a m) (sym (take-add u v (drop a m)))

-- a stretch of what stands before other bytes, and what stands behind
pub stretch_before : (m t : List ℕ) (a b : ℕ) → a ≤ b → b ≤ length m → stretch (m ++ t) a b ≡ stretch m a b
unfolding stretch
stretch_before m t a b h k = rw (drop-append-le a m t (omega arith)) (take-append-le (b - a) (drop a m) t (omega (arith, length-drop a m)))

pub drop_before : (m t : List ℕ) (a b : ℕ) → a ≤ b → b ≡ length m → drop a (m ++ t) ≡ stretch m a b ++ t
unfolding stretch
drop_before m t a b h k = rw (drop-append-le a m t (omega arith), take_all (b - a) (drop a m) (omega (arith, length-drop a m)))

stretch_none : (m : List ℕ) (a : ℕ) → [] ≡ stretch m a (a + 0)
unfolding stretch
stretch_none m a = let e : a + 0 - a ≡ 0 = omega arith in rw e

-- ── rows ──
abbrev pub widths : List Row → ℕ
widths rs = sum width rs

-- a text that is not longer than its row
abbrev pub Fits : Row → Type 0
Fits (string w cs) = length cs ≤ w
Fits (alphanumeric w cs) = length cs ≤ w
Fits (binary w n) = Unit {0}
Fits (house w) = Unit {0}
Fits (upon w f) = Unit {0}

length_row : (w n : ℕ) → length (row w n) ≡ w
unfolding row
length_row zero n = refl
length_row (suc w) n = ap suc (length_row w (n / 256))

length_filled : (pad w : ℕ) (cs : List ℕ) → length cs ≤ w → length (filled pad w cs) ≡ w
length_filled pad w cs h = rw (length-append, length-replicate) (omega arith)

length_cell : (h : List ℕ) (at : ℕ) (r : Row) → Fits r → at + width r ≤ length h → length (cell h at r) ≡ width r
length_cell h at (string w cs) f k = length_filled 0 w cs f
length_cell h at (alphanumeric w cs) f k = length_filled 32 w cs f
length_cell h at (binary w n) f k = length_row w n
length_cell h at (house w) f k = length_stretch h at (at + w) (omega arith) k ∙ omega arith
length_cell h at (upon w f) g k = length_row w _

pub length_lay : (h : List ℕ) (at : ℕ) (rs : List Row) → All Fits rs → at + widths rs ≤ length h → length (lay h at rs) ≡ widths rs
unfolding lay
length_lay h at [] a k = refl
length_lay h at (r ∷ rs) a k = rw (length-append, length_cell h at r a.0 (omega arith), length_lay h (at + width r) rs a.1 (omega arith))

-- rows after rows
pub lay_append : (h : List ℕ) (at : ℕ) (rs ss : List Row) → lay h at (rs ++ ss) ≡ lay h at rs ++ lay h (at + widths rs) ss
unfolding lay
lay_append h at [] ss = ap (λ (k : ℕ). lay h k ss) (sym (add-zero at))
lay_append h at (r ∷ rs) ss = let e : at + width r + widths rs ≡ at + (width r + widths rs) = omega arith in rw (lay_append h (at + width r) rs ss, e, append_assoc)

-- rows of the house message are a stretch of it
pub lay_house : (h : List ℕ) (at : ℕ) (ws : List ℕ) → lay h at (map house ws) ≡ stretch h at (at + sum (λ w. w) ws)
unfolding lay
lay_house h at [] = stretch_none h at
lay_house h at (w ∷ ws) = rw (lay_house h (at + w) ws) (stretch_add h at w (sum (λ w. w) ws))

-- rows stand where the rows before them end
pub lay_rows : (h : List ℕ) (rs ss ts : List Row) → All Fits (rs ++ (ss ++ ts)) → widths (rs ++ (ss ++ ts)) ≤ length h
    → stretch (lay h 0 (rs ++ (ss ++ ts))) (widths rs) (widths rs + widths ss) ≡ lay h (widths rs) ss
unfolding stretch
lay_rows h rs ss ts a k =
    let w : widths rs + (widths ss + widths ts) ≤ length h = rw (sum_append width rs (ss ++ ts), sum_append width ss ts) at k in
    let f = all_parts Fits rs (ss ++ ts) a in
    let n = length_lay h 0 rs f.0 (omega arith) in
    let m = length_lay h (widths rs) ss (all_parts Fits ss ts f.1).0 (omega arith) in
    let e : widths rs + widths ss - widths rs ≡ widths ss = omega arith in
    let x = lay h 0 rs in
    let y = lay h (widths rs) ss in
    let z = lay h (widths rs + widths ss) ts in
    let l : lay h 0 (rs ++ (ss ++ ts)) ≡ x ++ (y ++ z) = lay_append h 0 rs (ss ++ ts) ∙ rw (zero-add (widths rs), lay_append h (widths rs) ss ts) in
    rw (e, l, drop_at x (y ++ z) (widths rs) n) (take_at y z (widths ss) m)

-- ── numbers ──
pub row_word : (cs : List ℕ) → All Byte cs → row (length cs) (word cs) ≡ cs
unfolding row word
row_word [] a = refl
row_word (c ∷ cs) a =
    let m : (c + 256 * word cs) % 256 ≡ c = omega (arith, a.0) in
    let d : (c + 256 * word cs) / 256 ≡ word cs = omega (arith, a.0) in
    rw (m, d, row_word cs a.1)

pub word_row : (k n : ℕ) → n < 256 ^ k → word (row k n) ≡ n
unfolding row word
word_row zero n h = omega arith
word_row (suc k) n h = let p = pow-succ' 256 k in omega (arith, word_row k (n / 256) (omega arith))

-- ── laid over ──
-- bytes over those that stand at a place
abbrev over : List ℕ → ℕ → List ℕ → List ℕ
over d at cs = take at d ++ (cs ++ drop (at + length cs) d)

puts_over : (d e : List ℕ) (at k : ℕ) (cs : List ℕ) → out e k ≡ puts (out d at) cs → at + length cs ≤ length d → e ≡ over d at cs
puts_over d e at k cs q h = ap (λ (o : Out). o.buffer) (q ∙ puts_room cs d at h)

-- over a list whose first bytes are replaced already
over_next : (x d cs : List ℕ) (at : ℕ) → length x ≤ at → over (x ++ drop (length x) d) at cs ≡ (x ++ (stretch d (length x) at ++ cs)) ++ drop (at + length cs) d
unfolding stretch
over_next x d cs at h =
    let p : length x + (at - length x) ≡ at = omega arith in
    let q : length x + (at + length cs - length x) ≡ at + length cs = omega arith in
    let D = drop (length x) d in
    let u = ap (λ (k : ℕ). take k (x ++ D)) (sym p) ∙ take-append-add x D (at - length x) in
    let v = ap (λ (k : ℕ). drop k (x ++ D)) (sym q) ∙ drop-append-add x D (at + length cs - length x) ∙ drop-drop (at + length cs - length x) (length x) d ∙ ap (λ (k : ℕ). drop k d) q in
    rw (u, v) (append_assoc x (take (at - length x) D) (cs ++ drop (at + length cs) d) ∙ rw (append_assoc, append_assoc))

-- a list whose first bytes are these, and the rest another's
abbrev pub Begins : List ℕ → List ℕ → List ℕ → Type 0
Begins d x e = e ≡ x ++ drop (length x) d

-- its first bytes once more are put at a place behind them
abbrev pub next : List ℕ → List ℕ → ℕ → List ℕ → List ℕ
next d x at cs = x ++ (stretch d (length x) at ++ cs)

pub begins_next : (d x e f : List ℕ) (at k : ℕ) (cs : List ℕ) → Begins d x e → length x ≤ at → at + length cs ≤ length d → out f k ≡ puts (out e at) cs
    → (length (next d x at cs) ≡ at + length cs) × Begins d (next d x at cs) f
begins_next d x e f at k cs b h r q =
    let n : length (next d x at cs) ≡ at + length cs = rw (length-append, length-append, length_stretch d (length x) at h (omega arith)) (omega arith) in
    let long : at + length cs ≤ length e = rw (b, length-append, length-drop) (omega arith) in
    (n, puts_over e f at k cs q long ∙ rw (b, n) (over_next x d cs at h))
