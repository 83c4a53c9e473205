-- Tables of rows in a list of words: regions one after the other, their cells, and what a run of stores does to them.
use Rattle.std.specs.Prelude.{◌≡◌, refl, false, ◌&&◌, cond, List, [], ◌∷◌, ◌++◌, ◌⊎◌, ℕ, zero, suc, ◌+◌, ◌*◌, ◌-◌, ◌≤◌, ◌<◌, length, get_or, set, take, leb, ltb, eqb}
use Rattle.std.proofs.Common.{sym, ap, ◌∙◌, subst, inl, inr, ⊎_elim, arith, add-zero, mul-le-mul, length-set, get_or-set_same, get_or-set_other, ltb-true, ltb-false, leb-true, leb-false, lt-ltb, eqb-true}
use Rattle.std.proofs.Math.Path.{fun_ext}
use Rattle.std.proofs.Math.Decide.{dec_lt}
use Rattle.std.proofs.lemmas.List.Edits.{sets}
use Rattle.std.proofs.Math.Seq.{length-sets}
use Rattle.std.proofs.lemmas.Bool.{eqb-false}
use Rattle.laws.specs.Tests.{on}
use Rattle.laws.specs.Tables.{All}

-- ── a run of stores ──
-- one store more at its end
pub sets_more : (m : List ℕ) (b : ℕ) (w : List ℕ) (k : ℕ) → k < length w → sets m b (take (suc k) w) ≡ set (sets m b (take k w)) (b + k) (get_or w k 0)
sets_more m b [] k lt = absurd (omega arith)
sets_more m b (v ∷ w) zero lt = ap (λ (j : ℕ). set m j v) (sym (add-zero b))
sets_more m b (v ∷ w) (suc k) lt = sets_more (set m b v) (suc b) w k (omega arith) ∙ ap (λ (j : ℕ). set (sets (set m b v) (suc b) (take k w)) j (get_or w k 0)) (omega arith)

-- a word that no store of the run reaches
pub out : (vs m : List ℕ) (b j : ℕ) → ((n : ℕ) → n < length vs → j ≡ b + n → ⊥) → get_or (sets m b vs) j 0 ≡ get_or m j 0
out [] m b j h = refl
out (v ∷ vs) m b j h = out vs (set m b v) (suc b) j (λ n lt e. h (suc n) (omega arith) (omega arith)) ∙ get_or-set_other m b j v 0 (λ e. h 0 (omega arith) (omega arith))

-- the k-th word of the run
pub inside : (vs m : List ℕ) (b k : ℕ) → k < length vs → b + length vs ≤ length m → get_or (sets m b vs) (b + k) 0 ≡ get_or vs k 0
inside [] m b k lt room = absurd (omega arith)
inside (v ∷ vs) m b zero lt room =
    ap (λ (j : ℕ). get_or (sets (set m b v) (suc b) vs) j 0) (add-zero b)
    ∙ out vs (set m b v) (suc b) b (λ n h e. omega arith)
    ∙ get_or-set_same m b v 0 (omega arith)
inside (v ∷ vs) m b (suc k) lt room = ap (λ (j : ℕ). get_or (sets (set m b v) (suc b) vs) j 0) (omega arith) ∙ inside vs (set m b v) (suc b) k (omega arith) (simp length-set (omega arith))

-- ── regions ──
-- so many rows of so many words, from a word on
pub record Region : Type 0 where
  pub base : ℕ
  pub width : ℕ
  pub count : ℕ

-- the first word past a region
abbrev pub after : Region → ℕ
after R = R.base + R.count * R.width

-- where the k-th word of the i-th row stands
abbrev pub cell : Region → ℕ → ℕ → ℕ
cell R i k = R.base + i * R.width + k

-- a row says 0 past its width: two rows with the same words are one row
abbrev pub Row : Type 0
Row = ℕ → ℕ

abbrev pub row : Region → List ℕ → ℕ → Row
row R m i = λ k. cond (ltb k R.width) (get_or m (cell R i k) 0) 0

-- the i-th row has these words from its s-th on
abbrev pub store : Region → ℕ → ℕ → List ℕ → List ℕ → List ℕ
store R i s vs m = sets m (cell R i s) vs

abbrev pub patch : ℕ → List ℕ → Row → Row
patch s vs f = λ k. cond (leb s k && ltb k (s + length vs)) (get_or vs (k - s) 0) (f k)

-- rows before others end before them
rows_before : (w i j : ℕ) → i < j → i * w + w ≤ j * w
rows_before w i j h = let le : (i + 1) * w ≤ j * w = mul-le-mul (omega arith) (omega arith) in omega (arith, le)

module _ (R : Region) where
  -- a cell is in one row
  pub cell_apart : (i j k l : ℕ) → (j ≡ i → ⊥) → k < R.width → l < R.width → cell R j k ≡ cell R i l → ⊥
  cell_apart i j k l ne hk hl e = elim (dec_lt j i) [
    | yes p ↦ omega (arith, rows_before R.width j i p)
    | no np ↦ omega (arith, rows_before R.width i j (let h : i < j = omega (arith, np, ne) in h))
  ]

  module _ (m : List ℕ) (i s : ℕ) (vs : List ℕ) (few : s + length vs ≤ R.width) where
    row_out : (Q : Region) (j : ℕ) → ((k n : ℕ) → k < Q.width → n < length vs → cell Q j k ≡ cell R i s + n → ⊥) → row Q (store R i s vs m) j ≡ row Q m j
    row_out Q j h = fun_ext (λ k. on (λ t. cond t (get_or (store R i s vs m) (cell Q j k) 0) 0 ≡ cond t (get_or m (cell Q j k) 0) 0) (ltb k Q.width)
        (λ e. out vs m (cell R i s) (cell Q j k) (λ n hn q. h k n (ltb-true k Q.width e) hn q)) (λ e. refl))

    -- LAW 1. another row of the region is as it was
    pub other_row : (j : ℕ) → (j ≡ i → ⊥) → row R (store R i s vs m) j ≡ row R m j
    other_row j ne = row_out R j (λ k n hk hn e. cell_apart i j k (s + n) ne hk (omega arith) (omega arith))

    -- LAW 2. and every row of a region apart from it
    pub other_region : (Q : Region) (j : ℕ) → i < R.count → j < Q.count → ((after R ≤ Q.base) ⊎ (after Q ≤ R.base)) → row Q (store R i s vs m) j ≡ row Q m j
    other_region Q j hi hj h = row_out Q j (λ k n hk hn e.
        let c : cell R i s + n < after R = omega (arith, rows_before R.width i R.count hi) in
        let d : cell Q j k < after Q = omega (arith, rows_before Q.width j Q.count hj) in
        ⊎_elim {C = ⊥} (λ a. omega arith) (λ a. omega arith) h)

    -- LAW 3. the row itself has the words
    pub same_row : i < R.count → after R ≤ length m → row R (store R i s vs m) i ≡ patch s vs (row R m i)
    same_row hi long = fun_ext go
      where
        room : cell R i s + length vs ≤ length m
        room = omega (arith, rows_before R.width i R.count hi)

        past : (k : ℕ) → ((n : ℕ) → n < length vs → cell R i k ≡ cell R i s + n → ⊥) → row R (store R i s vs m) i k ≡ row R m i k
        past k h = ap (λ x. cond (ltb k R.width) x 0) (out vs m (cell R i s) (cell R i k) h)

        go : (k : ℕ) → row R (store R i s vs m) i k ≡ patch s vs (row R m i) k
        go k = on (λ t. leb s k ≡ t → row R (store R i s vs m) i k ≡ cond (t && ltb k (s + length vs)) (get_or vs (k - s) 0) (row R m i k)) (leb s k)
            (λ z e. let h : s ≤ k = leb-true s k e in
            on (λ t. ltb k (s + length vs) ≡ t → row R (store R i s vs m) i k ≡ cond t (get_or vs (k - s) 0) (row R m i k)) (ltb k (s + length vs))
            (λ y f. let u : k < s + length vs = ltb-true _ _ f in
            rw (lt-ltb k R.width (omega arith)) (ap (λ (j : ℕ). get_or (store R i s vs m) j 0) (omega arith) ∙ inside vs m (cell R i s) (k - s) (omega arith) room))
            (λ y f. let u : s + length vs ≤ k = ltb-false _ _ f in past k (λ n hn p. omega arith)) refl)
            (λ z e. let h : k < s = leb-false s k e in past k (λ n hn p. omega arith)) refl

-- ── a layout: regions one after the other ──
pub record Shape : Type 0 where
  pub width : ℕ
  pub count : ℕ

abbrev region_from : ℕ → List Shape → ℕ → Region
region_from b [] q = record { base = b; width = 0; count = 0 }
region_from b (h ∷ l) zero = record { base = b; width = h.width; count = h.count }
region_from b (h ∷ l) (suc q) = region_from (b + h.count * h.width) l q

-- the q-th region, from the first word on
abbrev pub region : List Shape → ℕ → Region
region l q = region_from 0 l q

abbrev extent_from : ℕ → List Shape → ℕ
extent_from b [] = b
extent_from b (h ∷ l) = extent_from (b + h.count * h.width) l

-- how many words all of them take
abbrev pub extent : List Shape → ℕ
extent l = extent_from 0 l

base_from : (b : ℕ) (l : List Shape) (q : ℕ) → (b ≤ (region_from b l q).base) × (after (region_from b l q) ≤ extent_from b l) × (b ≤ extent_from b l)
base_from b [] q = omega arith
base_from b (h ∷ l) zero = let w = base_from (b + h.count * h.width) l 0 in (omega arith, omega (arith, w.2), omega (arith, w.2))
base_from b (h ∷ l) (suc q) = let w = base_from (b + h.count * h.width) l q in (omega (arith, w.0), omega (arith, w.1), omega (arith, w.2))

in_order : (b : ℕ) (l : List Shape) (p q : ℕ) → p < q → after (region_from b l p) ≤ (region_from b l q).base
in_order b [] p q h = omega arith
in_order b (s ∷ l) p zero h = absurd (omega arith)
in_order b (s ∷ l) zero (suc q) h = (base_from (b + s.count * s.width) l q).0
in_order b (s ∷ l) (suc p) (suc q) h = in_order (b + s.count * s.width) l p q (omega arith)

-- ── stores, and the rows after them ──
-- these words, from a cell of a row of a region on
pub record Store : Type 0 where
  pub at : ℕ
  pub line : ℕ
  pub from : ℕ
  pub words : List ℕ

-- a row for each number of each region
abbrev pub Sheet : Type 0
Sheet = ℕ → ℕ → Row

abbrev pub patched : Store → Sheet → Sheet
patched s S q j = cond (eqb s.at q && eqb s.line j) (patch s.from s.words (S q j)) (S q j)

-- the rows after stores, the first of them first
abbrev pub enter : List Store → Sheet → Sheet
enter [] S = S
enter (s ∷ ss) S = enter ss (patched s S)

-- one row after stores
abbrev pub row_after : List Store → ℕ → ℕ → Row → Row
row_after [] q j r = r
row_after (s ∷ ss) q j r = row_after ss q j (cond (eqb s.at q && eqb s.line j) (patch s.from s.words r) r)

pub enter_row : (ss : List Store) (S : Sheet) (q j : ℕ) → enter ss S q j ≡ row_after ss q j (S q j)
enter_row [] S q j = refl
enter_row (s ∷ ss) S q j = enter_row ss (patched s S) q j

pub row_append : (ss rest : List Store) (q j : ℕ) (r : Row) → row_after (ss ++ rest) q j r ≡ row_after rest q j (row_after ss q j r)
row_append [] rest q j r = refl
row_append (s ∷ ss) rest q j r = row_append ss rest q j (cond (eqb s.at q && eqb s.line j) (patch s.from s.words r) r)

pub enter_append : (ss rest : List Store) (S : Sheet) → enter (ss ++ rest) S ≡ enter rest (enter ss S)
enter_append [] rest S = refl
enter_append (s ∷ ss) rest S = enter_append ss rest (patched s S)

-- stores of other regions
abbrev pub Away : ℕ → List Store → Type 0
Away q ss = All (λ s. eqb s.at q ≡ false) ss

pub row_away : (ss : List Store) (q j : ℕ) (r : Row) → Away q ss → row_after ss q j r ≡ r
row_away [] q j r a = refl
row_away (s ∷ ss) q j r a = rw a.0 (row_away ss q j r a.1)

module _ (l : List Shape) where
  abbrev pub sheet : List ℕ → Sheet
  sheet m q j = row (region l q) m j

  abbrev pub put_store : Store → List ℕ → List ℕ
  put_store s m = store (region l s.at) s.line s.from s.words m

  -- and the memory
  abbrev pub run : List Store → List ℕ → List ℕ
  run [] m = m
  run (s ∷ ss) m = run ss (put_store s m)

  -- a store keeps to one row of its region
  abbrev pub Fit : Store → Type 0
  Fit s = (s.line < (region l s.at).count) × (s.from + length s.words ≤ (region l s.at).width)

  -- the rows of the memory are those of the sheet, as far as there are rows
  abbrev pub Shows : List ℕ → Sheet → Type 0
  Shows m S = (q j : ℕ) → j < (region l q).count → row (region l q) m j ≡ S q j

  stored : (m : List ℕ) (S : Sheet) (s : Store) → extent l ≤ length m → Fit s → Shows m S → Shows (put_store s m) (patched s S)
  stored m S s long fit shows q j h = on (λ b. eqb s.at q ≡ b → row (region l q) (put_store s m) j ≡ cond (b && eqb s.line j) (patch s.from s.words (S q j)) (S q j)) (eqb s.at q)
      (λ z e. let k : s.at ≡ q = eqb-true s.at q e in own k)
      (λ z e. other_region (region l s.at) m s.line s.from s.words fit.1 (region l q) j fit.0 h (apart (eqb-false s.at q e)) ∙ shows q j h) refl
    where
      room : after (region l s.at) ≤ length m
      room = omega (arith, (base_from 0 l s.at).1)

      apart : (s.at ≡ q → ⊥) → (after (region l s.at) ≤ (region l q).base) ⊎ (after (region l q) ≤ (region l s.at).base)
      apart ne = elim (dec_lt s.at q) [ yes p ↦ inl (in_order 0 l s.at q p) | no np ↦ inr (in_order 0 l q s.at (let x : q < s.at = omega (arith, np, ne) in x)) ]

      own : s.at ≡ q → row (region l q) (put_store s m) j ≡ cond (eqb s.line j) (patch s.from s.words (S q j)) (S q j)
      own k = subst (λ q. j < (region l q).count → row (region l q) (put_store s m) j ≡ cond (eqb s.line j) (patch s.from s.words (S q j)) (S q j)) k (λ h.
          on (λ b. eqb s.line j ≡ b → row (region l s.at) (put_store s m) j ≡ cond b (patch s.from s.words (S s.at j)) (S s.at j)) (eqb s.line j)
          (λ z e. let i : s.line ≡ j = eqb-true s.line j e in
          subst (λ j. j < (region l s.at).count → row (region l s.at) (put_store s m) j ≡ patch s.from s.words (S s.at j)) i
          (λ h. same_row (region l s.at) m s.line s.from s.words fit.1 h room ∙ ap (patch s.from s.words) (shows s.at s.line h)) h)
          (λ z e. other_row (region l s.at) m s.line s.from s.words fit.1 j (λ i. eqb-false s.line j e (sym i)) ∙ shows s.at j h) refl) h

  -- THE LAW OF EDITS. What stores do to the words they do to the rows, and to no other row
  pub shown : (m : List ℕ) (S : Sheet) (ss : List Store) → extent l ≤ length m → All Fit ss → Shows m S → Shows (run ss m) (enter ss S)
  shown m S [] long a h = h
  shown m S (s ∷ ss) long a h = shown (put_store s m) (patched s S) ss (rw (length-sets m (cell (region l s.at) s.line s.from) s.words) long) a.1 (stored m S s long a.0 h)

  -- stores after stores
  pub run_append : (ss rest : List Store) (m : List ℕ) → run (ss ++ rest) m ≡ run rest (run ss m)
  run_append [] rest m = refl
  run_append (s ∷ ss) rest m = run_append ss rest (put_store s m)

  pub length_run : (ss : List Store) (m : List ℕ) → length (run ss m) ≡ length m
  length_run [] m = refl
  length_run (s ∷ ss) m = length_run ss (put_store s m) ∙ length-sets m (cell (region l s.at) s.line s.from) s.words

  -- a word outside every store's run stays as it was found
  pub untouched : (j : ℕ) (ss : List Store) (m : List ℕ) → All (λ s. (n : ℕ) → n < length s.words → j ≡ cell (region l s.at) s.line s.from + n → ⊥) ss → get_or (run ss m) j 0 ≡ get_or m j 0
  untouched j [] m a = refl
  untouched j (s ∷ ss) m a = untouched j ss (put_store s m) a.1 ∙ out s.words m (cell (region l s.at) s.line s.from) j a.0
