-- Packing an identifier or an MPID into words loses nothing: two texts in one form that pack alike are the same bytes.
use Rattle.std.specs.Prelude.{◌≡◌, refl, List, [], ◌∷◌, ◌++◌, ℕ, zero, suc, ◌≤◌, take, drop}
use Rattle.std.proofs.Common.{sym, ap, ◌∙◌, arith, take-append-drop, drop-drop}
use Rattle.laws.specs.Tables.{All}
use Rattle.rulebook.specs.Names.{word, Ident, ident_of}

-- a byte other than 0
abbrev pub Solid : ℕ → Type 0
Solid c = (1 ≤ c) × (c ≤ 255)

pub word_same : (xs ys : List ℕ) → All Solid xs → All Solid ys → word xs ≡ word ys → xs ≡ ys
unfolding word
word_same [] [] a b e = refl
word_same [] (y ∷ ys) a b e = absurd (omega (arith, b.0))
word_same (x ∷ xs) [] a b e = absurd (omega (arith, a.0))
word_same (x ∷ xs) (y ∷ ys) a b e =
    let h : x ≡ y = omega (arith, a.0, b.0) in
    let t : word xs ≡ word ys = omega (arith, a.0, b.0) in
    rw (h, word_same xs ys a.1 b.1 t)

pub all_take : (P : ℕ → Type 0) (n : ℕ) (xs : List ℕ) → All P xs → All P (take n xs)
all_take P zero xs a = tt
all_take P (suc n) [] a = tt
all_take P (suc n) (x ∷ xs) a = (a.0, all_take P n xs a.1)

pub all_drop : (P : ℕ → Type 0) (n : ℕ) (xs : List ℕ) → All P xs → All P (drop n xs)
all_drop P zero xs a = a
all_drop P (suc n) [] a = tt
all_drop P (suc n) (x ∷ xs) a = all_drop P n xs a.1

-- a text is the bytes of its three words
pub thirds : (zs : List ℕ) → zs ≡ take 8 zs ++ (take 8 (drop 8 zs) ++ drop 16 zs)
thirds zs = sym (rw (← drop-drop 8 8 zs, take-append-drop 8 (drop 8 zs), take-append-drop 8 zs))

-- THEOREM. Bytes other than 0 that pack alike are the same
pub ident_same : (xs ys : List ℕ) → All Solid xs → All Solid ys → ident_of xs ≡ ident_of ys → xs ≡ ys
ident_same xs ys a b e =
    let h = word_same (take 8 xs) (take 8 ys) (all_take Solid 8 xs a) (all_take Solid 8 ys b) (ap (λ (i : Ident). i.head) e) in
    let m = word_same (take 8 (drop 8 xs)) (take 8 (drop 8 ys)) (all_take Solid 8 (drop 8 xs) (all_drop Solid 8 xs a)) (all_take Solid 8 (drop 8 ys) (all_drop Solid 8 ys b)) (ap (λ (i : Ident). i.middle) e) in
    let t = word_same (drop 16 xs) (drop 16 ys) (all_drop Solid 16 xs a) (all_drop Solid 16 ys b) (ap (λ (i : Ident). i.tail) e) in
    thirds xs ∙ rw (h, m, t) (sym (thirds ys))
