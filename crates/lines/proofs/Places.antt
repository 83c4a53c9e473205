-- Lines by their places in a text: the next line from a place, and what is left where there is none.
use Rattle.std.specs.Prelude.{◌≡◌, refl, cond, not, ◌⊎◌, false, ℕ, zero, suc, ◌+◌, ◌-◌, ◌≤◌, ◌<◌, max, eqb, ltb, length, take, drop, get_or, Option, Some, None}
use Rattle.std.proofs.Common.{sym, ap, subst, ◌∙◌, inl, inr, ⊎_elim, add-one, arith, length-append, length-take, length-drop, drop-cons, drop-drop, take-suc, get_or-drop}
use mathlib.Core.List.{List, [], ◌∷◌, ◌++◌, flatten, append-nil, append_assoc}
use borrow.Author.Tests.{eq-eqb, ne_eqb, lt-ltb, le-ltb}
use Rattle.std.specs.List.{position_or_len}
use Rattle.laws.specs.Tests.{on}
use Rattle.fields.specs.Parts.{stretch}
use Rattle.fields.specs.Numbers.{below}
use Rattle.lines.specs.Splitting.{whole, rest, first, line_at}

-- ── the stretch that is searched ──
pub stretch_none : (t : List ℕ) (at : ℕ) → stretch t at at ≡ []
unfolding stretch
stretch_none t at = let z : at - at ≡ 0 = omega arith in rw z

pub stretch_more : (t : List ℕ) (at end : ℕ) → at ≤ end → end < length t → stretch t at (end + 1) ≡ stretch t at end ++ (get_or t end 0 ∷ [])
unfolding stretch
stretch_more t at end le lt =
    let n : end + 1 - at ≡ suc (end - at) = omega arith in
    let m : at + (end - at) ≡ end = omega arith in
    rw (n, take-suc (drop at t) (end - at) 0 (rw length-drop (omega arith)), get_or-drop, m)

pub length_stretch : (t : List ℕ) (from to : ℕ) → to ≤ length t → length (stretch t from to) ≡ to - from
unfolding stretch
length_stretch t from to h = rw (length-take, length-drop) (omega arith)

module _ (t : List ℕ) (at end : ℕ) (le : at ≤ end) (lt : end < length t) where
  -- a byte other than LF is held, and an LF ends the line
  pub line_goes_on : (get_or t end 0 ≡ 10 → ⊥) → whole (stretch t at end) (drop end t) ≡ whole (stretch t at (end + 1)) (drop (end + 1) t)
  unfolding whole
  line_goes_on ne = rw (drop-cons t end 0 lt, ne_eqb (get_or t end 0) 10 ne, stretch_more t at end le lt, add-one)

  pub line_ends : get_or t end 0 ≡ 10 → first (whole (stretch t at end) (drop end t)) ≡ stretch t at (end + 1)
  unfolding whole
  line_ends e = rw (drop-cons t end 0 lt, eq-eqb (get_or t end 0) 10 e, stretch_more t at end le lt)

-- ── the line up to the first LF ──
-- how many bytes stand before the first LF, or the end
abbrev pub before_lf : List ℕ → ℕ
before_lf u = position_or_len (λ b. eqb b 10) u

first_place : (held u : List ℕ) → first (whole held u) ≡ cond (ltb (before_lf u) (length u)) (held ++ take (before_lf u + 1) u) []
unfolding whole
first_place held [] = refl
first_place held (b ∷ bs) = on (λ t. first (cond t ((held ++ (b ∷ [])) ∷ whole [] bs) (whole (held ++ (b ∷ [])) bs)) ≡ cond (ltb (cond (not t) (1 + before_lf bs) 0) (suc (length bs))) (held ++ take (cond (not t) (1 + before_lf bs) 0 + 1) (b ∷ bs)) []) (eqb b 10)
    (λ e. rw (lt-ltb 0 (suc (length bs)) (omega arith)))
    (λ e. first_place (held ++ (b ∷ [])) bs ∙ later (before_lf bs))
  where
    later : (k : ℕ) → cond (ltb k (length bs)) ((held ++ (b ∷ [])) ++ take (k + 1) bs) [] ≡ cond (ltb (1 + k) (suc (length bs))) (held ++ take (1 + k + 1) (b ∷ bs)) []
    later k =
        let e : 1 + k + 1 ≡ suc (k + 1) = omega arith in
        ⊎_elim (λ h. rw (lt-ltb k (length bs) h, lt-ltb (1 + k) (suc (length bs)) (omega arith), e) (append_assoc held (b ∷ []) (take (k + 1) bs)))
        (λ h. rw (le-ltb k (length bs) h, le-ltb (1 + k) (suc (length bs)) (omega arith)))
        (below k (length bs))

module _ (u : List ℕ) (r : Option ℕ) (q : r ≡ cond (ltb (before_lf u) (length u)) (Some (before_lf u)) None) where
  -- where an LF is found, the first line ends with it
  pub line_some : (n : ℕ) → r ≡ Some n → take (n + 1) u ≡ first (whole [] u)
  line_some n e = ⊎_elim
      (λ h. let p = rw (lt-ltb (before_lf u) (length u) h) at q in let z : n ≡ before_lf u = cc in rw (first_place [] u, lt-ltb (before_lf u) (length u) h, z))
      (λ h. let p = rw (le-ltb (before_lf u) (length u) h) at q in cc)
      (below (before_lf u) (length u))

  -- and where none is, there is no line
  pub line_none : r ≡ None → [] ≡ first (whole [] u)
  line_none e = ⊎_elim
      (λ h. let p = rw (lt-ltb (before_lf u) (length u) h) at q in cc)
      (λ h. rw (first_place [] u, le-ltb (before_lf u) (length u) h))
      (below (before_lf u) (length u))

-- ── the next line, and what follows it ──
pub record Next (held t : List ℕ) (n : ℕ) : Type 0 where
  pub some_bytes : 1 ≤ n
  pub within : n ≤ length t
  pub line : whole held t ≡ (held ++ take n t) ∷ whole [] (drop n t)
  pub after : rest held t ≡ rest [] (drop n t)

-- either no line ends among the bytes, or a first one does
abbrev Nexts : List ℕ → List ℕ → Type 0
Nexts held t = ((whole held t ≡ []) × (rest held t ≡ held ++ t)) ⊎ ((n : ℕ) × Next held t n)

next_held : (held bs : List ℕ) (b : ℕ) → eqb b 10 ≡ false → Nexts (held ++ (b ∷ [])) bs → Nexts held (b ∷ bs)
unfolding whole rest
next_held held bs b e (inl w) = inl (rw e w.0, rw e (w.1 ∙ append_assoc held (b ∷ []) bs))
next_held held bs b e (inr (n, w)) = inr (
  suc n,
  record {
    some_bytes = omega arith;
    within = omega (arith, w.within);
    line = rw e (w.line ∙ rw append_assoc);
    after = rw e w.after;
  },
)

next_line : (held t : List ℕ) → Nexts held t
unfolding whole rest
next_line held [] = inl (refl, sym (append-nil held))
next_line held (b ∷ bs) = on (λ t. eqb b 10 ≡ t → Nexts held (b ∷ bs)) (eqb b 10)
    (λ z e. inr (1, record { some_bytes = omega arith; within = omega arith; line = rw e refl; after = rw e refl }))
    (λ z e. next_held held bs b e (next_line (held ++ (b ∷ [])) bs)) refl

-- the first line's length is where the rest begins
first_is : (u : List ℕ) (n : ℕ) → Next [] u n → length (first (whole [] u)) ≡ n
first_is u n w = ap (λ ls. length (first ls)) w.line ∙ length-take n u ∙ omega (arith, w.within)

first_line : (u : List ℕ) → 1 ≤ length (first (whole [] u)) → Next [] u (length (first (whole [] u)))
first_line u h =
    ⊎_elim (λ w. absurd (omega (arith, ap (λ ls. length (first ls)) w.0)))
    (λ w. subst (Next [] u) (sym (first_is u w.0 w.1)) w.1)
    (next_line [] u)

no_line : (u : List ℕ) → length (first (whole [] u)) ≡ 0 → (whole [] u ≡ []) × (rest [] u ≡ u)
no_line u z = ⊎_elim (λ w. w) (λ w. absurd (omega (arith, first_is u w.0 w.1, w.1.some_bytes))) (next_line [] u)

-- ── a program that goes from line to line by their places passes every line, and stops before what is held ──
pub record Step (t : List ℕ) (at : ℕ) : Type 0 where
  pub line : whole [] (drop at t) ≡ line_at t at ∷ whole [] (drop (at + length (line_at t at)) t)
  pub after : rest [] (drop at t) ≡ rest [] (drop (at + length (line_at t at)) t)

pub step_on : (t : List ℕ) (at : ℕ) → 1 ≤ length (line_at t at) → Step t at
unfolding line_at
step_on t at h =
    let w = first_line (drop at t) h in
    record {
      line = w.line ∙ rw (sym (ap first w.line), drop-drop);
      after = w.after ∙ rw drop-drop;
    }

pub step_none : (t : List ℕ) (at : ℕ) → length (line_at t at) ≡ 0 → (whole [] (drop at t) ≡ []) × (rest [] (drop at t) ≡ drop at t)
unfolding line_at
step_none t at z = no_line (drop at t) z

-- a line is the stretch up to where it ends
pub line_stretch : (t : List ℕ) (at : ℕ) → stretch t at (at + length (line_at t at)) ≡ line_at t at
unfolding line_at stretch
line_stretch t at =
    let u = drop at t in
    let n = length (first (whole [] u)) in
    let m : at + n - at ≡ n = omega arith in
    ⊎_elim (λ w. rw (m, w.0)) (λ w. rw (m, first_is u w.0 w.1) (sym (ap first w.1.line))) (next_line [] u)

-- and ends in the text
pub line_within : (t : List ℕ) (at : ℕ) → at + length (line_at t at) ≤ max at (length t)
unfolding line_at
line_within t at =
    let u = drop at t in
    ⊎_elim (λ w. omega (arith, ap (λ ls. length (first ls)) w.0))
    (λ w. omega (arith, first_is u w.0 w.1, w.1.some_bytes, w.1.within, length-drop at t))
    (next_line [] u)

-- ── the first lines of a text, and what is left of it after them ──
pub record Taken (t : List ℕ) (k n : ℕ) : Type 0 where
  pub within : n ≤ length t
  pub left : whole [] (drop n t) ≡ drop k (whole [] t)
  pub held : rest [] (drop n t) ≡ rest [] t

pub lines_taken : (t : List ℕ) (k : ℕ) → Taken t k (length (flatten (take k (whole [] t))))
unfolding flatten
lines_taken t zero = record { within = omega arith; left = refl; held = refl }
lines_taken t (suc k) = ⊎_elim
    (λ w. rw w.0 (record { within = omega arith; left = w.0 ∙ sym (ap (drop (suc k)) w.0); held = refl }))
    (λ w. let n = w.0 in let more = lines_taken (drop n t) k in
    let e : length (flatten (take (suc k) (whole [] t))) ≡ n + length (flatten (take k (whole [] (drop n t)))) = ap (λ ls. length (flatten (take (suc k) ls))) w.1.line ∙ length-append (take n t) (flatten (take k (whole [] (drop n t)))) ∙ ap (λ i. i + length (flatten (take k (whole [] (drop n t))))) (length-take n t ∙ omega (arith, w.1.within)) in
    let f = drop-drop (length (flatten (take k (whole [] (drop n t))))) n t in
    subst (Taken t (suc k)) (sym e) (record {
      within = omega (arith, more.within, length-drop n t, w.1.within);
      left = ap (whole []) (sym f) ∙ more.left ∙ sym (ap (drop (suc k)) w.1.line);
      held = ap (rest []) (sym f) ∙ more.held ∙ sym w.1.after;
    }))
    (next_line [] t)

-- a line has bytes
pub taken_some : (t : List ℕ) (k : ℕ) → 1 ≤ k → (whole [] t ≡ [] → ⊥) → 1 ≤ length (flatten (take k (whole [] t)))
unfolding flatten
taken_some t zero h ne = absurd (omega arith)
taken_some t (suc k) h ne = ⊎_elim (λ w. absurd (ne w.0))
    (λ w. rw w.1.line (omega (arith, length-append (take w.0 t) (flatten (take k (whole [] (drop w.0 t)))), length-take w.0 t, w.1.within, w.1.some_bytes))) (next_line [] t)

-- where no line ends, all is held
pub none_ends : (t : List ℕ) → whole [] t ≡ [] → rest [] t ≡ t
none_ends t e = (no_line t (ap (λ ls. length (first ls)) e)).1
