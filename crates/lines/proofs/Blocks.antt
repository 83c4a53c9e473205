-- THEOREM. However an input is cut into blocks, what the gate is lent are the input's lines. What is held from block to block is all that a
-- line's first 161 bytes depend on, and no LF stands in it, so the lines of what is held and the next block are those of the two together.
use Rattle.std.specs.Prelude.{◌≡◌, refl, false, cond, ℕ, zero, suc, eqb, take}
use Rattle.std.proofs.Common.{sym, ap, ◌∙◌, arith, take-take}
use mathlib.Core.List.{List, [], ◌∷◌, ◌++◌, map, flatten, append-nil, append_assoc, map-append}
use Rattle.laws.specs.Tests.{on}
use Rattle.laws.specs.Tables.{all_append}
use Rattle.fields.specs.Packing.{all_take}
use Rattle.lines.specs.Splitting.{whole, rest, last, lines, lent}
use Rattle.lines.specs.Blocks.{Clear, day}

-- ── bytes one after the other ──
pub whole_append : (held p q : List ℕ) → whole held (p ++ q) ≡ whole held p ++ whole (rest held p) q
unfolding whole rest
whole_append held [] q = refl
whole_append held (b ∷ p) q = on (λ t. cond t ((held ++ (b ∷ [])) ∷ whole [] (p ++ q)) (whole (held ++ (b ∷ [])) (p ++ q)) ≡ cond t ((held ++ (b ∷ [])) ∷ whole [] p) (whole (held ++ (b ∷ [])) p) ++ whole (cond t (rest [] p) (rest (held ++ (b ∷ [])) p)) q) (eqb b 10)
    (λ e. ap (λ l. (held ++ (b ∷ [])) ∷ l) (whole_append [] p q)) (λ e. whole_append (held ++ (b ∷ [])) p q)

pub rest_append : (held p q : List ℕ) → rest held (p ++ q) ≡ rest (rest held p) q
unfolding rest
rest_append held [] q = refl
rest_append held (b ∷ p) q = on (λ t. cond t (rest [] (p ++ q)) (rest (held ++ (b ∷ [])) (p ++ q)) ≡ rest (cond t (rest [] p) (rest (held ++ (b ∷ [])) p)) q) (eqb b 10)
    (λ e. rest_append [] p q) (λ e. rest_append (held ++ (b ∷ [])) p q)

-- bytes without an LF are held
pub clear_whole : (held u bs : List ℕ) → Clear u → whole held (u ++ bs) ≡ whole (held ++ u) bs
unfolding whole
clear_whole held [] bs c = rw append-nil
clear_whole held (b ∷ u) bs c = rw c.0 (clear_whole (held ++ (b ∷ [])) u bs c.1 ∙ rw append_assoc)

pub clear_rest : (held u bs : List ℕ) → Clear u → rest held (u ++ bs) ≡ rest (held ++ u) bs
unfolding rest
clear_rest held [] bs c = rw append-nil
clear_rest held (b ∷ u) bs c = rw c.0 (clear_rest (held ++ (b ∷ [])) u bs c.1 ∙ rw append_assoc)

pub rest_clear : (held bs : List ℕ) → Clear held → Clear (rest held bs)
unfolding rest
rest_clear held [] c = c
rest_clear held (b ∷ bs) c = on (λ t. eqb b 10 ≡ t → Clear (cond t (rest [] bs) (rest (held ++ (b ∷ [])) bs))) (eqb b 10)
    (λ z e. rest_clear [] bs tt) (λ z e. rest_clear (held ++ (b ∷ [])) bs (all_append (λ b. eqb b 10 ≡ false) held b c e)) refl

-- ── only the first bytes of what is held matter ──
take_front : (n : ℕ) (h bs : List ℕ) → take n (take n h ++ bs) ≡ take n (h ++ bs)
take_front zero h bs = refl
take_front (suc n) [] bs = refl
take_front (suc n) (b ∷ h) bs = ap (λ l. b ∷ l) (take_front n h bs)

lent_more : (g h bs : List ℕ) → lent g ≡ lent h → lent (g ++ bs) ≡ lent (h ++ bs)
lent_more g h bs e = sym (take_front 161 g bs) ∙ ap (λ l. take 161 (l ++ bs)) e ∙ take_front 161 h bs

pub whole_lent : (g h bs : List ℕ) → lent g ≡ lent h → map lent (whole g bs) ≡ map lent (whole h bs)
unfolding whole
whole_lent g h [] e = refl
whole_lent g h (b ∷ bs) e = on (λ t. map lent (cond t ((g ++ (b ∷ [])) ∷ whole [] bs) (whole (g ++ (b ∷ [])) bs)) ≡ map lent (cond t ((h ++ (b ∷ [])) ∷ whole [] bs) (whole (h ++ (b ∷ [])) bs))) (eqb b 10)
    (λ z. ap (λ l. l ∷ map lent (whole [] bs)) (lent_more g h (b ∷ []) e)) (λ z. whole_lent (g ++ (b ∷ [])) (h ++ (b ∷ [])) bs (lent_more g h (b ∷ []) e))

pub rest_lent : (g h bs : List ℕ) → lent g ≡ lent h → lent (rest g bs) ≡ lent (rest h bs)
unfolding rest
rest_lent g h [] e = e
rest_lent g h (b ∷ bs) e = on (λ t. lent (cond t (rest [] bs) (rest (g ++ (b ∷ [])) bs)) ≡ lent (cond t (rest [] bs) (rest (h ++ (b ∷ [])) bs))) (eqb b 10)
    (λ z. refl) (λ z. rest_lent (g ++ (b ∷ [])) (h ++ (b ∷ [])) bs (lent_more g h (b ∷ []) e))

last_lent : (h : List ℕ) → last (lent h) ≡ map lent (last h)
last_lent [] = refl
last_lent (b ∷ h) = refl

day_from : (h : List ℕ) (blocks : List (List ℕ)) → Clear h → day (lent h) blocks ≡ map lent (whole h (flatten blocks) ++ last (rest h (flatten blocks)))
unfolding flatten whole rest
day_from h [] c = last_lent h
day_from h (block ∷ blocks) c =
    let clear = all_take (λ b. eqb b 10 ≡ false) 161 h c in
    let again = take-take 161 161 h (omega arith) in
    let lines_same : map lent (whole [] (lent h ++ block)) ≡ map lent (whole h block) = ap (map lent) (clear_whole [] (lent h) block clear) ∙ whole_lent (lent h) h block again in
    let rest_same : lent (rest [] (lent h ++ block)) ≡ lent (rest h block) = ap lent (clear_rest [] (lent h) block clear) ∙ rest_lent (lent h) h block again in
    rw (lines_same, rest_same, day_from (rest h block) blocks (rest_clear h block c), whole_append h block (flatten blocks), rest_append h block (flatten blocks), append_assoc, map-append lent (whole h block))

pub day_lines : (blocks : List (List ℕ)) → day [] blocks ≡ map lent (lines (flatten blocks))
unfolding lines
day_lines blocks = day_from [] blocks tt
