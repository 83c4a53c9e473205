-- THEOREM. What the gate is lent of a line reads as the line does, so a day's records do not depend on how the input is cut. A line of which less
-- is lent than it has, has more than 160 bytes before its LF, so neither it nor what is lent of it is in form.
use Rattle.std.specs.Prelude.{◌≡◌, refl, false, cond, ℕ, zero, suc, ◌≤◌, ◌<◌, eqb, length, get_or}
use Rattle.std.proofs.Common.{sym, ap, ◌∙◌, ⊎_elim, arith, length-append, take_all, get_or-take, length-take-le}
use mathlib.Core.List.{List, [], ◌∷◌, ◌++◌, map, flatten, append-nil}
use Rattle.std.proofs.Math.ListN.{get_or-append}
use Rattle.std.proofs.lemmas.Bool.{lt-leb}
use Rattle.laws.specs.Tests.{on}
use Rattle.laws.specs.Tables.{All, all_append, all_both}
use Rattle.fields.specs.Parts.{ended}
use Rattle.fields.specs.Numbers.{below}
use Rattle.codec.specs.Readings.{record_of, reading}
use Rattle.codec.specs.declared.Reading.TheVariants.{Broken}
use Rattle.lines.specs.Splitting.{whole, rest, last, lines, lent}
use Rattle.lines.specs.Blocks.{Clear, day}
use Rattle.lines.proofs.Blocks.{rest_clear, day_lines}

-- ── a line has an LF at its end or nowhere ──
pub record Line (l : List ℕ) : Type 0 where
  pub body : List ℕ
  pub end : List ℕ
  pub clear : Clear body
  pub short : length end ≤ 1
  pub made : l ≡ body ++ end

pub whole_lines : (held bs : List ℕ) → Clear held → All Line (whole held bs)
unfolding whole
whole_lines held [] c = tt
whole_lines held (b ∷ bs) c = on (λ t. eqb b 10 ≡ t → All Line (cond t ((held ++ (b ∷ [])) ∷ whole [] bs) (whole (held ++ (b ∷ [])) bs))) (eqb b 10)
    (λ z e. (record { body = held; end = b ∷ []; clear = c; short = omega arith; made = refl }, whole_lines [] bs tt))
    (λ z e. whole_lines (held ++ (b ∷ [])) bs (all_append (λ b. eqb b 10 ≡ false) held b c e)) refl

last_lines : (h : List ℕ) → Clear h → All Line (last h)
last_lines [] c = tt
last_lines (b ∷ h) c = (record { body = b ∷ h; end = []; clear = c; short = omega arith; made = sym (append-nil (b ∷ h)) }, tt)

pub all_lines : (input : List ℕ) → All Line (lines input)
unfolding lines
all_lines input = all_both Line (whole [] input) (last (rest [] input)) (whole_lines [] input tt) (last_lines (rest [] input) (rest_clear [] input tt))

-- ── what is lent reads as the line ──
clear_at : (u : List ℕ) (i : ℕ) → Clear u → i < length u → eqb (get_or u i 0) 10 ≡ false
clear_at [] i c h = absurd (omega arith)
clear_at (b ∷ u) zero c h = c.0
clear_at (b ∷ u) (suc i) c h = clear_at u i c.1 (omega arith)

long_broken : (l : List ℕ) → 161 < length l → reading l ≡ Broken
unfolding reading ended
long_broken l h = rw (lt-leb (length l) 161 h)

cut_broken : (l : List ℕ) → Line l → 161 < length l → reading (lent l) ≡ Broken
unfolding reading ended
cut_broken l w h =
    let n : 160 < length w.body = omega (arith, w.short, ap length w.made ∙ length-append w.body w.end) in
    let x : get_or (lent l) 160 0 ≡ get_or w.body 160 0 = get_or-take 161 l 160 0 (omega arith) ∙ ap (λ m. get_or m 160 0) w.made ∙ get_or-append w.body w.end 0 160 n in
    rw (length-take-le 161 l (omega arith), x, clear_at w.body 160 w.clear n)

pub lent_reads : (l : List ℕ) → Line l → reading (lent l) ≡ reading l
lent_reads l w = ⊎_elim (λ h. cut_broken l w h ∙ sym (long_broken l h)) (λ h. ap reading (take_all 161 l h)) (below 161 (length l))

-- and says the same
pub lent_says : (l : List ℕ) → Line l → record_of (lent l) (reading (lent l)) ≡ record_of l (reading l)
lent_says l w = ⊎_elim (λ h. rw (cut_broken l w h, long_broken l h) refl) (λ h. ap (λ l. record_of l (reading l)) (take_all 161 l h)) (below 161 (length l))

pub day_reads : (blocks : List (List ℕ)) → map reading (day [] blocks) ≡ map reading (lines (flatten blocks))
day_reads blocks = ap (map reading) (day_lines blocks) ∙ each (lines (flatten blocks)) (all_lines (flatten blocks))
  where
    each : (ls : List (List ℕ)) → All Line ls → map reading (map lent ls) ≡ map reading ls
    each [] a = refl
    each (l ∷ ls) a = rw (lent_reads l a.0, each ls a.1)
