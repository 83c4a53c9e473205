-- What putting bytes leaves: the bytes at their place and all else as it was, or a place past the end.
use Rattle.std.specs.Prelude.{◌≡◌, refl, cond, ◌&&◌, ℕ, suc, ◌+◌, ◌<◌, ◌≤◌, leb, length, take, drop, set, get_or, Ok, Err}
use Rattle.std.proofs.Common.{sym, ap, ◌∙◌, ⊎_elim, arith, add-one, add-zero, zero-add, take-append-drop, length-set, length-append, take-suc-set, drop-set-lt, lt-ltb, le-ltb, le-leb}
use mathlib.Core.List.{List, [], ◌∷◌, ◌++◌, foldl-append, append_assoc}
use Rattle.std.proofs.Math.Seq.{take-append_seam}
use Rattle.laws.specs.Tests.{on}
use Rattle.std.proofs.lemmas.Bool.{lt-leb}
use Rattle.std.proofs.lemmas.List.{take_more}
use Rattle.fields.specs.Series.{tails}
use Rattle.fields.specs.Out.{Out, out, put_byte, puts, put_fields, put_line, left, handed, wrote, room_number}
use Rattle.fields.specs.declared.WriteError.TheVariants.{NoRoom}
use Rattle.fields.specs.Numbers.{below}

pub puts_then : (s : Out) (xs ys : List ℕ) → puts s (xs ++ ys) ≡ puts (puts s xs) ys
unfolding puts
puts_then s xs ys = foldl-append put_byte s xs ys

pub puts_none : (s : Out) → puts s [] ≡ s
unfolding puts
puts_none s = refl

-- a byte, and bytes after it
pub puts_one : (s : Out) (c : ℕ) (ys : List ℕ) → puts (puts s (c ∷ [])) ys ≡ puts s (c ∷ ys)
unfolding puts
puts_one s c ys = refl

-- the bytes up to a place, and the byte there
pub puts_more : (s : Out) (xs : List ℕ) (i : ℕ) → i < length xs → puts (puts s (take i xs)) (get_or xs i 0 ∷ []) ≡ puts s (take (i + 1) xs)
puts_more s xs i h = rw (take_more xs i 0 h) (sym (puts_then s (take i xs) (get_or xs i 0 ∷ [])))

-- where there is room, the bytes stand at their place and all else is as it was
pub puts_room : (cs d : List ℕ) (a : ℕ) → a + length cs ≤ length d → puts (out d a) cs ≡ out (take a d ++ (cs ++ drop (a + length cs) d)) (a + length cs)
unfolding put_byte puts
puts_room [] d a h = rw (add-zero, take-append-drop)
puts_room (c ∷ cs) d a h =
    let k : a + 1 + length cs ≡ a + suc (length cs) = omega arith in
    rw (lt-ltb a (length d) (omega arith))
    (puts_room cs (set d a c) (a + 1) (rw length-set (omega arith))
    ∙ rw (k, drop-set-lt (a + suc (length cs)) d a c (omega arith), add-one, take-suc-set d a c (omega arith), append_assoc))

-- where there is none, the place ends past the buffer
pub puts_past : (cs d : List ℕ) → puts (out d (length d + 1)) cs ≡ out d (length d + 1)
unfolding put_byte puts
puts_past [] d = refl
puts_past (c ∷ cs) d = rw (le-ltb (length d + 1) (length d) (omega arith)) (puts_past cs d)

pub puts_full : (cs d : List ℕ) (a : ℕ) → a ≤ length d → length d < a + length cs → (b : List ℕ) × (puts (out d a) cs ≡ out b (length d + 1)) × (length b ≡ length d)
unfolding put_byte puts
puts_full [] d a h k = absurd (omega arith)
puts_full (c ∷ cs) d a h k =
    ⊎_elim (λ (b : a < length d). let w = puts_full cs (set d a c) (a + 1) (rw length-set (omega arith)) (rw length-set (omega arith)) in
    (w.0, rw (lt-ltb a (length d) b) (w.1 ∙ rw length-set), w.2 ∙ rw length-set))
    (λ (b : length d ≤ a). (d, rw (le-ltb a (length d) b) (puts_past cs d), refl))
    (below a (length d))

-- a line put field by field is the line put whole
pub put_fields_is : (fs : List (List ℕ)) (s : Out) → puts (put_fields s fs) (10 ∷ []) ≡ puts s (tails fs)
unfolding tails
put_fields_is [] s = refl
put_fields_is (f ∷ fs) s = put_fields_is fs (puts s (9 ∷ f)) ∙ sym (puts_then s (9 ∷ f) (tails fs))

pub put_line_is : (s : Out) (k : ℕ) (fs : List (List ℕ)) → put_line s k fs ≡ puts s (k ∷ tails fs)
put_line_is s k fs = put_fields_is fs (puts s (k ∷ [])) ∙ sym (puts_then s (k ∷ []) (tails fs))

-- a line that is put into memory of its own and handed over from there is written whole or not at all
pub staged : (cs z d b : List ℕ) (n : ℕ) → out d n ≡ puts (out z 0) cs → handed d n b ≡ wrote (length z) cs b
unfolding handed wrote
staged cs z d b n e = ⊎_elim full room (below (length z) (length cs))
  where
    full : length z < length cs → handed d n b ≡ wrote (length z) cs b
    full h =
        let w = puts_full cs z 0 (omega arith) (omega arith) in
        let p = e ∙ w.1 in
        let d_is : length d ≡ length z = ap (λ (o : Out). length o.buffer) p ∙ w.2 in
        let n_is : n ≡ length z + 1 = ap (λ (o : Out). o.at) p in
        rw (lt-leb n (length d) (omega arith), lt-leb (length cs) (length z) h)

    room : length cs ≤ length z → handed d n b ≡ wrote (length z) cs b
    room h =
        let p = rw zero-add at (e ∙ puts_room cs z 0 (omega arith)) in
        let n_is : n ≡ length cs = ap (λ (o : Out). o.at) p in
        let d_is : d ≡ cs ++ drop (length cs) z = ap (λ (o : Out). o.buffer) p in
        rw (n_is, d_is, take-append_seam cs (drop (length cs) z), le-leb (length cs) (length (cs ++ drop (length cs) z)) (rw length-append (omega arith)), le-leb (length cs) (length z) h)

pub staged_line : (k : ℕ) (fs : List (List ℕ)) (z d b : List ℕ) (n : ℕ) → out d n ≡ put_line (out z 0) k fs → handed d n b ≡ wrote (length z) (k ∷ tails fs) b
staged_line k fs z d b n e = staged (k ∷ tails fs) z d b n (e ∙ put_line_is (out z 0) k fs)

-- THEOREM. A writer that says 21 leaves the buffer as it was
pub no_room : (most : ℕ) (cs b : List ℕ) → room_number (wrote most cs b).said ≡ 21 → (wrote most cs b).buffer ≡ b
unfolding wrote
no_room most cs b = on (λ t. room_number (cond t (left (cs ++ drop (length cs) b) (Ok (length cs))) (left b (Err NoRoom))).said ≡ 21 → (cond t (left (cs ++ drop (length cs) b) (Ok (length cs))) (left b (Err NoRoom))).buffer ≡ b)
    (leb (length cs) most && leb (length cs) (length b)) (λ e h. absurd (omega arith)) (λ e h. refl)

-- THEOREM. With room it does not say so: the line stands at the buffer's start, and what is past the line stays
pub room : (most : ℕ) (cs b : List ℕ) → length cs ≤ most → length cs ≤ length b → wrote most cs b ≡ left (cs ++ drop (length cs) b) (Ok (length cs))
unfolding wrote
room most cs b h k = rw (le-leb (length cs) most h, le-leb (length cs) (length b) k)
