-- Stores made in two parts: what each part needs follows from what the whole needs, and the second runs on the words that the first leaves.
use Rattle.std.specs.Prelude.{◌≡◌, List, [], ◌∷◌, ◌++◌, ℕ, suc, ◌+◌, ◌≤◌, length}
use Rattle.std.proofs.Common.{sym, ap, ap₂, ◌∙◌, subst, arith, add-one}
use Rattle.laws.specs.Tables.{All}
use Rattle.std.proofs.lemmas.List.Edits.{sets}
use Rattle.laws.specs.Rows.{cell, region, Store, extent, Fit, run, run_append, length_run}
use Rattle.books.specs.Layout.{heads, layout}
use Rattle.books.specs.Writing.{head_store}
use Rattle.edits.specs.Storing.{Storable}
use Rattle.edits.specs.Lending.{CanStore, Stores}
use Rattle.edits.specs.declared.Lent.{Lent}

-- what holds of a list's entries holds of both its parts
all_parts : {A : Type 0} (P : A → Type 0) (xs ys : List A) → All P (xs ++ ys) → All P xs × All P ys
all_parts P [] ys a = (tt, a)
all_parts P (x ∷ xs) ys a = let b = all_parts P xs ys a.1 in ((a.0, b.0), b.1)

module _ {room : ℕ} {m : List ℕ} (ss rest : List Store) where
  -- what the first part needs
  pub first_storable : Storable room m (ss ++ rest) → Storable room m ss
  first_storable s = record { few = s.few; long = s.long; fit = (all_parts (Fit (layout room)) ss rest s.fit).0 }

  -- what the rest needs, over the words after the first part
  pub rest_storable : {after : List ℕ} → after ≡ run (layout room) ss m → Storable room m (ss ++ rest) → Storable room after rest
  rest_storable e s = record {
    few = s.few;
    long = subst (λ (n : ℕ). extent (layout room) ≤ n) (sym (ap length e ∙ length_run (layout room) ss m)) s.long;
    fit = (all_parts (Fit (layout room)) ss rest s.fit).1;
  }

-- the words after both parts
pub ran_both : (room : ℕ) (m : List ℕ) (ss rest : List Store) {after last : List ℕ} → after ≡ run (layout room) ss m → last ≡ run (layout room) rest after → last ≡ run (layout room) (ss ++ rest) m
ran_both room m ss rest e q = q ∙ ap (run (layout room) rest) e ∙ sym (run_append (layout room) ss rest m)

-- the words after stores and then a count of the head raised
pub ran_raised : (room : ℕ) (m : List ℕ) (ss : List Store) (k n : ℕ) {after last : List ℕ} → after ≡ run (layout room) ss m → last ≡ sets after k ((n + 1) ∷ []) → last ≡ run (layout room) (ss ++ (head_store k (suc n) ∷ [])) m
ran_raised room m ss k n {after} e q = let here : k ≡ cell (region (layout room) heads) 0 k = omega arith in
    ran_both room m ss (head_store k (suc n) ∷ []) e (q ∙ ap₂ (λ (j v : ℕ). sets after j (v ∷ [])) here (add-one n))

-- ── the same of the lent words as the code holds them ──
pub can_first : {w : Lent} (ss rest : List Store) → CanStore w (ss ++ rest) → CanStore w ss
can_first ss rest s = record { storable = first_storable ss rest s.storable }

pub can_rest : {w v : Lent} (ss rest : List Store) → Stores w v ss → CanStore w (ss ++ rest) → CanStore v rest
can_rest {w} {v} ss rest e s = record { storable = subst (λ (n : ℕ). Storable n v.mem.now rest) (sym e.room) (rest_storable ss rest e.after s.storable) }

pub stores_both : {w v u : Lent} (ss rest : List Store) → Stores w v ss → Stores v u rest → Stores w u (ss ++ rest)
stores_both {w} {v} {u} ss rest e q = record {
  same = q.same ∙ e.same;
  room = q.room ∙ e.room;
  after = ran_both w.room w.mem.now ss rest e.after (subst (λ (n : ℕ). u.mem.now ≡ run (layout n) rest v.mem.now) e.room q.after);
}

-- whether a word of the head can be stored does not go by the word
pub can_head : {w : Lent} (k u v : ℕ) → CanStore w (head_store k u ∷ []) → CanStore w (head_store k v ∷ [])
can_head k u v s = record { storable = record { few = s.storable.few; long = s.storable.long; fit = s.storable.fit } }

pub ruleset in_parts = (can_first, can_rest, stores_both, add-one)
