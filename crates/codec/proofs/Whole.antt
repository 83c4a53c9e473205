-- What is put as a line by the call that `write_whole` is given is written whole or not at all.
use Rattle.std.specs.Prelude.{◌≡◌, ℕ, List, ◌∷◌, replicate}
use Rattle.std.proofs.Common.{◌∙◌, subst}
use Rattle.std.proofs.lemmas.List.{length-replicate}
use Rattle.fields.specs.Series.{tails}
use Rattle.fields.specs.Out.{Left, out, put_line, handed, wrote}
use Rattle.fields.specs.Puts.{staged_line}

pub written_whole : {P : ℕ → List ℕ → Type 0} (most kind : ℕ) (fields : List (List ℕ)) (b : List ℕ) (l : Left) → ((n : ℕ) (d : List ℕ) → P n d → out d n ≡ put_line (out (replicate most 0) 0) kind fields)
    → (d : List ℕ) × (n : ℕ) × P n d × (l ≡ handed d n b) → l ≡ wrote most (kind ∷ tails fields) b
written_whole most kind fields b l puts (d, n, p, e) = subst (λ m. l ≡ wrote m (kind ∷ tails fields) b) (length-replicate most 0) (e ∙ staged_line kind fields (replicate most 0) d b n (puts n d p))
