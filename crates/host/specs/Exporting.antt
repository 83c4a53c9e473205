-- How a host that is written in C or Rust is told what the calls say: one number with its sign.
use Rattle.std.specs.Prelude.{not, cond, List, [], ◌∷◌, ◌++◌, ℕ, suc, ◌+◌, ◌*◌, ltb, eqb, ℤ, pos, negsuc, neg_ℤ, length}
use Rattle.laws.specs.Checks.{Check, ◌⇒◌, first}
use Rattle.books.specs.Layout.{least_words, place_words}
use Rattle.rules.specs.Testing.{state_ok}
use Rattle.meo.specs.Messages.{order_at, read_checks}
use Rattle.meo.specs.declared.NewOrder.{NewOrder}
use Rattle.fields.specs.Out.{Said, refuses, begun}
use Rattle.calls.specs.Blocks.{Block}

-- the bytes that were written, or minus the number of the refusal
abbrev pub told : Said → ℤ
told x = cond (eqb x.number 0) (pos x.bytes) (neg_ℤ (pos x.number))

-- and what a host hears in it
abbrev pub heard : ℤ → Said
heard (pos n) = record { number = 0; bytes = n }
heard (negsuc n) = refuses (suc n)

-- a block's bytes written, or its refusal
abbrev pub block_said : Block → Said
block_said t = record { number = t.number; bytes = t.written }

-- how many lines it took and their bytes, in two words; a refusal leaves the words
abbrev pub taken_told : Block → List ℕ → List ℕ
taken_told t ws = cond (eqb t.number 0) (t.lines ∷ t.bytes ∷ []) ws

-- "lent state breaks a state rule, or is too short": 22, else nothing is refused
abbrev pub state_said : List ℕ → Said
state_said m = refuses (first ((not (state_ok m) ⇒ 22) ∷ []))

-- "The room, at most 65,535 places, is fixed when the memory is lent": the words of so many places, and 0 where no memory has so many
unfoldable pub words_for : ℕ → ℕ
words_for p = cond (ltb 65_535 p) 0 (least_words + p * place_words)

-- an N as words: where its identifier begins and ends in the message, where its MPID does, and its numbers
abbrev pub order_words : NewOrder → List ℕ
order_words n = n.name.from ∷ n.name.to ∷ n.mpid.from ∷ n.mpid.to ∷ n.symbol ∷ n.side ∷ n.size ∷ n.price ∷ []

-- "41 .., 42 .., 43 output too short, .. in that order, nothing written"
abbrev pub read_refusals : List ℕ → List ℕ → List Check
read_refusals m b = read_checks m ++ ((ltb (length b) 8 ⇒ 43) ∷ [])

-- so many words are written, and past them the lent words are as they were found
unfoldable pub read_told : List ℕ → List ℕ → Said
read_told m b = let k = first (read_refusals m b) in cond (eqb k 0) (record { number = 0; bytes = 8 }) (refuses k)

unfoldable pub read_left : List ℕ → List ℕ → List ℕ
read_left m b = cond (eqb (first (read_refusals m b)) 0) (begun (order_words (order_at m)) b) b
