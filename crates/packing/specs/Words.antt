-- Document 01, "The day's lines", identifiers and MPIDs: the bytes that words hold.
use Rattle.std.specs.Prelude.{Bool, cond, not, ◌&&◌, ◌||◌, List, [], ◌∷◌, ◌++◌, ℕ, zero, suc, ◌+◌, ◌*◌, ◌/◌, ◌%◌, ◌^◌, ltb, leb, eqb}
use Rattle.rulebook.specs.Names.{Ident}
use Rattle.packing.specs.declared.Ident.{Ident as Words}

-- the three words of the code as the rulebook's identifier
abbrev pub named : Words → Ident
named x = record { head = x.head; middle = x.middle; tail = x.tail }

-- the bytes of a word, the lowest first, up to its last that is not 0, and at most so many
unfoldable pub spelt : ℕ → ℕ → List ℕ
spelt zero w = []
spelt (suc n) w = cond (eqb w 0) [] (w % 256 ∷ spelt n (w / 256))

-- so many bytes of a word, the lowest first, with the zeros after its last
unfoldable pub row : ℕ → ℕ → List ℕ
row zero w = []
row (suc n) w = w % 256 ∷ row n (w / 256)

-- the highest bit of each byte, in its place in the word, once so much is added to the byte
unfoldable pub marked : ℕ → List ℕ → ℕ
marked k [] = 0
marked k (b ∷ bs) = (b + k) / 128 * 128 + 256 * marked k bs

-- the bytes of an identifier's three words
unfoldable pub unpacked : Ident → List ℕ
unpacked x = spelt 8 x.head ++ (spelt 8 x.middle ++ spelt 8 x.tail)

-- a word has bytes only where the word before it has eight
unfoldable pub follows : ℕ → ℕ → Bool
follows w next = eqb next 0 || leb (256 ^ 7) w

-- and so three words are those of a text of 1 to 20 bytes
unfoldable pub tight : Ident → Bool
tight x = not (eqb x.head 0) && (ltb x.tail (256 ^ 4) && (follows x.head x.middle && follows x.middle x.tail))
