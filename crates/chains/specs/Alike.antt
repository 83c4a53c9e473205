-- Rows as the code passes them: where each begins, the hash of its first words, and the test that two begin with the same.
use Rattle.std.specs.Prelude.{ℕ, ◌+◌, ◌*◌, Bool}
use Rattle.chains.specs.declared.Rows.{Rows}
use Rattle.chains.specs.Words.{same_row, hash_row}

abbrev pub start : Rows → ℕ → ℕ
start r i = r.at + i * r.width

abbrev pub hashes : Rows → ℕ → ℕ
hashes r = hash_row r.mem.now r.at r.width r.words

abbrev pub alike : Rows → ℕ → ℕ → Bool
alike r = same_row r.mem.now r.at r.width r.words
