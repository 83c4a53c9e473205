-- What a hex digit says.
use Rattle.std.specs.Prelude.{ℕ, ◌-◌, cond, ◌&&◌, leb}

-- 0 to 9, and a to f for 10 to 15; 0 for any other byte
unfoldable pub hex_value : ℕ → ℕ
hex_value c = cond (leb 48 c && leb c 57) (c - 48) (cond (leb 97 c && leb c 102) (c - 87) 0)
