-- Bytes as text.
use Rattle.std.specs.Prelude.{ℕ, List, [], ◌∷◌, ◌++◌}
use Rattle.io.specs.Digits.{last_digits}

-- two hexadecimal digits for each byte
unfoldable pub hexadecimal : List ℕ → List ℕ
hexadecimal [] = []
hexadecimal (b ∷ bs) = last_digits 16 2 b ++ hexadecimal bs
