-- Headers of `#include` lines (C11 6.4.7).
use Rattle.std.specs.Prelude.{◌≡◌, ℕ, ◌<◌, Bool, true, ◌||◌, ◌==◌, not, List, ◌++◌, length, codes}
use Rattle.std.specs.List.{list_all}

-- a byte of a header's name: no `>` and no line feed
abbrev pub is_header_byte : ℕ → Bool
is_header_byte b = not (b == 62 || b == 10)

-- `<`, one or more bytes, and `>`
pub record IsHeader (header : List ℕ) : Type 0 where
  pub name : List ℕ
  pub some : 0 < length name
  pub each : list_all is_header_byte name ≡ true
  pub is : header ≡ codes "<" ++ (name ++ codes ">")
