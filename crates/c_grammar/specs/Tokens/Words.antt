-- Names, reserved words, numbers and signs (C11 6.4).
use Rattle.std.specs.Prelude.{ℕ, Bool, ◌&&◌, ◌||◌, ◌==◌, not, List, [], ◌∷◌, if◌then◌else◌, length, take, nat_le, slice_index, codes}
use Rattle.std.specs.List.{list_all, list_any}
use Rattle.std.specs.Char.{is_ascii_digit}
use Rattle.std.specs.Str.{bytes_eq}
use Rattle.std.specs.Str.Parse.{digits_value}

-- the keywords of C (C11 6.4.1), and three names of its library that the analyser gives a meaning of its own
abbrev pub reserved : List (List ℕ)
reserved =
    codes "auto" ∷ codes "break" ∷ codes "case" ∷ codes "char" ∷ codes "const" ∷ codes "continue"
    ∷ codes "default" ∷ codes "do" ∷ codes "double" ∷ codes "else" ∷ codes "enum" ∷ codes "extern"
    ∷ codes "float" ∷ codes "for" ∷ codes "goto" ∷ codes "if" ∷ codes "inline" ∷ codes "int"
    ∷ codes "long" ∷ codes "register" ∷ codes "restrict" ∷ codes "return" ∷ codes "short"
    ∷ codes "signed" ∷ codes "sizeof" ∷ codes "static" ∷ codes "struct" ∷ codes "switch"
    ∷ codes "typedef" ∷ codes "union" ∷ codes "unsigned" ∷ codes "void" ∷ codes "volatile"
    ∷ codes "while" ∷ codes "_Alignas" ∷ codes "_Alignof" ∷ codes "_Atomic" ∷ codes "_Bool"
    ∷ codes "_Complex" ∷ codes "_Generic" ∷ codes "_Imaginary" ∷ codes "_Noreturn"
    ∷ codes "_Static_assert" ∷ codes "_Thread_local"
    ∷ codes "NULL" ∷ codes "malloc" ∷ codes "free" ∷ []

-- the word is one of the reserved ones
unfoldable pub is_reserved : List ℕ → Bool
is_reserved word = list_any (λ other. bytes_eq other word) reserved

-- digits, of which the first is 0 only where it is the only one; no longer than the greatest number
abbrev pub is_plain : List ℕ → Bool
is_plain word =
    nat_le (length word) 10 && (list_all is_ascii_digit word && (not (slice_index word 0 == 48) || length word == 1))

-- a plain decimal of at most 2,147,483,647
abbrev pub is_number : List ℕ → Bool
is_number word = is_plain word && nat_le (digits_value 10 word) 2147483647

-- the signs of two bytes
abbrev pub long_signs : List (List ℕ)
long_signs =
    codes "->" ∷ codes "+=" ∷ codes "-=" ∷ codes "*=" ∷ codes "++" ∷ codes "--" ∷ codes "==" ∷ codes "!="
    ∷ codes "<=" ∷ codes ">=" ∷ codes "&&" ∷ codes "||" ∷ []

-- the signs of one byte
abbrev pub short_signs : List ℕ
short_signs = codes "(){};,=<>+-*!"

-- the word is a sign of two bytes
unfoldable pub is_long_sign : List ℕ → Bool
is_long_sign word = list_any (λ sign. bytes_eq sign word) long_signs

-- the byte is a sign
unfoldable pub is_short_sign : ℕ → Bool
is_short_sign byte = list_any (λ sign. sign == byte) short_signs

-- how long the longest sign is that the bytes begin with; 0 where they begin with none
abbrev pub sign_len : List ℕ → ℕ
sign_len bytes =
    if nat_le 2 (length bytes) && is_long_sign (take 2 bytes) then 2 else if is_short_sign (slice_index bytes 0) then 1 else 0
