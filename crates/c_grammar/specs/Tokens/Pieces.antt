-- The first piece of a text, by the function that finds it. No public contract cites it: `Grammar` says what pieces are.
use Rattle.std.specs.Prelude.{ℕ, ◌+◌, ◌≤◌, Bool, false, ◌&&◌, ◌==◌, nat_le, Option, Some, None, List, if◌then◌else◌, take, drop}
use Rattle.std.specs.Prelude.{slice_index, codes}
use Rattle.std.specs.List.{prefix_len}
use Rattle.std.specs.Str.{bytes_eq}
use Rattle.std.specs.Char.{is_ascii_digit}
use Rattle.shape_data.specs.Names.{is_name_start, is_name_byte}
use Rattle.c_grammar.specs.Tokens.Places.{refusal}
use Rattle.c_grammar.specs.Tokens.Gaps.{is_blank}
use Rattle.c_grammar.specs.Tokens.Headers.{is_header_byte}
use Rattle.c_grammar.specs.declared.tokens.comments.Behind.TheVariants.{Other}
use Rattle.c_grammar.specs.declared.tokens.places.Place.{Place}
use Rattle.c_grammar.specs.declared.tokens.pieces.Part.{Part}
use Rattle.c_grammar.specs.declared.tokens.pieces.Part.TheVariants.{LineStart, InLine, Hash, Include, Header}
use Rattle.c_grammar.specs.declared.tokens.pieces.Piece.{Piece}
use Rattle.c_grammar.specs.declared.tokens.pieces.Piece.TheVariants.{Passed, Lexed, Refused}
use Rattle.c_grammar.specs.declared.tokens.token.TokenKind.TheVariants.{Word, Key, Number, Sign}
use Rattle.c_grammar.specs.Tokens.Words.{is_reserved, is_number, sign_len}
use Rattle.c_grammar.specs.Tokens.Scan.{line_end, block_end}

-- a name, or a reserved word, that is this long
abbrev pub name_piece : Place → List ℕ → ℕ → Piece
name_piece here bytes n =
    if nat_le n 64 then (if is_reserved (take n bytes) then Lexed Key n else Lexed Word n) else Refused (refusal here 105)

-- a number with all letters, digits and underscores behind it, this long together
abbrev pub number_piece : Place → List ℕ → ℕ → Piece
number_piece here bytes n = if is_number (take n bytes) then Lexed Number n else Refused (refusal here 103)

-- a sign that is this long, or none
abbrev pub sign_piece : Place → ℕ → Piece
sign_piece here n = if n == 0 then Refused (refusal here 101) else Lexed Sign n

-- the token that the bytes begin with
abbrev pub token_piece : Place → List ℕ → Piece
token_piece here bytes =
    if is_name_start (slice_index bytes 0) then name_piece here bytes (prefix_len is_name_byte bytes)
    else if is_ascii_digit (slice_index bytes 0) then number_piece here bytes (prefix_len is_name_byte bytes)
    else sign_piece here (sign_len bytes)

-- how long the name of the header is behind `<`
abbrev pub header_len : List ℕ → ℕ
header_len bytes = prefix_len is_header_byte (drop 1 bytes)

-- `<`, one or more bytes, `>`
abbrev pub begins_with_header : List ℕ → Bool
begins_with_header bytes =
    slice_index bytes 0 == 60 && (nat_le 1 (header_len bytes) && slice_index bytes (header_len bytes + 1) == 62)

-- what stands at this part of a line, where the bytes begin with no blank and no comment (C11 6.10.2)
abbrev pub bare_piece : Place → Part → List ℕ → Piece
bare_piece here LineStart bytes =
    if slice_index bytes 0 == 35 then Passed 1 (Hash here) else token_piece here bytes
bare_piece here InLine bytes = token_piece here bytes
bare_piece here (Hash hash) bytes =
    if bytes_eq (take (prefix_len is_name_byte bytes) bytes) (codes "include") then Passed 7 (Include hash)
    else Refused (refusal hash 104)
bare_piece here (Include hash) bytes =
    if begins_with_header bytes then Passed (header_len bytes + 2) (Header hash) else Refused (refusal hash 104)
bare_piece here (Header hash) bytes = Refused (refusal hash 104)

-- a line feed: a directive that began is complete
abbrev pub line_feed_piece : Part → Piece
line_feed_piece LineStart = Passed 1 LineStart
line_feed_piece InLine = Passed 1 LineStart
line_feed_piece (Hash hash) = Refused (refusal hash 104)
line_feed_piece (Include hash) = Refused (refusal hash 104)
line_feed_piece (Header hash) = Passed 1 LineStart

-- a comment from `/*` to its end, if it has one
abbrev pub block_piece : Place → Part → Option ℕ → Piece
block_piece here part None = Refused (refusal here 102)
block_piece here part (Some n) = Passed (n + 2) part

-- the longest piece that the bytes begin with, here and at this part of a line
abbrev pub first_piece : Place → Part → List ℕ → Piece
first_piece here part bytes =
    if slice_index bytes 0 == 10 then line_feed_piece part
    else if is_blank (slice_index bytes 0) then Passed 1 part
    else if slice_index bytes 0 == 47 && slice_index bytes 1 == 47 then Passed (line_end 0 false (drop 2 bytes) + 2) part
    else if slice_index bytes 0 == 47 && slice_index bytes 1 == 42 then block_piece here part (block_end 0 Other (drop 2 bytes))
    else bare_piece here part bytes

-- the piece has one byte at least and no more than there are; a token has as many as a name may have
abbrev pub Fits : Piece → ℕ → Type 0
Fits (Passed n part) count = (1 ≤ n) × (n ≤ count)
Fits (Lexed kind n) count = (1 ≤ n) × (n ≤ 64) × (n ≤ count)
Fits (Refused refusal) count = Unit {0}
