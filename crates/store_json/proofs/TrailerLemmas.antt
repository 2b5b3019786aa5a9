-- A trailer has 66 bytes, so bytes have one text before it at most.
use Rattle.std.specs.Prelude.{◌≡◌, ℕ, ◌+◌, ◌-◌, ◌<◌, List, [], ◌∷◌, ◌++◌, length, take, drop}
use Rattle.std.specs.declared.option.Option.TheVariants.{None, Some}
use Rattle.std.proofs.Common.{sym, ap, ◌∙◌, arith, length-append}
use Rattle.std.proofs.lemmas.List.{drop_at, take-append-drop, take_at}
use Rattle.hex.specs.Hex.{encode_lower, lower_digits}
use Rattle.hex.proofs.HexLemmas.{length-encode_with}
use Rattle.sha2.specs.Sha256.{sha256}
use Rattle.sha2.proofs.Facts256.{length-sha256}
use Rattle.store_json.specs.Reading.{IsTextOf}
use Rattle.store_json.specs.Texts.{trailer_of, with_trailer}

length-trailer : (text : List ℕ) → length (trailer_of text) ≡ 66
length-trailer text =
    let digits = length-encode_with lower_digits (sha256 text) in
    let bytes = length-sha256 text in
    let all = length-append (encode_lower (sha256 text)) (10 ∷ []) in
    omega (arith, digits, bytes, all)

pub length-with_trailer : (text bytes : List ℕ) → with_trailer text ≡ bytes → length bytes ≡ length text + 66
length-with_trailer text bytes is =
    let all = length-append text (trailer_of text) in
    let last = length-trailer text in
    let same : length (with_trailer text) ≡ length bytes = ap length is in
    omega (arith, all, last, same)

pub too_short : (bytes : List ℕ) → length bytes < 66 → IsTextOf bytes None
too_short bytes short text is = let same = length-with_trailer text bytes is in absurd (omega (arith, same))

-- bytes in two parts, the second of which is the trailer of the first
pub text_found : (bytes text trailer : List ℕ) (at : ℕ) → text ≡ take at bytes → trailer ≡ drop at bytes → trailer ≡ trailer_of text →
    IsTextOf bytes (Some text)
text_found bytes text trailer at front back right =
    ap (λ behind. text ++ behind) (sym right ∙ back) ∙ ap (λ before. before ++ drop at bytes) front ∙ take-append-drop at bytes

-- or is not
pub no_text_found : (bytes text trailer : List ℕ) → text ≡ take (length bytes - 66) bytes → trailer ≡ drop (length bytes - 66) bytes →
    (trailer ≡ trailer_of text → ⊥) → IsTextOf bytes None
no_text_found bytes text trailer front back wrong other is =
    let whole = length-with_trailer other bytes is in
    let at : length other ≡ length bytes - 66 = omega (arith, whole) in
    let same : text ≡ other =
    front ∙ ap (take (length bytes - 66)) (sym is) ∙ take_at other (trailer_of other) (length bytes - 66) at in
    wrong (back ∙ ap (drop (length bytes - 66)) (sym is) ∙ drop_at other (trailer_of other) (length bytes - 66) at
    ∙ ap trailer_of (sym same))
