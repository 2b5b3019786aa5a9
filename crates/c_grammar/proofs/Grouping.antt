-- How expressions, statements and parameters are grouped.
use Rattle.std.proofs.Common.{◌≡◌, true, false, List, [], ◌∷◌, refl, arith}
use Rattle.c_grammar.specs.Classes
use Rattle.c_grammar.specs.Words.{Word}
use Rattle.c_grammar.specs.Spelling.{word, NoElse}
use Rattle.c_grammar.specs.Laws.{HaveTighterOperands, HaveChains, HaveNearestElse, HaveVoidAlone}

pub tighter_operands : HaveTighterOperands
tighter_operands level first second third op other inner outer from to looser (least, (a, h, (b, i, (c, (deep, j), k)))) =
    absurd (omega arith)

pub chains : HaveChains
chains a b c first second = (
  omega arith,
  (
    _,
    (refl, refl, refl, refl),
    (_, (refl, refl), (_, (refl, refl, refl, refl), (refl, (_, (refl, refl), (_, (refl, refl, refl, refl), refl))))),
  ),
)

pub nearest_else : HaveNearestElse
nearest_else place second test inner body other from to (a, h, (b, i, (c, j, (d, k, (e, (ends, l), (f, m, o)))))) = before e ends m
  where
    before : (words : List Word) → NoElse words → word Classes.ELSE words f → ⊥
    before [] ends m = m
    before (w ∷ ws) ends m = ends m.0

pub void_alone : HaveVoidAlone
void_alone place from to (alone, h) = let z : true ≡ false = alone in absurd (cc)
