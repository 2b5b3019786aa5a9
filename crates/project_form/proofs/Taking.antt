-- Syntax trees are taken out of the files, and come back.
use Rattle.std.proofs.Common.{◌≡◌, ℕ, ◌+◌, ◌<◌, true, List, [], ◌∷◌, ◌++◌, length, get_or, take, drop, refl, sym, ap, ap₂, ◌∙◌, subst}
use Rattle.std.proofs.Common.{arith}
use Rattle.std.specs.Prelude.{map}
use Rattle.std.proofs.lemmas.List.{length-map, length-take, get_or_at, take_at, take_more, drop_more}
use Rattle.std.proofs.lemmas.List.Elements.{All-head, All-tail}
use Rattle.c_tree.specs.declared.items.Unit.{Unit as UnitValue}
use Rattle.c_tree.specs.Syntax.{unit_tree}
use Rattle.c_front.specs.Units.{IsUnitOf}
use Rattle.project_form.specs.Kept.{KeptFile, AreAllKept, with_parse, without_parse}
use Rattle.project_form.specs.Parts.{AreUnits}
use Rattle.project_form.proofs.Units.{units-more}

-- a loop that changes each member has not changed this one yet
not_yet : {X : Type 0} (f : X → X) (xs ys : List X) (place : ℕ) (x : X) → place < length xs → ys ≡ map f (take place xs) ++ drop place xs
    → x ≡ get_or ys place x → x ≡ get_or xs place x
not_yet f xs ys place x inside so_far is =
    let front = map f (take place xs) in
    let long : length front ≡ place = length-map (take place xs) f ∙ omega (arith, length-take place xs) in
    is ∙ ap (λ l. get_or l place x) (so_far ∙ ap (λ l. front ++ l) (drop_more xs place x inside))
    ∙ get_or_at front (get_or xs place x) (drop (place + 1) xs) x place long

-- one syntax tree more
pub units-taken : (files so_far : List KeptFile) (units : List UnitValue) (place : ℕ) (one : KeptFile) (unit : UnitValue)
    → place < length files
    → so_far ≡ map without_parse (take place files) ++ drop place files → one ≡ get_or so_far place one → AreUnits (take place files) units
    → IsUnitOf one.file.bytes (unit_tree unit)
    → AreUnits (take (place + 1) files) (units ++ unit ∷ [])
units-taken files so_far units place one unit inside are is before read =
    let same = not_yet without_parse files so_far place one inside are is in
    subst (λ (all : List KeptFile). AreUnits all (units ++ unit ∷ []))
    (sym (take_more files place one inside ∙ ap (λ (k : KeptFile). take place files ++ k ∷ []) (sym same)))
    (units-more (take place files) units one unit before read)

-- one syntax tree less
pub units-left : (files : List KeptFile) (olds news : List UnitValue) (place : ℕ) (one : KeptFile) (unit : UnitValue) → place < length files
    → olds ≡ unit ∷ news → AreUnits (drop place files) olds → AreUnits (drop (place + 1) files) news
units-left files olds news place one unit inside is are =
    let first : AreUnits (get_or files place one ∷ drop (place + 1) files) (unit ∷ news) =
    subst (λ (us : List UnitValue). AreUnits (get_or files place one ∷ drop (place + 1) files) us) is
    (subst (λ (all : List KeptFile). AreUnits all olds) (drop_more files place one inside) are) in
    first.1

-- the syntax trees are still those of the texts
pub units-without : (files : List KeptFile) (units : List UnitValue) → AreUnits files units → AreUnits (map without_parse files) units
units-without [] [] are = tt
units-without [] (unit ∷ units) are = absurd are
units-without (kept ∷ files) [] are = absurd are
units-without (kept ∷ files) (unit ∷ units) are = (are.0, units-without files units are.1)

-- files that have their parses back are as before
pub parses-back : (files : List KeptFile) → AreAllKept files → map with_parse (map without_parse files) ≡ files
parses-back [] are = refl
parses-back (kept ∷ files) are =
    let is : kept.is_kept ≡ true = All-head (λ (kept : KeptFile). kept.is_kept ≡ true) kept files are in
    ap₂ (λ (k : KeptFile) ks. k ∷ ks) (ap (λ b. record kept { is_kept = b }) (sym is))
    (parses-back files (All-tail (λ (kept : KeptFile). kept.is_kept ≡ true) kept files are))

-- what a list has when a slice of all of it, which is as before, is given back
pub written-back : (read lent files : List KeptFile) (len : ℕ) → lent ≡ read → files ≡ lent → length lent ≡ len
    → take len (files ++ drop (length files) read) ≡ read
written-back read lent files len of_list same long = take_at files (drop (length files) read) len (ap length same ∙ long) ∙ same ∙ of_list
