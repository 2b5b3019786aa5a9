-- Types that are all known.
use Rattle.std.proofs.Common.{◌≡◌, Some, None, List, [], ◌∷◌, All, map, refl, ap, ◌∙◌}
use Rattle.std.proofs.lemmas.List.Elements.{All-head, All-tail}
use Rattle.c_types_rules.specs.Types.{Kind, IsKnown}
use Rattle.c_types_rules.specs.Programs.{known}

known_one : (kind : Kind) → IsKnown kind → Some (known kind) ≡ kind
known_one None is = absurd is
known_one (Some kind) is = refl

pub all_known : (kinds : List Kind) → All IsKnown kinds → map Some (map known kinds) ≡ kinds
all_known [] are = refl
all_known (kind ∷ kinds) are = ap (λ k. k ∷ map Some (map known kinds)) (known_one kind (All-head IsKnown kind kinds are))
    ∙ ap (λ ks. kind ∷ ks) (all_known kinds (All-tail IsKnown kind kinds are))
