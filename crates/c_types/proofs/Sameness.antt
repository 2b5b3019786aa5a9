-- Lists that are compared place by place.
use Rattle.std.proofs.Common.{◌≡◌, ◌==◌, ℕ, ◌-◌, Bool, leb, List, [], ◌∷◌, length, sym, ap, ◌∙◌, arith}
use Rattle.c_types_rules.specs.Tables.{FieldKind}
use Rattle.c_types_rules.specs.Items.{same_fields}

pub fields_left : (ones : List FieldKind) → same_fields [] ones ≡ (length ones == 0)
fields_left [] = grind (arith)
fields_left (one ∷ ones) = grind (arith)

none_left : (one other left n : ℕ) → one ≡ n → left ≡ other - n → leb other one ≡ (left == 0)
none_left one other left n is rest = grind (arith, is, rest)

-- where the one list is at its end, the other is too where it is no longer
module _ {Y : Type 0} (same : List Y → List Y → Bool) (left : (list : List Y) → same [] list ≡ (length list == 0)) where
  pub ends_same : (ones others : List Y) (one other n : ℕ) → one ≡ n → ones ≡ [] → length others ≡ other - n → (all : Bool)
      → same ones others ≡ all → leb other one ≡ all
  ends_same ones others one other n is none rest all known =
      none_left one other (length others) n is rest ∙ sym (left others) ∙ ap (λ list. same list others) (sym none) ∙ known

pub ruleset fields = (fields_left)
