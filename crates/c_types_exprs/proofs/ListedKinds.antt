-- Types that are listed where a list of them is wanted.
use Rattle.std.proofs.Common.{◌≡◌, Option, Some, None, List, [], ◌++◌, append_assoc, refl, ap}
use Rattle.std.proofs.lemmas.List.{append-nil}
use Rattle.c_types_rules.specs.Types.{Kind}
use Rattle.c_types_exprs.specs.Listing.{with_kinds}

-- no types more
pub with_none : (listed : Option (List Kind)) → with_kinds listed [] ≡ listed
with_none None = refl
with_none (Some list) = ap Some (append-nil list)

-- some more, and then others
pub with_two : (listed : Option (List Kind)) (one other : List Kind)
    → with_kinds (with_kinds listed one) other ≡ with_kinds listed (one ++ other)
with_two None one other = refl
with_two (Some list) one other = ap Some (append_assoc list one other)
