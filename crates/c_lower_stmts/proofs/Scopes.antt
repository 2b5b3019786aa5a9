-- Places of a body, in one scope and in another.
use Rattle.std.proofs.Common.{◌≡◌, subst}
use Rattle.c_lower_rules.specs.Contexts.{Context, within_scope}
use Rattle.c_lower_exprs.specs.Contexts.{IsWithin}

-- within a scope that was entered
pub entered_within : (c entered inner : Context) → entered ≡ within_scope c → IsWithin entered inner → IsWithin (within_scope c) inner
entered_within c entered inner is h = subst (λ x. IsWithin x inner) is h
