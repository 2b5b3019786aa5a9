-- What was found in a text so far, and more.
use Rattle.std.specs.Prelude.{◌≡◌}
use Rattle.c_types_rules.specs.Statements.{Found}
use Rattle.c_types_names.specs.FirstRefusal.{with_refusals}
use Rattle.c_types_exprs.specs.Listing.{with_kinds}
use Rattle.c_types_stmts.specs.declared.finding.Finding.{Finding}

-- what was found before, with what is found in a part of a text; of its types, where they are listed
pub record Adds (found : Found) (before after : Finding) : Type 0 where
  pub first : after.first ≡ with_refusals before.first found.refusals
  pub kinds : after.kinds ≡ with_kinds before.kinds found.kinds

-- with what is left to be found, all is found
pub record AddsUpTo (left all : Found) (before now : Finding) : Type 0 where
  pub whole : (after : Finding) → Adds left now after → Adds all before after
