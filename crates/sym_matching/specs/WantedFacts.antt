-- The rules for a wanted fact, in their order. (Missing parts are for abduction alone.)
-- e = f: 1. exactly one side is unbound: it is bound to the other. 2. They are equal. 3. Both are determined, logical, and not
-- known to differ: the equation is missing.
-- e != f: 1. both are determined, and known to differ in the whole heap with the missing part. 2. Both are determined,
-- logical, and not equal: the disequality is missing.
use Rattle.std.specs.Prelude.{ℕ, ◌+◌, Bool, true, false, not, ◌&&◌, ◌||◌, if◌then◌else◌, List, [], ◌∷◌}
use Rattle.shape_data.specs.declared.symbolic.Exp.{Exp}
use Rattle.shape_data.specs.declared.symbolic.Fact.{Fact}
use Rattle.shape_data.specs.declared.symbolic.Fact.TheVariants.{Eq, Ne}
use Rattle.sym_parts.specs.Laws.Expressions.{same_exp}
use Rattle.sym_pure.specs.Equations.{read_through}
use Rattle.sym_pure.specs.Sources.{differs}
use Rattle.sym_matching.specs.declared.matching.Matching.{Matching}
use Rattle.sym_matching.specs.declared.matching.Mode.{Mode}
use Rattle.sym_matching.specs.declared.matching.Mode.TheVariants.{Subtract, Abduce}
use Rattle.sym_matching.specs.declared.matching.Owed.{Owed}
use Rattle.sym_matching.specs.declared.matching.Turned.{Turned}
use Rattle.sym_matching.specs.declared.matching.Turned.TheVariants.{On, Stuck}
use Rattle.sym_matching.specs.Reading.{read, is_unbound, is_logical}
use Rattle.sym_matching.specs.Steps.{Rules, whole, bind, miss_fact, and_then}

-- RULE 3 for e = f: both are logical and not known to differ: the equation is missing
abbrev pub miss_equation : Rules → ℕ → Exp → Exp → Matching → Mode → Turned
miss_equation rules number left right m Subtract = Stuck number
miss_equation rules number left right m Abduce =
    if is_logical left && is_logical right && not (differs (whole rules m) left right) then miss_fact rules number (Eq left right) m
    else Stuck number

-- RULE 2 for e = f, both sides being determined and read: they are equal; else rule 3
abbrev pub want_same : Rules → ℕ → Exp → Exp → Matching → Turned
want_same rules number left right m = if same_exp left right then On m else miss_equation rules number left right m rules.mode

-- RULE 1 for e = f: exactly one side is unbound: it is bound to the other
abbrev pub want_equal : Rules → ℕ → Exp → Exp → Matching → Bool → Bool → Turned
want_equal rules number e f m true false = On (bind m e (read rules.facts m.binding f))
want_equal rules number e f m false true = On (bind m f (read rules.facts m.binding e))
want_equal rules number e f m false false = want_same rules number (read rules.facts m.binding e) (read rules.facts m.binding f) m
want_equal rules number e f m true true = if same_exp e f then On m else Stuck number

-- RULE 2 for e != f: both are logical and not equal: the disequality is missing
abbrev pub miss_disequality : Rules → ℕ → Exp → Exp → Matching → Mode → Turned
miss_disequality rules number left right m Subtract = Stuck number
miss_disequality rules number left right m Abduce =
    if is_logical left && is_logical right && not (same_exp left right) then miss_fact rules number (Ne left right) m else Stuck number

-- RULE 1 for e != f, both sides being determined and read: they are known to differ in the whole heap with the missing part
abbrev pub want_apart : Rules → ℕ → Exp → Exp → Matching → Turned
want_apart rules number left right m =
    if differs (whole rules m) left right then On m else miss_disequality rules number left right m rules.mode

-- the rules for a fact
abbrev pub want_fact : Rules → ℕ → Fact → Matching → Turned
want_fact rules number (Eq e f) m =
    want_equal rules number e f m (is_unbound rules.flexible m.binding e) (is_unbound rules.flexible m.binding f)
want_fact rules number (Ne e f) m =
    if is_unbound rules.flexible m.binding e || is_unbound rules.flexible m.binding f
    then Stuck number
    else want_apart rules number (read rules.facts m.binding e) (read rules.facts m.binding f) m

-- wanted facts in order, numbered from one on
abbrev pub want_facts : Rules → ℕ → List Fact → Matching → Turned
want_facts rules number [] m = On m
want_facts rules number (fact ∷ facts) m = and_then (want_facts rules (number + 1) facts) (want_fact rules number fact m)

-- the rules for e = f, for a fact that was left over: its right side is the heap's own, so it is determined and not read
-- through the binding
abbrev pub want_owed : Rules → Owed → Matching → Turned
want_owed rules owed m =
    if is_unbound rules.flexible m.binding owed.want
    then On (bind m owed.want (read_through rules.facts owed.have))
    else want_same rules owed.number (read rules.facts m.binding owed.want) (read_through rules.facts owed.have) m

-- the facts that were left over, in order
abbrev pub want_all_owed : Rules → List Owed → Matching → Turned
want_all_owed rules [] m = On m
want_all_owed rules (owed ∷ others) m = and_then (want_all_owed rules others) (want_owed rules owed m)
