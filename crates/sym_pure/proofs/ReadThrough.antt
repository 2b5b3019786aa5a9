-- What is read through the equations among facts has what the expressions of the facts have.
use Rattle.std.specs.Prelude.{ℕ, Bool, true, false, ◌==◌, if◌then◌else◌, List, [], ◌∷◌, All}
use Rattle.std.proofs.lemmas.List.Elements.{All-head, All-tail}
use Rattle.shape_data.specs.declared.symbolic.Exp.{Exp}
use Rattle.shape_data.specs.declared.symbolic.Exp.TheVariants.{Var, Const}
use Rattle.shape_data.specs.declared.symbolic.Fact.{Fact}
use Rattle.shape_data.specs.declared.symbolic.Fact.TheVariants.{Eq, Ne}
use Rattle.sym_parts.specs.Laws.Each.{EachInFact}
use Rattle.sym_pure.specs.Equations.{read_through, solved}

solved-each : (P : Exp → Type 0) (x : ℕ) (facts : List Fact) → All (EachInFact P) facts → P (Var x) → P (solved facts x)
solved-each P x [] each h = h
solved-each P x (Eq (Var y) right ∷ facts) each h =
    by_test (y == x) (solved-each P x facts (All-tail (EachInFact P) (Eq (Var y) right) facts each) h)
  where
    by_test : (b : Bool) → P (solved facts x) → P (if b then right else solved facts x)
    by_test true later = (All-head (EachInFact P) (Eq (Var y) right) facts each).1
    by_test false later = later
solved-each P x (Eq (Const n) right ∷ facts) each h = solved-each P x facts (All-tail (EachInFact P) (Eq (Const n) right) facts each) h
solved-each P x (Ne left right ∷ facts) each h = solved-each P x facts (All-tail (EachInFact P) (Ne left right) facts each) h

pub read_through-each : (P : Exp → Type 0) (facts : List Fact) → All (EachInFact P) facts → (e : Exp) → P e → P (read_through facts e)
read_through-each P facts each (Var x) h = solved-each P x facts each h
read_through-each P facts each (Const n) h = h
