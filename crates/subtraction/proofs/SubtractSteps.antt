-- What subtraction answers is what the match in its mode answers, without what is missing.
use Rattle.std.specs.Prelude.{◌≡◌, ℕ, List}
use Rattle.shape_data.specs.declared.symbolic.Exp.{Exp}
use Rattle.shape_data.specs.declared.symbolic.SymHeap.{SymHeap}
use Rattle.sym_matching.specs.declared.matching.Abd.TheVariants as abd
use Rattle.sym_matching.specs.declared.matching.Sub.TheVariants as sub
use Rattle.sym_matching.specs.declared.matching.Turned.{Turned}
use Rattle.sym_matching.specs.declared.matching.Turned.TheVariants.{On, Stuck}
use Rattle.sym_matching.specs.Matches.{answer_abd, answer_sub}
use Rattle.sym_matching.specs.Steps.{Rules}

pub found-subtracted : (rules : Rules) (b : SymHeap) (turned : Turned) (missing frame : SymHeap) (binding : List (ℕ × Exp))
    → abd.Found missing frame binding ≡ answer_abd rules b turned → sub.Match frame binding ≡ answer_sub rules b turned
found-subtracted rules b (On m) missing frame binding is = cc
found-subtracted rules b (Stuck number) missing frame binding is = cc

pub stuck-subtracted : (rules : Rules) (b : SymHeap) (turned : Turned) (wanted : ℕ) → abd.NoMatch wanted ≡ answer_abd rules b turned
    → sub.NoMatch wanted ≡ answer_sub rules b turned
stuck-subtracted rules b (On m) wanted is = cc
stuck-subtracted rules b (Stuck number) wanted is = cc
