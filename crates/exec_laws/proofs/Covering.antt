-- Cases that cover a command: more of them cover it too, and those of each case of expose.
use Rattle.std.specs.Prelude.{ℕ, ℤ, List, [], ◌∷◌, ◌++◌}
use Rattle.std.proofs.Common.{inl, inr}
use Rattle.shape_data.specs.declared.answer.Callee.{Callee}
use Rattle.shape_data.specs.declared.machine.Cell.{Cell}
use Rattle.shape_data.specs.declared.program.Cmd.{Cmd}
use Rattle.shape_data.specs.declared.program.Program.{Program}
use Rattle.std.specs.declared.option.Option.{Option}
use Rattle.sym_canon.specs.declared.parts.Pair.{Pair}
use Rattle.shape_data.specs.declared.symbolic.Atom.{Atom}
use Rattle.shape_data.specs.Meaning.{MeetsState}
use Rattle.sound_laws.proofs.LeadingLemmas.{Does-weaker}
use Rattle.exec_laws.specs.declared.parts.Case.{Case}
use Rattle.exec_laws.specs.declared.parts.Case.TheVariants.{Drops}
use Rattle.exec_laws.specs.declared.parts.Exposed.{Exposed}
use Rattle.exec_laws.specs.declared.parts.Exposed.TheVariants.{Shown, Lacking}
use Rattle.exec_laws.specs.Cells.{cell_place, at_place, for_each_case}
use Rattle.exec_laws.specs.Meanings.{Cover, GoesOn, HasLeft, IsDropped, IsExposed, SomeOf}
use Rattle.exec_laws.proofs.SomeOf.{some-left, some-right}

module _ (program : Program) (callees : List Callee) (s : ℕ → ℤ) (locals : List ℤ) (heap : List Cell) (command : Cmd) where
  -- other cases in which all these stand
  pub cover-more : (cases others : List Case) → ((P : Case → Type 0) → SomeOf P cases → SomeOf P others) →
      Cover program callees s locals heap command cases → Cover program callees s locals heap command others
  cover-more cases others more (inl dropped) = inl (more IsDropped dropped)
  cover-more cases others more (inr does) =
      inr (Does-weaker (λ next locals heap. SomeOf (GoesOn program.structs s next locals heap) cases)
      (λ next locals heap. SomeOf (GoesOn program.structs s next locals heap) others)
      (λ value heap. SomeOf (HasLeft program.structs s value heap) cases)
      (λ value heap. SomeOf (HasLeft program.structs s value heap) others)
      (λ next locals heap here. more (GoesOn program.structs s next locals heap) here)
      (λ value heap here. more (HasLeft program.structs s value heap) here) program callees locals heap command does)

  pub cover-left : (cases others : List Case) → Cover program callees s locals heap command cases →
      Cover program callees s locals heap command (cases ++ others)
  cover-left cases others = cover-more cases (cases ++ others) (λ P. some-left P cases others)

  pub cover-right : (cases others : List Case) → Cover program callees s locals heap command others →
      Cover program callees s locals heap command (cases ++ others)
  cover-right cases others = cover-more others (cases ++ others) (λ P. some-right P cases others)

  -- one of the cases of expose is met, and what is done with its cell covers the command
  pub cover-each : (use_atom : Pair → ℕ → Option Atom → Case) (slot : ℕ) →
      ((pair : Pair) → MeetsState program.structs s locals heap pair.state →
      Cover program callees s locals heap command (at_place (use_atom pair) slot pair (cell_place slot pair) ∷ [])) →
      (cases : List Exposed) → SomeOf (IsExposed program.structs s locals heap) cases →
      Cover program callees s locals heap command (for_each_case use_atom slot cases)
  cover-each use_atom slot one [] is = absurd is
  cover-each use_atom slot one (Shown pair ∷ cases) (inl meets) =
      cover-left (at_place (use_atom pair) slot pair (cell_place slot pair) ∷ []) (for_each_case use_atom slot cases) (one pair meets)
  cover-each use_atom slot one (Lacking cause ∷ cases) (inl lacks) = inl (inl tt)
  cover-each use_atom slot one (Shown pair ∷ cases) (inr later) =
      cover-right (at_place (use_atom pair) slot pair (cell_place slot pair) ∷ []) (for_each_case use_atom slot cases)
      (cover-each use_atom slot one cases later)
  cover-each use_atom slot one (Lacking cause ∷ cases) (inr later) =
      cover-right (Drops cause ∷ []) (for_each_case use_atom slot cases) (cover-each use_atom slot one cases later)
