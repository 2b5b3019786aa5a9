-- The form of a pair with low variables has low variables.
use Rattle.std.specs.Prelude.{◌≡◌, ℕ, Bool, true, false, not, if◌then◌else◌, List, All}
use Rattle.std.specs.List.{remove}
use Rattle.std.specs.Option.{IfSome}
use Rattle.std.specs.declared.option.Option.{Option}
use Rattle.std.proofs.Common.{refl}
use Rattle.std.proofs.lemmas.List.Elements.{All-filter, All-nil, All-push}
use Rattle.shape_data.specs.declared.symbolic.Atom.{Atom}
use Rattle.shape_data.specs.declared.symbolic.Fact.{Fact}
use Rattle.shape_data.specs.declared.symbolic.SymHeap.{SymHeap}
use Rattle.shape_data.specs.declared.symbolic.SymState.{SymState}
use Rattle.sym_parts.specs.Laws.Each.{EachInAtom, EachInFact, EachInHeap, EachInState}
use Rattle.sym_parts.specs.Laws.Mapped.{on_state}
use Rattle.sym_parts.proofs.LawsLemmas.EachLemmas.{each-on_atoms, each-on_exps, each-on_facts}
use Rattle.sym_canon.specs.Canonical.{without_locals}
use Rattle.sym_canon.specs.declared.parts.Pair.{Pair}
use Rattle.sym_pure.specs.declared.parts.Normal.{Normal}
use Rattle.sym_pure.specs.declared.parts.Normal.TheVariants.{Is, Contradiction}
use Rattle.sym_pure.specs.Equations.{read_through}
use Rattle.sym_pure.specs.Normal.{normal}
use Rattle.sym_pure.proofs.EachLaws.{All-remove, form_has_no_other}
use Rattle.sym_pure.proofs.ReadThrough.{read_through-each}
use Rattle.sym_forms.specs.Forms.{of_form, of_form_some}
use Rattle.sym_forms.specs.PairForms.{is_further_equation, pair_of, with_missing}
use Rattle.exec_laws.specs.declared.parts.Mode.{Mode}
use Rattle.exec_laws.specs.declared.parts.Mode.TheVariants.{Strict, Search}
use Rattle.exec_laws.specs.Pairs.{Setting, atoms_of, formed, is_logical_fact, where_true, with_atoms, with_fact, with_missing_fact}
use Rattle.exec_laws.specs.Pairs.{with_state_fact}
use Rattle.exec_cells.specs.Sizes.{is_low, IsLow, IsLowFact, IsLowPair}

-- ---- forms

low-on_state : (facts : List Fact) (state : SymState) → All (EachInFact IsLow) facts → EachInState IsLow state
    → EachInState IsLow (on_state (read_through facts) state)
low-on_state facts state each low = record {
  locals = each-on_exps IsLow IsLow (read_through facts) (read_through-each IsLow facts each) state.locals low.locals;
  heap = record {
    facts = each-on_facts IsLow IsLow (read_through facts) (read_through-each IsLow facts each) state.heap.pure low.heap.facts;
    atoms = each-on_atoms IsLow IsLow (read_through facts) (read_through-each IsLow facts each) state.heap.spatial low.heap.atoms;
  };
}

-- what is made of a normal form
abbrev IfLow : Option Pair → Type 0
IfLow made = IfSome made IsLowPair

low-formed : (mode : Mode) (params : ℕ) (pair : Pair) → IsLowPair pair → IfLow (formed mode params pair)
low-formed Strict params pair low = by_form (normal pair.state) refl
  where
    by_form : (form : Normal) → normal pair.state ≡ form → IfLow (of_form (λ one. record pair { state = one }) form)
    by_form (Is form) is = record { missing = low.missing; state = form_has_no_other is_low pair.state form is low.state }
    by_form Contradiction is = tt
low-formed Search params pair low = by_missing (normal (without_locals pair.missing)) refl
  where
    by_form : (missing : SymHeap) → EachInHeap IsLow missing → (form : Normal)
        → normal (on_state (read_through missing.pure) pair.state) ≡ form → IfLow (of_form (pair_of params missing) form)
    by_form missing each (Is form) is = record {
      missing =
          record {
            facts = All-filter (λ fact. not (is_further_equation params fact)) (EachInFact IsLow) missing.pure each.facts;
            atoms = each.atoms;
          };
      state =
          form_has_no_other is_low (on_state (read_through missing.pure) pair.state) form is
          (low-on_state missing.pure pair.state each.facts low.state);
    }
    by_form missing each Contradiction is = tt

    by_missing : (form : Normal) → normal (without_locals pair.missing) ≡ form
        → IfLow (of_form_some (λ missing. with_missing params pair.state missing.heap) form)
    by_missing (Is form) is =
        let each : EachInState IsLow form =
        form_has_no_other is_low (without_locals pair.missing) form is (record { locals = All-nil IsLow; heap = low.missing }) in
        by_form form.heap each.heap (normal (on_state (read_through form.heap.pure) pair.state)) refl
    by_missing Contradiction is = tt

-- ---- facts

low-missing_fact : (mode : Mode) (fact : Fact) (pair : Pair) → IsLowPair pair → IsLowFact fact
    → IsLowPair (with_missing_fact mode fact pair)
low-missing_fact Strict fact pair low is = low
low-missing_fact Search fact pair low is = by_test (is_logical_fact fact)
  where
    by_test : (b : Bool) → IsLowPair (if b then record pair { missing = with_fact fact pair.missing } else pair)
    by_test true =
        record {
          missing = record {
            facts = All-push (EachInFact IsLow) pair.missing.pure fact low.missing.facts is;
            atoms = low.missing.atoms;
          };
          state = low.state;
        }
    by_test false = low

low-state_fact : (fact : Fact) (pair : Pair) → IsLowPair pair → IsLowFact fact → IsLowPair (with_state_fact fact pair)
low-state_fact fact pair low is = record {
  missing = low.missing;
  state =
      record {
        locals = low.state.locals;
        heap =
            record { facts = All-push (EachInFact IsLow) pair.state.heap.pure fact low.state.heap.facts is; atoms = low.state.heap.atoms };
      };
}

-- the case in which a fact is true
pub low_where_true : (setting : Setting) (fact : Fact) (pair : Pair) → IsLowPair pair → IsLowFact fact
    → IfSome (where_true setting fact pair) IsLowPair
low_where_true setting fact pair low is =
    low-formed setting.mode setting.params (with_state_fact fact (with_missing_fact setting.mode fact pair))
    (low-state_fact fact (with_missing_fact setting.mode fact pair) (low-missing_fact setting.mode fact pair low is) is)

-- ---- atoms

-- the pair with an atom taken away
pub low_without : (place : ℕ) (atoms : List Atom) (pair : Pair) → atoms ≡ remove (atoms_of pair) place → IsLowPair pair
    → IsLowPair (with_atoms atoms pair)
low_without place atoms pair is low = record {
  missing = low.missing;
  state =
      record {
        locals = low.state.locals;
        heap =
            record {
              facts = low.state.heap.facts;
              atoms = rw is (All-remove (EachInAtom IsLow) pair.state.heap.spatial place low.state.heap.atoms);
            };
      };
}
