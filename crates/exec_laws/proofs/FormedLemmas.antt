-- What strict execution answers is in normal and canonical form.
use Rattle.std.specs.Prelude.{◌≡◌, ℕ, List, [], ◌∷◌, filter_map, length, option_map, slice_get, All}
use Rattle.std.specs.List.{cons_option}
use Rattle.std.specs.declared.option.Option.{Option}
use Rattle.std.specs.declared.option.Option.TheVariants.{None, Some}
use Rattle.std.proofs.Common.{refl, ap, subst}
use Rattle.std.proofs.lemmas.List.Elements.{All-cons, All-head, All-nil, All-tail}
use Rattle.shape_data.specs.declared.answer.Fault.{Fault}
use Rattle.shape_data.specs.declared.program.Node.{Node}
use Rattle.shape_data.specs.declared.program.StructDef.{StructDef}
use Rattle.shape_data.specs.declared.symbolic.Post.{Post}
use Rattle.shape_data.specs.declared.symbolic.SymState.{SymState}
use Rattle.sym_canon.specs.declared.parts.Pair.{Pair}
use Rattle.sym_pure.specs.declared.parts.Normal.{Normal}
use Rattle.sym_pure.specs.declared.parts.Normal.TheVariants.{Is, Contradiction}
use Rattle.sym_pure.specs.Normal.{normal}
use Rattle.sym_pure.proofs.FormLaws.{form_is_normal}
use Rattle.exec_laws.specs.declared.parts.Case.{Case}
use Rattle.exec_laws.specs.declared.parts.Case.TheVariants.{On, Leaves, Drops}
use Rattle.exec_laws.specs.declared.parts.Mode.TheVariants.{Strict}
use Rattle.exec_laws.specs.declared.parts.Step.TheVariants as step
use Rattle.exec_laws.specs.declared.parts.Table.{Table}
use Rattle.exec_laws.specs.Execution.{answer, cases_at, cases_of, exit_of, first_drop, formed_case, line_of, next_of, nothing_missing}
use Rattle.exec_laws.specs.Execution.{post_of, setting_of}
use Rattle.exec_laws.specs.Laws.{AnswersAreForms, IsForm, IsFormOfPost}
use Rattle.sym_forms.specs.Forms.{of_form}
use Rattle.exec_laws.specs.Pairs.{Setting, canonical}

module _ (params : ℕ) (structs : List StructDef) (table : Table) where
  abbrev strict : Setting
  strict = record { mode = Strict; params = params; structs = structs; table = table }

  -- a case whose pair is in these forms
  abbrev IsFormed : Case → Type 0
  IsFormed (On node pair) = IsForm params pair.state
  IsFormed (Leaves pair) = IsForm params pair.state
  IsFormed (Drops cause) = Unit {0}

  formed-cons : (case : Case) (cases : List Case) → All IsFormed cases → All IsFormed (cons_option (formed_case strict case) cases)
  formed-cons (On node pair) cases others = by_form (normal pair.state) refl
    where
      by_form : (form : Normal) → normal pair.state ≡ form →
          All IsFormed
          (cons_option
          (option_map (On node) (option_map (canonical Strict params) (of_form (λ one. record pair { state = one }) form))) cases)
      by_form (Is form) is = All-cons IsFormed _ cases (form, form_is_normal pair.state form is, refl) others
      by_form Contradiction is = others
  formed-cons (Leaves pair) cases others = by_form (normal pair.state) refl
    where
      by_form : (form : Normal) → normal pair.state ≡ form →
          All IsFormed
          (cons_option (option_map Leaves (option_map (canonical Strict params) (of_form (λ one. record pair { state = one }) form))) cases)
      by_form (Is form) is = All-cons IsFormed _ cases (form, form_is_normal pair.state form is, refl) others
      by_form Contradiction is = others
  formed-cons (Drops cause) cases others = All-cons IsFormed (Drops cause) cases tt others

  formed-all : (cases : List Case) → All IsFormed (filter_map (formed_case strict) cases)
  formed-all [] = All-nil IsFormed
  formed-all (case ∷ cases) = formed-cons case (filter_map (formed_case strict) cases) (formed-all cases)

  formed-at : (pair : Pair) (node : Option Node) → All IsFormed (cases_at strict pair node)
  formed-at pair None = All-nil IsFormed
  formed-at pair (Some node) = formed-all (cases_of strict pair node.cmd)

  nexts-formed : (cases : List Case) → All IsFormed cases → All (λ (next : ℕ × SymState). IsForm params next.1) (filter_map next_of cases)
  nexts-formed [] each = All-nil (λ (next : ℕ × SymState). IsForm params next.1)
  nexts-formed (On node pair ∷ cases) each =
      All-cons (λ (next : ℕ × SymState). IsForm params next.1) (node, pair.state) (filter_map next_of cases)
      (All-head IsFormed (On node pair) cases each) (nexts-formed cases (All-tail IsFormed (On node pair) cases each))
  nexts-formed (Leaves pair ∷ cases) each = nexts-formed cases (All-tail IsFormed (Leaves pair) cases each)
  nexts-formed (Drops cause ∷ cases) each = nexts-formed cases (All-tail IsFormed (Drops cause) cases each)

  exits-formed : (cases : List Case) → All IsFormed cases → All (IsFormOfPost params) (filter_map exit_of cases)
  exits-formed [] each = All-nil (IsFormOfPost params)
  exits-formed (On node pair ∷ cases) each = exits-formed cases (All-tail IsFormed (On node pair) cases each)
  exits-formed (Leaves pair ∷ cases) each =
      let form = All-head IsFormed (Leaves pair) cases each in
      All-cons (IsFormOfPost params) (post_of pair.state) (filter_map exit_of cases) (form.0, form.1, ap post_of form.2)
      (exits-formed cases (All-tail IsFormed (Leaves pair) cases each))
  exits-formed (Drops cause ∷ cases) each = exits-formed cases (All-tail IsFormed (Drops cause) cases each)

  answer-formed : (line : ℕ) (cases : List Case) (drop : Option Fault) → All IsFormed cases →
      (nexts : List (ℕ × SymState)) (exits : List Post) → answer line cases drop ≡ step.Next nexts exits →
      All (λ (next : ℕ × SymState). IsForm params next.1) nexts × All (IsFormOfPost params) exits
  answer-formed line cases None each nexts exits is =
      let same_nexts : filter_map next_of cases ≡ nexts = cc in
      let same_exits : filter_map exit_of cases ≡ exits = cc in (
        subst (λ some. All (λ (next : ℕ × SymState). IsForm params next.1) some) same_nexts (nexts-formed cases each),
        subst
            (λ some. All (IsFormOfPost params) some) same_exits (exits-formed cases each),
      )
  answer-formed line cases (Some cause) each nexts exits is = cc

pub answers_are_forms : AnswersAreForms
answers_are_forms flow structs at state table nexts exits is =
    answer-formed (length flow.params) structs table (line_of (slice_get flow.nodes at))
    (cases_at (setting_of Strict flow structs table) (nothing_missing state) (slice_get flow.nodes at))
    (first_drop (cases_at (setting_of Strict flow structs table) (nothing_missing state) (slice_get flow.nodes at)))
    (formed-at (length flow.params) structs table (nothing_missing state) (slice_get flow.nodes at)) nexts exits is
