-- The analysis of a procedure of a well-formed key is well formed, whatever well-formed specs its own procedures have.
use Rattle.std.specs.Prelude.{◌≡◌, ℕ, ◌≤◌, Bool, List, [], ◌∷◌, ◌++◌, length, map, slice_index_or, All, Contains}
use Rattle.std.proofs.Common.{sym, ap, ◌∙◌, arith}
use Rattle.std.proofs.lemmas.List.Elements.{All-append, All-cons, All-contains, All-contains_itself, All-head, All-nil, All-tail}
use Rattle.std.proofs.lemmas.List.Elements.{All-weaker}
use Rattle.shape_data.specs.declared.answer.Callee.{Callee}
use Rattle.shape_data.specs.declared.answer.Key.{Key}
use Rattle.shape_data.specs.declared.program.Flow.{Flow}
use Rattle.shape_data.specs.declared.program.StructDef.{StructDef}
use Rattle.shape_data.specs.declared.symbolic.Spec.{Spec}
use Rattle.shape_data.specs.WellFormed.{FitCalls, IsCallee, IsFlow, IsKey, IsSpec}
use Rattle.solve_laws.specs.Certificates.Conditions.{IsTask}
use Rattle.solve_laws.specs.Certificates.Limits.{analysable}
use Rattle.solve_laws.proofs.CertificatesLemmas.SoundnessLaws.{fits-both}
use Rattle.solve_laws.specs.Standing.{AreOwnSpecs, AreTasks}
use Rattle.solve_laws.specs.Tables.{own_with, table_with, task_under, with_specs}

-- a callee is a procedure of the key with well-formed specs
pub record IsOwn (key : Key) (callee : Callee) : Type 0 where
  pub flow : Flow
  pub stands : Contains key.procs flow
  pub name : callee.name ≡ flow.name
  pub params : callee.params ≡ flow.params
  pub few : length callee.specs ≤ 4294967295
  pub specs : All (IsSpec analysable key.structs (length callee.params)) callee.specs

pub none-are-own : (structs : List StructDef) (flows : List Flow) → AreOwnSpecs structs flows []
none-are-own structs [] = tt
none-are-own structs (flow ∷ flows) = tt

pub empty-are-own : (structs : List StructDef) (flows : List Flow) → AreOwnSpecs structs flows (map (λ flow. []) flows)
empty-are-own structs [] = tt
empty-are-own structs (flow ∷ flows) =
    (record { few = omega arith; each = All-nil (IsSpec analysable structs (length flow.params)) }, empty-are-own structs flows)

module _ (key : Key) where
  own-among : (flows : List Flow) (specs : List (List Spec)) → All (Contains key.procs) flows → AreOwnSpecs key.structs flows specs →
      All (IsOwn key) (own_with flows specs)
  own-among [] specs stand are = All-nil (IsOwn key)
  own-among (flow ∷ flows) [] stand are = All-nil (IsOwn key)
  own-among (flow ∷ flows) (one ∷ specs) stand are =
      All-cons (IsOwn key) (with_specs flow one) (own_with flows specs)
      (record {
        flow = flow;
        stands = All-head (Contains key.procs) flow flows stand;
        name = λ i. flow.name;
        params = λ i. flow.params;
        few = are.0.few;
        specs = are.0.each;
      })
      (own-among flows specs (All-tail (Contains key.procs) flow flows stand) are.1)

  pub own-are : (specs : List (List Spec)) → AreOwnSpecs key.structs key.procs specs → All (IsOwn key) (own_with key.procs specs)
  own-are specs are = own-among key.procs specs (All-contains_itself key.procs) are

  module _ (is_key : IsKey analysable key) (own : List Callee) (owns : All (IsOwn key) own) where
    callee-good : (callee : Callee) → IsOwn key callee → IsCallee analysable key.structs callee
    callee-good callee is =
        let good : IsFlow key.structs is.flow = All-contains (IsFlow key.structs) key.procs is.flow is_key.procs.each is.stands in
        record { name = rw is.name good.name; params = rw is.params good.params; few = is.few; specs = is.specs }

    good-callees : All (IsCallee analysable key.structs) (own ++ key.callees)
    good-callees =
        All-append (IsCallee analysable key.structs) own key.callees
        (All-weaker (IsOwn key) (IsCallee analysable key.structs) callee-good own owns) is_key.callees.each

    as_callees : (name : List ℕ) (args : ℕ) → All (λ (one : Flow). one.name ≡ name → length one.params ≡ args) key.procs →
        All (λ (one : Callee). one.name ≡ name → length one.params ≡ args) own
    as_callees name args all =
        All-weaker (IsOwn key) (λ (one : Callee). one.name ≡ name → length one.params ≡ args)
        (λ one is named. ap length is.params
        ∙ All-contains (λ (it : Flow). it.name ≡ name → length it.params ≡ args) key.procs is.flow all is.stands
        (sym is.name ∙ named)) own owns

    calls-fit : (flow : Flow) → Contains key.procs flow →
        FitCalls (λ (one : Callee). one.name) (λ (one : Callee). one.params) (own ++ key.callees) flow
    calls-fit flow stands at node below =
        fits-both key.procs key.callees own (slice_index_or flow.nodes at node).cmd as_callees
        (All-contains
        (FitCalls (λ (it : Flow). it.name) (λ (it : Flow). it.params) key.procs) key.procs flow is_key.calls.own stands at node below)
        (All-contains
        (FitCalls (λ (it : Callee). it.name)
        (λ (it : Callee). it.params) key.callees) key.procs flow is_key.calls.outer stands at node below)

    pub task-good : (cut : Bool) (flow : Flow) → Contains key.procs flow →
        IsTask (task_under key (record { own = own; outer = key.callees; cut = cut }) flow)
    task-good cut flow stands = record {
      structs = is_key.structs;
      flow = All-contains (IsFlow key.structs) key.procs flow is_key.procs.each stands;
      table = good-callees;
      fits = calls-fit flow stands;
    }

  pub task-with : IsKey analysable key → (specs : List (List Spec)) (cut : Bool) (flow : Flow) → AreOwnSpecs key.structs key.procs specs →
      Contains key.procs flow →
      IsTask (task_under key (table_with key specs cut) flow)
  task-with is_key specs cut flow are stands = task-good is_key (own_with key.procs specs) (own-are specs are) cut flow stands

  pub tasks-with : IsKey analysable key → (specs : List (List Spec)) (cut : Bool) → AreOwnSpecs key.structs key.procs specs →
      AreTasks key (table_with key specs cut)
  tasks-with is_key specs cut are =
      All-weaker (Contains key.procs) (λ (flow : Flow). IsTask (task_under key (table_with key specs cut) flow))
      (λ flow stands. task-with is_key specs cut flow are stands) key.procs
      (All-contains_itself key.procs)
