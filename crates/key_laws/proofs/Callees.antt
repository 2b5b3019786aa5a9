-- What an answer has for a procedure of its key, as a callee.
use Rattle.std.proofs.Common.{◌≡◌, ◌≢◌, ℕ, suc, ◌+◌, ◌<◌, nat_eq, List, [], ◌∷◌, length, slice_get, get_or, Some, None, Option, refl, sym}
use Rattle.std.proofs.Common.{ap, ◌∙◌, subst, find, arith, AllPairs}
use Rattle.std.specs.Cmp.Lexicographic.{pointwise}
use Rattle.std.specs.Option.{option_map, unwrap_or}
use Rattle.std.proofs.lemmas.Cmp.{nat_list_cmp_total}
use Rattle.std.proofs.lemmas.List.Elements.{All-nil, All-cons, All-weaker}
use Rattle.std.proofs.lemmas.List.Kept.{AllPairs-cons}
use Rattle.std.proofs.lemmas.Option.{slice_get-get_or, get_or_from_slice_get, slice_get_within}
use Rattle.shape_data.specs.Exact.{IsExactTest, row_same, number_same}
use Rattle.shape_data.specs.declared.answer.ProcSummary.{ProcSummary}
use Rattle.shape_data.specs.declared.program.Flow.{Flow}
use Rattle.shape_data.specs.WellFormed.{AreInNameOrder, IsCallee, IsFlow, IsSpec, IsSummary}
use Rattle.sym_parts.proofs.ShapesLemmas.ContainingShapes.{spec-carries}
use Rattle.component_keys.proofs.Basics.{found, some_same}
use Rattle.call_components.proofs.Graphs.{differ_at}
use Rattle.claim_laws.proofs.Invariant.{all_at}
use Rattle.key_laws.specs.Composing.{AnswersMakeCallees}
use Rattle.key_laws.proofs.Elements.{pairs_first, pairs_none, pairs_one, pairs_weaker, place_of_contained}
use Rattle.key_laws.proofs.Rising.{IsBelow, below_differ}

-- where each name is below the next one's, each is below all later ones
order_pairs : (flows : List Flow) → AreInNameOrder flows → AllPairs (λ (one other : Flow). IsBelow one.name other.name) flows
order_pairs [] ordered = pairs_none (λ (one other : Flow). IsBelow one.name other.name)
order_pairs (x ∷ []) ordered = pairs_one (λ (one other : Flow). IsBelow one.name other.name) x
order_pairs (x ∷ y ∷ flows) ordered =
    let rest : AllPairs (λ (one other : Flow). IsBelow one.name other.name) (y ∷ flows) =
    order_pairs (y ∷ flows)
    (λ k d lt.
    let e : suc k + 1 ≡ suc (k + 1) = omega arith in
    subst (λ n. IsBelow (get_or (y ∷ flows) k d).name (get_or (x ∷ y ∷ flows) n d).name) e (ordered (suc k) d (omega (arith, lt)))) in
    let first : IsBelow x.name y.name = ordered 0 x (omega arith) in
    AllPairs-cons (λ (one other : Flow). IsBelow one.name other.name) x (y ∷ flows)
    (All-cons (λ (other : Flow). IsBelow x.name other.name) y flows first
    (All-weaker (λ (other : Flow). IsBelow y.name other.name) (λ (other : Flow). IsBelow x.name other.name)
    (λ z more. nat_list_cmp_total.trans x.name y.name z.name first more) flows
    (pairs_first (λ (one other : Flow). IsBelow one.name other.name) y flows rest))) rest

pub ordered_same : (flows : List Flow) → AreInNameOrder flows → (i j : ℕ) (one other : Flow) → slice_get flows i ≡ Some one →
    slice_get flows j ≡ Some other → one.name ≡ other.name → one ≡ other
ordered_same flows ordered i j one other at at' same =
    let place : i ≡ j =
    differ_at (λ (flow : Flow). flow.name) flows
    (pairs_weaker (λ (a b : Flow). IsBelow a.name b.name) (λ (a b : Flow). a.name ≢ b.name)
    (λ a b less. below_differ a.name b.name less) flows (order_pairs flows ordered))
    i j one other at at' same in
    some_same (sym at ∙ ap (slice_get flows) place ∙ at')

names_exact : IsExactTest (pointwise nat_eq)
names_exact = row_same number_same

pub answers_are_callees : AnswersMakeCallees
answers_are_callees limits structs key answer flow is_key is_answer contains member =
    by_found (find (λ (summary : ProcSummary). pointwise nat_eq summary.name flow.name) answer.procs) refl
  where
    place : (j : ℕ) × (slice_get key.procs j ≡ Some flow)
    place = place_of_contained key.procs flow member

    is_flow : IsFlow key.structs flow
    is_flow = all_at (IsFlow key.structs) key.procs place.0 flow is_key.procs.each place.1

    by_found : (o : Option ProcSummary) → find (λ (summary : ProcSummary). pointwise nat_eq summary.name flow.name) answer.procs ≡ o →
        IsCallee limits structs
        (record {
          name = flow.name;
          params = flow.params;
          specs = unwrap_or (option_map (λ (summary : ProcSummary). summary.specs) o) [];
        })
    by_found None e =
        record {
          name = is_flow.name;
          params = is_flow.params;
          few = omega arith;
          specs = All-nil (IsSpec limits structs (length flow.params));
        }
    by_found (Some summary) e =
        let there = found (λ (one : ProcSummary). pointwise nat_eq one.name flow.name) answer.procs summary e in
        let named : summary.name ≡ flow.name = (names_exact summary.name flow.name).0 there.0 in
        let within : there.1.0 < length answer.procs = slice_get_within answer.procs there.1.0 summary there.1.1 in
        let lt : there.1.0 < length key.procs = omega (arith, within, is_answer.one_each) in
        let own : IsSummary limits key.structs (get_or key.procs there.1.0 flow) summary =
        subst (IsSummary limits key.structs (get_or key.procs there.1.0 flow))
        (get_or_from_slice_get answer.procs there.1.0 summary summary there.1.1) (is_answer.each there.1.0 flow summary lt) in
        let same : get_or key.procs there.1.0 flow ≡ flow =
        ordered_same key.procs is_key.procs.ordered there.1.0 place.0 (get_or key.procs there.1.0 flow) flow
        (slice_get-get_or key.procs there.1.0 flow lt) place.1 (sym own.name ∙ named) in
        let is : IsSummary limits key.structs flow summary = subst (λ (f : Flow). IsSummary limits key.structs f summary) same own in
        record {
          name = is_flow.name;
          params = is_flow.params;
          few = is.few;
          specs =
              All-weaker (IsSpec limits key.structs (length flow.params)) (IsSpec limits structs (length flow.params))
              (spec-carries structs key.structs contains limits (length flow.params)) summary.specs is.specs;
        }
