-- Where two ways of answering keys differ in marks alone, they know the same keys and the same summaries.
use Rattle.std.proofs.Common.{◌≡◌, false, List, [], ◌∷◌, ◌++◌, map, slice_get, Some, None, Option, refl, sym, ap, ap₂, ◌∙◌, find}
use Rattle.std.proofs.Common.{filter_map, option_map, bytes_eq}
use Rattle.std.proofs.lemmas.List.{map-append}
use Rattle.shape_data.specs.declared.answer.Answer.{Answer}
use Rattle.shape_data.specs.declared.answer.Key.{Key}
use Rattle.shape_data.specs.declared.answer.ProcSummary.{ProcSummary}
use Rattle.shape_data.specs.declared.program.Proc.{Proc}
use Rattle.shape_data.specs.declared.program.Program.{Program}
use Rattle.shape_data.specs.declared.program.StructDef.{StructDef}
use Rattle.component_keys.specs.Keys.{Component, Outer, key_over, program_components}
use Rattle.component_keys.proofs.Basics.{at_map, not_none, some_same}
use Rattle.claim_core.specs.Views.{Solution}
use Rattle.solve_laws.specs.Solving.{solve}
use Rattle.bottom_up.specs.BottomUp.{all_summaries, bottom_up, callee_by, callee_from, key_after, known_by, known_over, summaries_for}
use Rattle.loaded_answers.specs.Lookup.{lookup}
use Rattle.bottom_up.specs.Laws.{HonestIsFromNothing, IsHonest, unmarked}
use Rattle.bottom_up.proofs.LookedUp.{looked_up}

-- the summaries of an answer
abbrev procs_in : Answer → List ProcSummary
procs_in answer = answer.procs

-- an answer of these summaries, without the mark
abbrev plain : List ProcSummary → Answer
plain procs = record { stored = false; procs = procs }

abbrev plain_entry : Key → List ProcSummary → Solution
plain_entry key procs = record { key = key; answer = plain procs }

-- ---- keys hold specs, and no marks

callee_same : (outer : Outer) (one other : Option Answer) → option_map procs_in one ≡ option_map procs_in other →
    callee_by outer one ≡ callee_by outer other
callee_same outer None None same = refl
callee_same outer None (Some b) same = not_none same
callee_same outer (Some a) None same = not_none (sym same)
callee_same outer (Some a) (Some b) same = ap (λ procs. callee_by outer (Some (plain procs))) (some_same same)

callees_same : (answers others : List Answer) → map procs_in answers ≡ map procs_in others → (outer : List Outer) →
    map (callee_from answers) outer ≡ map (callee_from others) outer
callees_same answers others same [] = refl
callees_same answers others same (first ∷ rest) =
    let there : option_map procs_in (slice_get answers first.component) ≡ option_map procs_in (slice_get others first.component) =
    sym (at_map procs_in answers first.component) ∙ ap (λ all. slice_get all first.component) same
    ∙ at_map procs_in others first.component in
    ap₂ (λ one more. one ∷ more) (callee_same first (slice_get answers first.component) (slice_get others first.component) there)
    (callees_same answers others same rest)

-- ---- what is known

module _ (one other : Key → Answer) (same : (key : Key) → (one key).procs ≡ (other key).procs) (structs : List StructDef) where
  known_same : (parts : List Component) (before after : List Answer) → map procs_in before ≡ map procs_in after →
      map unmarked (known_over one structs parts before) ≡ map unmarked (known_over other structs parts after)
  known_same [] before after agree = refl
  known_same (part ∷ parts) before after agree =
      let keys : key_after structs before part ≡ key_after structs after part =
      ap (key_over structs part.flows) (callees_same before after agree part.outer) in
      let procs : (one (key_after structs before part)).procs ≡ (other (key_after structs after part)).procs =
      same (key_after structs before part) ∙ ap (λ key. (other key).procs) keys in
      let longer : map procs_in (before ++ one (key_after structs before part) ∷ [])
      ≡ map procs_in (after ++ other (key_after structs after part) ∷ []) =
      map-append procs_in before (one (key_after structs before part) ∷ []) ∙ ap₂ (λ front last. front ++ last ∷ []) agree procs ∙
      sym (map-append procs_in after (other (key_after structs after part) ∷ [])) in
      ap₂ (λ first rest. first ∷ rest) (ap₂ plain_entry keys procs)
      (known_same parts (before ++ one (key_after structs before part) ∷ []) (after ++ other (key_after structs after part) ∷ []) longer)

summaries_unmarked : (known : List Solution) → all_summaries (map unmarked known) ≡ all_summaries known
summaries_unmarked [] = refl
summaries_unmarked (one ∷ known) = ap (λ rest. one.answer.procs ++ rest) (summaries_unmarked known)

-- the summaries are those of the entries without marks
summaries_same : (known others : List Solution) (procs : List Proc) → map unmarked known ≡ map unmarked others →
    summaries_for known procs ≡ summaries_for others procs
summaries_same known others procs same =
    ap (λ (all : List ProcSummary). filter_map
    (λ (proc : Proc). find (λ (summary : ProcSummary). bytes_eq summary.name proc.flow.name) all) procs)
    (sym (summaries_unmarked known) ∙ ap all_summaries same ∙ summaries_unmarked others)

-- ---- honest entries

looked_up_same : (loaded : List Solution) → IsHonest loaded → (key : Key) → (lookup solve loaded key).procs ≡ (lookup solve [] key).procs
looked_up_same loaded honest key =
    looked_up (λ (one : Solution). one.answer.procs ≡ (solve one.key).procs) loaded honest (λ k answer. answer.procs ≡ (solve k).procs)
    (λ one own. own) key refl

known_from_nothing : (loaded : List Solution) → IsHonest loaded → (program : Program) →
    map unmarked (bottom_up loaded program) ≡ map unmarked (bottom_up [] program)
unfolding known_by
known_from_nothing loaded honest program =
    known_same (lookup solve loaded) (lookup solve []) (looked_up_same loaded honest)
    program.structs (program_components program) [] [] refl

pub honest_known : HonestIsFromNothing
honest_known loaded honest program =
    let same = known_from_nothing loaded honest program in
    (summaries_same (bottom_up loaded program) (bottom_up [] program) program.procs same, same)
