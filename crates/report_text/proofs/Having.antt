-- Summaries that members of a list have.
use Rattle.std.proofs.Common.{◌≡◌, ℕ, zero, suc, ◌+◌, ◌<◌, List, [], ◌∷◌, ◌++◌, length, map, get_or, ap, ◌∙◌, arith}
use Rattle.std.specs.Prelude.{All}
use Rattle.std.proofs.lemmas.Grind.{flat_map-append}
use Rattle.std.proofs.lemmas.List.{append-nil, length-append, map-id}
use Rattle.std.proofs.lemmas.List.Elements.{All-head, All-tail}
use Rattle.shape_data.specs.declared.answer.ProcSummary.{ProcSummary}
use Rattle.std.specs.List.{flat_map}
use Rattle.report_text.specs.Report.{spec_count}

-- a summary has itself
pub ruleset its_own = (map-id)

-- the specs of one summary more
pub spec_more : (summaries : List ProcSummary) (one : ProcSummary)
    → spec_count (summaries ++ one ∷ []) ≡ spec_count summaries + length one.specs
spec_more summaries one =
    ap length (flat_map-append (λ (summary : ProcSummary). summary.specs) summaries (one ∷ [])) ∙
    length-append (flat_map (λ (summary : ProcSummary). summary.specs) summaries) (one.specs ++ []) ∙
    ap (λ specs. spec_count summaries + length specs) (append-nil one.specs)

-- what holds of all of them holds of the one at a place
pub its_holds : {A : Type 0} (P : ProcSummary → Type 0) (its : A → ProcSummary) (all : List A) (place : ℕ) (other : A) → place < length all
    → All P (map its all) → P (its (get_or all place other))
its_holds P its [] place other lt holds = absurd (omega (arith, lt))
its_holds P its (one ∷ all) zero other lt holds = All-head P (its one) (map its all) holds
its_holds P its (one ∷ all) (suc place) other lt holds =
    its_holds P its all place other (omega (arith, lt)) (All-tail P (its one) (map its all) holds)
