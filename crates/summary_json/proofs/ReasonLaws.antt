-- Faults, budgets and reasons are read as they were written, and only so.
use Rattle.std.specs.Prelude.{◌≡◌, ℕ, if◌then◌else◌, codes, List, [], ◌∷◌}
use Rattle.std.specs.Str.{bytes_eq}
use Rattle.std.specs.declared.option.Option.TheVariants.{None, Some}
use Rattle.std.proofs.Common.{refl, sym, ap, ◌∙◌, subst}
use Rattle.serde_json.specs.Data.{Data, string}
use Rattle.serde_json.specs.Find.{as_null, as_str}
use Rattle.shape_data.specs.declared.answer.Budget.{Budget}
use Rattle.shape_data.specs.declared.answer.Budget.TheVariants as budget
use Rattle.shape_data.specs.declared.answer.Fault.{Fault}
use Rattle.shape_data.specs.declared.answer.Fault.TheVariants as fault
use Rattle.shape_data.specs.declared.answer.Reason.{Reason}
use Rattle.shape_data.specs.declared.answer.Reason.TheVariants as reason
use Rattle.flow_json.specs.Forms.{go_on, option_data, read_count, read_option, tuple}
use Rattle.flow_json.specs.Laws.{IsInverse}
use Rattle.flow_json.proofs.InverseLemmas.{cons_is, count_inverse, go_on_is, go_on_some, last_is, on_word, option_inverse, some_is}
use Rattle.flow_json.proofs.InverseLemmas.{string_only}
use Rattle.flow_json.proofs.TypeLaws.{of_parts}
use Rattle.std.specs.Prelude.{IfSome}
use Rattle.summary_json.specs.Fits.{ReasonFits}
use Rattle.summary_json.specs.Reasons.{budget_data, budget_of, endless_parts, failed_parts, fault_data, fault_of, limit_fault}
use Rattle.summary_json.specs.Reasons.{no_path_parts, read_budget, read_fault, read_reason, reason_data, reason_of, reason_parts}
use Rattle.summary_json.specs.Reasons.{spent_parts}

limit_of_word : (word : List ℕ) (thing : Fault) → limit_fault word ≡ Some thing → fault_data thing ≡ string word
limit_of_word word thing is =
    on_word (fault_data thing ≡ string word) word (codes "cover") (Some fault.Cover)
    (if bytes_eq word (codes "alias") then Some fault.Alias else (if bytes_eq word (codes "states") then Some fault.States else
    (if bytes_eq word (codes "parts") then Some fault.Parts else (if bytes_eq word
    (codes "turns") then Some fault.Turns else None)))) thing is
    (λ same it. subst (λ one. fault_data one ≡ string word) (some_is fault.Cover thing it) (ap string (sym same))) (λ is.
    on_word (fault_data thing ≡ string word) word (codes "alias") (Some fault.Alias)
    (if bytes_eq word (codes "states") then Some fault.States else (if bytes_eq word (codes "parts") then Some fault.Parts else
    (if bytes_eq word (codes "turns") then Some fault.Turns else None))) thing is
    (λ same it. subst (λ one. fault_data one ≡ string word) (some_is fault.Alias thing it) (ap string (sym same))) (λ is.
    on_word (fault_data thing ≡ string word) word (codes "states") (Some fault.States)
    (if bytes_eq word (codes "parts") then Some fault.Parts else (if bytes_eq word
    (codes "turns") then Some fault.Turns else None)) thing is
    (λ same it. subst (λ one. fault_data one ≡ string word) (some_is fault.States thing it) (ap string (sym same))) (λ is.
    on_word (fault_data thing ≡ string word) word (codes "parts") (Some fault.Parts)
    (if bytes_eq word (codes "turns") then Some fault.Turns else None) thing is
    (λ same it. subst (λ one. fault_data one ≡ string word) (some_is fault.Parts thing it) (ap string (sym same))) (λ is.
    on_word (fault_data thing ≡ string word) word (codes "turns") (Some fault.Turns) None thing is
    (λ same it. subst (λ one. fault_data one ≡ string word) (some_is fault.Turns thing it) (ap string (sym same))) (λ is.
    cc)))))

fault_of_word : (word : List ℕ) (thing : Fault) → fault_of word ≡ Some thing → fault_data thing ≡ string word
fault_of_word word thing is =
    on_word (fault_data thing ≡ string word) word (codes "null") (Some fault.Null)
    (if bytes_eq word (codes "unowned") then Some fault.Unowned else (if bytes_eq word (codes "struct") then Some fault.Kind else
    (if bytes_eq word (codes "callee") then Some fault.Callee else limit_fault word))) thing is
    (λ same it. subst (λ one. fault_data one ≡ string word) (some_is fault.Null thing it) (ap string (sym same))) (λ is.
    on_word (fault_data thing ≡ string word) word (codes "unowned") (Some fault.Unowned)
    (if bytes_eq word (codes "struct") then Some fault.Kind else (if bytes_eq word
    (codes "callee") then Some fault.Callee else limit_fault word)) thing is
    (λ same it. subst (λ one. fault_data one ≡ string word) (some_is fault.Unowned thing it) (ap string (sym same))) (λ is.
    on_word (fault_data thing ≡ string word) word (codes "struct") (Some fault.Kind)
    (if bytes_eq word (codes "callee") then Some fault.Callee else limit_fault word) thing is
    (λ same it. subst (λ one. fault_data one ≡ string word) (some_is fault.Kind thing it) (ap string (sym same))) (λ is.
    on_word (fault_data thing ≡ string word) word (codes "callee") (Some fault.Callee) (limit_fault word) thing is
    (λ same it. subst (λ one. fault_data one ≡ string word) (some_is fault.Callee thing it) (ap string (sym same))) (λ is.
    limit_of_word word thing is))))

budget_of_word : (word : List ℕ) (thing : Budget) → budget_of word ≡ Some thing → budget_data thing ≡ string word
budget_of_word word thing is =
    on_word (budget_data thing ≡ string word) word (codes "turns") (Some budget.Turns)
    (if bytes_eq word (codes "states") then Some budget.States else (if bytes_eq word (codes "parts") then Some budget.Parts else
    (if bytes_eq word (codes "rounds") then Some budget.Rounds else None))) thing is
    (λ same it. subst (λ one. budget_data one ≡ string word) (some_is budget.Turns thing it) (ap string (sym same))) (λ is.
    on_word (budget_data thing ≡ string word) word (codes "states") (Some budget.States)
    (if bytes_eq word (codes "parts") then Some budget.Parts else (if bytes_eq word
    (codes "rounds") then Some budget.Rounds else None)) thing is
    (λ same it. subst (λ one. budget_data one ≡ string word) (some_is budget.States thing it) (ap string (sym same))) (λ is.
    on_word (budget_data thing ≡ string word) word (codes "parts") (Some budget.Parts)
    (if bytes_eq word (codes "rounds") then Some budget.Rounds else None) thing is
    (λ same it. subst (λ one. budget_data one ≡ string word) (some_is budget.Parts thing it) (ap string (sym same))) (λ is.
    on_word (budget_data thing ≡ string word) word (codes "rounds") (Some budget.Rounds) None thing is
    (λ same it. subst (λ one. budget_data one ≡ string word) (some_is budget.Rounds thing it) (ap string (sym same))) (λ is.
    cc))))

fault_inverse : IsInverse (λ (cause : Fault). Unit {0}) fault_data read_fault
unfolding go_on
fault_inverse = record { back = back; only = only }
  where
    back : (cause : Fault) → Unit {0} → read_fault (fault_data cause) ≡ Some cause
    back fault.Null fits = refl
    back fault.Unowned fits = refl
    back fault.Kind fits = refl
    back fault.Callee fits = refl
    back fault.Cover fits = refl
    back fault.Alias fits = refl
    back fault.States fits = refl
    back fault.Parts fits = refl
    back fault.Turns fits = refl

    only : (d : Data) (cause : Fault) → read_fault d ≡ Some cause → (fault_data cause ≡ d) × Unit {0}
    only d cause is = let word = go_on_some (as_str d) fault_of cause is in
        (fault_of_word word.0 cause word.2 ∙ string_only d word.0 word.1, tt)

budget_inverse : IsInverse (λ (what : Budget). Unit {0}) budget_data read_budget
unfolding go_on
budget_inverse = record { back = back; only = only }
  where
    back : (what : Budget) → Unit {0} → read_budget (budget_data what) ≡ Some what
    back budget.Turns fits = refl
    back budget.States fits = refl
    back budget.Parts fits = refl
    back budget.Rounds fits = refl

    only : (d : Data) (what : Budget) → read_budget d ≡ Some what → (budget_data what ≡ d) × Unit {0}
    only d what is = let word = go_on_some (as_str d) budget_of what is in
        (budget_of_word word.0 what word.2 ∙ string_only d word.0 word.1, tt)

-- ---- the parts of each reason

abbrev IsReasonOf : List ℕ → List Data → Reason → Type 0
IsReasonOf word ds why = (reason_data why ≡ tuple (string word ∷ ds)) × ReasonFits why

no_path_only : (ds : List Data) (why : Reason) → no_path_parts ds ≡ Some why → IsReasonOf (codes "no-path") ds why
no_path_only (line ∷ cause ∷ []) why is =
    let r0 = go_on_some (read_count line) (λ n. go_on (read_fault cause) (λ it. Some (reason.NoPath it n))) why is in
    let e0 = count_inverse.only line r0.0 r0.1 in
    let r1 = go_on_some (read_fault cause) (λ it. Some (reason.NoPath it r0.0)) why r0.2 in
    let e1 = fault_inverse.only cause r1.0 r1.1 in
    let same : reason.NoPath r1.0 r0.0 ≡ why = some_is _ why r1.2 in
    subst (IsReasonOf (codes "no-path") (line ∷ cause ∷ [])) same (
      ap (λ rest. tuple (string (codes "no-path") ∷ rest))
          (cons_is e0.0 (last_is e1.0)),
      e0.1,
    )
no_path_only _ why is = cc

endless_only : (ds : List Data) (why : Reason) → endless_parts ds ≡ Some why → IsReasonOf (codes "endless") ds why
endless_only [] why is = subst (IsReasonOf (codes "endless") []) (some_is reason.Endless why is) (refl, tt)
endless_only (d ∷ ds) why is = cc

failed_only : (ds : List Data) (why : Reason) → failed_parts ds ≡ Some why → IsReasonOf (codes "failed") ds why
failed_only (line ∷ cause ∷ []) why is =
    let r0 = go_on_some (read_count line) (λ n. go_on (read_fault cause) (λ it. Some (reason.Failed it n))) why is in
    let e0 = count_inverse.only line r0.0 r0.1 in
    let r1 = go_on_some (read_fault cause) (λ it. Some (reason.Failed it r0.0)) why r0.2 in
    let e1 = fault_inverse.only cause r1.0 r1.1 in
    let same : reason.Failed r1.0 r0.0 ≡ why = some_is _ why r1.2 in
    subst (IsReasonOf (codes "failed") (line ∷ cause ∷ [])) same (
      ap (λ rest. tuple (string (codes "failed") ∷ rest))
          (cons_is e0.0 (last_is e1.0)),
      e0.1,
    )
failed_only _ why is = cc

spent_only : (ds : List Data) (why : Reason) → spent_parts ds ≡ Some why → IsReasonOf (codes "spent") ds why
spent_only (what ∷ count ∷ []) why is =
    let r0 = go_on_some (read_budget what) (λ it. go_on (read_count count) (λ n. Some (reason.Spent it n))) why is in
    let e0 = budget_inverse.only what r0.0 r0.1 in
    let r1 = go_on_some (read_count count) (λ n. Some (reason.Spent r0.0 n)) why r0.2 in
    let e1 = count_inverse.only count r1.0 r1.1 in
    let same : reason.Spent r0.0 r1.0 ≡ why = some_is _ why r1.2 in
    subst (IsReasonOf (codes "spent") (what ∷ count ∷ [])) same (
      ap (λ rest. tuple (string (codes "spent") ∷ rest))
          (cons_is e0.0 (last_is e1.0)),
      e1.1,
    )
spent_only _ why is = cc

reason_of_only : (parts : List Data) (word : List ℕ) (why : Reason) → reason_of parts word ≡ Some why → IsReasonOf word parts why
reason_of_only parts word why is =
    on_word (IsReasonOf word parts why) word (codes "no-path") (no_path_parts parts)
    (if bytes_eq word (codes "endless") then endless_parts parts else (if bytes_eq word (codes "failed") then failed_parts parts else
    (if bytes_eq word (codes "spent") then spent_parts parts else None))) why is
    (λ same it. subst (λ word. IsReasonOf word parts why) (sym same) (no_path_only parts why it)) (λ is.
    on_word (IsReasonOf word parts why) word (codes "endless") (endless_parts parts)
    (if bytes_eq word (codes "failed") then failed_parts parts else (if bytes_eq word
    (codes "spent") then spent_parts parts else None)) why is
    (λ same it. subst (λ word. IsReasonOf word parts why) (sym same) (endless_only parts why it)) (λ is.
    on_word (IsReasonOf word parts why) word (codes "failed") (failed_parts parts)
    (if bytes_eq word (codes "spent") then spent_parts parts else None) why is
    (λ same it. subst (λ word. IsReasonOf word parts why) (sym same) (failed_only parts why it)) (λ is.
    on_word (IsReasonOf word parts why) word (codes "spent") (spent_parts parts) None why is
    (λ same it. subst (λ word. IsReasonOf word parts why) (sym same) (spent_only parts why it)) (λ is.
    cc))))

reason_only : (ds : List Data) (why : Reason) → reason_parts ds ≡ Some why → (reason_data why ≡ tuple ds) × ReasonFits why
reason_only [] why is = cc
reason_only (tag ∷ parts) why is =
    let word = go_on_some (as_str tag) (reason_of parts) why is in
    let one = reason_of_only parts word.0 why word.2 in
    (one.0 ∙ ap (λ first. tuple (first ∷ parts)) (string_only tag word.0 word.1), one.1)

reason_inverse : IsInverse ReasonFits reason_data read_reason
reason_inverse = record { back = back; only = of_parts ReasonFits reason_data reason_parts reason_only }
  where
    back : (why : Reason) → ReasonFits why → read_reason (reason_data why) ≡ Some why
    back (reason.NoPath cause line) fits =
        go_on_is _ _ _ _ refl (go_on_is _ _ (codes "no-path") _ refl (go_on_is _ _ line _ (count_inverse.back line fits)
        (go_on_is _ _ cause _ (fault_inverse.back cause tt) refl)))
    back reason.Endless fits = go_on_is _ _ _ _ refl (go_on_is _ _ (codes "endless") _ refl refl)
    back (reason.Failed cause line) fits =
        go_on_is _ _ _ _ refl (go_on_is _ _ (codes "failed") _ refl (go_on_is _ _ line _ (count_inverse.back line fits)
        (go_on_is _ _ cause _ (fault_inverse.back cause tt) refl)))
    back (reason.Spent what count) fits =
        go_on_is _ _ _ _ refl (go_on_is _ _ (codes "spent") _ refl (go_on_is _ _ what _ (budget_inverse.back what tt)
        (go_on_is _ _ count _ (count_inverse.back count fits) refl)))

is_there : (why : Reason) → as_null (reason_data why) ≡ None
is_there (reason.NoPath cause line) = refl
is_there reason.Endless = refl
is_there (reason.Failed cause line) = refl
is_there (reason.Spent what count) = refl

pub reasons_inverse : IsInverse (λ why. IfSome why ReasonFits) (option_data reason_data) (read_option read_reason)
reasons_inverse = option_inverse ReasonFits reason_data read_reason reason_inverse is_there
