-- The specs of one summary more.
use Rattle.std.proofs.Common.{◌≡◌, ◌+◌, ◌<◌, [], ◌∷◌, ◌++◌, length, map, take, get_or, sym, ap, ap₂, ◌∙◌, subst, arith, rules}
use Rattle.std.proofs.lemmas.List.{map_more}
use Rattle.shape_data.specs.declared.answer.ProcSummary.{ProcSummary}
use Rattle.shape_data.specs.WellFormed.{IsCountable}
use Rattle.report_text.specs.Report.{spec_count}
use Rattle.report_text.proofs.Having.{its_holds, spec_more}
use Rattle.report_text.proofs.totals.count_specs.Goals as goal

pub loop-one-preserved : goal.loop-one-preserved
loop-one-preserved g c =
    let all = c.args.summaries.now in
    let place = c.loop-one.one-index in
    let one = c.one-item.result in
    let its = g.S.HasSummary.its in
    let here : place < length all = search rules in
    let element : one ≡ get_or all place one = search rules in
    let more : map its (take (place + 1) all) ≡ map its (take place all) ++ its one ∷ [] =
    map_more its all place one here ∙ ap (λ x. map its (take place all) ++ its x ∷ []) (sym element) in
    let long : c.len.result ≡ length (its one).specs = search rules in
    let few : length (its one).specs
    < 4294967296 =
    subst (λ x. IsCountable (its x).specs) (sym element)
    (its_holds (λ (summary : ProcSummary). IsCountable summary.specs) its all place one here c.requires.specs) in
    let within = c.loop-one.invariant.within in
    record {
      exact = ap₂ (λ n m. n + m) c.loop-one.invariant.exact long ∙ sym (spec_more (map its (take place all)) (its one))
          ∙ sym (ap spec_count more);
      within = omega (arith, long, few, within);
    }
