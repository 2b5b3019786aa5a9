use Rattle.std.proofs.Common.{◌≡◌, true, [], ◌∷◌, sym, ap, ◌∙◌, subst, rules}
use Rattle.std.proofs.lemmas.Slice.{pushed}
use Rattle.shape_data.specs.declared.program.Ty.{Ty}
use Rattle.c_types_rules.specs.Types.{same_type}
use Rattle.c_types_names.specs.NameMap.{or_last}
use Rattle.c_types_names.specs.Seen.{type_seen}
use Rattle.c_lower_emit.specs.declared.temps.Temp.{Temp}
use Rattle.c_lower_emit.specs.TypeNumbers.{number_in}
use Rattle.c_lower_emit.specs.KeptTemps.{AreFirst}
use Rattle.c_lower_emit.proofs.FirstTemps.{first_more, noted_already}
use Rattle.c_lower_emit.proofs.temps.add_used.Goals as goal
use Rattle.c_lower_emit.proofs.temps.add_used.Goals.{then-first-len+in_ok-set, else-first-len}

pub returns-clause-numbers : goal.returns-clause-numbers
returns-clause-numbers c =
    let items = c.args.temps.now.items in
    let temp : Temp = record { kind = c.args.kind; used = true; first = c.args.first } in
    let noted : (k : Ty) → number_in c.if-first-len.numbers k
    ≡ or_last (number_in c.args.numbers.now k) (same_type (type_seen c.args.kind) k) c.args.first =
    elim c.if-first-len.branch [
      | then-first-len+in_ok-set w ↦ λ k. ap (λ f. number_in f k) w.numbers-is ∙ w.in_ok-set.ensures.number k
      | else-first-len w ↦ λ k. ap (λ f. number_in f k) w.numbers-is
          ∙ noted_already c.args.numbers.now items c.requires.numbers (type_seen c.args.kind) c.args.first c.requires.first (search rules) k
    ] in
    subst (AreFirst c.if-first-len.numbers)
    (sym (pushed (temp ∷ []) c.in_ok-reserve.ensures.items c.unwrap.ensures c.push.ensures.items))
    (first_more c.args.numbers.now c.if-first-len.numbers items temp c.requires.numbers c.requires.first noted)
