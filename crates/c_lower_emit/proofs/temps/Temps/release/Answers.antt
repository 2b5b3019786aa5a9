use Rattle.std.proofs.Common.{map, ap, ◌∙◌, arith}
use Rattle.std.proofs.lemmas.List.Elements.{All-nil}
use Rattle.c_lower_emit.proofs.FirstTemps.{first_same, unused_again}
use Rattle.c_lower_emit.proofs.TakenTemps.{released_seen}
use Rattle.c_lower_emit.specs.KeptTemps.{unused}
use Rattle.c_lower_emit.specs.Seen.{temp_seen}
use Rattle.c_lower_rules.specs.Temporaries.{released}
use Rattle.c_lower_emit.proofs.temps.Temps.release.Goals as goal

pub invariant_of-self : goal.invariant_of-self
invariant_of-self c = record {
  within = omega arith;
  used = All-nil _;
  first =
      first_same c.self.inside.numbers c.self.inside.all.items c.release_all.new.temps.items
      (ap (map unused) c.release_all.ensures ∙ unused_again c.self.inside.all.items) c.self.invariant.first;
}

pub returns : goal.returns
returns c =
    ap (map temp_seen) c.release_all.ensures ∙ released_seen c.self.inside.all.items ∙ ap released c.self.view_is
