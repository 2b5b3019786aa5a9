use Rattle.std.proofs.Common.{[], List, map, ap, rules}
use Rattle.c_types_rules.specs.Items.{with_name, param_refusals, each_param_refusals}
use Rattle.c_tree.specs.declared.names.Param.{Param}
use Rattle.c_tree.specs.NonEmpty.{left}
use Rattle.c_tree.specs.Syntax.{param_tree}
use Rattle.c_types_names.proofs.FirstRefusals.{turn, over}
use Rattle.c_types_names.proofs.ParamsInTurn.{each_param}
use Rattle.c_types.proofs.NamesInTurn.{lists_none}
use Rattle.c_types.proofs.heads.each_param_refusals.Goals as goal

pub loop-param-init : goal.loop-param-init
loop-param-init c = record {
  names = [];
  lists = lists_none c.new-before.result c.new-before.ensures;
  passes = search (rules, each_param);
}

pub loop-param-preserved : goal.loop-param-preserved
loop-param-preserved c =
    let t = c.args.tables.now in
    let before = c.loop-param.invariant in
    let x = param_tree c.in-Some.param.now in
    let names = with_name x.name before.names in
    record {
      names = names;
      lists = c.in_ok-add_name.ensures before.names before.lists;
      passes =
          turn _ _ _ _ (param_refusals t before.names x) (each_param_refusals t names (map param_tree (left c.next.new.self)))
          (c.param_refusals.ensures before.names before.lists)
          (ap (λ (xs : List Param). each_param_refusals t before.names (map param_tree xs)) c.in-Some.ensures.steps) before.passes;
    }

pub returns : goal.returns
returns c =
    let all = c.loop-param.invariant in
    over _ _ _ (ap (λ (xs : List Param). each_param_refusals c.args.tables.now all.names
    (map param_tree xs)) c.in-None.ensures.steps.0) all.passes
