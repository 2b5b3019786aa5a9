-- What is left is to be found among the members that are left.
use Rattle.std.proofs.Common.{◌≡◌, map}
use Rattle.serde_json.specs.View.{members_view}
use Rattle.flow_json.specs.Forms.{names_are}
use Rattle.flow_json.proofs.objects.names_are.Given as goal

abbrev pub invariant-loop-key : goal.invariant-loop-key
invariant-loop-key l = names_are (map (λ name. name.now) l.left) (members_view l.key-iterator)
    ≡ names_are (map (λ name. name.now) l.fn.names) (members_view l.fn.members.entries)
