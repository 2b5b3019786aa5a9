use Rattle.std.proofs.Common.{◌≡◌, ◌<◌, List, length, map, refl, slice_get, subst}
use Rattle.claim_laws.specs.World.{out_of}
use Rattle.claim_replay.specs.declared.world.Out.{Out}
use Rattle.claim_replay.specs.Values.{out_value}
use Rattle.claim_replay.proofs.Happening.{given_back, is_outstanding}
use Rattle.claim_replay.proofs.replaying.give_back.Goals as goal

pub returns-clause-world : goal.returns-clause-world
returns-clause-world c =
    given_back c.args.present.world
    (record {
      revision = c.args.present.world.revision;
      program = c.args.present.world.program;
      slots = c.args.present.world.slots;
      out = c.in_ok-others.field-0;
      made = c.args.present.world.made;
    })
    c.args.number
    (is_outstanding c.args.present.world.out c.args.number c.in-Some.field-0
    (subst (λ (l : List Out). slice_get (map out_value l) c.in-Some.field-0
    ≡ out_of (map out_value l) c.args.number) c.deref.ensures c.in-Some.ensures.claim)
    (subst (λ (l : List Out). c.in-Some.field-0 < length l) c.deref.ensures c.in-Some.ensures.within))
    refl refl refl c.in_ok-others.ensures refl
