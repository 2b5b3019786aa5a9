use Rattle.std.proofs.Common.{◌≡◌, ◌≤◌, length, refl, ap, ◌∙◌, arith, rules}
use Rattle.c_lower_emit.specs.Drafts.{as_they_are, led_between}
use Rattle.c_lower_emit.specs.declared.drafts.Label.TheVariants.{At}
use Rattle.c_lower_emit.specs.Stretches.{is_holds, is_fails, is_next}
use Rattle.c_lower_emit.proofs.Stretches.{holds_away, holds_brings_none, still_lack}
use Rattle.c_lower_emit.proofs.draft_list.DraftList.lead_holds.Goals as goal

pub invariant_of-self : goal.invariant_of-self
invariant_of-self c =
    let ds = c.self.inside.drafts.items in
    let w = record as_they_are { holds = At c.args.to } in
    let len : c.len-past.result ≡ length ds = search rules in
    let le : c.min-from.result ≤ c.len-past.result = omega (arith, c.min-from.ensures) in
    let within : c.len-past.result ≤ length ds = omega (arith, len) in
    let led = c.lead_rest-self-inside.ensures.drafts is_holds (holds_away c.args.to) c.self.invariant.holds in
    record {
      listed = c.lead_rest-self-inside.ensures.listed;
      holds = c.lead_rest-self-inside.ensures.without is_holds (holds_away c.args.to) c.self.invariant.holds;
      fails =
          still_lack is_fails w (holds_brings_none is_fails c.args.to refl) c.self.inside.without_fails.from
          c.self.inside.without_fails.past c.min-from.result c.len-past.result ds le within c.lead_rest-self-inside.new.drafts.items led
          c.self.invariant.fails;
      next =
          still_lack is_next w (holds_brings_none is_next c.args.to refl) c.self.inside.without_next.from
          c.self.inside.without_next.past c.min-from.result c.len-past.result ds le within c.lead_rest-self-inside.new.drafts.items led
          c.self.invariant.next;
    }

pub returns : goal.returns
returns c = λ fits.
    let ds = c.self.inside.drafts.items in
    let len : c.len-past.result ≡ length ds = search rules in
    let same = ap length c.self.view_is in
    let from : c.min-from.result ≡ c.args.from = omega (arith, len, c.min-from.ensures, fits, same) in
    let w = record as_they_are { holds = At c.args.to } in
    c.lead_rest-self-inside.ensures.drafts is_holds (holds_away c.args.to) c.self.invariant.holds
    ∙ ap (λ n. led_between n c.len-past.result w ds) from
    ∙ ap (λ n. led_between c.args.from n w ds) len
    ∙ ap (λ es. led_between c.args.from (length es) w es) c.self.view_is
