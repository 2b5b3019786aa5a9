use Rattle.std.proofs.Common.{◌≡◌, ◌≤◌, length, ap, ◌∙◌, arith, rules}
use Rattle.c_lower_emit.specs.Drafts.{next_at, led_between}
use Rattle.c_lower_emit.specs.Stretches.{is_holds, is_fails, is_next}
use Rattle.c_lower_emit.proofs.Leading.{next_led_to_next}
use Rattle.c_lower_emit.proofs.Stretches.{next_away, before_lack}
use Rattle.c_lower_emit.proofs.draft_list.DraftList.lead_next.Goals as goal

pub returns-in-Next : goal.returns-in-Next
returns-in-Next c = λ le within. next_led_to_next c.args.begin c.in-Next.is c.args.from c.args.past le c.args.self.now

pub invariant_of-self : goal.invariant_of-self
invariant_of-self c =
    let ds = c.self.inside.drafts.items in
    let away = next_away c.args.begin c.in_default.not-Next in
    let len : c.len.result ≡ length ds = search rules in
    let within : c.min-past.result ≤ length ds = omega (arith, len, c.min-past.ensures) in
    let le : c.min-from.result ≤ c.min-past.result = omega (arith, c.min-from.ensures) in
    let led = c.lead_rest-self-inside.ensures.drafts is_next away c.self.invariant.next in
    record {
      listed = c.lead_rest-self-inside.ensures.listed;
      holds =
          before_lack is_holds (next_at c.args.begin) c.self.inside.without_holds.from c.self.inside.without_holds.past c.min-from.result
          c.min-past.result c.before-self-inside.result.from c.before-self-inside.result.past ds le within
          c.before-self-inside.ensures.from c.before-self-inside.ensures.within c.before-self-inside.ensures.before
          c.lead_rest-self-inside.new.drafts.items led c.self.invariant.holds;
      fails =
          before_lack is_fails (next_at c.args.begin) c.self.inside.without_fails.from c.self.inside.without_fails.past c.min-from.result
          c.min-past.result c.before-self-inside-2.result.from c.before-self-inside-2.result.past ds le within
          c.before-self-inside-2.ensures.from c.before-self-inside-2.ensures.within c.before-self-inside-2.ensures.before
          c.lead_rest-self-inside.new.drafts.items led c.self.invariant.fails;
      next = c.lead_rest-self-inside.ensures.without is_next away c.self.invariant.next;
    }

pub returns : goal.returns
returns c = λ order fits.
    let ds = c.self.inside.drafts.items in
    let w = next_at c.args.begin in
    let len : c.len.result ≡ length ds = search rules in
    let same = ap length c.self.view_is in
    let past : c.min-past.result ≡ c.args.past = omega (arith, len, c.min-past.ensures, fits, same) in
    let from : c.min-from.result ≡ c.args.from = omega (arith, past, c.min-from.ensures, order) in
    c.lead_rest-self-inside.ensures.drafts is_next (next_away c.args.begin c.in_default.not-Next) c.self.invariant.next
    ∙ ap (λ n. led_between n c.min-past.result w ds) from
    ∙ ap (λ n. led_between c.args.from n w ds) past
    ∙ ap (led_between c.args.from c.args.past w) c.self.view_is
