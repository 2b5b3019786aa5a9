use Rattle.std.proofs.Common.{◌≡◌, ◌≤◌, length, ap, ◌∙◌, arith, rules}
use Rattle.c_lower_emit.specs.Drafts.{led_between}
use Rattle.c_lower_emit.specs.Stretches.{is_holds, is_fails, is_next}
use Rattle.c_lower_emit.proofs.Stretches.{before_lack}
use Rattle.c_lower_emit.proofs.draft_list.DraftList.redirect.Goals as goal

pub invariant_of-self : goal.invariant_of-self
invariant_of-self c =
    let ds = c.self.inside.drafts.items in
    let len : c.len.result ≡ length ds = search rules in
    let within : c.min-past.result ≤ length ds = omega (arith, len, c.min-past.ensures) in
    let le : c.min-from.result ≤ c.min-past.result = omega (arith, c.min-from.ensures) in
    record {
      listed = c.redirect_between.ensures.listed;
      holds =
          before_lack is_holds c.args.ways c.self.inside.without_holds.from c.self.inside.without_holds.past c.min-from.result
          c.min-past.result c.before-self-inside.result.from c.before-self-inside.result.past ds le within
          c.before-self-inside.ensures.from c.before-self-inside.ensures.within c.before-self-inside.ensures.before
          c.redirect_between.new.drafts.items c.redirect_between.ensures.drafts c.self.invariant.holds;
      fails =
          before_lack is_fails c.args.ways c.self.inside.without_fails.from c.self.inside.without_fails.past c.min-from.result
          c.min-past.result c.before-self-inside-2.result.from c.before-self-inside-2.result.past ds le within
          c.before-self-inside-2.ensures.from c.before-self-inside-2.ensures.within c.before-self-inside-2.ensures.before
          c.redirect_between.new.drafts.items c.redirect_between.ensures.drafts c.self.invariant.fails;
      next =
          before_lack is_next c.args.ways c.self.inside.without_next.from c.self.inside.without_next.past c.min-from.result
          c.min-past.result c.before-self-inside-3.result.from c.before-self-inside-3.result.past ds le within
          c.before-self-inside-3.ensures.from c.before-self-inside-3.ensures.within c.before-self-inside-3.ensures.before
          c.redirect_between.new.drafts.items c.redirect_between.ensures.drafts c.self.invariant.next;
    }

pub returns : goal.returns
returns c = λ order fits.
    let len : c.len.result ≡ length c.self.inside.drafts.items = search rules in
    let same = ap length c.self.view_is in
    let past : c.min-past.result ≡ c.args.past = omega (arith, len, c.min-past.ensures, fits, same) in
    let from : c.min-from.result ≡ c.args.from = omega (arith, past, c.min-from.ensures, order) in
    c.redirect_between.ensures.drafts
    ∙ ap (λ n. led_between n c.min-past.result c.args.ways c.self.inside.drafts.items) from
    ∙ ap (λ n. led_between c.args.from n c.args.ways c.self.inside.drafts.items) past
    ∙ ap (led_between c.args.from c.args.past c.args.ways) c.self.view_is
