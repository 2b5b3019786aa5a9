use Rattle.std.proofs.Common.{◌≤◌, length, ◌∙◌, arith}
use Rattle.c_lower_emit.proofs.Stretches.{more_lack, rest_is_all}
use Rattle.c_lower_emit.proofs.draft_list.lead_rest.Goals as goal

pub returns : goal.returns
returns c =
    let ds = c.args.drafts.now.items in
    let from : c.args.from ≤ length ds = omega (arith, c.requires.order, c.requires.within) in
    let known : c.up_to-known.result.past ≤ length ds = c.up_to-known.ensures.within (length ds) c.requires.without from in
    record {
      drafts = λ exit away lacks.
          c.redirect_between.ensures.drafts
          ∙ rest_is_all exit c.args.ways away c.up_to-known.result.from c.up_to-known.result.past c.args.from c.args.past c.max-past.result
          ds c.up_to-known.ensures.from c.up_to-known.ensures.past c.requires.order c.max-past.ensures
          (c.up_to-known.ensures.lacks exit ds from lacks);
      listed = c.redirect_between.ensures.listed;
      without = λ exit away lacks.
          more_lack exit c.args.ways away c.up_to-known.result.from c.up_to-known.result.past c.max-past.result ds
          (omega (arith, c.max-past.ensures)) (omega (arith, c.max-past.ensures, c.requires.within, known))
          c.redirect_between.new.drafts.items c.redirect_between.ensures.drafts (c.up_to-known.ensures.lacks exit ds from lacks);
    }
