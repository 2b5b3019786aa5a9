use Rattle.std.proofs.Common.{◌≡◌, true, false, [], ◌∷◌, ◌++◌, length, sym, ap, ◌∙◌, rules}
use Rattle.std.proofs.lemmas.Slice.{pushed}
use Rattle.c_lower_emit.specs.OpenPlaces.{is_open, open_places}
use Rattle.c_lower_emit.proofs.Listing.{open_pushed, closed_pushed}
use Rattle.c_lower_emit.proofs.Stretches.{one_more_lacks}
use Rattle.c_lower_emit.proofs.draft_list.DraftList.push.Goals as goal

pub invariant_of-self-then-is_open : goal.invariant_of-self-then-is_open
invariant_of-self-then-is_open c =
    let is : is_open c.args.draft ≡ true = sym c.is_open-is_open.ensures ∙ c.if-is_open.true in
    let place : c.len-place.result ≡ length c.self.inside.drafts.items = search rules in
    record {
      listed =
          pushed (c.len-place.result ∷ []) (c.in_ok-reserve.ensures.items ∙ c.self.invariant.listed) c.unwrap.ensures
          c.push-then-is_open.ensures.items
          ∙ ap (λ n. open_places 0 c.self.inside.drafts.items ++ n ∷ []) place
          ∙ open_pushed c.self.inside.drafts.items c.args.draft is
          ∙ ap (open_places 0) (sym c.in_ok-push.ensures.items);
      holds = one_more_lacks _ _ _ c.self.inside.drafts.items c.args.draft _ c.in_ok-push.ensures.items c.self.invariant.holds;
      fails = one_more_lacks _ _ _ c.self.inside.drafts.items c.args.draft _ c.in_ok-push.ensures.items c.self.invariant.fails;
      next = one_more_lacks _ _ _ c.self.inside.drafts.items c.args.draft _ c.in_ok-push.ensures.items c.self.invariant.next;
    }

pub invariant_of-self-else-is_open : goal.invariant_of-self-else-is_open
invariant_of-self-else-is_open c =
    let is : is_open c.args.draft ≡ false = sym c.is_open-is_open.ensures ∙ c.if-is_open.false in
    record {
      listed =
          c.in_ok-reserve.ensures.items ∙ c.self.invariant.listed ∙ closed_pushed c.self.inside.drafts.items c.args.draft is
          ∙ ap (open_places 0) (sym c.in_ok-push.ensures.items);
      holds = one_more_lacks _ _ _ c.self.inside.drafts.items c.args.draft _ c.in_ok-push.ensures.items c.self.invariant.holds;
      fails = one_more_lacks _ _ _ c.self.inside.drafts.items c.args.draft _ c.in_ok-push.ensures.items c.self.invariant.fails;
      next = one_more_lacks _ _ _ c.self.inside.drafts.items c.args.draft _ c.in_ok-push.ensures.items c.self.invariant.next;
    }
