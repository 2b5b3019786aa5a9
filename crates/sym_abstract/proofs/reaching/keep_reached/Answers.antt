use Rattle.std.proofs.Common.{◌≡◌, ◌∙◌, sym}
use Rattle.std.specs.List.{list_all}
use Rattle.abstraction_laws.specs.Reaching.{seen_from}
use Rattle.sym_abstract.specs.Counted.{Counts, is_kept_by}
use Rattle.sym_abstract.proofs.SeenTurns.{kept-all, kept-some}
use Rattle.sym_abstract.proofs.reaching.keep_reached.Goals as goal

pub returns-then-are_kept : goal.returns-then-are_kept
returns-then-are_kept c =
    let are : Counts c.in_ok-seen.seen (seen_from c.args.locals.now c.args.atoms) =
    rw (c.into_vec.ensures, c.in_ok-copy_of.ensures) at c.in_ok-seen.ensures in
    let all : c.are_kept.result ≡ list_all (is_kept_by c.in_ok-seen.seen) c.args.atoms =
    rw (c.as_slice.ensures.value, c.into_vec-atoms.ensures) at c.are_kept.ensures in
    c.into_vec-atoms.ensures ∙ kept-all c.args.locals.now c.args.atoms c.in_ok-seen.seen are (sym all ∙ c.if-are_kept.true)

pub returns : goal.returns
returns c =
    let are : Counts c.in_ok-seen.seen (seen_from c.args.locals.now c.args.atoms) =
    rw (c.into_vec.ensures, c.in_ok-copy_of.ensures) at c.in_ok-seen.ensures in
    let all : c.are_kept.result ≡ list_all (is_kept_by c.in_ok-seen.seen) c.args.atoms =
    rw (c.as_slice.ensures.value, c.into_vec-atoms.ensures) at c.are_kept.ensures in
    kept-some c.args.locals.now c.args.atoms c.in_ok-seen.seen are _ _ (sym all ∙ c.if-are_kept.false)
    (rw c.into_vec-atoms.ensures at c.in_ok-kept.ensures.kept) c.in_ok-push.ensures.items
