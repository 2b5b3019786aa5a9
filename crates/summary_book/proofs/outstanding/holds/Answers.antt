-- One row is the claim's, or none is.
use Rattle.std.proofs.Common.{◌∙◌, sym, arith}
use Rattle.std.proofs.lemmas.Option.{slice_get-get_or}
use Rattle.summary_book.specs.Views.{is_claim}
use Rattle.summary_book.proofs.OutstandingRows.{any_found, none_any_found, none_more}
use Rattle.summary_book.proofs.outstanding.holds.Goals as goal

pub returns-then-is_claim : goal.returns-then-is_claim
returns-then-is_claim c = λ program claims are.
    any_found c.args.log.now program c.args.out.now claims are (is_claim c.args.claim.now) c.loop-row.row-index _
    (slice_get-get_or c.args.out.now c.loop-row.row-index _ c.loop-row-test.true)
    (λ out is. sym (c.is_claim.ensures program out is) ∙ c.if-is_claim.true)

pub loop-row-preserved : goal.loop-row-preserved
loop-row-preserved c = λ program claims k out are lt at.
    none_more c.args.log.now program c.args.out.now claims are (is_claim c.args.claim.now) c.loop-row.row-index _
    (slice_get-get_or c.args.out.now c.loop-row.row-index _ c.loop-row-test.true)
    (λ j one less there. c.loop-row.invariant program claims j one are less there)
    (λ one is. sym (c.is_claim.ensures program one is) ∙ c.if-is_claim.false) k out lt at

pub returns : goal.returns
returns c = λ program claims are.
    none_any_found c.args.log.now program c.args.out.now claims are (is_claim c.args.claim.now)
    (λ k claim lt at. c.loop-row.invariant program claims k claim are (let past = c.loop-row-test.false in omega (arith, past, lt)) at)
