-- All files together have their bytes and those of the file more.
use Rattle.std.proofs.Common.{◌≡◌, length, inr, sym, ◌∙◌, arith, rules}
use Rattle.std.specs.List.{sum_by, position_or_len}
use Rattle.std.specs.Prelude.{insert}
use Rattle.std.proofs.lemmas.List.{length-map}
use Rattle.project_form.specs.declared.fault.PutFault.TheVariants as fault
use Rattle.project_form.specs.Puts.{IsPutFault}
use Rattle.project_form.specs.Files.{put_refusal}
use Rattle.project_form.specs.Kept.{kept_length, new_file, source_of, sources_of, stands_before_kept}
use Rattle.project_form.proofs.Putting.{bytes-kept, err_is, inserted-is, inserted-bytes, none-has, refused-many, refused-full, not_refused}
use Rattle.project_form.proofs.files.insert.Goals as goal

pub returns-then-len-ge-MOST_FILES-clause-fault : goal.returns-then-len-ge-MOST_FILES-clause-fault
returns-then-len-ge-MOST_FILES-clause-fault c =
    let files = c.args.files.now.items in
    let count : c.len.result ≡ length files = search rules in
    let same = length-map files source_of in
    refused-many c.args.name.now c.args.bytes.items (sources_of files) c.requires.short
    (none-has c.args.name.now files c.requires.not_there) (omega (arith, count, same))

pub returns-then-total-len-gt-MOST_BYTES-clause-fault : goal.returns-then-total-len-gt-MOST_BYTES-clause-fault
returns-then-total-len-gt-MOST_BYTES-clause-fault c =
    let name = c.args.name.now in
    let bytes = c.args.bytes.items in
    let files = c.args.files.now.items in
    let count : c.len.result ≡ length files = search rules in
    let same = length-map files source_of in
    let sums = inserted-bytes name files bytes c.requires.not_there in
    let all : c.total.result ≡ sum_by kept_length files = search rules in
    let before = bytes-kept files in
    let size : c.len-2.result ≡ length bytes = search rules in
    refused-full name bytes (sources_of files) c.requires.short (inr (omega (arith, count, same))) (omega (arith, sums, all, before, size))

pub returns-in_err-name-clause-fault : goal.returns-in_err-name-clause-fault
returns-in_err-name-clause-fault c =
    let name = c.args.name.now in
    let bytes = c.args.bytes.items in
    let files = c.args.files.now.items in
    let count : c.len.result ≡ length files = search rules in
    let same = length-map files source_of in
    let sums = inserted-bytes name files bytes c.requires.not_there in
    let all : c.total.result ≡ sum_by kept_length files = search rules in
    let before = bytes-kept files in
    let size : c.len-2.result ≡ length bytes = search rules in
    let none =
    not_refused name bytes (sources_of files) c.requires.short (inr (omega (arith, count, same)))
    (omega (arith, sums, all, before, size)) in
    err_is (IsPutFault (put_refusal name bytes (sources_of files))) c.from_residual.result fault.OutOfMemory c.from_residual.ensures.1 none

pub returns-in_err-insert-clause-fault : goal.returns-in_err-insert-clause-fault
returns-in_err-insert-clause-fault c =
    let name = c.args.name.now in
    let bytes = c.args.bytes.items in
    let files = c.args.files.now.items in
    let count : c.len.result ≡ length files = search rules in
    let same = length-map files source_of in
    let sums = inserted-bytes name files bytes c.requires.not_there in
    let all : c.total.result ≡ sum_by kept_length files = search rules in
    let before = bytes-kept files in
    let size : c.len-2.result ≡ length bytes = search rules in
    let none =
    not_refused name bytes (sources_of files) c.requires.short (inr (omega (arith, count, same)))
    (omega (arith, sums, all, before, size)) in
    err_is (IsPutFault
    (put_refusal name bytes
    (sources_of files))) c.from_residual-in_err-insert.result fault.OutOfMemory c.from_residual-in_err-insert.ensures.1 none

pub returns-clause-put : goal.returns-clause-put
returns-clause-put c =
    let name = c.args.name.now in
    let bytes = c.args.bytes.items in
    let files = c.args.files.now.items in
    let more : c.insert.new.self.items ≡ insert files (position_or_len (stands_before_kept name) files) (new_file name bytes) =
    search rules in
    more ∙ sym (inserted-is name files bytes c.requires.not_there)

pub returns-clause-may : goal.returns-clause-may
returns-clause-may c =
    let name = c.args.name.now in
    let bytes = c.args.bytes.items in
    let files = c.args.files.now.items in
    let count : c.len.result ≡ length files = search rules in
    let same = length-map files source_of in
    let sums = inserted-bytes name files bytes c.requires.not_there in
    let all : c.total.result ≡ sum_by kept_length files = search rules in
    let before = bytes-kept files in
    let size : c.len-2.result ≡ length bytes = search rules in
    not_refused name bytes (sources_of files) c.requires.short (inr (omega (arith, count, same))) (omega (arith, sums, all, before, size))
