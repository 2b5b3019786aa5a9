-- All files together have the bytes of the others and those of the file.
use Rattle.std.proofs.Common.{◌≡◌, length, get_or, set, inl, sym, ap, ◌∙◌, arith, rules}
use Rattle.std.specs.List.{sum_by}
use Rattle.project_form.specs.Kept.{KeptFile, kept_length, sources_of, with_bytes}
use Rattle.project_form.proofs.Putting.{bytes-kept, replaced-is, replaced-bytes, there-has, refused-full, not_refused}
use Rattle.project_form.proofs.files.replace.Goals as goal

pub returns-then-others-len-gt-MOST_BYTES-clause-fault : goal.returns-then-others-len-gt-MOST_BYTES-clause-fault
returns-then-others-len-gt-MOST_BYTES-clause-fault c =
    let name = c.args.name.now in
    let bytes = c.args.bytes.items in
    let files = c.args.files.now.items in
    let element : c.index.result.now ≡ get_or files c.args.place c.index.result.now = search rules in
    let sums = replaced-bytes name files bytes c.args.place c.index.result.now c.requires.there in
    let all : c.total.result ≡ sum_by kept_length files = search rules in
    let before = bytes-kept files in
    let one : c.len.result ≡ length (get_or files c.args.place c.index.result.now).file.bytes =
    c.len.ensures.exact ∙ ap (λ (k : KeptFile). length k.file.bytes) element in
    let size : c.len-2.result ≡ length bytes = search rules in
    refused-full name bytes (sources_of files) c.requires.short (inl (there-has name files c.args.place c.requires.there))
    (omega (arith, sums, all, before, one, size))

pub returns-clause-put : goal.returns-clause-put
returns-clause-put c =
    let files = c.args.files.now.items in
    ap (λ (k : KeptFile). set files c.args.place k) c.put.ensures
    ∙ ap (λ (k : KeptFile). set files c.args.place (with_bytes c.args.bytes.items k)) c.index_mut.ensures.value
    ∙ sym (replaced-is c.args.name.now files c.args.bytes.items c.args.place c.index_mut.result.now c.requires.there)

pub returns-clause-may : goal.returns-clause-may
returns-clause-may c =
    let name = c.args.name.now in
    let bytes = c.args.bytes.items in
    let files = c.args.files.now.items in
    let element : c.index.result.now ≡ get_or files c.args.place c.index.result.now = search rules in
    let sums = replaced-bytes name files bytes c.args.place c.index.result.now c.requires.there in
    let all : c.total.result ≡ sum_by kept_length files = search rules in
    let before = bytes-kept files in
    let one : c.len.result ≡ length (get_or files c.args.place c.index.result.now).file.bytes =
    c.len.ensures.exact ∙ ap (λ (k : KeptFile). length k.file.bytes) element in
    let size : c.len-2.result ≡ length bytes = search rules in
    not_refused name bytes (sources_of files) c.requires.short (inl (there-has name files c.args.place c.requires.there))
    (omega (arith, sums, all, before, one, size))
