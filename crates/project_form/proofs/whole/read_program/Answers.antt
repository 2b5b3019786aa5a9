-- The first refusal of tokens or of syntax is the project's; where there is none, each file has a syntax tree.
use Rattle.std.proofs.Common.{◌≡◌, List, Some, None, Err, OnOk, sym, subst, rules}
use Rattle.std.specs.Prelude.{IfErr}
use Rattle.std.specs.Option.{option_or}
use Rattle.project_form.specs.Files.{SourceFile}
use Rattle.project_form.specs.Kept.{KeptFile, AreAllKept}
use Rattle.project_form.specs.Parts.{KeepsWhatIsRead}
use Rattle.project_form.specs.Reads.{Reads}
use Rattle.project_form.proofs.Taking.{written-back}
use Rattle.project_form.proofs.Units.{keeps-read, noted-all_kept, noted-kept, noted-refused, ok_any}
use Rattle.project_form.proofs.whole.read_program.Goals as goal

pub program_of-requires-clause-kept : goal.program_of-requires-clause-kept
program_of-requires-clause-kept c =
    let none : option_or c.in_ok-firsts.firsts.tokens c.in_ok-firsts.firsts.syntax ≡ None = search rules in
    let same : c.as_mut_slice.result.now ≡ c.read_files.new.files.items = search rules in
    subst (λ (files : List KeptFile). AreAllKept files) (sym same)
    (noted-all_kept c.read_files.new.files.items c.in_ok-firsts.firsts c.in_ok-firsts.ensures.noted none)

pub returns-in-Some-clause-fault : goal.returns-in-Some-clause-fault
returns-in-Some-clause-fault c =
    let found : option_or c.in_ok-firsts.firsts.tokens c.in_ok-firsts.firsts.syntax ≡ Some c.in-Some.refused = search rules in
    subst (λ (files : List SourceFile). Reads files (Err c.in-Some.refused)) c.read_files.ensures.files
    (noted-refused c.read_files.new.files.items c.in_ok-firsts.firsts c.in-Some.refused c.in_ok-firsts.ensures.noted found)

pub returns-in-Some-clause-kept_behind_refusal : goal.returns-in-Some-clause-kept_behind_refusal
returns-in-Some-clause-kept_behind_refusal c = noted-kept c.read_files.new.files.items c.in_ok-firsts.firsts c.in_ok-firsts.ensures.noted

pub returns-in-None-clause-kept : goal.returns-in-None-clause-kept
returns-in-None-clause-kept c =
    let read = c.read_files.new.files.items in
    let files = c.program_of.new.files in
    let none : option_or c.in_ok-firsts.firsts.tokens c.in_ok-firsts.firsts.syntax ≡ None = search rules in
    let same =
    written-back read c.as_mut_slice.result.now files c.read_files.new.files.len c.as_mut_slice.ensures.value c.program_of.ensures.same
    c.as_mut_slice.ensures.len in
    subst (λ (files : List KeptFile). OnOk c.program_of.result (AreAllKept files)) (sym same)
    (ok_any c.program_of.result (AreAllKept read) (noted-all_kept read c.in_ok-firsts.firsts c.in_ok-firsts.ensures.noted none))

pub returns-in-None-clause-kept_behind_refusal : goal.returns-in-None-clause-kept_behind_refusal
returns-in-None-clause-kept_behind_refusal c =
    let read = c.read_files.new.files.items in
    let files = c.program_of.new.files in
    let same =
    written-back read c.as_mut_slice.result.now files c.read_files.new.files.len c.as_mut_slice.ensures.value c.program_of.ensures.same
    c.as_mut_slice.ensures.len in
    subst (λ (files : List KeptFile). IfErr c.program_of.result (λ fault. KeepsWhatIsRead files fault)) (sym same)
    (keeps-read c.program_of.result read (noted-kept read c.in_ok-firsts.firsts c.in_ok-firsts.ensures.noted))
