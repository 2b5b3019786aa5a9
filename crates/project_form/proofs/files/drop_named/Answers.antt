-- The file of the name is the first that has it.
use Rattle.std.proofs.Common.{◌≡◌, List, Some, None, sym, ◌∙◌, subst, rules}
use Rattle.std.specs.Prelude.{position, remove}
use Rattle.project_form.specs.Files.{AreFiles}
use Rattle.project_form.specs.Kept.{KeptFile, is_kept_named, sources_of}
use Rattle.project_form.proofs.Putting.{there-has, none-has, dropped-is, not_there-is, without_kept-sources, dropped-AreFiles}
use Rattle.project_form.proofs.files.drop_named.Goals as goal

pub returns-in-Some-clause-without : goal.returns-in-Some-clause-without
returns-in-Some-clause-without c =
    let there : position (is_kept_named c.args.name.now) c.args.files.now.items ≡ Some c.in-Some.place = search rules in
    let gone : c.remove.new.self.items ≡ remove c.args.files.now.items c.in-Some.place = search rules in
    gone ∙ sym (dropped-is c.args.name.now c.args.files.now.items c.in-Some.place there)

pub returns-in-Some-clause-files : goal.returns-in-Some-clause-files
returns-in-Some-clause-files c =
    let there : position (is_kept_named c.args.name.now) c.args.files.now.items ≡ Some c.in-Some.place = search rules in
    let gone : c.remove.new.self.items ≡ remove c.args.files.now.items c.in-Some.place = search rules in
    let without = gone ∙ sym (dropped-is c.args.name.now c.args.files.now.items c.in-Some.place there) in
    subst (λ (files : List KeptFile). AreFiles (sources_of files)) (sym without)
    (subst AreFiles (sym (without_kept-sources c.args.name.now c.args.files.now.items))
    (dropped-AreFiles c.args.name.now (sources_of c.args.files.now.items) c.requires))

pub returns-in-Some-clause-dropped : goal.returns-in-Some-clause-dropped
returns-in-Some-clause-dropped c =
    let there : position (is_kept_named c.args.name.now) c.args.files.now.items ≡ Some c.in-Some.place = search rules in
    sym (there-has c.args.name.now c.args.files.now.items c.in-Some.place there)

pub returns-in-None-clause-dropped : goal.returns-in-None-clause-dropped
returns-in-None-clause-dropped c =
    let nowhere : position (is_kept_named c.args.name.now) c.args.files.now.items ≡ None = search rules in
    sym (none-has c.args.name.now c.args.files.now.items nowhere)

pub returns-in-None-clause-without : goal.returns-in-None-clause-without
returns-in-None-clause-without c =
    let nowhere : position (is_kept_named c.args.name.now) c.args.files.now.items ≡ None = search rules in
    sym (not_there-is c.args.name.now c.args.files.now.items nowhere)
