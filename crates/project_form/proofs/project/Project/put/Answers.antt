use Rattle.std.proofs.Common.{◌≡◌, List, OnOk, subst}
use Rattle.project_form.specs.Files.{with_file}
use Rattle.project_form.specs.Kept.{KeptFile, sources_of}
use Rattle.project_form.proofs.Putting.{put-sources}
use Rattle.project_form.proofs.project.Project.put.Goals as goal

pub returns-clause-files : goal.returns-clause-files
returns-clause-files c =
    subst (λ (olds : List KeptFile). OnOk c.put_file.result
    (sources_of c.put_file.new.files.items ≡ with_file c.args.name.now c.args.bytes.items (sources_of olds))) c.self.view_is
    (put-sources c.put_file.result c.args.name.now c.args.bytes.items c.self.inside.files.items c.put_file.new.files.items
    c.put_file.ensures.put)
