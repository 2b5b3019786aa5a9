use Rattle.std.proofs.Common.{List, ap, ◌∙◌}
use Rattle.project_form.specs.Files.{without_file}
use Rattle.project_form.specs.Kept.{KeptFile, sources_of}
use Rattle.project_form.proofs.Putting.{without_kept-sources}
use Rattle.project_form.proofs.project.Project.drop_file.Goals as goal

pub returns-clause-files : goal.returns-clause-files
returns-clause-files c =
    ap sources_of c.drop_named.ensures.without
    ∙ without_kept-sources c.args.name.now c.self.inside.files.items
    ∙ ap (λ (olds : List KeptFile). without_file c.args.name.now (sources_of olds)) c.self.view_is
