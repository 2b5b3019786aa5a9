use Rattle.project_form.proofs.Putting.{put-limits}
use Rattle.project_form.proofs.files.put_file.Goals as goal

pub returns-in-Some-clause-files : goal.returns-in-Some-clause-files
returns-in-Some-clause-files c =
    put-limits c.replace.result c.args.name.now c.args.bytes.items c.args.files.now.items c.replace.new.files.items c.requires
    c.replace.ensures.put c.replace.ensures.may c.replace.ensures.same

pub returns-in-None-clause-files : goal.returns-in-None-clause-files
returns-in-None-clause-files c =
    put-limits c.insert.result c.args.name.now c.args.bytes.items c.args.files.now.items c.insert.new.files.items c.requires
    c.insert.ensures.put c.insert.ensures.may c.insert.ensures.same
