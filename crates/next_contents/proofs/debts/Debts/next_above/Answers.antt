use Rattle.std.proofs.Common.{◌∙◌, sym, ap}
use Rattle.next_maps.specs.Walks.{first_of}
use Rattle.next_contents.proofs.OwingWalk.{shown-whole, after-file, after-dir}
use Rattle.next_contents.proofs.debts.Debts.next_above.Goals as goal

pub returns-in-File : goal.returns-in-File
returns-in-File c =
    rw c.in-File.is
    (shown-whole c.args.self.now.place c.next_file.result _ c.next_file.ensures
    ∙ ap first_of (sym (after-file c.args.self.now.place.0 c.args.self.now.files c.args.self.now.dirs c.in-File.file.0)))

pub returns-in-Dir : goal.returns-in-Dir
returns-in-Dir c =
    rw c.in-Dir.is
    (shown-whole c.args.self.now.place c.next_dir.result _ c.next_dir.ensures
    ∙ ap first_of (sym (after-dir c.args.self.now.place.0 c.args.self.now.files c.args.self.now.dirs c.in-Dir.dir.0)))
