use Rattle.std.proofs.Common.{◌∙◌, sym, ap, length}
use Rattle.std.specs.Prelude.{◌||◌}
use Rattle.std.specs.List.{filter}
use Rattle.next_rules.specs.Room.{may_leave, may_come, first_job}
use Rattle.next_contents.specs.Shown.{contents_of}
use Rattle.next_contents.proofs.Locking.{locks-there, locks-none}
use Rattle.next_contents.proofs.contents.Contents.pending_in.Goals as goal

pub returns-in-Some-clause-leaving : goal.returns-in-Some-clause-leaving
returns-in-Some-clause-leaving c =
    c.pending_in.ensures.leaving
    ∙ sym (ap (λ es. length (filter (may_leave (contents_of c.args.self.now) c.args.dir) es)) (locks-there c.args.self.now.locks c.args.dir.0 c.in-Some.names.now c.in-Some.ensures))

pub returns-in-Some-clause-coming : goal.returns-in-Some-clause-coming
returns-in-Some-clause-coming c =
    c.pending_in.ensures.coming
    ∙ sym (ap (λ es. length (filter may_come es)) (locks-there c.args.self.now.locks c.args.dir.0 c.in-Some.names.now c.in-Some.ensures))

pub returns-in-Some-clause-job : goal.returns-in-Some-clause-job
returns-in-Some-clause-job c =
    c.pending_in.ensures.job
    ∙ sym (ap (λ es. first_job (filter (λ e. may_leave (contents_of c.args.self.now) c.args.dir e || may_come e) es)) (locks-there c.args.self.now.locks c.args.dir.0 c.in-Some.names.now c.in-Some.ensures))

pub returns-in-None-clause-leaving : goal.returns-in-None-clause-leaving
returns-in-None-clause-leaving c =
    sym (ap (λ es. length (filter (may_leave (contents_of c.args.self.now) c.args.dir) es)) (locks-none c.args.self.now.locks c.args.dir.0 c.in-None.ensures))

pub returns-in-None-clause-coming : goal.returns-in-None-clause-coming
returns-in-None-clause-coming c =
    sym (ap (λ es. length (filter may_come es)) (locks-none c.args.self.now.locks c.args.dir.0 c.in-None.ensures))

pub returns-in-None-clause-job : goal.returns-in-None-clause-job
returns-in-None-clause-job c =
    sym (ap (λ es. first_job (filter (λ e. may_leave (contents_of c.args.self.now) c.args.dir e || may_come e) es)) (locks-none c.args.self.now.locks c.args.dir.0 c.in-None.ensures))
