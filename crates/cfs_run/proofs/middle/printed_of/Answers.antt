use Rattle.std.proofs.Common.{refl, map, List, subst, sym}
use Rattle.std.specs.Prelude.{IsTrue}
use Rattle.std.specs.List.{list_all}
use Rattle.cfs_ids.specs.declared.ids.Client.{Client}
use Rattle.cfs_walk.specs.declared.command.Command.{Command}
use Rattle.cfs_core.specs.Clients.{number_in}
use Rattle.cfs_core.specs.Opening.{members_in, setup_of}
use Rattle.cfs_setup.specs.Lists.{turns_in}
use Rattle.cfs_run.proofs.Members.{callers, rising}
use Rattle.cfs_run.proofs.Printing.{of-run}
use Rattle.cfs_run.proofs.Setups.{setup-of, all-in-form}
use Rattle.cfs_run.specs.Replies.{are_in_form}
use Rattle.cfs_run.proofs.middle.printed_of.Goals as goal

pub replies_of-requires : goal.replies_of-requires
replies_of-requires c = subst (λ (lists : List (Client × List Command)). IsTrue (list_all are_in_form lists)) (sym c.as_slice.ensures.same) (all-in-form c.args.script.now.commands c.requires.form.built)

pub returns : goal.returns
returns c = let clients = rising 0 c.args.script.now.commands c.requires.form.rising in
    of-run c.args.script.now c.args.run.now
    (record { shards = c.args.script.now.shards; stores = c.args.script.now.stores; replies = c.in_ok-replies_of.field-0; history = c.in_ok-history.field-0; tree = c.in_ok-tree_of.field-0; steps = c.len.result; tally = c.tally.result })
    c.requires.form c.requires.run
    (c.in_ok-history.ensures.judged (setup_of c.args.script.now) (setup-of c.args.script.now c.requires.form) (map number_in (turns_in c.args.script.now.turns)) (members_in c.args.script.now.commands) clients.1 (callers c.args.script.now.commands) c.requires.run)
    refl refl (rw (c.as_slice.ensures.same, c.as_slice-2.ensures.value) at c.in_ok-replies_of.ensures) c.in_ok-tree_of.ensures c.len.ensures c.tally.ensures
