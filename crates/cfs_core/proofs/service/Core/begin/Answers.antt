use Rattle.std.proofs.Common.{◌≡◌, true, reverse, refl, ap, ◌∙◌, subst, sym, List}
use Rattle.cfs_ids.specs.declared.ids.PlaceNo.{PlaceNo}
use Rattle.cfs_rules.specs.Worlds.{Counts, AreCounts}
use Rattle.std.specs.List.{list_all}
use Rattle.cfs_rules.specs.Facts.{Unlocked}
use Rattle.cfs_rules.proofs.Locks.{opening-unlocked}
use Rattle.cfs_view.specs.Held.{Held}
use Rattle.cfs_view.specs.Views.{held, counts_of}
use Rattle.cfs_core.specs.Clients.{progress_in, works_with}
use Rattle.cfs_core.specs.Counted.{IsCounted}
use Rattle.cfs_core.specs.Reach.{ProgressThere, RowsThere, places_there}
use Rattle.cfs_core.specs.Weave.{world_from}
use Rattle.cfs_core.proofs.Named.{opening-named}
use Rattle.cfs_core.proofs.Opened.{opens-counted, opens-world, opens-there}
use Rattle.cfs_core.proofs.Shown.{members_of-started}
use Rattle.cfs_core.proofs.service.Core.begin.Goals as goal

pub invariant_of-result : goal.invariant_of-result
invariant_of-result c =
    let starts = rw c.as_slice-lists.ensures.same at c.in_ok-clients.ensures.starts in
    let counts = sym c.in_ok-new.ensures.counts in
    record {
      sound = record {
        service = c.in_ok-new.ensures.service;
        counted = subst (λ (o : List PlaceNo). IsCounted (reverse o) (held c.in_ok-new.field-0) (progress_in c.in_ok-clients.clients.items)) (sym c.new-2.ensures.items)
            (opens-counted c.in_ok-clients.clients.items c.args.script.now.commands (held c.in_ok-new.field-0) c.in_ok-new.ensures.held starts);
        sized = subst AreCounts counts c.requires.counts;
        alike = subst (λ (k : Counts). list_all (works_with k) c.in_ok-clients.clients.items ≡ true) counts c.in_ok-clients.ensures.alike;
        there = λ n. subst (λ (k : Counts). ProgressThere k (progress_in c.in_ok-clients.clients.items n)) counts (opens-there c.args.script.now c.requires.counts c.requires.built c.in_ok-clients.clients.items starts n);
        asked = subst (λ (o : List PlaceNo). places_there (counts_of c.in_ok-new.field-0) o ≡ true) (sym c.new-2.ensures.items) refl;
        named = subst (λ (h : Held). RowsThere (counts_of c.in_ok-new.field-0) h.shard) (sym c.in_ok-new.ensures.held) (opening-named (counts_of c.in_ok-new.field-0));
        free = subst (λ (h : Held). Unlocked h.shard) (sym c.in_ok-new.ensures.held) opening-unlocked;
      };
    }

pub returns-clause-world : goal.returns-clause-world
returns-clause-world c = ap (λ (o : List PlaceNo). world_from (reverse o) (held c.in_ok-new.field-0) (progress_in c.in_ok-clients.clients.items)) c.new-2.ensures.items
    ∙ opens-world c.in_ok-clients.clients.items c.args.script.now (held c.in_ok-new.field-0) c.in_ok-new.ensures.held (rw c.as_slice-lists.ensures.same at c.in_ok-clients.ensures.starts)

pub returns-clause-members : goal.returns-clause-members
returns-clause-members c = members_of-started c.in_ok-clients.clients.items c.args.script.now.commands (rw c.as_slice-lists.ensures.same at c.in_ok-clients.ensures.starts)
