use Rattle.std.proofs.Common.{◌≡◌, sym, ◌∙◌, ap}
use Rattle.std.specs.Ordering.{nat_cmp}
use Rattle.std.specs.Cmp.{nat_cmp_total}
use Rattle.std.specs.FinMap.{nat_cmp-IsAntisymmetric}
use Rattle.std.specs.Map.Iter.{deref_pair}
use Rattle.next_maps.specs.Walks.{first_of}
use Rattle.next_maps.proofs.Seen.{entries-seen}
use Rattle.next_maps.proofs.Walking.{start_of, between-after, first-shown}
use Rattle.next_maps.proofs.numbers.NumberMap.next.Goals as goal

pub returns-in-Some-next : goal.returns-in-Some-next
returns-in-Some-next g c =
    let start : c.match-after.start ≡ start_of c.args.after = elim c.match-after.branch [
      | goal.in-Some w ↦ w.start-is ∙ ap start_of (sym w.in-Some.is)
      | goal.in-None w ↦ w.start-is ∙ ap start_of (sym w.in-None.is)
    ] in
    let left = c.range.ensures.between tt ∙ rw start (between-after nat_cmp c.args.after c.self.inside.tree.entries) in
    let shown = first-shown deref_pair _ _ _ c.next.ensures.steps in
    rw (← c.self.view_is, entries-seen nat_cmp_total nat_cmp-IsAntisymmetric c.self.inside.tree c.range.ensures.ordered) (rw c.in-Some-next.is at shown ∙ ap first_of left)

pub returns-in-None-next : goal.returns-in-None-next
returns-in-None-next g c =
    let start : c.match-after.start ≡ start_of c.args.after = elim c.match-after.branch [
      | goal.in-Some w ↦ w.start-is ∙ ap start_of (sym w.in-Some.is)
      | goal.in-None w ↦ w.start-is ∙ ap start_of (sym w.in-None.is)
    ] in
    let left = c.range.ensures.between tt ∙ rw start (between-after nat_cmp c.args.after c.self.inside.tree.entries) in
    let shown = first-shown deref_pair _ _ _ c.next.ensures.steps in
    rw (← c.self.view_is, entries-seen nat_cmp_total nat_cmp-IsAntisymmetric c.self.inside.tree c.range.ensures.ordered) (rw c.in-None-next.is at shown ∙ ap first_of left)
