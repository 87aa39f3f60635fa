use Rattle.std.proofs.Common.{◌≡◌, sym, ◌∙◌, ap}
use Rattle.std.specs.Option.{option_copied}
use Rattle.std.specs.Ordering.{nat_cmp}
use Rattle.std.specs.Range.Bound.{bound_map}
use Rattle.std.specs.Cmp.Lexicographic.{slice_cmp, nat_list_cmp_total}
use Rattle.std.specs.FinMap.{nat_cmp-IsAntisymmetric, slice_cmp-IsAntisymmetric}
use Rattle.std.specs.Map.Iter.{deref_pair}
use Rattle.next_maps.specs.Walks.{first_of}
use Rattle.next_maps.proofs.Seen.{entries-seen}
use Rattle.next_maps.proofs.Walking.{start_of, between-after, first-shown}
use Rattle.next_maps.proofs.names.NameMap.next.Goals as goal

pub returns : goal.returns
returns g c =
    let start : bound_map (λ x. x.now) c.match-after.start ≡ start_of (option_copied c.args.after) = elim c.match-after.branch [
      | goal.in-Some w ↦ ap (bound_map (λ x. x.now)) w.start-is ∙ ap (λ a. start_of (option_copied a)) (sym w.in-Some.is)
      | goal.in-None w ↦ ap (bound_map (λ x. x.now)) w.start-is ∙ ap (λ a. start_of (option_copied a)) (sym w.in-None.is)
    ] in
    let left = c.range.ensures.between tt ∙ rw start (between-after (slice_cmp nat_cmp) (option_copied c.args.after) c.self.inside.tree.entries) in
    rw (← c.self.view_is, entries-seen nat_list_cmp_total (slice_cmp-IsAntisymmetric nat_cmp-IsAntisymmetric) c.self.inside.tree c.range.ensures.ordered)
    (first-shown deref_pair _ _ _ c.next.ensures.steps ∙ ap first_of left)
