use Rattle.std.proofs.Common.{◌≡◌, refl, sym, ◌∙◌, ap, arith, None}
use Rattle.std.specs.FinMap.{get}
use Rattle.next_maps.proofs.Seen.{get-seen, insert-seen}
use Rattle.std.specs.Cmp.Lexicographic.{nat_list_cmp_total}
use Rattle.std.specs.FinMap.{nat_cmp-IsAntisymmetric, slice_cmp-IsAntisymmetric}
use Rattle.next_maps.proofs.names.NameMap.set.Goals as goal

pub returns-clause-ok : goal.returns-clause-ok
returns-clause-ok g c = elim c.match-insert.branch [
  | goal.in-Ok w ↦ rw (w.result-is, ← c.self.view_is) (insert-seen nat_list_cmp_total (slice_cmp-IsAntisymmetric nat_cmp-IsAntisymmetric) c.self.inside.tree c.insert.new.self c.args.name c.args.value (rw w.in-Ok.is at c.insert.ensures.updates))
  | goal.in-Err w ↦ rw w.result-is tt
]

pub returns-clause-before : goal.returns-clause-before
returns-clause-before g c = elim c.match-insert.branch [
  | goal.in-Ok w ↦ rw (w.result-is, ← c.self.view_is) (rw w.in-Ok.is at c.insert.ensures.old ∙ sym (get-seen nat_list_cmp_total c.self.inside.tree.entries c.args.name))
  | goal.in-Err w ↦ rw w.result-is tt
]

pub returns-clause-there : goal.returns-clause-there
returns-clause-there g c = elim c.match-insert.branch [
  | goal.in-Ok w ↦ rw w.result-is (λ there. refl)
  | goal.in-Err w ↦ λ there.
      let none : get c.args.self.now c.args.name ≡ None = ap (λ m. get m c.args.name) (sym c.self.view_is) ∙ get-seen nat_list_cmp_total c.self.inside.tree.entries c.args.name ∙ rw w.in-Err.is at c.insert.ensures.absent in
      grind (arith, rw none at there)
]
