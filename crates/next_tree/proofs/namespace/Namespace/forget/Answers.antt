use Rattle.std.proofs.Common.{◌≡◌, false, sym, subst}
use Rattle.next_ids.specs.Namespace.{Namespace, is_listed, IsWhole}
use Rattle.next_laws_namespace.proofs.Whole.{kept-forgotten}
use Rattle.next_tree.proofs.namespace.Namespace.forget.Goals as goal

pub returns-clause-whole : goal.returns-clause-whole
returns-clause-whole c = λ whole.
    let free = subst (λ (n : Namespace). is_listed n c.args.file.0 ≡ false) (sym c.self.view_is) (sym c.if-is_named.ensures) in
    rw c.cut.ensures.map (kept-forgotten (record { dirs = c.self.inside.dirs; files = c.self.inside.files }) c.args.file.0 free (subst IsWhole (sym c.self.view_is) whole)).0
