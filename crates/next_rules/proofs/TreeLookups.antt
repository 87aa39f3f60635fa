-- What the tree has of a directory and of a file.
use Rattle.std.proofs.Common.{◌≡◌, ℕ, List, [], ◌∷◌, map, cond, refl, sym, ◌∙◌, ap, arith}
use Rattle.std.specs.Prelude.{◌==◌, Some, None}
use Rattle.std.specs.Option.{option_map}
use Rattle.std.specs.List.{list_any}
use Rattle.std.proofs.lemmas.Bool.Decides.{nat_tests}
use Rattle.std.specs.Ordering.{nat_cmp}
use Rattle.std.specs.Cmp.{nat_cmp_total}
use Rattle.std.specs.FinMap.{get, find, nat_cmp-IsAntisymmetric, retain_keys, get-retain_keys, get-from_entries}
use Rattle.next_ids.proofs.MapLemmas.{get-map_values}
use Rattle.next_rules.specs.Worlds.{Service}
use Rattle.next_rules.specs.Trees.{shown_dirs, is_shown, directory_of, is_counted, facts_of, tree}

find-among : {X : Type 0} (f : ℕ → X) (ds : List ℕ) (d : ℕ) → find nat_cmp d (map (λ x. (x, f x)) ds) ≡ cond (list_any (λ x. x == d) ds) (Some (f d)) None
find-among f [] d = refl
find-among f (x ∷ ds) d = grind (arith, nat_tests, find-among f ds d)

pub get-tree_dirs : (v : Service) (d : ℕ) → get (tree v).dirs d ≡ cond (is_shown v.shard d) (Some (directory_of v d)) None
get-tree_dirs v d = get-from_entries nat_cmp_total (map (λ x. (x, directory_of v x)) (shown_dirs v.shard)) d ∙ find-among (directory_of v) (shown_dirs v.shard) d

pub get-tree_files : (v : Service) (f : ℕ) → get (tree v).files f ≡ option_map facts_of (cond (is_counted v f) (get v.store f) None)
get-tree_files v f =
    get-map_values nat_cmp_total nat_cmp-IsAntisymmetric (λ f r. facts_of r) (retain_keys v.store (is_counted v)) f
    ∙ ap (option_map facts_of) (get-retain_keys v.store (is_counted v) f (λ x e. ap (is_counted v) (sym (nat_cmp-IsAntisymmetric f x e))))
