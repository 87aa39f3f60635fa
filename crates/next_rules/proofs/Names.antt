-- What the names of a directory have.
use Rattle.std.proofs.Common.{◌≡◌, ℕ, List, ◌∷◌, map, sym, ◌∙◌, ap}
use Rattle.std.specs.Option.{option_map}
use Rattle.std.specs.declared.cmp.Ordering.TheVariants.{Equal}
use Rattle.std.specs.Ordering.{nat_cmp}
use Rattle.std.specs.Cmp.Lexicographic.{slice_cmp, nat_list_cmp_total}
use Rattle.std.specs.FinMap.{get, entries, get-entries, get-from_entries, nat_cmp-IsAntisymmetric, slice_cmp-IsAntisymmetric}
use Rattle.next_ids.specs.Maps.{within}
use Rattle.next_ids.proofs.MapLemmas.{find-within}
use Rattle.next_rules.specs.Contents.{Shard}
use Rattle.next_rules.specs.Reading.{names_of}

pub bytes_apart : (x y : List ℕ) → slice_cmp nat_cmp x y ≡ Equal → x ≡ y
bytes_apart = slice_cmp-IsAntisymmetric nat_cmp-IsAntisymmetric

pub get-names_of : (shard : Shard) (d : ℕ) (name : List ℕ) → get (names_of shard d) name ≡ option_map (λ row. row.node) (get shard.rows (d ∷ name))
get-names_of shard d name =
    get-from_entries nat_list_cmp_total (map (λ e. (e.0, e.1.node)) (within d (entries shard.rows))) name
    ∙ find-within (λ row. row.node) d name (entries shard.rows)
    ∙ ap (option_map (λ row. row.node)) (sym (get-entries shard.rows (d ∷ name)))
