-- The tree that the places hold as they open: the empty root.
use Rattle.std.proofs.Common.{◌≡◌, ◌∷◌, cond, sym, ◌∙◌, ap, inl, inr}
use Rattle.std.specs.Prelude.{Some, None}
use Rattle.std.specs.Option.{option_map}
use Rattle.std.specs.Ordering.{nat_cmp}
use Rattle.std.specs.Cmp.{nat_cmp_total}
use Rattle.std.specs.Cmp.Lexicographic.{slice_cmp}
use Rattle.std.specs.FinMap.{get, empty, get-empty, same_map, nat_cmp-IsAntisymmetric}
use Rattle.next_ids.specs.declared.ids.Node.{Node}
use Rattle.next_ids.specs.Maps.{Names}
use Rattle.next_ids.specs.Namespace.{Directory, FileFacts, empty_root}
use Rattle.next_ids.specs.Times.{start}
use Rattle.next_steps.specs.declared.contents.Row.{Row}
use Rattle.next_steps.specs.declared.contents.DirRec.{DirRec}
use Rattle.next_steps.specs.declared.contents.FileRec.{FileRec}
use Rattle.next_rules.specs.Contents.{root_rec, opening_shard}
use Rattle.next_rules.specs.Trees.{facts_of, tree}
use Rattle.next_laws_stages.specs.Stages.{is_in, is_kept}
use Rattle.next_laws_stages.specs.Held.{dir_at, number_of, still}
use Rattle.next_laws_stages.proofs.Maps.{set_here_n, set_away_n, numbers_or_not}
use Rattle.next_laws_stages.proofs.Shown.{file_at, dir_there, dir_gone, get_files}
use Rattle.next_laws_stages.proofs.Moves.{no_names}
use Rattle.next_laws_stages.proofs.Openings.{opening_stage, at_root, elsewhere, opening_places}

pub opening_tree : tree (still opening_shard empty) ≡ empty_root
opening_tree = λ i. record { dirs = dirs i; files = files i }
  where
    dirs : (tree (still opening_shard empty)).dirs ≡ empty_root.dirs
    dirs = same_map nat_cmp_total nat_cmp-IsAntisymmetric _ _ (λ q. elim (numbers_or_not q 0) [
      | inl zero' ↦ ap (get (tree (still opening_shard empty)).dirs) zero'
          ∙ dir_there opening_stage opening_shard empty (λ place. 0) opening_places 0 root_rec (ap is_in at_root) (set_here_n (empty {X = DirRec} {R = nat_cmp}) 0 root_rec)
          ∙ ap (λ (ns : Names Node). Some (record { names = ns; time = start })) (no_names opening_shard 0 (λ name. get-empty {X = Row} (slice_cmp nat_cmp) (0 ∷ name)))
          ∙ sym (ap (get empty_root.dirs) zero' ∙ set_here_n (empty {X = Directory} {R = nat_cmp}) 0 (record { names = empty; time = start }))
      | inr differ ↦ dir_gone opening_stage opening_shard empty (λ place. 0) opening_places q (ap is_in (elsewhere (dir_at q) (λ e. differ (ap number_of e))))
          ∙ sym (set_away_n (empty {X = Directory} {R = nat_cmp}) 0 q (record { names = empty; time = start }) differ ∙ get-empty {X = Directory} nat_cmp q)
    ])

    files : (tree (still opening_shard empty)).files ≡ empty
    files = same_map nat_cmp_total nat_cmp-IsAntisymmetric _ _ (λ f. get_files opening_stage opening_shard empty (λ place. 0) opening_places f
        ∙ ap (λ s. option_map facts_of (cond (is_kept s) (get (empty {X = FileRec} {R = nat_cmp}) f) None)) (elsewhere (file_at f) (λ e. cc)) ∙ sym (get-empty {X = FileFacts} nat_cmp f))
