-- The first lines and the last.
use Rattle.std.specs.Prelude.{ℕ, List, [], ◌∷◌, ◌++◌, codes, decimal}
use Rattle.std.specs.List.{concat}
use Rattle.next_print.specs.declared.summary.Summary.{Summary}

-- places SHARDS STORES, under the format's name
unfoldable pub head_lines : (shards stores : ℕ) → List ℕ
head_lines shards stores = concat (codes "cfs 1\nplaces " ∷ decimal shards ∷ codes " " ∷ decimal stores ∷ codes "\n" ∷ [])

-- the counts of the run, and of what is left behind
unfoldable pub run_counts : Summary → List ℕ
run_counts s = concat (codes "s steps=" ∷ decimal s.steps ∷ codes " calls=" ∷ decimal s.calls ∷ codes " unfinished=" ∷ decimal s.unfinished ∷ codes " busy=" ∷ decimal s.busy ∷ [])

unfoldable pub left_counts : Summary → List ℕ
left_counts s = concat (codes " forgets=" ∷ decimal s.forgets ∷ codes " owed=" ∷ decimal s.owed ∷ codes " debts=" ∷ decimal s.debts ∷ codes " marks=" ∷ decimal s.marks ∷ codes " strays=" ∷ decimal s.strays ∷ codes "\n" ∷ [])

unfoldable pub summary_line : Summary → List ℕ
summary_line s = run_counts s ++ left_counts s
