-- Each client knows how many places there are.
use Rattle.std.proofs.Common.{◌≡◌, ℕ, suc, zero, ◌<◌, List, [], ◌∷◌, Bool, true, refl, sym, ap, ◌∙◌, subst, arith, set, get_or, length, map}
use Rattle.std.specs.Prelude.{◌==◌, ◌&&◌}
use Rattle.std.specs.List.{list_all}
use Rattle.std.proofs.lemmas.Bool.Decides.{nat_tests}
use Rattle.std.proofs.lemmas.List.Folds.{list_all-map}
use Rattle.cfs_rules.specs.Worlds.{Counts}
use Rattle.cfs_actor.specs.declared.client_state.ClientState.{ClientState}
use Rattle.cfs_actor.specs.Clients.{counts_of}
use Rattle.cfs_core.specs.Clients.{works_with}
use Rattle.cfs_core.proofs.Truths.{and_left, and_right, both}

abbrev are : Counts → Counts → Bool
are counts own = (own.shards == counts.shards) && (own.stores == counts.stores)

pub counts-work : (counts : Counts) (state : ClientState) → counts_of state ≡ counts → works_with counts state ≡ true
counts-work counts state is = subst (λ (k : Counts). are counts k ≡ true) (sym is) (both (counts.shards == counts.shards) (counts.stores == counts.stores) (grind (arith, nat_tests)) (grind (arith, nat_tests)))

pub work-counts : (counts : Counts) (state : ClientState) → works_with counts state ≡ true → counts_of state ≡ counts
work-counts counts state works =
    let first = and_left ((counts_of state).shards == counts.shards) _ works in
    let second = and_right ((counts_of state).shards == counts.shards) _ works in
    let shards : (counts_of state).shards ≡ counts.shards = grind (arith, nat_tests, first) in
    let stores : (counts_of state).stores ≡ counts.stores = grind (arith, nat_tests, second) in
    λ j. record { shards = shards j; stores = stores j }

pub alike-set : (counts : Counts) (states : List ClientState) (i : ℕ) (new : ClientState) → list_all (works_with counts) states ≡ true → works_with counts new ≡ true → list_all (works_with counts) (set states i new) ≡ true
alike-set counts [] i new all works = refl
alike-set counts (s ∷ states) zero new all works = both _ _ works (and_right (works_with counts s) _ all)
alike-set counts (s ∷ states) (suc i) new all works = both _ _ (and_left (works_with counts s) _ all) (alike-set counts states i new (and_right (works_with counts s) _ all) works)

pub alike-at : (counts : Counts) (states : List ClientState) (i : ℕ) (d : ClientState) → i < length states → list_all (works_with counts) states ≡ true → works_with counts (get_or states i d) ≡ true
alike-at counts [] i d lt all = absurd (omega arith)
alike-at counts (s ∷ states) zero d lt all = and_left (works_with counts s) _ all
alike-at counts (s ∷ states) (suc i) d lt all = alike-at counts states i d (omega arith) (and_right (works_with counts s) _ all)

-- states with the same counts work alike
pub alike-same : (counts : Counts) (xs ys : List ClientState) → map counts_of xs ≡ map counts_of ys → list_all (works_with counts) xs ≡ list_all (works_with counts) ys
alike-same counts xs ys e = sym (list_all-map (are counts) counts_of xs) ∙ ap (list_all (are counts)) e ∙ list_all-map (are counts) counts_of ys

pub counts-set : (states : List ClientState) (i : ℕ) (new d : ClientState) → counts_of new ≡ counts_of (get_or states i d) → map counts_of (set states i new) ≡ map counts_of states
counts-set [] i new d same = refl
counts-set (s ∷ states) zero new d same = ap (λ k. k ∷ map counts_of states) same
counts-set (s ∷ states) (suc i) new d same = ap (λ ks. counts_of s ∷ ks) (counts-set states i new d same)
