-- States that show the same.
use Rattle.std.proofs.Common.{◌≡◌, ℕ, suc, zero, ◌+◌, ◌<◌, List, [], ◌∷◌, ◌++◌, Bool, true, false, refl, ap, ◌∙◌, arith, set, get_or, length, map, take}
use Rattle.std.specs.Prelude.{if◌then◌else◌, ◌==◌}
use Rattle.std.proofs.lemmas.List.{take_more, map-append}
use Rattle.cfs_ids.specs.declared.ids.Client.{Client}
use Rattle.cfs_walk.specs.declared.command.Command.{Command}
use Rattle.cfs_rules.specs.Worlds.{Progress, starts, calls_of}
use Rattle.cfs_actor.specs.declared.client_state.ClientState.{ClientState}
use Rattle.cfs_actor.specs.Clients.{client_of, progress_of}
use Rattle.cfs_actor.specs.Plans.{plan_of}
use Rattle.cfs_core.specs.Clients.{progress_in, members_of}
use Rattle.cfs_core.specs.Ends.{calls_of_states}
use Rattle.cfs_core.specs.Opening.{shown, started, plans_in, members_in, StartsAs, tries}

-- a state that shows the same in the place of another
pub shown-set : (states : List ClientState) (i : ℕ) (new d : ClientState) → client_of new ≡ client_of (get_or states i d) → progress_of new ≡ progress_of (get_or states i d) → map shown (set states i new) ≡ map shown states
shown-set [] i new d c p = refl
shown-set (s ∷ states) zero new d c p = λ j. (c j, p j) ∷ map shown states
shown-set (s ∷ states) (suc i) new d c p = ap (λ es. (client_of s, progress_of s) ∷ es) (shown-set states i new d c p)

-- what a state of the list shows
pub shown-at : (xs ys : List ClientState) (i : ℕ) (d : ClientState) → map shown xs ≡ map shown ys → i < length xs → shown (get_or xs i d) ≡ shown (get_or ys i d)
shown-at [] ys i d e lt = absurd (omega arith)
shown-at (x ∷ xs) [] i d e lt = cc
shown-at (x ∷ xs) (y ∷ ys) zero d e lt = cc
shown-at (x ∷ xs) (y ∷ ys) (suc i) d e lt = let rest : map shown xs ≡ map shown ys = cc in shown-at xs ys i d rest (omega arith)

pub shown-length : (xs ys : List ClientState) → map shown xs ≡ map shown ys → length xs ≡ length ys
shown-length [] [] e = refl
shown-length [] (y ∷ ys) e = cc
shown-length (x ∷ xs) [] e = cc
shown-length (x ∷ xs) (y ∷ ys) e = let rest : map shown xs ≡ map shown ys = cc in let same = shown-length xs ys rest in omega (arith, same)

at_client : (xs ys : List ClientState) (c : ℕ) → map shown xs ≡ map shown ys → progress_in xs c ≡ progress_in ys c
at_client [] [] c e = refl
at_client [] (y ∷ ys) c e = cc
at_client (x ∷ xs) [] c e = cc
at_client (x ∷ xs) (y ∷ ys) c e =
    let rest : map shown xs ≡ map shown ys = cc in
    let pair : shown x ≡ shown y = cc in
    let who : client_of x ≡ client_of y = ap (λ (e : Client × Progress). e.0) pair in
    let what : progress_of x ≡ progress_of y = ap (λ (e : Client × Progress). e.1) pair in
    let later = at_client xs ys c rest in
    λ j. if (who j).0 == c then what j else later j

pub progress_in-shown : (xs ys : List ClientState) → map shown xs ≡ map shown ys → progress_in xs ≡ progress_in ys
progress_in-shown xs ys e = λ j c. at_client xs ys c e j

pub members_of-shown : (xs ys : List ClientState) → map shown xs ≡ map shown ys → members_of xs ≡ members_of ys
members_of-shown [] [] e = refl
members_of-shown [] (y ∷ ys) e = cc
members_of-shown (x ∷ xs) [] e = cc
members_of-shown (x ∷ xs) (y ∷ ys) e =
    let rest : map shown xs ≡ map shown ys = cc in
    let pair : shown x ≡ shown y = cc in
    let who : client_of x ≡ client_of y = ap (λ (e : Client × Progress). e.0) pair in
    let later = members_of-shown xs ys rest in
    λ j. (who j).0 ∷ later j

-- ---- the opening
started_at : (states : List ClientState) (lists : List (Client × List Command)) (c : ℕ) → StartsAs states lists → progress_in states c ≡ starts (plans_in lists c)
started_at [] [] c e = refl
started_at [] (l ∷ lists) c e = cc
started_at (s ∷ states) [] c e = cc
started_at (s ∷ states) (l ∷ lists) c e =
    let rest : map shown states ≡ map started lists = cc in
    let pair : shown s ≡ started l = cc in
    let who : client_of s ≡ l.0 = ap (λ (e : Client × Progress). e.0) pair in
    let what : progress_of s ≡ starts (plan_of tries l.1) = ap (λ (e : Client × Progress). e.1) pair in
    ap (λ (k : Client). if k.0 == c then progress_of s else progress_in states c) who
    ∙ by_test (l.0.0 == c) what (started_at states lists c rest)
  where
    by_test : (b : Bool) → progress_of s ≡ starts (plan_of tries l.1) → progress_in states c ≡ starts (plans_in lists c)
        → (if b then progress_of s else progress_in states c) ≡ starts (if b then plan_of tries l.1 else plans_in lists c)
    by_test true what rest = what
    by_test false what rest = rest

pub progress_in-started : (states : List ClientState) (lists : List (Client × List Command)) → StartsAs states lists → progress_in states ≡ (λ c. starts (plans_in lists c))
progress_in-started states lists e = λ j c. started_at states lists c e j

pub members_of-started : (states : List ClientState) (lists : List (Client × List Command)) → StartsAs states lists → members_of states ≡ members_in lists
members_of-started [] [] e = refl
members_of-started [] (l ∷ lists) e = cc
members_of-started (s ∷ states) [] e = cc
members_of-started (s ∷ states) (l ∷ lists) e =
    let rest : map shown states ≡ map started lists = cc in
    let pair : shown s ≡ started l = cc in
    let who : client_of s ≡ l.0 = ap (λ (e : Client × Progress). e.0) pair in
    let later = members_of-started states lists rest in
    λ j. (who j).0 ∷ later j

-- one more state's calls
pub calls_of_states-more : (states : List ClientState) (i : ℕ) (d : ClientState) → i < length states → calls_of_states (take (i + 1) states) ≡ calls_of_states (take i states) ++ calls_of (client_of (get_or states i d)) (progress_of (get_or states i d)) ∷ []
calls_of_states-more states i d lt = ap calls_of_states (take_more states i d lt) ∙ map-append (λ (s : ClientState). calls_of (client_of s) (progress_of s)) (take i states) (get_or states i d ∷ [])
