-- The jobs by their places, and which were taken.
use Rattle.std.proofs.Common.{◌≡◌, ◌≢◌, ℕ, ◌-◌, suc, zero, ◌+◌, ◌≤◌, List, [], ◌∷◌, ◌++◌, false, length, set, refl, sym, ap, ◌∙◌, arith}
use Rattle.std.specs.Prelude.{slice_get, Option, Some, None}
use Rattle.std.specs.Option.{option_map}
use Rattle.std.proofs.lemmas.Option.{same_Some}
use Rattle.next_ids.specs.declared.ids.At.{At}
use Rattle.next_ids.specs.declared.call.Reply.{Reply}
use Rattle.next_steps.specs.declared.contents.Job.{Job}
use Rattle.next_rules.specs.Desks.{nth_job, with_nth, job_numbered, with_numbered, job_taken, job_answered, waiting_from, taken_first}
use Rattle.next_desk.specs.Queues.{AreTaken}

pub nth_job-get : (n : ℕ) (js : List Job) → slice_get js n ≡ nth_job n js
nth_job-get n [] = refl
nth_job-get zero (j ∷ js) = refl
nth_job-get (suc n) (j ∷ js) = nth_job-get n js

pub with_nth-there : (change : Job → Job) (n : ℕ) (js : List Job) (j : Job) → slice_get js n ≡ Some j → set js n (change j) ≡ with_nth change n js
with_nth-there change n [] j e = refl
with_nth-there change zero (x ∷ js) j e = let same : x ≡ j = cc in ap (λ y. change y ∷ js) (sym same)
with_nth-there change (suc n) (x ∷ js) j e = ap (λ ys. x ∷ ys) (with_nth-there change n js j e)

pub with_nth-past : (change : Job → Job) (n : ℕ) (js : List Job) → length js ≤ n → js ≡ with_nth change n js
with_nth-past change n [] past = refl
with_nth-past change zero (x ∷ js) past = absurd (omega arith)
with_nth-past change (suc n) (x ∷ js) past = ap (λ ys. x ∷ ys) (with_nth-past change n js (omega arith))

pub push-taken : (n : ℕ) (js : List Job) (j : Job) → j.taken ≡ false → AreTaken n js → AreTaken n (js ++ j ∷ [])
push-taken zero [] j e h = (e, tt)
push-taken (suc n) [] j e h = absurd h
push-taken zero (x ∷ js) j e h = (h.0, push-taken zero js j e h.1)
push-taken (suc n) (x ∷ js) j e h = (h.0, push-taken n js j e h.1)

pub take-taken : (n : ℕ) (js : List Job) (j : Job) → slice_get js n ≡ Some j → AreTaken n js → AreTaken (suc n) (set js n (job_taken j))
take-taken zero [] j e h = cc
take-taken (suc n) [] j e h = absurd h
take-taken zero (x ∷ js) j e h = (refl, h.1)
take-taken (suc n) (x ∷ js) j e h = (h.0, take-taken n js j e h.1)

pub answer-taken : (n k : ℕ) (js : List Job) (reply : Reply) (at : At) → AreTaken n js → AreTaken n (with_nth (job_answered reply at) k js)
answer-taken n k [] reply at h = h
answer-taken zero zero (x ∷ js) reply at h = h
answer-taken zero (suc k) (x ∷ js) reply at h = (h.0, answer-taken zero k js reply at h.1)
answer-taken (suc n) zero (x ∷ js) reply at h = h
answer-taken (suc n) (suc k) (x ∷ js) reply at h = (h.0, answer-taken n k js reply at h.1)

pub waiting-at : (k n : ℕ) (js : List Job) → AreTaken n js → option_map (λ j. (k + n, j)) (slice_get js n) ≡ waiting_from k js
waiting-at k zero [] h = refl
waiting-at k (suc n) [] h = absurd h
waiting-at k zero (x ∷ js) h =
    let number : k + 0 ≡ k = omega arith in
    ap (λ m. Some (m, x)) number ∙ ap (λ b. taken_first b k (waiting_from (suc k) js) x) (sym h.0)
waiting-at k (suc n) (x ∷ js) h =
    let number : k + suc n ≡ suc k + n = omega arith in
    ap (λ m. option_map (λ j. (m, j)) (slice_get js n)) number ∙ waiting-at (suc k) n js h.1
    ∙ ap (λ b. taken_first b k (waiting_from (suc k) js) x) (sym h.0)

-- the n-th job stands at n - 1
pub numbered-get : (n : ℕ) (js : List Job) → n ≢ 0 → slice_get js (n - 1) ≡ job_numbered n js
numbered-get zero js some = absurd (some refl)
numbered-get (suc n) js some = let at : suc n - 1 ≡ n = omega arith in ap (slice_get js) at ∙ nth_job-get n js

pub with_numbered-nth : (change : Job → Job) (n : ℕ) (js : List Job) → n ≢ 0 → with_nth change (n - 1) js ≡ with_numbered change n js
with_numbered-nth change zero js some = absurd (some refl)
with_numbered-nth change (suc n) js some = let at : suc n - 1 ≡ n = omega arith in ap (λ m. with_nth change m js) at

-- what is found is one number and one job, or nothing
pub same_number : (n number : ℕ) (j job : Job) → ◌≡◌ {A = Option (ℕ × Job)} (Some (1 + n, j)) (Some (number, job)) → suc n ≡ number
same_number n number j job e = let same = ap (λ p. p.0) (same_Some {A = ℕ × Job} (1 + n, j) (number, job) e) in omega arith

pub none_waits : (number : ℕ) (job : Job) → ◌≡◌ {A = Option (ℕ × Job)} None (Some (number, job)) → ⊥
none_waits number job e = cc
