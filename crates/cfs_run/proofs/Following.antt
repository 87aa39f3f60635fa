-- A course and the replies to its calls.
use Rattle.std.proofs.Common.{◌≡◌, ℕ, ◌+◌, ◌<◌, ◌≤◌, min, List, [], ◌∷◌, ◌++◌, length, drop, Bool, Option, Some, None, true, false, refl, sym, arith, Bor}
use Rattle.std.proofs.lemmas.List.{drop_more, length-drop}
use Rattle.std.specs.Option.{option_copied}
use Rattle.std.specs.Prelude.{is_some, slice_index_or}
use Rattle.cfs_ids.specs.declared.ids.Client.{Client}
use Rattle.cfs_ids.specs.declared.call.Reply.{Reply}
use Rattle.cfs_steps.specs.declared.call_done.CallDone.{CallDone}
use Rattle.cfs_steps.specs.declared.call_done.ClientCalls.{ClientCalls}
use Rattle.cfs_walk.specs.declared.command.Command.{Command}
use Rattle.cfs_walk.specs.Walks.{Course, Makes, Answered, followed, reply_in, heard_in}
use Rattle.cfs_run.specs.Replies.{replies_in, has_stepped, replies_of_client, replies_of}

-- one reply more is heard
pub followed-hear : (c : Course) (r : Reply) (rs : List Reply) → reply_in c ≡ None → followed c (r ∷ rs) ≡ followed (heard_in c r) rs
followed-hear (Makes call next) r rs e = refl
followed-hear (Answered reply) r rs e = cc

-- the course has its reply, or no reply is left
pub followed-ends : (c : Course) (rs : List Reply) → (reply_in c ≡ None → rs ≡ []) → followed c rs ≡ (reply_in c, rs)
followed-ends (Answered reply) rs e = refl
followed-ends (Makes call next) rs e = rw (e refl) refl

-- a lent reply is there, or not
pub none-lent : {X : Type 0} (r : Option (Bor X)) (found : Option X) → option_copied r ≡ found → is_some r ≡ false → found ≡ None
none-lent None found e none = sym e
none-lent (Some x) found e none = cc

pub some-lent : {X : Type 0} (r : Option (Bor X)) (found : Option X) → option_copied r ≡ found → is_some r ≡ true → found ≡ None → ⊥
some-lent None found e some none = cc
some-lent (Some x) found e some none = cc

-- a call that has ended is a step
pub stepped-some : (calls : List CallDone) (begun : Bool) → 0 < length calls → has_stepped (replies_in calls) begun ≡ true
stepped-some [] begun some = absurd (omega (arith, some))
stepped-some (call ∷ calls) begun some = refl

-- ---- the lines from a client on
pub replies-next : (lists : List (Client × List Command)) (calls : List ClientCalls) (i : ℕ) (list : Client × List Command) (made : ClientCalls)
    → list ≡ slice_index_or lists i list → made ≡ slice_index_or calls i made → i < length lists → i < length calls
    → replies_of (drop i lists) (drop i calls) ≡ replies_of_client list made ++ replies_of (drop (i + 1) lists) (drop (i + 1) calls)
replies-next lists calls i list made is are lt below = rw (drop_more lists i list lt, drop_more calls i made below, sym is, sym are) refl

pub replies-end : (lists : List (Client × List Command)) (calls : List ClientCalls) (i : ℕ) → min (length lists) (length calls) ≤ i → replies_of (drop i lists) (drop i calls) ≡ []
replies-end lists calls i past = by_left (drop i lists) (drop i calls) (omega (arith, past, length-drop i lists, length-drop i calls))
  where
    by_left : (ls : List (Client × List Command)) (cs : List ClientCalls) → min (length ls) (length cs) ≤ 0 → replies_of ls cs ≡ []
    by_left [] cs none = refl
    by_left (l ∷ ls) [] none = refl
    by_left (l ∷ ls) (c ∷ cs) none = absurd (omega (arith, none))
