-- Courses that ask in the root and in directories that look-ups told of.
use Rattle.std.proofs.Common.{◌≡◌, ℕ, suc, zero, List, [], ◌∷◌, true, ◌==◌, refl, arith, ap, ◌∙◌, if◌then◌else◌}
use Rattle.std.proofs.lemmas.Bool.{or_right}
use Rattle.std.proofs.lemmas.Bool.Decides.{nat_tests}
use Rattle.cfs_ids.specs.declared.ids.DirId.{DirId}
use Rattle.cfs_ids.specs.declared.ids.Node.TheVariants.{Dir, File}
use Rattle.cfs_ids.specs.declared.call.Call.{Call}
use Rattle.cfs_ids.specs.declared.call.Call.TheVariants as call
use Rattle.cfs_ids.specs.declared.call.Reply.{Reply}
use Rattle.cfs_ids.specs.declared.call.Reply.TheVariants.{Node, Busy}
use Rattle.cfs_steps.specs.Phases.{has_steps}
use Rattle.cfs_rules.specs.Worlds.{Plan, MayAsk, KeepsTo, knows, with_told, dir_of}
use Rattle.cfs_walk.specs.Walks.{Course, Makes, Answered, root, is_busy, calling, into_dir, at_entry, then_list, one_call, listing}
use Rattle.cfs_actor.specs.Plans.{followed_by}

-- whatever the replies are, each call asks in one of these directories, or in one that a reply has told
abbrev pub Keeps : List ℕ → Course → Type 0
Keeps dirs (Makes call next) = MayAsk dirs call × ((reply : Reply) → Keeps (with_told reply dirs) (next reply))
Keeps dirs (Answered reply) = Unit {0}

-- ---- what is known stays known, and what is told is known
knows-told : (dirs : List ℕ) (dir : ℕ) (reply : Reply) → knows dirs dir ≡ true → knows (with_told reply dirs) dir ≡ true
knows-told dirs dir (Node (Dir told)) h = or_right (told.0 == dir) (knows dirs dir) h
knows-told dirs dir reply h = h

knows-first : (dir : ℕ) (dirs : List ℕ) → knows (dir ∷ dirs) dir ≡ true
knows-first dir dirs = let same : (dir == dir) ≡ true = grind (arith, nat_tests) in rw same refl

-- ---- course by course
pub followed-keeps : (dirs : List ℕ) (course : Course) (plan : Plan) → Keeps dirs course → knows dirs 0 ≡ true → ((more : List ℕ) → knows more 0 ≡ true → KeepsTo more plan) → KeepsTo dirs (followed_by course plan)
followed-keeps dirs (Makes call next) plan keeps known later = (keeps.0, λ reply. followed-keeps (with_told reply dirs) (next reply) plan (keeps.1 reply) (knows-told dirs 0 reply known) later)
followed-keeps dirs (Answered reply) plan keeps known later = later dirs known

calling-keeps : (tries : ℕ) (dirs : List ℕ) (call : Call) (next : Reply → Course) → MayAsk dirs call → ((reply : Reply) → Keeps (with_told reply dirs) (next reply)) → Keeps dirs (calling tries call next)
calling-keeps zero dirs call next may keeps = (may, keeps)
calling-keeps (suc tries) dirs call next may keeps = (may, by_reply (calling-keeps tries dirs call next may keeps))
  where
    by_reply : Keeps dirs (calling tries call next) → (reply : Reply) → Keeps (with_told reply dirs) (if is_busy reply then calling tries call next else next reply)
    by_reply again (Busy job) = again
    by_reply again reply = keeps reply

into_dir-keeps : (reply : Reply) (dirs : List ℕ) (go : DirId → Course) → ((more : List ℕ) (dir : DirId) → knows more dir.0 ≡ true → Keeps more (go dir)) → Keeps (with_told reply dirs) (into_dir reply go)
into_dir-keeps (Node (Dir dir)) dirs go keeps = keeps (dir.0 ∷ dirs) dir (knows-first dir.0 dirs)
into_dir-keeps (Node (File file)) dirs go keeps = tt
into_dir-keeps reply dirs go keeps = tt

at_entry-keeps : (tries : ℕ) (path : List (List ℕ)) (dirs : List ℕ) (dir : DirId) (go : DirId → List ℕ → Course) → knows dirs dir.0 ≡ true
    → ((more : List ℕ) (at : DirId) (name : List ℕ) → knows more at.0 ≡ true → Keeps more (go at name)) → Keeps dirs (at_entry tries dir path go)
at_entry-keeps tries [] dirs dir go known keeps = tt
at_entry-keeps tries (name ∷ []) dirs dir go known keeps = keeps dirs dir name known
at_entry-keeps tries (name ∷ next ∷ names) dirs dir go known keeps =
    calling-keeps tries dirs (call.Lookup dir name) (λ reply. into_dir reply (λ child. at_entry tries child (next ∷ names) go)) (record { built = refl; known = known })
    (λ reply. into_dir-keeps reply dirs (λ child. at_entry tries child (next ∷ names) go) (λ more child told. at_entry-keeps tries (next ∷ names) more child go told keeps))

-- ---- the calls of a path's last name, and lists
pub one_call-keeps : (tries : ℕ) (path : List (List ℕ)) (make : DirId → List ℕ → Call) → ((dir : DirId) (name : List ℕ) → has_steps (make dir name) ≡ true) → ((dir : DirId) (name : List ℕ) → dir_of (make dir name) ≡ dir)
    → (dirs : List ℕ) → knows dirs 0 ≡ true → Keeps dirs (one_call tries path make)
one_call-keeps tries path make built asks dirs known = at_entry-keeps tries path dirs root (λ dir name. calling tries (make dir name) Answered) known
    (λ more dir name told. calling-keeps tries more (make dir name) Answered (record { built = built dir name; known = ap (λ (d : DirId). knows more d.0) (asks dir name) ∙ told }) (λ reply. tt))

list-keeps : (tries : ℕ) (dirs : List ℕ) (dir : DirId) → knows dirs dir.0 ≡ true → Keeps dirs (calling tries (call.List dir) Answered)
list-keeps tries dirs dir known = calling-keeps tries dirs (call.List dir) Answered (record { built = refl; known = known }) (λ reply. tt)

pub listing-keeps : (tries : ℕ) (path : List (List ℕ)) (dirs : List ℕ) → knows dirs 0 ≡ true → Keeps dirs (listing tries path)
listing-keeps tries [] dirs known = list-keeps tries dirs root known
listing-keeps tries (name ∷ names) dirs known = at_entry-keeps tries (name ∷ names) dirs root (λ dir last. calling tries (call.Lookup dir last) (then_list tries)) known
    (λ more dir last told. calling-keeps tries more (call.Lookup dir last) (then_list tries) (record { built = refl; known = told })
    (λ reply. into_dir-keeps reply more (λ at. calling tries (call.List at) Answered) (λ most at here. list-keeps tries most at here)))
