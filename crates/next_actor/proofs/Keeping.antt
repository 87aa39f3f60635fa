-- Courses whose calls are on the root and on nodes that look-ups told of.
use Rattle.std.proofs.Common.{◌≡◌, ℕ, suc, zero, List, [], ◌∷◌, true, false, refl, arith}
use Rattle.std.specs.Prelude.{◌-◌, ◌&&◌, Bool, if◌then◌else◌}
use Rattle.std.specs.List.{list_all}
use Rattle.std.proofs.lemmas.Bool.{or_right}
use Rattle.std.proofs.lemmas.Bool.Decides.{nat_tests}
use Rattle.next_ids.specs.declared.ids.DirId.{DirId}
use Rattle.next_ids.specs.declared.ids.FileId.{FileId}
use Rattle.next_ids.specs.declared.ids.Node.{Node}
use Rattle.next_ids.specs.declared.ids.Node.TheVariants.{Dir, File}
use Rattle.next_ids.specs.declared.call.Call.{Call}
use Rattle.next_ids.specs.declared.call.Call.TheVariants as call
use Rattle.next_ids.specs.declared.call.Reply.{Reply}
use Rattle.next_ids.specs.declared.call.Reply.TheVariants.{Node as NodeReply, Busy, Refused}
use Rattle.next_ids.specs.declared.errno.Errno.TheVariants.{Enametoolong}
use Rattle.next_ids.specs.Namespace.{is_node}
use Rattle.next_rules.specs.Actors.{Plan}
use Rattle.next_rules.specs.Setups.{MayAsk, KeepsTo, knows, with_told}
use Rattle.next_walk.specs.declared.command.Command.{Command}
use Rattle.next_walk.specs.declared.command.Command.TheVariants as command
use Rattle.next_walk.specs.Walks.{Course, Makes, Answered, root, is_busy, calling, into_dir, to_file, at_entry, then_list, then_truncate, then_rename, one_call, looked_up, listing, stating, renaming, calls_of, has_too_long, course_of}
use Rattle.next_actor.specs.Plans.{followed_by, plan_of}

-- whatever the replies are, each call is on these nodes, or on those that a reply has told
abbrev pub Keeps : List Node → Course → Type 0
Keeps nodes (Makes call next) = MayAsk nodes call × ((reply : Reply) → Keeps (with_told reply nodes) (next reply))
Keeps nodes (Answered reply) = Unit {0}

-- ---- what is known stays known, and what is told is known
abbrev Grows : List Node → List Node → Type 0
Grows nodes more = (n : Node) → knows nodes n ≡ true → knows more n ≡ true

grows-told : (reply : Reply) (nodes : List Node) → Grows nodes (with_told reply nodes)
grows-told (NodeReply told) nodes n h = or_right (is_node n told) (knows nodes n) h
grows-told reply nodes n h = h

is_node-same : (n : Node) → is_node n n ≡ true
is_node-same (File file) = grind (arith, nat_tests)
is_node-same (Dir dir) = grind (arith, nat_tests)

knows-first : (n : Node) (nodes : List Node) → knows (n ∷ nodes) n ≡ true
knows-first n nodes = rw (is_node-same n) refl

both : (x y : Bool) → x ≡ true → y ≡ true → (x && y) ≡ true
both x y h k = rw (h, k) refl

may-one : (nodes : List Node) (n : Node) → knows nodes n ≡ true → list_all (knows nodes) (n ∷ []) ≡ true
may-one nodes n h = both (knows nodes n) true h refl

-- ---- course by course
followed-keeps : (nodes : List Node) (course : Course) (plan : Plan) → Keeps nodes course → ((more : List Node) → Grows nodes more → KeepsTo more plan) → KeepsTo nodes (followed_by course plan)
followed-keeps nodes (Makes call next) plan keeps later =
    (keeps.0, λ reply. followed-keeps (with_told reply nodes) (next reply) plan (keeps.1 reply) (λ more grows. later more (λ n h. grows n (grows-told reply nodes n h))))
followed-keeps nodes (Answered reply) plan keeps later = later nodes (λ n h. h)

calling-keeps : (tries : ℕ) (nodes : List Node) (call : Call) (next : Reply → Course) → MayAsk nodes call → ((reply : Reply) → Keeps (with_told reply nodes) (next reply)) → Keeps nodes (calling tries call next)
calling-keeps zero nodes call next may keeps = (may, keeps)
calling-keeps (suc tries) nodes call next may keeps = (may, by_reply (calling-keeps tries nodes call next may keeps))
  where
    by_reply : Keeps nodes (calling tries call next) → (reply : Reply) → Keeps (with_told reply nodes) (if is_busy reply then calling tries call next else next reply)
    by_reply again (Busy job) = again
    by_reply again reply = keeps reply

last-keeps : (tries : ℕ) (nodes : List Node) (call : Call) → MayAsk nodes call → Keeps nodes (calling tries call Answered)
last-keeps tries nodes call may = calling-keeps tries nodes call Answered may (λ reply. tt)

into_dir-keeps : (reply : Reply) (nodes : List Node) (go : DirId → Course) → ((more : List Node) (dir : DirId) → Grows nodes more → knows more (Dir dir) ≡ true → Keeps more (go dir)) → Keeps (with_told reply nodes) (into_dir reply go)
into_dir-keeps (NodeReply (Dir dir)) nodes go keeps = keeps (Dir dir ∷ nodes) dir (grows-told (NodeReply (Dir dir)) nodes) (knows-first (Dir dir) nodes)
into_dir-keeps (NodeReply (File file)) nodes go keeps = tt
into_dir-keeps reply nodes go keeps = tt

to_file-keeps : (reply : Reply) (nodes : List Node) (go : FileId → Course) → ((more : List Node) (file : FileId) → knows more (File file) ≡ true → Keeps more (go file)) → Keeps (with_told reply nodes) (to_file reply go)
to_file-keeps (NodeReply (File file)) nodes go keeps = keeps (File file ∷ nodes) file (knows-first (File file) nodes)
to_file-keeps (NodeReply (Dir dir)) nodes go keeps = tt
to_file-keeps reply nodes go keeps = tt

at_entry-keeps : (tries : ℕ) (path : List (List ℕ)) (nodes : List Node) (dir : DirId) (go : DirId → List ℕ → Course) → knows nodes (Dir dir) ≡ true
    → ((more : List Node) (at : DirId) (name : List ℕ) → Grows nodes more → knows more (Dir at) ≡ true → Keeps more (go at name)) → Keeps nodes (at_entry tries dir path go)
at_entry-keeps tries [] nodes dir go known keeps = tt
at_entry-keeps tries (name ∷ []) nodes dir go known keeps = keeps nodes dir name (λ n h. h) known
at_entry-keeps tries (name ∷ next ∷ names) nodes dir go known keeps =
    calling-keeps tries nodes (call.Lookup dir name) (λ reply. into_dir reply (λ child. at_entry tries child (next ∷ names) go)) (may-one nodes (Dir dir) known)
    (λ reply. into_dir-keeps reply nodes (λ child. at_entry tries child (next ∷ names) go)
    (λ more child grows told. at_entry-keeps tries (next ∷ names) more child go told (λ most at last further here. keeps most at last (λ n h. further n (grows n h)) here)))

-- ---- the calls of a path's last name, and what comes of a last look-up
abbrev KnowsRoot : List Node → Type 0
KnowsRoot nodes = knows nodes (Dir root) ≡ true

one_call-keeps : (tries : ℕ) (path : List (List ℕ)) (make : DirId → List ℕ → Call) → ((nodes : List Node) (dir : DirId) (name : List ℕ) → knows nodes (Dir dir) ≡ true → MayAsk nodes (make dir name))
    → (nodes : List Node) → KnowsRoot nodes → Keeps nodes (one_call tries path make)
one_call-keeps tries path make may nodes known = at_entry-keeps tries path nodes root (λ dir name. calling tries (make dir name) Answered) known
    (λ more dir name grows told. last-keeps tries more (make dir name) (may more dir name told))

looked_up-keeps : (tries : ℕ) (path : List (List ℕ)) (go : Reply → Course) → ((more : List Node) (reply : Reply) → Keeps (with_told reply more) (go reply)) → (nodes : List Node) → KnowsRoot nodes → Keeps nodes (looked_up tries path go)
looked_up-keeps tries path go keeps nodes known = at_entry-keeps tries path nodes root (λ dir name. calling tries (call.Lookup dir name) go) known
    (λ more dir name grows told. calling-keeps tries more (call.Lookup dir name) go (may-one more (Dir dir) told) (keeps more))

then_list-keeps : (tries : ℕ) (more : List Node) (reply : Reply) → Keeps (with_told reply more) (then_list tries reply)
then_list-keeps tries more reply = into_dir-keeps reply more (λ dir. calling tries (call.List dir) Answered) (λ most dir grows told. last-keeps tries most (call.List dir) (may-one most (Dir dir) told))

then_truncate-keeps : (tries size : ℕ) (more : List Node) (reply : Reply) → Keeps (with_told reply more) (then_truncate tries size reply)
then_truncate-keeps tries size more reply = to_file-keeps reply more (λ file. calling tries (call.Truncate file size) Answered) (λ most file told. last-keeps tries most (call.Truncate file size) (may-one most (File file) told))

listing-keeps : (tries : ℕ) (path : List (List ℕ)) (nodes : List Node) → KnowsRoot nodes → Keeps nodes (listing tries path)
listing-keeps tries [] nodes known = last-keeps tries nodes (call.List root) (may-one nodes (Dir root) known)
listing-keeps tries (name ∷ names) nodes known = looked_up-keeps tries (name ∷ names) (then_list tries) (then_list-keeps tries) nodes known

stating-keeps : (tries : ℕ) (path : List (List ℕ)) (nodes : List Node) → KnowsRoot nodes → Keeps nodes (stating tries path)
stating-keeps tries [] nodes known = last-keeps tries nodes call.StatRoot refl
stating-keeps tries (name ∷ names) nodes known = one_call-keeps tries (name ∷ names) call.Stat (λ more dir last told. may-one more (Dir dir) told) nodes known

renaming-keeps : (tries : ℕ) (path to : List (List ℕ)) (nodes : List Node) → KnowsRoot nodes → Keeps nodes (renaming tries path to)
renaming-keeps tries path to nodes known = at_entry-keeps tries path nodes root (λ dir name. at_entry tries root to (then_rename tries dir name)) known
    (λ more dir name grows told. at_entry-keeps tries to more root (then_rename tries dir name) (grows (Dir root) known)
    (λ most to_dir to_name further here. last-keeps tries most (call.Rename dir name to_dir to_name) (both (knows most (Dir dir)) (knows most (Dir to_dir) && true) (further (Dir dir) told) (may-one most (Dir to_dir) here))))

-- ---- command by command
calls-keeps : (tries : ℕ) (command : Command) (nodes : List Node) → KnowsRoot nodes → Keeps nodes (calls_of tries command)
calls-keeps tries (command.Lookup path) nodes known = one_call-keeps tries path call.Lookup (λ more dir name told. may-one more (Dir dir) told) nodes known
calls-keeps tries (command.List path) nodes known = listing-keeps tries path nodes known
calls-keeps tries (command.Stat path) nodes known = stating-keeps tries path nodes known
calls-keeps tries (command.Create path) nodes known = one_call-keeps tries path call.Create (λ more dir name told. may-one more (Dir dir) told) nodes known
calls-keeps tries (command.Mkdir path) nodes known = one_call-keeps tries path call.Mkdir (λ more dir name told. may-one more (Dir dir) told) nodes known
calls-keeps tries (command.Unlink path) nodes known = one_call-keeps tries path call.Unlink (λ more dir name told. may-one more (Dir dir) told) nodes known
calls-keeps tries (command.Rmdir path) nodes known = one_call-keeps tries path call.Rmdir (λ more dir name told. may-one more (Dir dir) told) nodes known
calls-keeps tries (command.Truncate path size) nodes known = looked_up-keeps tries path (then_truncate tries size) (then_truncate-keeps tries size) nodes known
calls-keeps tries (command.Rename path to) nodes known = renaming-keeps tries path to nodes known

course-keeps : (tries : ℕ) (command : Command) (nodes : List Node) → KnowsRoot nodes → Keeps nodes (course_of tries command)
course-keeps tries command nodes known = elim (has_too_long command) as (λ b. Keeps nodes (if b then Answered (Refused Enametoolong) else calls_of (tries - 1) command)) [
  | true ↦ tt
  | false ↦ calls-keeps (tries - 1) command nodes known
]

-- the plan of any commands keeps to the root and to what replies have told
pub plan-keeps : (tries : ℕ) (commands : List Command) (nodes : List Node) → KnowsRoot nodes → KeepsTo nodes (plan_of tries commands)
plan-keeps tries [] nodes known = tt
plan-keeps tries (command ∷ commands) nodes known =
    followed-keeps nodes (course_of tries command) (plan_of tries commands) (course-keeps tries command nodes known) (λ more grows. plan-keeps tries commands more (grows (Dir root) known))
