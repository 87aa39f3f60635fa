-- What holds of every world, in the form that each turn keeps.
use Rattle.std.proofs.Common.{◌≡◌, ◌≢◌, ℕ, suc, ◌+◌, ◌*◌, ◌<◌, List, ◌∷◌, Bool, true, false, cond, refl, sym, ◌∙◌, subst, arith, ◌⊎◌}
use Rattle.std.specs.Prelude.{if◌then◌else◌, ◌||◌, ◌==◌, Option, Some, None}
use Rattle.std.proofs.lemmas.Bool.Decides.{nat_tests}
use Rattle.std.specs.List.{list_any}
use Rattle.std.specs.Option.{option_map}
use Rattle.std.specs.Ordering.{nat_cmp}
use Rattle.std.specs.Cmp.Lexicographic.{slice_cmp, nat_list_cmp_total}
use Rattle.std.specs.FinMap.{get, insert, remove, entries, gets, entries-insert, get-entries}
use Rattle.cfs_ids.specs.declared.ids.DirId.{DirId}
use Rattle.cfs_ids.specs.declared.ids.Client.{Client}
use Rattle.cfs_ids.specs.declared.ids.Node.{Node}
use Rattle.cfs_ids.specs.declared.ids.Node.TheVariants.{Dir, File}
use Rattle.cfs_ids.specs.declared.call.Reply.{Reply}
use Rattle.cfs_ids.specs.Maps.{Names, Numbers, how_many}
use Rattle.cfs_ids.specs.Namespace.{is_node}
use Rattle.cfs_ids.proofs.MapLemmas.{how_many-put, list_any-put}
use Rattle.cfs_steps.specs.Asks.{home_of}
use Rattle.cfs_steps.specs.declared.contents.Row.{Row}
use Rattle.cfs_steps.specs.declared.contents.DirRec.{DirRec}
use Rattle.cfs_steps.specs.declared.contents.FileRec.{FileRec}
use Rattle.cfs_steps.specs.declared.moves.Moved.{Moved}
use Rattle.cfs_steps.specs.Phases.{Phase, Asking, Inserting, Settling, TakingBack, Finished}
use Rattle.cfs_rules.specs.Places.{Shard, Store}
use Rattle.cfs_rules.specs.Worlds.{World, Progress, Plan, client_of, set_client, knows, with_told, KeepsTo}
use Rattle.cfs_rules.specs.Trees.{is_shown, tree, facts_of}
use Rattle.cfs_rules.specs.Facts.{CountsHold, MovesAllowed, IsAllowed, after_moved, space}
use Rattle.cfs_rules.specs.Known.{Begins}

-- ---- files and directories alike
-- whether a row names the node
abbrev pub is_named_node : Shard → Node → Bool
is_named_node shard node = list_any (λ e. is_node node e.1.node) (entries shard.rows)

-- the owner that a node's record has, where there is a record
abbrev pub owner_at : Shard → Store → Node → Option (Option Client)
owner_at shard store (File f) = option_map (λ (r : FileRec). r.owner) (get store f.0)
owner_at shard store (Dir d) = option_map (λ (r : DirRec). r.owner) (get shard.recs d.0)

abbrev pub Has : Shard → Store → Node → Type 0
Has shard store node = (owner : Option Client) × (owner_at shard store node ≡ Some owner)

abbrev pub number_of : Node → ℕ
number_of (File f) = f.0
number_of (Dir d) = d.0

-- the client owns the node, which a row names or not
pub record Owns (shard : Shard) (store : Store) (c : ℕ) (node : Node) (named : Bool) : Type 0 where
  pub owner : owner_at shard store node ≡ Some (Some (client_of c))
  pub name : is_named_node shard node ≡ named

-- nothing was done to the node since it was put at this time
abbrev pub IsNew : Shard → Store → Node → ℕ → Type 0
IsNew shard store (File f) ts = option_map facts_of (get store f.0) ≡ Some (record { size = 0; time = ts })
IsNew shard store (Dir d) ts = option_map (λ (r : DirRec). r.attr.time) (get shard.recs d.0) ≡ Some ts

-- a client that is about to name its node in a directory of the tree
pub record MayInsert (shard : Shard) (store : Store) (c : ℕ) (dir : DirId) (node : Node) (ts : ℕ) : Type 0 where
  pub sees : is_shown shard dir.0 ≡ true
  pub owns : Owns shard store c node false
  pub new : IsNew shard store node ts

-- what a client in a phase may rely on
abbrev pub PhaseHolds : Shard → Store → ℕ → Phase → Type 0
PhaseHolds shard store c (Asking call) = Begins shard call
PhaseHolds shard store c (Inserting dir name node ts first) = MayInsert shard store c dir node ts
PhaseHolds shard store c (Settling dir name node ts first at) = Owns shard store c node true
PhaseHolds shard store c (TakingBack dir name node errno first at) = Owns shard store c node false
PhaseHolds shard store c (Finished done) = ⊥

abbrev pub CurrentHolds : Shard → Store → ℕ → Option Phase → Type 0
CurrentHolds shard store c None = Unit {0}
CurrentHolds shard store c (Some phase) = PhaseHolds shard store c phase

-- the directories that a client knows are in the tree, and it keeps to them and to what its call's reply tells of
pub record Follows (shard : Shard) (rest : Reply → Plan) : Type 0 where
  pub dirs : List ℕ
  pub shown : (d : ℕ) → knows dirs d ≡ true → is_shown shard d ≡ true
  pub keeps : (reply : Reply) → KeepsTo (with_told reply dirs) (rest reply)

-- what holds of a client: of the call that it makes, and of what it does next
pub record ClientHolds (shard : Shard) (store : Store) (c : ℕ) (p : Progress) : Type 0 where
  pub current : CurrentHolds shard store c p.current
  pub follows : Follows shard p.rest

pub record PlacesHold (shard : Shard) (store : Store) (lasts : ℕ → ℕ) : Type 0 where
  pub counts : CountsHold shard
  pub named : (node : Node) → is_named_node shard node ≡ true → Has shard store node
  pub housed : (d : ℕ) (name : List ℕ) (row : Row) → get shard.rows (d ∷ name) ≡ Some row → is_shown shard d ≡ true
  pub root : owner_at shard store (Dir (record { 0 = 0 })) ≡ Some None
  pub known : (node : Node) (owner : Option Client) → owner_at shard store node ≡ Some owner → number_of node < 64 * suc (lasts (home_of node).0)

pub record Holds (w : World) : Type 0 where
  pub places : PlacesHold w.shard w.store w.lasts
  pub clients : (i : ℕ) → ClientHolds w.shard w.store i (w.clients i)

-- what holds of the moves so far
pub record Past (w : World) : Type 0 where
  pub same : tree w.shard w.store ≡ space w.run
  pub allowed : MovesAllowed w.run

-- a step of c, which made this of the places, keeps what they hold, the directories of the tree and what the others rely
-- on, and its move makes the new tree of the old
pub record Keeps (shard shard' : Shard) (store store' : Store) (lasts : ℕ → ℕ) (c : ℕ) (moved : Option Moved) : Type 0 where
  pub places : PlacesHold shard' store' lasts
  pub shows : (d : ℕ) → is_shown shard d ≡ true → is_shown shard' d ≡ true
  pub others : (i : ℕ) → i ≢ c → (o : Option Phase) → CurrentHolds shard store i o → CurrentHolds shard' store' i o
  pub to : tree shard' store' ≡ after_moved (tree shard store) moved
  pub may : IsAllowed (tree shard store) moved

-- what a client knows stays where each directory of the tree stays
pub follows_keep : (shard shard' : Shard) → ((d : ℕ) → is_shown shard d ≡ true → is_shown shard' d ≡ true) → (rest : Reply → Plan) → Follows shard rest → Follows shard' rest
follows_keep shard shard' shows rest h = record { dirs = h.dirs; shown = λ d known. shows d (h.shown d known); keeps = h.keeps }

-- a step of c keeps what holds of the others, and gives c what its new progress relies on
pub clients_keep : (shard shard' : Shard) (store store' : Store) (clients : ℕ → Progress) (c : ℕ) (p : Progress)
    → ((d : ℕ) → is_shown shard d ≡ true → is_shown shard' d ≡ true)
    → ((i : ℕ) → i ≢ c → (o : Option Phase) → CurrentHolds shard store i o → CurrentHolds shard' store' i o)
    → ClientHolds shard' store' c p
    → ((i : ℕ) → ClientHolds shard store i (clients i))
    → (i : ℕ) → ClientHolds shard' store' i (set_client clients c p i)
clients_keep shard shard' store store' clients c p shows others own all i = by_test (i == c) refl
  where
    by_test : (b : Bool) → (i == c) ≡ b → ClientHolds shard' store' i (if b then p else clients i)
    by_test true e = let same : i ≡ c = grind (arith, nat_tests) in subst (λ j. ClientHolds shard' store' j p) (sym same) own
    by_test false e = let differ : i ≢ c = grind (arith, nat_tests) in record {
      current = others i differ (clients i).current (all i).current;
      follows = follows_keep shard shard' shows (clients i).rest (all i).follows;
    }

-- ---- what a new row changes
pub how_many-set_row : (rows : Names Row) (p : List ℕ × Row → Bool) (k : List ℕ) (row : Row) → get rows k ≡ None → how_many p (entries (insert rows k row)) ≡ how_many p (entries rows) + cond (p (k, row)) 1 0
how_many-set_row rows p k row none = rw (entries-insert nat_list_cmp_total rows k row) (how_many-put (slice_cmp nat_cmp) p k row (entries rows) (sym (get-entries rows k) ∙ none))

pub any-set_row : (rows : Names Row) (p : List ℕ × Row → Bool) (k : List ℕ) (row : Row) → get rows k ≡ None → list_any p (entries (insert rows k row)) ≡ (p (k, row) || list_any p (entries rows))
any-set_row rows p k row none = rw (entries-insert nat_list_cmp_total rows k row) (list_any-put (slice_cmp nat_cmp) p k row (entries rows) (sym (get-entries rows k) ∙ none))

-- ---- lookups at another number
pub get-insert_other : {X : Type 0} (m : Numbers X) (k q : ℕ) (v : X) → q ≢ k → get (insert m k v) q ≡ get m q
get-insert_other m k q v differ = grind (arith, nat_tests, gets)

pub get-insert_same : {X : Type 0} (m : Numbers X) (k : ℕ) (v : X) → get (insert m k v) k ≡ Some v
get-insert_same m k v = grind (arith, nat_tests, gets)

pub get-remove_other : {X : Type 0} (m : Numbers X) (k q : ℕ) → q ≢ k → get (remove m k) q ≡ get m q
get-remove_other m k q differ = grind (arith, nat_tests, gets)

-- an entry after an insert is the new one or an old one
pub from_insert : {X : Type 0} (m : Numbers X) (k q : ℕ) (v x : X) → get (insert m k v) q ≡ Some x → ((q ≡ k) × (x ≡ v)) ⊎ ((q ≢ k) × (get m q ≡ Some x))
from_insert m k q v x e = grind (arith, nat_tests, gets)

-- and one after a removal is another one
pub from_remove : {X : Type 0} (m : Numbers X) (k q : ℕ) (x : X) → get (remove m k) q ≡ Some x → (q ≢ k) × (get m q ≡ Some x)
from_remove m k q x e = by_test (q == k) refl
  where
    by_test : (b : Bool) → (q == k) ≡ b → (q ≢ k) × (get m q ≡ Some x)
    by_test true t = absurd (grind (arith, nat_tests, gets))
    by_test false t = (grind (arith, nat_tests), grind (arith, nat_tests, gets))

pub place_from_insert : {X : Type 0} (m : Names X) (d : ℕ) (name : List ℕ) (e : ℕ) (other : List ℕ) (v x : X) → get (insert m (d ∷ name) v) (e ∷ other) ≡ Some x → (e ≡ d) ⊎ (get m (e ∷ other) ≡ Some x)
place_from_insert m d name e other v x h = grind (arith, nat_tests, gets)
