-- A shard serves an ask of its own as all shards together do, and so does a store.
use Rattle.std.proofs.Common.{◌≡◌, ◌≢◌, ℕ, ◌+◌, ◌%◌, ◌<◌, List, ◌∷◌, Bool, true, false, cond, refl, sym, ◌∙◌, ap, subst, arith}
use Rattle.std.specs.Prelude.{◌==◌, if◌then◌else◌, Option, Some, None}
use Rattle.std.specs.Option.{option_map}
use Rattle.std.specs.declared.cmp.Ordering.{Ordering}
use Rattle.std.specs.declared.cmp.Ordering.TheVariants.{Less, Equal, Greater}
use Rattle.std.specs.Ordering.{eq_by_cmp, is_eq}
use Rattle.std.specs.Cmp.{IsTotalOrder, nat_cmp_total}
use Rattle.std.specs.Cmp.Lexicographic.{nat_list_cmp_total}
use Rattle.std.specs.FinMap.{FinMap, IsAntisymmetric, get, insert, remove, entries, get-insert, get-remove, same_map, nat_cmp-IsAntisymmetric}
use Rattle.cfs_ids.specs.declared.ids.DirId.{DirId}
use Rattle.cfs_ids.specs.declared.ids.FileId.{FileId}
use Rattle.cfs_ids.specs.declared.ids.Client.{Client}
use Rattle.cfs_ids.specs.declared.ids.JobNo.{JobNo}
use Rattle.cfs_ids.specs.declared.ids.Stamp.{Stamp}
use Rattle.cfs_ids.specs.declared.ids.Node.{Node}
use Rattle.cfs_ids.specs.declared.ids.Node.TheVariants.{Dir, File}
use Rattle.cfs_ids.specs.Maps.{row_key}
use Rattle.cfs_steps.specs.declared.contents.Row.{Row}
use Rattle.cfs_steps.specs.declared.contents.DirRec.{DirRec}
use Rattle.cfs_steps.specs.declared.contents.FileRec.{FileRec}
use Rattle.cfs_steps.specs.declared.ask.Ask.{Ask}
use Rattle.cfs_steps.specs.declared.ask.Ask.TheVariants.{Read, List as ListAsk, Insert, Put, PutDir, Settle, TakeBack, End}
use Rattle.cfs_steps.specs.declared.answer.Answer.{Answer}
use Rattle.cfs_steps.specs.declared.answer.Answer.TheVariants.{Rows, Done, None as NoneAnswer}
use Rattle.cfs_steps.specs.Asks.{place_of}
use Rattle.cfs_rules.specs.Places.{Shard, Store, Served, unmoved, made_at, names_of, read_row, with_recs, updated, inserted, list_rows, new_dir, settle_dir_owner, settled_dir, take_owned_dir, taken_back_dir, serve_free, serve_shard, unless_locked, new_file, settle_owner, settled, take_owned, taken_back, serve_store}
use Rattle.cfs_rules.specs.Locks.{job_of, source_job, locks_in, first_source, met_in, lock_met}
use Rattle.cfs_rules.specs.Homes.{home_of_row, home_of_number, LieAt}
use Rattle.cfs_rules.proofs.Names.{bytes_apart, get-names_of, get-locks_in}

-- ---- a map of one place, and a map that has the same at the place's keys
pub record Agrees {K X : Type 0} {R : K → K → Ordering} (home : K → ℕ) (index : ℕ) (m w : FinMap R X) : Type 0 where
  pub own : LieAt home index m
  pub here : (k : K) → home k ≡ index → get w k ≡ get m k

-- the two after a change, and what the second had at all other keys
pub record Moves {K X : Type 0} {R : K → K → Ordering} (home : K → ℕ) (index : ℕ) (w m' w' : FinMap R X) : Type 0 where
  pub own : LieAt home index m'
  pub here : (k : K) → home k ≡ index → get w' k ≡ get m' k
  pub there : (k : K) → home k ≢ index → get w' k ≡ get w k

-- keys that tie are the same
module _ {K : Type 0} {R : K → K → Ordering} (same : IsAntisymmetric R) where
  tied : (k q : K) → eq_by_cmp R q k ≡ true → q ≡ k
  tied k q t = by_order (R q k) refl t
    where
      by_order : (r : Ordering) → R q k ≡ r → is_eq r ≡ true → q ≡ k
      by_order Less e h = cc
      by_order Equal e h = same q k e
      by_order Greater e h = cc

  untied : (k q : K) → q ≢ k → eq_by_cmp R q k ≡ false
  untied k q differ = by_test (eq_by_cmp R q k) refl
    where
      by_test : (b : Bool) → eq_by_cmp R q k ≡ b → b ≡ false
      by_test true e = absurd (differ (tied k q e))
      by_test false e = refl

module _ {K X : Type 0} {R : K → K → Ordering} (o : IsTotalOrder R) (same : IsAntisymmetric R) (home : K → ℕ) (index : ℕ) where
  pub still : (m w : FinMap R X) → Agrees home index m w → Moves home index w m w
  still m w a = record { own = a.own; here = a.here; there = λ k away. refl }

  pub set_one : (m w : FinMap R X) (k : K) (v : X) → home k ≡ index → Agrees home index m w → Moves home index w (insert m k v) (insert w k v)
  set_one m w k v at a = record {
    own = λ q x e. by_test q x (eq_by_cmp R q k) refl (sym (get-insert o m k v q) ∙ e);
    here = λ q near. get-insert o w k v q ∙ ap (cond (eq_by_cmp R q k) (Some v)) (a.here q near) ∙ sym (get-insert o m k v q);
    there = λ q away. get-insert o w k v q ∙ ap (λ b. cond b (Some v) (get w q)) (untied same k q (λ e. away (ap home e ∙ at)));
  }
    where
      by_test : (q : K) (x : X) (b : Bool) → eq_by_cmp R q k ≡ b → cond b (Some v) (get m q) ≡ Some x → home q ≡ index
      by_test q x true t e = ap home (tied same k q t) ∙ at
      by_test q x false t e = a.own q x e

  pub cut_one : (m w : FinMap R X) (k : K) → home k ≡ index → Agrees home index m w → Moves home index w (remove m k) (remove w k)
  cut_one m w k at a = record {
    own = λ q x e. by_test q x (eq_by_cmp R q k) refl (sym (get-remove o m k q) ∙ e);
    here = λ q near. get-remove o w k q ∙ ap (cond (eq_by_cmp R q k) None) (a.here q near) ∙ sym (get-remove o m k q);
    there = λ q away. get-remove o w k q ∙ ap (λ b. cond b None (get w q)) (untied same k q (λ e. away (ap home e ∙ at)));
  }
    where
      by_test : (q : K) (x : X) (b : Bool) → eq_by_cmp R q k ≡ b → cond b None (get m q) ≡ Some x → home q ≡ index
      by_test q x true t e = cc
      by_test q x false t e = a.own q x e

-- ---- a shard
pub record AgreesShard (index : ℕ) (s w : Shard) : Type 0 where
  pub rows : Agrees home_of_row index s.rows w.rows
  pub recs : Agrees home_of_number index s.recs w.recs
  pub locks : Agrees home_of_row index s.locks w.locks

-- what the shard gives and what all together give
pub record ServesShard (index : ℕ) (w : Shard) (own all : Served Shard) : Type 0 where
  pub answer : all.answer ≡ own.answer
  pub moved : all.moved ≡ own.moved
  pub rows : Moves home_of_row index w.rows own.contents.rows all.contents.rows
  pub recs : Moves home_of_number index w.recs own.contents.recs all.contents.recs
  pub locks : Moves home_of_row index w.locks own.contents.locks all.contents.locks

module _ (index : ℕ) (s w : Shard) (a : AgreesShard index s w) where
  locks_still : Moves home_of_row index w.locks s.locks w.locks
  locks_still = still nat_list_cmp_total bytes_apart home_of_row index s.locks w.locks a.locks

  looks : (answer answer' : Answer) → answer' ≡ answer → ServesShard index w (unmoved s answer) (unmoved w answer')
  looks answer answer' e = record { answer = e; moved = refl; rows = still nat_list_cmp_total bytes_apart home_of_row index s.rows w.rows a.rows; recs = still nat_cmp_total nat_cmp-IsAntisymmetric home_of_number index s.recs w.recs a.recs; locks = locks_still }

  sets : (d : ℕ) (v : DirRec) (answer : Answer) → home_of_number d ≡ index → ServesShard index w (unmoved (with_recs s (insert s.recs d v)) answer) (unmoved (with_recs w (insert w.recs d v)) answer)
  sets d v answer at = record { answer = refl; moved = refl; rows = still nat_list_cmp_total bytes_apart home_of_row index s.rows w.rows a.rows; recs = set_one nat_cmp_total nat_cmp-IsAntisymmetric home_of_number index s.recs w.recs d v at a.recs; locks = locks_still }

  cuts : (d : ℕ) (answer : Answer) → home_of_number d ≡ index → ServesShard index w (unmoved (with_recs s (remove s.recs d)) answer) (unmoved (with_recs w (remove w.recs d)) answer)
  cuts d answer at = record { answer = refl; moved = refl; rows = still nat_list_cmp_total bytes_apart home_of_row index s.rows w.rows a.rows; recs = cut_one nat_cmp_total nat_cmp-IsAntisymmetric home_of_number index s.recs w.recs d at a.recs; locks = locks_still }

  pub names_alike : (d : ℕ) → home_of_number d ≡ index → names_of w d ≡ names_of s d
  names_alike d at = same_map nat_list_cmp_total bytes_apart (names_of w d) (names_of s d) (λ q.
      get-names_of w d q ∙ ap (option_map (λ (row : Row). row.node)) (a.rows.here (d ∷ q) at) ∙ sym (get-names_of s d q))

  list_alike : (d : ℕ) → home_of_number d ≡ index → (r : Option DirRec) → list_rows w d r ≡ list_rows s d r
  list_alike d at None = refl
  list_alike d at (Some r) = ap (λ ns. Rows (entries ns)) (names_alike d at)

  insert_alike : (at : Stamp) (c : Client) (dir : DirId) (name : List ℕ) (node : Node) (ts : ℕ) → home_of_number dir.0 ≡ index → (r : Option DirRec) (row : Option Row)
      → ServesShard index w (inserted s at c dir name node ts r row) (inserted w at c dir name node ts r row)
  insert_alike at c dir name node ts home None row = looks _ _ refl
  insert_alike at c dir name node ts home (Some r) (Some row) = looks _ _ refl
  insert_alike at c dir name node ts home (Some r) None = record {
    answer = refl;
    moved = refl;
    rows = set_one nat_list_cmp_total bytes_apart home_of_row index s.rows w.rows (row_key dir name) (record { node = node; stamp = at }) home a.rows;
    recs = set_one nat_cmp_total nat_cmp-IsAntisymmetric home_of_number index s.recs w.recs dir.0 (record r { attr = updated r.attr node ts }) home a.recs;
    locks = locks_still;
  }

  settle_alike : (d : DirId) → home_of_number d.0 ≡ index → (r : DirRec) (owner : Option Client) → ServesShard index w (settle_dir_owner s d r owner) (settle_dir_owner w d r owner)
  settle_alike d home r None = looks _ _ refl
  settle_alike d home r (Some c) = sets d.0 (record r { owner = None }) (Done None) home

  settled_alike : (d : DirId) → home_of_number d.0 ≡ index → (o : Option DirRec) → ServesShard index w (settled_dir s d o) (settled_dir w d o)
  settled_alike d home None = looks _ _ refl
  settled_alike d home (Some r) = settle_alike d home r r.owner

  take_alike : (client : Client) (d : DirId) → home_of_number d.0 ≡ index → (owner : Option Client) → ServesShard index w (take_owned_dir s client d owner) (take_owned_dir w client d owner)
  take_alike client d home None = looks _ _ refl
  take_alike client d home (Some c) = by_test (c.0 == client.0)
    where
      by_test : (b : Bool) → ServesShard index w (if b then unmoved (with_recs s (remove s.recs d.0)) (Done None) else unmoved s NoneAnswer) (if b then unmoved (with_recs w (remove w.recs d.0)) (Done None) else unmoved w NoneAnswer)
      by_test true = cuts d.0 (Done None) home
      by_test false = looks _ _ refl

  taken_alike : (client : Client) (d : DirId) → home_of_number d.0 ≡ index → (o : Option DirRec) → ServesShard index w (taken_back_dir s client d o) (taken_back_dir w client d o)
  taken_alike client d home None = looks _ _ refl
  taken_alike client d home (Some r) = take_alike client d home r.owner

  made_home : (at : Stamp) → at.place.0 ≡ index → index < 64 → home_of_number (made_at at) ≡ index
  made_home at is low = omega arith

  free_serves : (at : Stamp) (ask : Ask) → (place_of ask).0 ≡ index → at.place.0 ≡ index → index < 64 → ServesShard index w (serve_free s at ask) (serve_free w at ask)
  free_serves at (Read dir name) is own low = looks _ _ (ap read_row (a.rows.here (row_key dir name) is))
  free_serves at (ListAsk dir) is own low = looks _ _ (ap (list_rows w dir.0) (a.recs.here dir.0 is) ∙ list_alike dir.0 is (get s.recs dir.0))
  free_serves at (Insert c dir name node ts) is own low =
      subst (λ o. ServesShard index w (serve_free s at (Insert c dir name node ts)) (inserted w at c dir name node ts o (get w.rows (row_key dir name)))) (sym (a.recs.here dir.0 is))
      (subst (λ o. ServesShard index w (serve_free s at (Insert c dir name node ts)) (inserted w at c dir name node ts (get s.recs dir.0) o)) (sym (a.rows.here (row_key dir name) is))
      (insert_alike at c dir name node ts is (get s.recs dir.0) (get s.rows (row_key dir name))))
  free_serves at (Put c place home) is own low = looks _ _ refl
  free_serves at (PutDir c place dir name) is own low = sets (made_at at) (new_dir c dir name at.number) _ (made_home at own low)
  free_serves at (Settle (Dir d)) is own low = subst (λ o. ServesShard index w (serve_free s at (Settle (Dir d))) (settled_dir w d o)) (sym (a.recs.here d.0 is)) (settled_alike d is (get s.recs d.0))
  free_serves at (Settle (File f)) is own low = looks _ _ refl
  free_serves at (TakeBack c (Dir d)) is own low = subst (λ o. ServesShard index w (serve_free s at (TakeBack c (Dir d))) (taken_back_dir w c d o)) (sym (a.recs.here d.0 is)) (taken_alike c d is (get s.recs d.0))
  free_serves at (TakeBack c (File f)) is own low = looks _ _ refl
  free_serves at (End c) is own low = looks _ _ refl

  locks_alike : (d : ℕ) → home_of_number d ≡ index → locks_in w.locks d ≡ locks_in s.locks d
  locks_alike d at = same_map nat_list_cmp_total bytes_apart (locks_in w.locks d) (locks_in s.locks d) (λ q. get-locks_in w.locks d q ∙ a.locks.here (d ∷ q) at ∙ sym (get-locks_in s.locks d q))

  met_alike : (ask : Ask) → (place_of ask).0 ≡ index → lock_met w.locks w.recs ask ≡ lock_met s.locks s.recs ask
  met_alike (Read dir name) is = ap source_job (a.locks.here (row_key dir name) is)
  met_alike (ListAsk dir) is = ap (λ o. met_in o (first_source (entries (locks_in w.locks dir.0)))) (a.recs.here dir.0 is) ∙ ap (λ m. met_in (get s.recs dir.0) (first_source (entries m))) (locks_alike dir.0 is)
  met_alike (Insert c dir name node ts) is = ap (λ o. met_in o (job_of (get w.locks (row_key dir name)))) (a.recs.here dir.0 is) ∙ ap (λ o. met_in (get s.recs dir.0) (job_of o)) (a.locks.here (row_key dir name) is)
  met_alike (Put c place home) is = refl
  met_alike (PutDir c place dir name) is = refl
  met_alike (Settle node) is = refl
  met_alike (TakeBack c node) is = refl
  met_alike (End c) is = refl

  -- the shard serves an ask of its own as all shards do
  pub shard_serves : (at : Stamp) (ask : Ask) → (place_of ask).0 ≡ index → at.place.0 ≡ index → index < 64 → ServesShard index w (serve_shard s at ask) (serve_shard w at ask)
  shard_serves at ask is own low =
      subst (λ o. ServesShard index w (serve_shard s at ask) (unless_locked o w (serve_free w at ask))) (sym (met_alike ask is)) (by_lock (lock_met s.locks s.recs ask))
    where
      by_lock : (o : Option JobNo) → ServesShard index w (unless_locked o s (serve_free s at ask)) (unless_locked o w (serve_free w at ask))
      by_lock None = free_serves at ask is own low
      by_lock (Some job) = looks _ _ refl

-- ---- a store
pub record ServesStore (index : ℕ) (w : Store) (own all : Served Store) : Type 0 where
  pub answer : all.answer ≡ own.answer
  pub moved : all.moved ≡ own.moved
  pub files : Moves home_of_number index w own.contents all.contents

module _ (index : ℕ) (s w : Store) (a : Agrees home_of_number index s w) where
  glances : (answer : Answer) → ServesStore index w (unmoved s answer) (unmoved w answer)
  glances answer = record { answer = refl; moved = refl; files = still nat_cmp_total nat_cmp-IsAntisymmetric home_of_number index s w a }

  puts : (f : ℕ) (v : FileRec) (answer : Answer) → home_of_number f ≡ index → ServesStore index w (unmoved (insert s f v) answer) (unmoved (insert w f v) answer)
  puts f v answer at = record { answer = refl; moved = refl; files = set_one nat_cmp_total nat_cmp-IsAntisymmetric home_of_number index s w f v at a }

  drops : (f : ℕ) (answer : Answer) → home_of_number f ≡ index → ServesStore index w (unmoved (remove s f) answer) (unmoved (remove w f) answer)
  drops f answer at = record { answer = refl; moved = refl; files = cut_one nat_cmp_total nat_cmp-IsAntisymmetric home_of_number index s w f at a }

  settle_file : (f : FileId) → home_of_number f.0 ≡ index → (r : FileRec) (owner : Option Client) → ServesStore index w (settle_owner s f r owner) (settle_owner w f r owner)
  settle_file f home r None = glances NoneAnswer
  settle_file f home r (Some c) = puts f.0 (record r { owner = None }) (Done None) home

  settled_file : (f : FileId) → home_of_number f.0 ≡ index → (o : Option FileRec) → ServesStore index w (settled s f o) (settled w f o)
  settled_file f home None = glances NoneAnswer
  settled_file f home (Some r) = settle_file f home r r.owner

  take_file : (client : Client) (f : FileId) → home_of_number f.0 ≡ index → (owner : Option Client) → ServesStore index w (take_owned s client f owner) (take_owned w client f owner)
  take_file client f home None = glances NoneAnswer
  take_file client f home (Some c) = by_test (c.0 == client.0)
    where
      by_test : (b : Bool) → ServesStore index w (if b then unmoved (remove s f.0) (Done None) else unmoved s NoneAnswer) (if b then unmoved (remove w f.0) (Done None) else unmoved w NoneAnswer)
      by_test true = drops f.0 (Done None) home
      by_test false = glances NoneAnswer

  taken_file : (client : Client) (f : FileId) → home_of_number f.0 ≡ index → (o : Option FileRec) → ServesStore index w (taken_back s client f o) (taken_back w client f o)
  taken_file client f home None = glances NoneAnswer
  taken_file client f home (Some r) = take_file client f home r.owner

  made_in : (at : Stamp) → at.place.0 ≡ 64 + index → index < 64 → home_of_number (made_at at) ≡ index
  made_in at is low = omega arith

  home_in : (n : ℕ) → 64 + n % 64 ≡ 64 + index → n % 64 ≡ index
  home_in n e = omega arith

  -- the store serves an ask of its own as all stores do
  pub store_serves : (at : Stamp) (ask : Ask) → (place_of ask).0 ≡ 64 + index → at.place.0 ≡ 64 + index → index < 64 → ServesStore index w (serve_store s at ask) (serve_store w at ask)
  store_serves at (Read dir name) is own low = glances NoneAnswer
  store_serves at (ListAsk dir) is own low = glances NoneAnswer
  store_serves at (Insert c dir name node ts) is own low = glances NoneAnswer
  store_serves at (Put c place home) is own low = puts (made_at at) (new_file c home at.number) _ (made_in at own low)
  store_serves at (PutDir c place dir name) is own low = glances NoneAnswer
  store_serves at (Settle (Dir d)) is own low = glances NoneAnswer
  store_serves at (Settle (File f)) is own low = subst (λ o. ServesStore index w (serve_store s at (Settle (File f))) (settled w f o)) (sym (a.here f.0 (home_in f.0 is))) (settled_file f (home_in f.0 is) (get s f.0))
  store_serves at (TakeBack c (Dir d)) is own low = glances NoneAnswer
  store_serves at (TakeBack c (File f)) is own low = subst (λ o. ServesStore index w (serve_store s at (TakeBack c (File f))) (taken_back w c f o)) (sym (a.here f.0 (home_in f.0 is))) (taken_file c f (home_in f.0 is) (get s f.0))
  store_serves at (End c) is own low = glances NoneAnswer
