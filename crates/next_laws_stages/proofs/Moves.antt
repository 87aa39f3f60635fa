-- What each effect of a step makes of the tree that the places hold: those that leave it, and a row that is set.
use Rattle.std.proofs.Common.{◌≡◌, ◌≢◌, ℕ, List, ◌∷◌, Bool, true, false, cond, refl, sym, ◌∙◌, ap, subst, inl, inr}
use Rattle.std.specs.Prelude.{Option, Some, None}
use Rattle.std.specs.Option.{option_map}
use Rattle.std.specs.Ordering.{nat_cmp}
use Rattle.std.specs.Cmp.{nat_cmp_total}
use Rattle.std.specs.Cmp.Lexicographic.{slice_cmp, nat_list_cmp_total}
use Rattle.std.specs.FinMap.{get, insert, remove, empty, get-empty, same_map, nat_cmp-IsAntisymmetric}
use Rattle.next_ids.specs.declared.ids.Actor.{Actor}
use Rattle.next_ids.specs.declared.ids.DirId.{DirId}
use Rattle.next_ids.specs.declared.ids.FileId.{FileId}
use Rattle.next_ids.specs.declared.ids.Node.{Node}
use Rattle.next_ids.specs.declared.ids.Node.TheVariants.{Dir, File}
use Rattle.next_ids.specs.declared.ids.PlaceNo.{PlaceNo}
use Rattle.next_ids.specs.declared.ids.Stamp.{Stamp}
use Rattle.next_ids.specs.declared.note.MarkNote.{MarkNote}
use Rattle.next_ids.specs.declared.time.Ts.{Ts}
use Rattle.next_ids.specs.Maps.{Names, map_values}
use Rattle.next_ids.specs.Namespace.{FileFacts}
use Rattle.next_ids.specs.Attributes.{folded}
use Rattle.next_ids.proofs.MapLemmas.{get-map_values}
use Rattle.next_steps.specs.declared.contents.Row.{Row}
use Rattle.next_steps.specs.declared.contents.DirRec.{DirRec}
use Rattle.next_steps.specs.declared.contents.FileRec.{FileRec}
use Rattle.next_rules.specs.Contents.{Shard, Store, attr_of}
use Rattle.next_rules.specs.Changes.{set_rec, cut_rec, end_debt, node_in}
use Rattle.next_rules.specs.Owning.{merged_at}
use Rattle.next_rules.specs.Reading.{names_of}
use Rattle.next_rules.specs.Strays.{lies_here, dir_of_number}
use Rattle.next_rules.specs.Trees.{facts_of, tree}
use Rattle.next_rules.proofs.Names.{bytes_apart, get-names_of}
use Rattle.next_laws_stages.specs.Stages.{Stage, is_in, is_open, is_kept, Puts, TakesBack, Drops, Clears, Marks, from, to}
use Rattle.next_laws_stages.specs.Held.{PlacesHold, number_of, place_at, dir_at, still}
use Rattle.next_laws_stages.proofs.Effects.{RecordsAway}
use Rattle.next_laws_stages.proofs.Known.{open_in}
use Rattle.next_laws_stages.proofs.Maps.{set_here_n, set_away_n, cut_away_n}
use Rattle.next_laws_stages.proofs.Shown.{file_at, dated, dirs_by, dir_there, get_files}
use Rattle.next_laws_stages.proofs.Stages.{Shifts, same_or_not, shifts_none}

abbrev pub rec_date : DirRec → Ts
rec_date r = (attr_of r).time

-- ---- what the tree shows of one node's record
abbrev pub shown_dir : Stage → Option DirRec → Option Ts
shown_dir s o = option_map rec_date (cond (is_in s) o None)

abbrev pub shown_file : Stage → Option FileRec → Option FileFacts
shown_file s o = option_map facts_of (cond (is_kept s) o None)

by_time : (ns : Names Node) (o q : Option DirRec) → option_map rec_date o ≡ option_map rec_date q → dated ns o ≡ dated ns q
by_time ns None None e = refl
by_time ns None (Some r) e = absurd (cc)
by_time ns (Some r) None e = absurd (cc)
by_time ns (Some r) (Some s) e = let same : rec_date r ≡ rec_date s = cc in ap (λ (t : Ts). Some (record { names = ns; time = t })) same

pub file_same : (f g : ℕ) → file_at f ≡ file_at g → f ≡ g
file_same f g e = ap number_of e

pub dir_same : (f g : ℕ) → dir_at f ≡ dir_at g → f ≡ g
dir_same f g e = ap number_of e

node_of_row : (o : Option Row) → option_map (λ (row : Row). row.node) o ≡ node_in o
node_of_row None = refl
node_of_row (Some row) = refl

-- a directory without rows has no names
pub no_names : (shard : Shard) (d : ℕ) → ((name : List ℕ) → get shard.rows (d ∷ name) ≡ None) → names_of shard d ≡ empty
no_names shard d none = same_map nat_list_cmp_total bytes_apart _ _ (λ q. get-names_of shard d q ∙ ap (option_map (λ (row : Row). row.node)) (none q) ∙ sym (get-empty {X = Node} (slice_cmp nat_cmp) q))

-- ---- from one state of the places to another
module _ (stage stage' : Node → Stage) (shard shard' : Shard) (store store' : Store) (lasts lasts' : ℕ → ℕ) (h : PlacesHold stage shard store lasts) (h' : PlacesHold stage' shard' store' lasts') where
  pub files_same : ((f : ℕ) → shown_file (stage' (file_at f)) (get store' f) ≡ shown_file (stage (file_at f)) (get store f)) → (tree (still shard' store')).files ≡ (tree (still shard store)).files
  files_same same = same_map nat_cmp_total nat_cmp-IsAntisymmetric _ _ (λ f. get_files stage' shard' store' lasts' h' f ∙ same f ∙ sym (get_files stage shard store lasts h f))

  pub dirs_same : ((d : ℕ) → names_of shard' d ≡ names_of shard d) → ((d : ℕ) → shown_dir (stage' (dir_at d)) (get shard'.recs d) ≡ shown_dir (stage (dir_at d)) (get shard.recs d))
      → (tree (still shard' store')).dirs ≡ (tree (still shard store)).dirs
  dirs_same names same = same_map nat_cmp_total nat_cmp-IsAntisymmetric _ _ (λ d. dirs_by stage' shard' store' lasts' h' d
      ∙ ap (λ ns. dated ns (cond (is_in (stage' (dir_at d))) (get shard'.recs d) None)) (names d) ∙ by_time (names_of shard d) _ _ (same d) ∙ sym (dirs_by stage shard store lasts h d))

  names_stay : shard'.rows ≡ shard.rows → (d : ℕ) → names_of shard' d ≡ names_of shard d
  names_stay rows d = same_map nat_list_cmp_total bytes_apart _ _ (λ q. get-names_of shard' d q ∙ ap (λ m. option_map (λ (row : Row). row.node) (get m (d ∷ q))) rows ∙ sym (get-names_of shard d q))

  pub same_tree : shard'.rows ≡ shard.rows → ((f : ℕ) → shown_file (stage' (file_at f)) (get store' f) ≡ shown_file (stage (file_at f)) (get store f))
      → ((d : ℕ) → shown_dir (stage' (dir_at d)) (get shard'.recs d) ≡ shown_dir (stage (dir_at d)) (get shard.recs d)) → tree (still shard' store') ≡ tree (still shard store)
  same_tree rows files dirs = λ i. record { dirs = dirs_same (names_stay rows) dirs i; files = files_same files i }

  -- ---- the record of one node
  module _ (x : Node) (s s' : Stage) (shifts : Shifts stage stage' x s s') (rows : shard'.rows ≡ shard.rows) (away : RecordsAway shard shard'.recs store store' x) where
    abbrev pub HereSame : Node → Type 0
    HereSame (File f) = shown_file s' (get store' f.0) ≡ shown_file s (get store f.0)
    HereSame (Dir d) = shown_dir s' (get shard'.recs d.0) ≡ shown_dir s (get shard.recs d.0)

    file_away : (f : ℕ) → file_at f ≢ x → shown_file (stage' (file_at f)) (get store' f) ≡ shown_file (stage (file_at f)) (get store f)
    file_away f other = ap (λ t. shown_file t (get store' f)) (shifts.away (file_at f) other) ∙ ap (shown_file (stage (file_at f))) (away.files f (λ e. other (sym e)))

    dir_away : (d : ℕ) → dir_at d ≢ x → shown_dir (stage' (dir_at d)) (get shard'.recs d) ≡ shown_dir (stage (dir_at d)) (get shard.recs d)
    dir_away d other = ap (λ t. shown_dir t (get shard'.recs d)) (shifts.away (dir_at d) other) ∙ ap (shown_dir (stage (dir_at d))) (away.dirs d (λ e. other (sym e)))

    file_here : (f : ℕ) → HereSame (file_at f) → file_at f ≡ x → shown_file (stage' (file_at f)) (get store' f) ≡ shown_file (stage (file_at f)) (get store f)
    file_here f same e = ap (λ t. shown_file t (get store' f)) (ap stage' e ∙ shifts.now) ∙ same ∙ ap (λ t. shown_file t (get store f)) (sym (ap stage e ∙ shifts.was))

    dir_here : (d : ℕ) → HereSame (dir_at d) → dir_at d ≡ x → shown_dir (stage' (dir_at d)) (get shard'.recs d) ≡ shown_dir (stage (dir_at d)) (get shard.recs d)
    dir_here d same e = ap (λ t. shown_dir t (get shard'.recs d)) (ap stage' e ∙ shifts.now) ∙ same ∙ ap (λ t. shown_dir t (get shard.recs d)) (sym (ap stage e ∙ shifts.was))

    pub record_tree : HereSame x → tree (still shard' store') ≡ tree (still shard store)
    record_tree same = same_tree rows
        (λ f. elim (same_or_not (file_at f) x) [ inl e ↦ file_here f (subst HereSame (sym e) same) e | inr other ↦ file_away f other ])
        (λ d. elim (same_or_not (dir_at d) x) [ inl e ↦ dir_here d (subst HereSame (sym e) same) e | inr other ↦ dir_away d other ])

  -- ---- the rows of one directory
  module _ (x : Node) (s s' : Stage) (shifts : Shifts stage stage' x s s') (dir : DirId) (r r' : DirRec) (recs : shard'.recs ≡ insert shard.recs dir.0 r') (opens : is_open (stage (Dir dir)) ≡ true) (apart : Dir dir ≢ x)
      (ns : Names Node) (names_here : names_of shard' dir.0 ≡ ns) (names_away : (d : ℕ) → d ≢ dir.0 → names_of shard' d ≡ names_of shard d) where
    pub row_here : get (tree (still shard' store')).dirs dir.0 ≡ Some (record { names = ns; time = rec_date r' })
    row_here =
        let is : is_in (stage' (Dir dir)) ≡ true = ap is_in (shifts.away (Dir dir) apart) ∙ open_in (stage (Dir dir)) opens in
        dir_there stage' shard' store' lasts' h' dir.0 r' is (ap (λ m. get m dir.0) recs ∙ set_here_n shard.recs dir.0 r')
        ∙ ap (λ (n : Names Node). Some (record { names = n; time = rec_date r' })) names_here

    pub row_away : (d : ℕ) → d ≢ dir.0 → dir_at d ≢ x → get (tree (still shard' store')).dirs d ≡ get (tree (still shard store)).dirs d
    row_away d differ other =
        dirs_by stage' shard' store' lasts' h' d
        ∙ ap (λ n. dated n (cond (is_in (stage' (dir_at d))) (get shard'.recs d) None)) (names_away d differ)
        ∙ ap (λ t. dated (names_of shard d) (cond (is_in t) (get shard'.recs d) None)) (shifts.away (dir_at d) other)
        ∙ ap (λ o. dated (names_of shard d) (cond (is_in (stage (dir_at d))) o None)) (ap (λ m. get m d) recs ∙ set_away_n shard.recs dir.0 d r' differ)
        ∙ sym (dirs_by stage shard store lasts h d)

-- ---- effects that leave the tree
all_away : (shard : Shard) (store : Store) (x : Node) → RecordsAway shard shard.recs store store x
all_away shard store x = record { files = λ f differ. refl; dirs = λ d differ. refl }

file_set_away : (shard : Shard) (store : Store) (f : FileId) (new : FileRec) → RecordsAway shard shard.recs store (insert store f.0 new) (File f)
file_set_away shard store f new = record { files = λ g differ. set_away_n store f.0 g new (λ e. differ (ap file_at (sym e))); dirs = λ d differ. refl }

pub file_cut_away : (shard : Shard) (store : Store) (f : FileId) → RecordsAway shard shard.recs store (remove store f.0) (File f)
file_cut_away shard store f = record { files = λ g differ. cut_away_n store f.0 g (λ e. differ (ap file_at (sym e))); dirs = λ d differ. refl }

dir_set_away : (shard : Shard) (store : Store) (d : DirId) (new : DirRec) → RecordsAway shard (insert shard.recs d.0 new) store store (Dir d)
dir_set_away shard store d new = record { files = λ f differ. refl; dirs = λ g differ. set_away_n shard.recs d.0 g new (λ e. differ (ap dir_at (sym e))) }

dir_cut_away : (shard : Shard) (store : Store) (d : DirId) → RecordsAway shard (remove shard.recs d.0) store store (Dir d)
dir_cut_away shard store d = record { files = λ f differ. refl; dirs = λ g differ. cut_away_n shard.recs d.0 g (λ e. differ (ap dir_at (sym e))) }

module _ (stage stage' : Node → Stage) (shard : Shard) (store : Store) (lasts lasts' : ℕ → ℕ) (h : PlacesHold stage shard store lasts) where
  -- a record of a file that is put, or taken back by its maker
  pub put_file_tree : (f : FileId) (client : ℕ) (ts : Ts) (dir : DirId) (name : List ℕ) → Shifts stage stage' (File f) (from (Puts client ts dir name)) (to (Puts client ts dir name)) → (new : FileRec)
      → PlacesHold stage' shard (insert store f.0 new) lasts' → tree (still shard (insert store f.0 new)) ≡ tree (still shard store)
  put_file_tree f client ts dir name shifts new h' = record_tree stage stage' shard shard store (insert store f.0 new) lasts lasts' h h' (File f) _ _ shifts refl (file_set_away shard store f new) refl

  pub take_file_tree : (f : FileId) (client : ℕ) (ts : Ts) (dir : DirId) (name : List ℕ) → Shifts stage stage' (File f) (from (TakesBack client ts dir name)) (to (TakesBack client ts dir name))
      → PlacesHold stage' shard (remove store f.0) lasts' → tree (still shard (remove store f.0)) ≡ tree (still shard store)
  take_file_tree f client ts dir name shifts h' = record_tree stage stage' shard shard store (remove store f.0) lasts lasts' h h' (File f) _ _ shifts refl (file_cut_away shard store f) refl

  -- and of a directory
  pub put_dir_tree : (d : DirId) (client : ℕ) (ts : Ts) (dir : DirId) (name : List ℕ) → Shifts stage stage' (Dir d) (from (Puts client ts dir name)) (to (Puts client ts dir name)) → (new : DirRec)
      → PlacesHold stage' (set_rec shard d new) store lasts' → tree (still (set_rec shard d new) store) ≡ tree (still shard store)
  put_dir_tree d client ts dir name shifts new h' = record_tree stage stage' shard (set_rec shard d new) store store lasts lasts' h h' (Dir d) _ _ shifts refl (dir_set_away shard store d new) refl

  pub take_dir_tree : (d : DirId) (client : ℕ) (ts : Ts) (dir : DirId) (name : List ℕ) → Shifts stage stage' (Dir d) (from (TakesBack client ts dir name)) (to (TakesBack client ts dir name))
      → PlacesHold stage' (cut_rec shard d) store lasts' → tree (still (cut_rec shard d) store) ≡ tree (still shard store)
  take_dir_tree d client ts dir name shifts h' = record_tree stage stage' shard (cut_rec shard d) store store lasts lasts' h h' (Dir d) _ _ shifts refl (dir_cut_away shard store d) refl

  -- a directory without a name is dropped
  pub drop_dir_tree : (d : DirId) (owner : Actor) (p : ℕ) (at : Stamp) → Shifts stage stage' (Dir d) (from (Drops owner p at)) (to (Drops owner p at))
      → PlacesHold stage' (cut_rec shard d) store lasts' → tree (still (cut_rec shard d) store) ≡ tree (still shard store)
  drop_dir_tree d owner p at shifts h' = record_tree stage stage' shard (cut_rec shard d) store store lasts lasts' h h' (Dir d) _ _ shifts refl (dir_cut_away shard store d) refl

  -- a debt goes, whose node has no record
  pub clear_tree : (x : Node) (owner : Actor) (p : ℕ) (at : Stamp) → Shifts stage stage' x (from (Clears owner p at)) (to (Clears owner p at))
      → PlacesHold stage' (end_debt shard (place_at p) x) store lasts' → tree (still (end_debt shard (place_at p) x) store) ≡ tree (still shard store)
  clear_tree x owner p at shifts h' = record_tree stage stage' shard (end_debt shard (place_at p) x) store store lasts lasts' h h' x _ _ shifts refl (all_away shard store x) (hidden x)
    where
      hidden : (y : Node) → HereSame stage stage' shard (end_debt shard (place_at p) x) store store lasts lasts' h h' x _ _ shifts refl (all_away shard store x) y
      hidden (File f) = refl
      hidden (Dir d) = refl

  -- a directory is marked: it stays in the tree until its name is cut
  pub mark_tree : (note : MarkNote) (r : DirRec) → Shifts stage stage' (Dir note.child) (from (Marks note)) (to (Marks note)) → get shard.recs note.child.0 ≡ Some r
      → PlacesHold stage' (set_rec shard note.child (record r { mark = Some note })) store lasts' → tree (still (set_rec shard note.child (record r { mark = Some note })) store) ≡ tree (still shard store)
  mark_tree note r shifts there h' =
      record_tree stage stage' shard (set_rec shard note.child (record r { mark = Some note })) store store lasts lasts' h h' (Dir note.child) _ _ shifts refl (dir_set_away shard store note.child (record r { mark = Some note }))
      (ap (option_map rec_date) (set_here_n shard.recs note.child.0 (record r { mark = Some note })) ∙ sym (ap (option_map rec_date) there))

module _ (stage : Node → Stage) (shard : Shard) (store : Store) (lasts lasts' : ℕ → ℕ) (h : PlacesHold stage shard store lasts) where
  -- a record changes, but not in what the tree shows of it
  file_tree : (f : FileId) (r new : FileRec) → get store f.0 ≡ Some r → facts_of new ≡ facts_of r → PlacesHold stage shard (insert store f.0 new) lasts'
      → tree (still shard (insert store f.0 new)) ≡ tree (still shard store)
  file_tree f r new there same h' =
      record_tree stage stage shard shard store (insert store f.0 new) lasts lasts' h h' (File f) _ _ (shifts_none stage (File f) (stage (File f)) refl) refl (file_set_away shard store f new) (by_kept (is_kept (stage (File f))))
    where
      by_kept : (b : Bool) → option_map facts_of (cond b (get (insert store f.0 new) f.0) None) ≡ option_map facts_of (cond b (get store f.0) None)
      by_kept true = ap (option_map facts_of) (set_here_n store f.0 new) ∙ ap Some same ∙ sym (ap (option_map facts_of) there)
      by_kept false = refl

  dir_tree : (d : DirId) (r new : DirRec) → get shard.recs d.0 ≡ Some r → rec_date new ≡ rec_date r → PlacesHold stage (set_rec shard d new) store lasts'
      → tree (still (set_rec shard d new) store) ≡ tree (still shard store)
  dir_tree d r new there same h' =
      record_tree stage stage shard (set_rec shard d new) store store lasts lasts' h h' (Dir d) _ _ (shifts_none stage (Dir d) (stage (Dir d)) refl) refl (dir_set_away shard store d new) (by_in (is_in (stage (Dir d))))
    where
      by_in : (b : Bool) → option_map rec_date (cond b (get (insert shard.recs d.0 new) d.0) None) ≡ option_map rec_date (cond b (get shard.recs d.0) None)
      by_in true = ap (option_map rec_date) (set_here_n shard.recs d.0 new) ∙ ap Some same ∙ sym (ap (option_map rec_date) there)
      by_in false = refl

  -- a record that is settled
  pub settle_file_tree : (f : FileId) (r new : FileRec) → get store f.0 ≡ Some r → new.size ≡ r.size → new.time ≡ r.time → PlacesHold stage shard (insert store f.0 new) lasts'
      → tree (still shard (insert store f.0 new)) ≡ tree (still shard store)
  settle_file_tree f r new there size time h' = file_tree f r new there (λ i. record { size = size i; time = time i }) h'

  pub settle_dir_tree : (d : DirId) (r new : DirRec) → get shard.recs d.0 ≡ Some r → new.base ≡ r.base → new.pending ≡ r.pending → PlacesHold stage (set_rec shard d new) store lasts'
      → tree (still (set_rec shard d new) store) ≡ tree (still shard store)
  settle_dir_tree d r new there base pending h' = dir_tree d r new there (λ i. (folded (base i) (pending i)).time) h'

  -- the pending changes of a place's records are worked in
  merged_date : (place : PlaceNo) (d : ℕ) (r : DirRec) → rec_date (merged_at place d r) ≡ rec_date r
  merged_date place d r = by_test (lies_here place (dir_of_number d)) refl
    where
      by_test : (b : Bool) → lies_here place (dir_of_number d) ≡ b → rec_date (merged_at place d r) ≡ rec_date r
      by_test true here = rw here refl
      by_test false here = rw here refl

  merged_shown : (place : PlaceNo) (d : ℕ) (o : Option DirRec) (b : Bool) → option_map rec_date (cond b (option_map (merged_at place d) o) None) ≡ option_map rec_date (cond b o None)
  merged_shown place d o false = refl
  merged_shown place d None true = refl
  merged_shown place d (Some r) true = ap Some (merged_date place d r)

  pub merge_tree : (place : PlaceNo) → PlacesHold stage (record shard { recs = map_values (merged_at place) shard.recs }) store lasts'
      → tree (still (record shard { recs = map_values (merged_at place) shard.recs }) store) ≡ tree (still shard store)
  merge_tree place h' = same_tree stage stage shard (record shard { recs = map_values (merged_at place) shard.recs }) store store lasts lasts' h h' refl (λ f. refl)
      (λ d. ap (shown_dir (stage (dir_at d))) (get-map_values nat_cmp_total nat_cmp-IsAntisymmetric (merged_at place) shard.recs d) ∙ merged_shown place d (get shard.recs d) (is_in (stage (dir_at d))))
