-- What a change of one part of a shard leaves of the others.
use Rattle.std.proofs.Common.{◌≡◌, List, [], ◌∷◌, refl}
use Rattle.std.specs.Prelude.{ℕ, Option, Some, None}
use Rattle.next_ids.specs.declared.ids.Actor.{Actor}
use Rattle.next_ids.specs.declared.ids.DirId.{DirId}
use Rattle.next_ids.specs.declared.ids.JobNo.{JobNo}
use Rattle.next_ids.specs.declared.ids.Node.{Node}
use Rattle.next_ids.specs.declared.ids.Stamp.{Stamp}
use Rattle.next_rules.specs.Contents.{Shard}
use Rattle.next_rules.specs.Changes.{leave_debt, leave_debts}
use Rattle.next_rules.specs.Moving.{end_source}

-- debts are a part of their own
pub rows-left : (nodes : List Node) (s : Shard) (owner : Actor) (at : Stamp) → (leave_debts s owner at nodes).rows ≡ s.rows
rows-left [] s owner at = refl
rows-left (node ∷ nodes) s owner at = rows-left nodes (leave_debt s owner at node) owner at

pub recs-left : (nodes : List Node) (s : Shard) (owner : Actor) (at : Stamp) → (leave_debts s owner at nodes).recs ≡ s.recs
recs-left [] s owner at = refl
recs-left (node ∷ nodes) s owner at = recs-left nodes (leave_debt s owner at node) owner at

pub locks-left : (nodes : List Node) (s : Shard) (owner : Actor) (at : Stamp) → (leave_debts s owner at nodes).locks ≡ s.locks
locks-left [] s owner at = refl
locks-left (node ∷ nodes) s owner at = locks-left nodes (leave_debt s owner at node) owner at

-- and so are locks
pub rows-unlocked : (s : Shard) (dir : DirId) (name : List ℕ) (o : Option JobNo) → (end_source s dir name o).rows ≡ s.rows
rows-unlocked s dir name None = refl
rows-unlocked s dir name (Some job) = refl

pub recs-unlocked : (s : Shard) (dir : DirId) (name : List ℕ) (o : Option JobNo) → (end_source s dir name o).recs ≡ s.recs
recs-unlocked s dir name None = refl
recs-unlocked s dir name (Some job) = refl

pub debts-unlocked : (s : Shard) (dir : DirId) (name : List ℕ) (o : Option JobNo) → (end_source s dir name o).debts ≡ s.debts
debts-unlocked s dir name None = refl
debts-unlocked s dir name (Some job) = refl
