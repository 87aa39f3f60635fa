-- The shard's table of ownership and clean-up.
use Rattle.std.specs.Prelude.{ℕ, ◌==◌, Option, Some, None, if◌then◌else◌}
use Rattle.std.specs.FinMap.{get}
use Rattle.next_ids.specs.declared.ids.DirId.{DirId}
use Rattle.next_ids.specs.declared.ids.Client.{Client}
use Rattle.next_ids.specs.declared.ids.PlaceNo.{PlaceNo}
use Rattle.next_ids.specs.Maps.{map_values}
use Rattle.next_ids.specs.declared.ids.Node.{Node}
use Rattle.next_steps.specs.declared.contents.DirRec.{DirRec}
use Rattle.next_steps.specs.declared.contents.Debt.{Debt}
use Rattle.next_steps.specs.declared.answer.Answer.TheVariants as answer
use Rattle.next_rules.specs.Contents.{Shard, Served, unmoved, changed, debt_key}
use Rattle.next_rules.specs.Changes.{set_rec, cut_rec, end_debt, merged}
use Rattle.next_rules.specs.Strays.{lies_here, dir_of_number}

-- ---- Settle: the record's owner
abbrev pub settled_dir : Shard → DirId → Option DirRec → Option Client → Served Shard
settled_dir s dir None owner = unmoved s answer.None
settled_dir s dir (Some r) None = unmoved s answer.None
settled_dir s dir (Some r) (Some client) = changed (answer.Done None) (set_rec s dir (record r { owner = None }))

abbrev pub owner_in : Option DirRec → Option Client
owner_in None = None
owner_in (Some r) = r.owner

abbrev pub settle_dir : Shard → DirId → Served Shard
settle_dir s dir = settled_dir s dir (get s.recs dir.0) (owner_in (get s.recs dir.0))

-- ---- TakeBack and DropOwed: the record's owner is the client
abbrev pub taken_back_dir : Shard → Client → DirId → Option Client → Served Shard
taken_back_dir s client dir None = unmoved s answer.None
taken_back_dir s client dir (Some owner) =
    if owner.0 == client.0 then changed (answer.Done None) (cut_rec s dir) else unmoved s answer.None

abbrev pub take_back_dir : Shard → Client → DirId → Served Shard
take_back_dir s client dir = taken_back_dir s client dir (owner_in (get s.recs dir.0))

-- ---- DropRec: the record
abbrev pub dropped_rec : Shard → DirId → Option DirRec → Served Shard
dropped_rec s dir None = unmoved s answer.None
dropped_rec s dir (Some r) = changed (answer.Done None) (cut_rec s dir)

abbrev pub drop_rec : Shard → DirId → Served Shard
drop_rec s dir = dropped_rec s dir (get s.recs dir.0)

-- ---- Clear: the debt in this shard
abbrev pub cleared : Shard → PlaceNo → Node → Option Debt → Served Shard
cleared s place node None = unmoved s answer.None
cleared s place node (Some debt) = changed (answer.Done None) (end_debt s place node)

abbrev pub clear : Shard → PlaceNo → Node → Served Shard
clear s place node = cleared s place node (get s.debts (debt_key place node))

-- ---- Merge: the pending changes of each record that lies in the place are worked in
abbrev pub merged_at : PlaceNo → ℕ → DirRec → DirRec
merged_at place d r = if lies_here place (dir_of_number d) then merged r else r

abbrev pub merge : Shard → PlaceNo → Served Shard
merge s place = changed (answer.Done None) (record s { recs = map_values (merged_at place) s.recs })
