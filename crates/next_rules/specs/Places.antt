-- The tables of the places: what an ask is answered, what it leaves and what it moved. An ask of another kind of place is
-- answered None.
use Rattle.std.specs.Prelude.{ℕ}
use Rattle.next_ids.specs.declared.ids.Stamp.{Stamp}
use Rattle.next_ids.specs.declared.ids.Node.TheVariants.{Dir}
use Rattle.next_steps.specs.declared.ask.Ask.{Ask}
use Rattle.next_steps.specs.declared.ask.Ask.TheVariants as ask
use Rattle.next_steps.specs.declared.answer.Answer.TheVariants as answer
use Rattle.next_steps.specs.Removers.{note_of}
use Rattle.next_rules.specs.Contents.{Shard, Served, unmoved}
use Rattle.next_rules.specs.Reading.{read, list, look}
use Rattle.next_rules.specs.Primitives.{put_dir, insert_row, delete_row, swap_rows}
use Rattle.next_rules.specs.Removing.{mark_rec, remove_row}
use Rattle.next_rules.specs.Owning.{settle_dir, take_back_dir, drop_rec, clear, merge}
use Rattle.next_rules.specs.Locking.{lock_rec, lock_row, unlock_row, unlock_rec, up}
use Rattle.next_rules.specs.Moving.{commit, cut_source, rebase}
use Rattle.next_rules.specs.Strays.{shard_strays, names_answer}

-- the table of the shard; `at` is the stamp of the step, and `moment` its moment
abbrev pub serve_shard : Shard → (at : Stamp) → (moment : ℕ) → Ask → Served Shard
serve_shard s at moment (ask.Read dir name) = unmoved s (read s dir name)
serve_shard s at moment (ask.List dir) = unmoved s (list s dir)
serve_shard s at moment (ask.Look dir back) = unmoved s (look s dir back)
serve_shard s at moment (ask.PutDir client place dir name) = put_dir s at moment client dir name
serve_shard s at moment (ask.Insert client dir name node ts) = insert_row s at client dir name node ts
serve_shard s at moment (ask.Delete client dir name ts) = delete_row s at client dir name ts
serve_shard s at moment (ask.Swap client dir name to_name ts) = swap_rows s at client dir name to_name ts
serve_shard s at moment (ask.Mark client child dir name ts) = mark_rec s (note_of client dir name child ts)
serve_shard s at moment (ask.Remove note) = remove_row s at note
serve_shard s at moment (ask.Settle (Dir dir)) = settle_dir s dir
serve_shard s at moment (ask.TakeBack client (Dir dir)) = take_back_dir s client dir
serve_shard s at moment (ask.DropOwed client (Dir dir)) = take_back_dir s client dir
serve_shard s at moment (ask.DropRec dir) = drop_rec s dir
serve_shard s at moment (ask.Clear place node) = clear s at.place node
serve_shard s at moment (ask.Merge place) = merge s at.place
serve_shard s at moment (ask.LockRec job child dir name kind) = lock_rec s job child dir name kind
serve_shard s at moment (ask.LockRow job dir name side want reserves) = lock_row s job dir name side want reserves
serve_shard s at moment (ask.Commit job client dir name to_dir to_name node ts) =
    commit s at job client dir name to_dir to_name node ts
serve_shard s at moment (ask.CutSource job dir name ts) = cut_source s job dir name ts
serve_shard s at moment (ask.Rebase job child dir name) = rebase s job child dir name
serve_shard s at moment (ask.UnlockRow job dir name) = unlock_row s job dir name
serve_shard s at moment (ask.UnlockRec job child) = unlock_rec s job child
serve_shard s at moment (ask.Up dir) = unmoved s (up s dir)
serve_shard s at moment (ask.Strays place clients) = unmoved s (shard_strays s at.place clients)
serve_shard s at moment (ask.Names dir node) = unmoved s (names_answer s dir node)
serve_shard s at moment a = unmoved s answer.None
