-- What all places hold, and how they serve an ask. A log stands the newest entry first.
use Rattle.std.specs.Prelude.{ℕ, ◌+◌, List, [], ◌∷◌, length, Bool, true, false, ◌||◌, ◌&&◌, ◌==◌, nat_le, nat_lt, if◌then◌else◌}
use Rattle.std.specs.FinMap.{empty}
use Rattle.cfs_ids.specs.declared.ids.Actor.{Actor}
use Rattle.cfs_steps.specs.declared.ask.Ask.{Ask}
use Rattle.cfs_steps.specs.declared.entry.Entry.{Entry}
use Rattle.cfs_steps.specs.Asks.{place_of}
use Rattle.cfs_rules.specs.Places.{Shard, Store, Roster, Served, opening_shard, serve_shard, serve_store, serve_roster, serve_desk, entry_by, number_after, is_full}
use Rattle.cfs_rules.specs.Worlds.{Counts, set_last, stamped}

-- what all shards, all stores and the roster have, and the last number and the log of each place. The desk has nothing
pub record Held : Type 0 where
  pub shard : Shard
  pub store : Store
  pub roster : Roster
  pub lasts : ℕ → ℕ
  pub logs : ℕ → List Entry

abbrev pub opening_held : Held
opening_held = record { shard = opening_shard; store = empty; roster = []; lasts = λ place. 0; logs = λ place. [] }

-- the places that there are
abbrev pub has_place : Counts → ℕ → Bool
has_place counts place = nat_lt place counts.shards || ((nat_le 64 place && nat_lt place (64 + counts.stores)) || (place == 128 || place == 129))

abbrev pub set_log : (ℕ → List Entry) → ℕ → List Entry → ℕ → List Entry
set_log logs place log i = if i == place then log else logs i

-- the entry of a step, and what the places hold after it
pub record Step : Type 0 where
  pub entry : Entry
  pub held : Held

abbrev pub after_shard : Held → Actor → Ask → ℕ → Served Shard → Step
after_shard h actor ask number s = record {
  entry = entry_by actor number ask s;
  held = record h { shard = s.contents; lasts = set_last h.lasts (place_of ask).0 number; logs = set_log h.logs (place_of ask).0 (entry_by actor number ask s ∷ h.logs (place_of ask).0) };
}

abbrev pub after_store : Held → Actor → Ask → ℕ → Served Store → Step
after_store h actor ask number s = record {
  entry = entry_by actor number ask s;
  held = record h { store = s.contents; lasts = set_last h.lasts (place_of ask).0 number; logs = set_log h.logs (place_of ask).0 (entry_by actor number ask s ∷ h.logs (place_of ask).0) };
}

abbrev pub after_roster : Held → Actor → Ask → ℕ → Served Roster → Step
after_roster h actor ask number s = record {
  entry = entry_by actor number ask s;
  held = record h { roster = s.contents; lasts = set_last h.lasts (place_of ask).0 number; logs = set_log h.logs (place_of ask).0 (entry_by actor number ask s ∷ h.logs (place_of ask).0) };
}

abbrev pub after_desk : Held → Actor → Ask → ℕ → Served (Unit {0}) → Step
after_desk h actor ask number s = record {
  entry = entry_by actor number ask s;
  held = record h { lasts = set_last h.lasts (place_of ask).0 number; logs = set_log h.logs (place_of ask).0 (entry_by actor number ask s ∷ h.logs (place_of ask).0) };
}

abbrev pub serve_late : Bool → Held → Actor → Ask → ℕ → Step
serve_late true h actor ask number = after_desk h actor ask number (serve_desk ask)
serve_late false h actor ask number = after_roster h actor ask number (serve_roster h.roster ask)

-- places below 64 are the shards, places from there below 128 the stores, place 128 is the desk, and the others the roster
abbrev pub serve_in : Bool → Bool → Held → Actor → Ask → ℕ → Step
serve_in true store h actor ask number = after_shard h actor ask number (serve_shard h.shard (stamped number ask) ask)
serve_in false true h actor ask number = after_store h actor ask number (serve_store h.store (stamped number ask) ask)
serve_in false false h actor ask number = serve_late ((place_of ask).0 == 128) h actor ask number

-- the step of an actor whose last number is `last`
abbrev pub serve : Held → Actor → ℕ → Ask → Step
serve h actor last ask = serve_in (nat_lt (place_of ask).0 64) (nat_lt (place_of ask).0 128) h actor ask (number_after last (h.lasts (place_of ask).0))

-- whether the place serves nothing more
abbrev pub full : Held → ℕ → Ask → Bool
full h last ask = is_full (length (h.logs (place_of ask).0)) last (h.lasts (place_of ask).0)

-- whether the log of the ask's place has its greatest length
abbrev pub log_full : Held → Ask → Bool
log_full h ask = nat_le 1048576 (length (h.logs (place_of ask).0))
