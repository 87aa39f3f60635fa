-- What all places hold, and how they serve an ask. A log stands the newest entry first.
use Rattle.std.specs.Prelude.{ℕ, List, [], ◌∷◌, length, Bool, ◌==◌, Option, Some, None, if◌then◌else◌}
use Rattle.next_ids.specs.declared.ids.Actor.{Actor}
use Rattle.next_steps.specs.declared.ask.Ask.{Ask}
use Rattle.next_steps.specs.declared.entry.Entry.{Entry}
use Rattle.next_steps.specs.Asks.{place_of}
use Rattle.next_rules.specs.Contents.{Served, entry_by, number_after, is_full}
use Rattle.next_rules.specs.Worlds.{Service, opening_service, serve, set_last, stamped}

-- what all places hold together, and the last number and the log of each place
pub record Held : Type 0 where
  pub service : Service
  pub lasts : ℕ → ℕ
  pub logs : ℕ → List Entry

abbrev pub opening_held : Held
opening_held = record { service = opening_service; lasts = λ place. 0; logs = λ place. [] }

abbrev pub set_log : (ℕ → List Entry) → ℕ → List Entry → ℕ → List Entry
set_log logs place log i = if i == place then log else logs i

-- the places once the entry's step was made in the place: its log alone grows, and it alone has another last number
abbrev pub with_entry : Held → (place : ℕ) → Entry → Service → Held
with_entry h place entry service = record {
  service = service;
  lasts = set_last h.lasts place entry.number;
  logs = set_log h.logs place (entry ∷ h.logs place);
}

-- the entry of a step, and what the places hold after it
pub record Step : Type 0 where
  pub entry : Entry
  pub held : Held

abbrev pub step_by : Held → Actor → Ask → (number moment : ℕ) → Served Service → Step
step_by h actor ask number moment s = record {
  entry = entry_by actor number moment ask s;
  held = with_entry h (place_of ask).0 (entry_by actor number moment ask s) s.contents;
}

abbrev pub stepped : Held → Actor → Ask → (number moment : ℕ) → Option (Served Service) → Option Step
stepped h actor ask number moment None = None
stepped h actor ask number moment (Some s) = Some (step_by h actor ask number moment s)

abbrev pub serve_numbered : Held → Actor → (moment : ℕ) → Ask → (number : ℕ) → Option Step
serve_numbered h actor moment ask number =
    stepped h actor ask number moment (serve h.service (stamped number ask) moment ask)

-- the step of an actor whose last number is `last`, at the moment; None where the desk has nothing to tell yet
abbrev pub served : Held → Actor → (last moment : ℕ) → Ask → Option Step
served h actor last moment ask =
    serve_numbered h actor moment ask (number_after last (h.lasts (place_of ask).0))

-- whether the place serves nothing more
abbrev pub full : Held → (last : ℕ) → Ask → Bool
full h last ask = is_full (length (h.logs (place_of ask).0)) last (h.lasts (place_of ask).0)
