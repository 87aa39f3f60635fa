use Rattle.std.proofs.Common.{◌≡◌, ◌∙◌, refl, ap, Bor}
use Rattle.std.specs.Prelude.{is_some, Option, Some, None}
use Rattle.std.specs.Option.{option_copied}
use Rattle.std.specs.FinMap.{get, entries, get-entries}
use Rattle.next_steps.specs.ClientSets as sets
use Rattle.next_desk.proofs.Entered.{holds-find}
use Rattle.next_desk.proofs.clients.EnteredClients.has.Goals as goal

is_some-copied : {X : Type 0} (found : Option (Bor X)) → is_some found ≡ is_some (option_copied found)
is_some-copied None = refl
is_some-copied (Some x) = refl

pub returns : goal.returns
returns c =
    c.is_some.ensures ∙ is_some-copied c.get.result ∙ ap is_some c.get.ensures ∙ ap (λ n. is_some (get c.self.inside.numbers n)) c.key_of.ensures.same
    ∙ ap is_some (get-entries c.self.inside.numbers c.args.client.0) ∙ holds-find c.args.client (entries c.self.inside.numbers) ∙ ap (λ cs. sets.holds cs c.args.client) c.self.view_is
