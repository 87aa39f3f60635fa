-- A command that words say is in form.
use Rattle.std.proofs.Common.{◌≡◌, ◌<◌, ℕ, Bool, true, false, ◌&&◌, cond, List, [], ◌∷◌, length, Option, Some, None, Ok, refl, subst, arith, nat_le, nat_lt, codes, bytes_eq}
use Rattle.std.specs.List.{list_all}
use Rattle.std.proofs.lemmas.Bool.{and_from, and_parts, lt-ltb}
use Rattle.next_walk.specs.declared.command.Command.{Command}
use Rattle.next_walk.specs.declared.command.Command.TheVariants as command
use Rattle.next_walk.specs.Commands.{is_in_form}
use Rattle.next_walk.specs.Paths.{is_filled, names_entry}
use Rattle.next_grammar.specs.declared.verb.PathVerb.{PathVerb}
use Rattle.next_grammar.specs.declared.verb.PathVerb.TheVariants.{Lookup, List as ListVerb, Stat, Create, Mkdir, Unlink, Rmdir}
use Rattle.next_grammar.specs.declared.verb.Verb.{Verb}
use Rattle.next_grammar.specs.declared.verb.Verb.TheVariants.{OnPath, Truncate, Rename}
use Rattle.next_grammar.specs.Numbers.{size_of}
use Rattle.next_grammar.specs.Orders.{may_be_root, on_path, with_path, path_said, truncated, truncate_said, renamed, rename_said, command_said}
use Rattle.next_grammar.specs.Paths.{components_of, is_component, path_of, place_of}
use Rattle.next_grammar.specs.Words.{only, pair, pieces}

-- ---- paths

component-bytes : (name : List ℕ) → is_component name ≡ true → nat_lt 0 (length name) ≡ true
unfolding is_component
component-bytes name h = (and_parts _ _ (and_parts _ _ h).0).0

is_filled-from : (path : List (List ℕ)) → list_all is_component path ≡ true → is_filled path ≡ true
is_filled-from [] h = refl
is_filled-from (name ∷ path) h =
    let parts = and_parts (is_component name) (list_all is_component path) h in
    and_from (nat_lt 0 (length name)) (is_filled path) (component-bytes name parts.0) (is_filled-from path parts.1)

names_entry-from : (first : List ℕ) (more : List (List ℕ)) → list_all is_component (first ∷ more) ≡ true → names_entry (first ∷ more) ≡ true
names_entry-from first more h =
    let some : 0 < length (first ∷ more) = omega arith in
    and_from (nat_lt 0 (length (first ∷ more))) (is_filled (first ∷ more)) (lt-ltb 0 (length (first ∷ more)) some) (is_filled-from (first ∷ more) h)

components_of-entry : (parts path : List (List ℕ)) → components_of parts ≡ Some path → names_entry path ≡ true
unfolding components_of
components_of-entry ([] ∷ first ∷ more) path e = by_test (nat_le (length (first ∷ more)) 64 && list_all is_component (first ∷ more)) refl e
  where
    by_test : (b : Bool) → (nat_le (length (first ∷ more)) 64 && list_all is_component (first ∷ more)) ≡ b → cond b (Some (first ∷ more)) None ≡ Some path → names_entry path ≡ true
    by_test true t e =
        let is : first ∷ more ≡ path = cc in
        let good = and_parts (nat_le (length (first ∷ more)) 64) (list_all is_component (first ∷ more)) t in
        subst (λ (p : List (List ℕ)). names_entry p ≡ true) is (names_entry-from first more good.1)
    by_test false t e = cc
components_of-entry parts path e = cc

path_of-entry : (text : List ℕ) (path : List (List ℕ)) → path_of text ≡ Some path → names_entry path ≡ true
unfolding path_of
path_of-entry text path e = by_test (nat_le (length text) 1024) e
  where
    by_test : (b : Bool) → cond b (components_of (pieces 47 text)) None ≡ Some path → names_entry path ≡ true
    by_test true e = components_of-entry (pieces 47 text) path e
    by_test false e = cc

place_of-filled : (text : List ℕ) (path : List (List ℕ)) → place_of text ≡ Some path → is_filled path ≡ true
unfolding place_of
place_of-filled text path e = by_test (bytes_eq text (codes "/")) e
  where
    by_test : (b : Bool) → cond b (Some []) (path_of text) ≡ Some path → is_filled path ≡ true
    by_test true e = let is : [] ≡ path = cc in subst (λ (p : List (List ℕ)). is_filled p ≡ true) is refl
    by_test false e = (and_parts (nat_lt 0 (length path)) (is_filled path) (path_of-entry text path e)).1

-- ---- commands

on_path-in_form : (verb : PathVerb) (text : List ℕ) (path : List (List ℕ)) → cond (may_be_root verb) (place_of text) (path_of text) ≡ Some path → is_in_form (on_path verb path) ≡ true
on_path-in_form ListVerb text path e = place_of-filled text path e
on_path-in_form Stat text path e = place_of-filled text path e
on_path-in_form Lookup text path e = path_of-entry text path e
on_path-in_form Create text path e = path_of-entry text path e
on_path-in_form Mkdir text path e = path_of-entry text path e
on_path-in_form Unlink text path e = path_of-entry text path e
on_path-in_form Rmdir text path e = path_of-entry text path e

with_path-in_form : (verb : PathVerb) (o : Option (List (List ℕ))) (x : Command) → ((path : List (List ℕ)) → o ≡ Some path → is_in_form (on_path verb path) ≡ true) → with_path verb o ≡ Ok x → is_in_form x ≡ true
with_path-in_form verb None x h e = cc
with_path-in_form verb (Some path) x h e =
    let is : on_path verb path ≡ x = cc in subst (λ (y : Command). is_in_form y ≡ true) is (h path refl)

path_said-in_form : (verb : PathVerb) (o : Option (List ℕ)) (x : Command) → path_said verb o ≡ Ok x → is_in_form x ≡ true
path_said-in_form verb None x e = cc
path_said-in_form verb (Some text) x e = with_path-in_form verb (cond (may_be_root verb) (place_of text) (path_of text)) x (on_path-in_form verb text) e

truncated-in_form : (o : Option (List (List ℕ))) (s : Option ℕ) (x : Command) → ((path : List (List ℕ)) → o ≡ Some path → names_entry path ≡ true) → truncated o s ≡ Ok x → is_in_form x ≡ true
truncated-in_form o None x h e = cc
truncated-in_form None (Some size) x h e = cc
truncated-in_form (Some path) (Some size) x h e =
    let is : command.Truncate path size ≡ x = cc in subst (λ (y : Command). is_in_form y ≡ true) is (h path refl)

truncate_said-in_form : (o : Option (List ℕ × List ℕ)) (x : Command) → truncate_said o ≡ Ok x → is_in_form x ≡ true
truncate_said-in_form None x e = cc
truncate_said-in_form (Some texts) x e = truncated-in_form (path_of texts.0) (size_of texts.1) x (path_of-entry texts.0) e

renamed-in_form : (o t : Option (List (List ℕ))) (x : Command) → ((path : List (List ℕ)) → o ≡ Some path → names_entry path ≡ true) → ((to : List (List ℕ)) → t ≡ Some to → names_entry to ≡ true) → renamed o t ≡ Ok x → is_in_form x ≡ true
renamed-in_form None t x h k e = cc
renamed-in_form (Some path) None x h k e = cc
renamed-in_form (Some path) (Some to) x h k e =
    let is : command.Rename path to ≡ x = cc in
    subst (λ (y : Command). is_in_form y ≡ true) is (and_from (names_entry path) (names_entry to) (h path refl) (k to refl))

rename_said-in_form : (o : Option (List ℕ × List ℕ)) (x : Command) → rename_said o ≡ Ok x → is_in_form x ≡ true
rename_said-in_form None x e = cc
rename_said-in_form (Some texts) x e = renamed-in_form (path_of texts.0) (path_of texts.1) x (path_of-entry texts.0) (path_of-entry texts.1) e

pub command_said-in_form : (verb : Option Verb) (ws : List (List ℕ)) (x : Command) → command_said verb ws ≡ Ok x → is_in_form x ≡ true
command_said-in_form None ws x e = cc
command_said-in_form (Some (OnPath verb)) ws x e = path_said-in_form verb (only ws) x e
command_said-in_form (Some Truncate) ws x e = truncate_said-in_form (pair ws) x e
command_said-in_form (Some Rename) ws x e = rename_said-in_form (pair ws) x e
