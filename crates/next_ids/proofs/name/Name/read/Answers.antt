use Rattle.std.proofs.Common.{◌≡◌, ◌<◌, ◌≤◌, None, length, sym, ◌∙◌, rules}
use Rattle.next_ids.specs.Names.{first_bad}
use Rattle.next_ids.proofs.NameLemmas.{is_name-from_tests}
use Rattle.next_ids.proofs.name.Name.read.Goals as goal

pub invariant_of-result : goal.invariant_of-result
invariant_of-result c =
    let none : first_bad c.args.bytes.now ≡ None = sym c.bad_byte.ensures ∙ c.in_default.is in
    let some : 0 < length c.args.bytes.now = search rules in
    let few : length c.args.bytes.now ≤ 255 = search rules in
    rw c.in-Ok.ensures.items (is_name-from_tests c.args.bytes.now some few none)

pub returns-in-Err : goal.returns-in-Err
returns-in-Err c =
    let none : first_bad c.args.bytes.now ≡ None = sym c.bad_byte.ensures ∙ c.in_default.is in
    let some : 0 < length c.args.bytes.now = search rules in
    let few : length c.args.bytes.now ≤ 255 = search rules in
    is_name-from_tests c.args.bytes.now some few none
