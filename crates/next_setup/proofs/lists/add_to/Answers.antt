use Rattle.std.proofs.Common.{◌≡◌, ◌++◌, ◌∷◌, [], Some, nat_le, rules}
use Rattle.std.specs.Prelude.{position, slice_index_or}
use Rattle.next_setup.proofs.Grouping.{add_known, add_before}
use Rattle.next_setup.proofs.lists.add_to.Goals as goal

pub returns-then-index-client-clause-ok : goal.returns-then-index-client-clause-ok
returns-then-index-client-clause-ok c =
    let found : Some c.in-Some.at ≡ position (λ list. nat_le c.args.client.0 list.0.0) c.args.lists.now.items = search rules in
    let there : c.index.result.now ≡ slice_index_or c.args.lists.now.items c.in-Some.at c.index.result.now = search rules in
    rw (← add_before c.args.lists.now.items c.in-Some.at c.args.client c.args.command c.index.result.now found there c.if-index-client.true) c.add_client-then-index-client.ensures.ok

pub returns-clause-ok : goal.returns-clause-ok
returns-clause-ok c =
    let found : Some c.in-Some.at ≡ position (λ list. nat_le c.args.client.0 list.0.0) c.args.lists.now.items = search rules in
    let there : c.index_mut.result.now ≡ slice_index_or c.args.lists.now.items c.in-Some.at c.index_mut.result.now = search rules in
    let seen : c.index.result.now ≡ slice_index_or c.args.lists.now.items c.in-Some.at c.index.result.now = search rules in
    let pushed : c.push.new.self ≡ c.index_mut.result.now.1 ++ c.args.command ∷ [] = search rules in
    rw pushed (add_known c.args.lists.now.items c.in-Some.at c.args.client c.args.command c.index_mut.result.now c.index.result.now found there seen c.if-index-client.false)
