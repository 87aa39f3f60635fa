use Rattle.std.proofs.Common.{◌≡◌, ◌<◌, ◌++◌, ◌∷◌, [], get_or, length, sym, ap, ◌∙◌, arith}
use Rattle.cfs_actor.specs.declared.client_state.ClientState.{ClientState}
use Rattle.cfs_actor.specs.Clients.{client_of, counts_of, progress_of}
use Rattle.cfs_ids.specs.declared.ids.Client.{Client}
use Rattle.cfs_rules.specs.Worlds.{Progress, calls_of}
use Rattle.cfs_core.proofs.Shown.{shown-set, shown-at, shown-length, calls_of_states-more}
use Rattle.cfs_core.proofs.Alike.{counts-set}
use Rattle.cfs_core.proofs.finish.calls_of_all.Goals as goal

-- the state shows what the one that stood there did
kept_client : (d : ClientState) (states : _) (i : _) (old new : ClientState) → old ≡ get_or states i old → client_of new ≡ client_of old → client_of new ≡ client_of (get_or states i old)
kept_client d states i old new is same = same ∙ ap client_of is

kept_progress : (d : ClientState) (states : _) (i : _) (old new : ClientState) → old ≡ get_or states i old → progress_of new ≡ progress_of old → progress_of new ≡ progress_of (get_or states i old)
kept_progress d states i old new is same = same ∙ ap progress_of is

pub returns-in_err-settle-clause-same : goal.returns-in_err-settle-clause-same
returns-in_err-settle-clause-same c = let old = c.index_mut-state.result.now in let is = c.index_mut-state.ensures.value in
    shown-set c.loop-i.clients.items c.loop-i.i c.settle.new.self old (kept_client old c.loop-i.clients.items c.loop-i.i old c.settle.new.self is c.settle.ensures.client) (kept_progress old c.loop-i.clients.items c.loop-i.i old c.settle.new.self is c.settle.ensures.progress) ∙ c.loop-i.invariant.same

pub returns-in_err-calls-clause-same : goal.returns-in_err-calls-clause-same
returns-in_err-calls-clause-same c = let old = c.index_mut-state.result.now in let is = c.index_mut-state.ensures.value in
    shown-set c.loop-i.clients.items c.loop-i.i c.settle.new.self old (kept_client old c.loop-i.clients.items c.loop-i.i old c.settle.new.self is c.settle.ensures.client) (kept_progress old c.loop-i.clients.items c.loop-i.i old c.settle.new.self is c.settle.ensures.progress) ∙ c.loop-i.invariant.same

pub returns-in_err-push-clause-same : goal.returns-in_err-push-clause-same
returns-in_err-push-clause-same c = let old = c.index_mut-state.result.now in let is = c.index_mut-state.ensures.value in
    shown-set c.loop-i.clients.items c.loop-i.i c.settle.new.self old (kept_client old c.loop-i.clients.items c.loop-i.i old c.settle.new.self is c.settle.ensures.client) (kept_progress old c.loop-i.clients.items c.loop-i.i old c.settle.new.self is c.settle.ensures.progress) ∙ c.loop-i.invariant.same

pub returns-in_err-settle-clause-counts : goal.returns-in_err-settle-clause-counts
returns-in_err-settle-clause-counts c = let old = c.index_mut-state.result.now in
    counts-set c.loop-i.clients.items c.loop-i.i c.settle.new.self old (c.settle.ensures.counts ∙ ap counts_of c.index_mut-state.ensures.value) ∙ c.loop-i.invariant.counts

pub returns-in_err-calls-clause-counts : goal.returns-in_err-calls-clause-counts
returns-in_err-calls-clause-counts c = let old = c.index_mut-state.result.now in
    counts-set c.loop-i.clients.items c.loop-i.i c.settle.new.self old (c.settle.ensures.counts ∙ ap counts_of c.index_mut-state.ensures.value) ∙ c.loop-i.invariant.counts

pub returns-in_err-push-clause-counts : goal.returns-in_err-push-clause-counts
returns-in_err-push-clause-counts c = let old = c.index_mut-state.result.now in
    counts-set c.loop-i.clients.items c.loop-i.i c.settle.new.self old (c.settle.ensures.counts ∙ ap counts_of c.index_mut-state.ensures.value) ∙ c.loop-i.invariant.counts

pub loop-i-preserved : goal.loop-i-preserved
loop-i-preserved c = let old = c.index_mut-state.result.now in let is = c.index_mut-state.ensures.value in
    let same_length = shown-length c.loop-i.clients.items c.args.clients.now.items c.loop-i.invariant.same in
    let within : c.loop-i.i < length c.loop-i.clients.items = omega (arith, c.loop-i-test.true, c.len-i-end.ensures, same_length) in
    let pair = shown-at c.loop-i.clients.items c.args.clients.now.items c.loop-i.i old c.loop-i.invariant.same within in
    let who = c.settle.ensures.client ∙ ap client_of is ∙ ap (λ (e : Client × Progress). e.0) pair in
    let what = c.settle.ensures.progress ∙ ap progress_of is ∙ ap (λ (e : Client × Progress). e.1) pair in
    let calls = c.in_ok-calls.ensures ∙ (λ j. calls_of (who j) (what j)) in
    record {
      same = shown-set c.loop-i.clients.items c.loop-i.i c.settle.new.self old (kept_client old c.loop-i.clients.items c.loop-i.i old c.settle.new.self is c.settle.ensures.client) (kept_progress old c.loop-i.clients.items c.loop-i.i old c.settle.new.self is c.settle.ensures.progress) ∙ c.loop-i.invariant.same;
      counts = counts-set c.loop-i.clients.items c.loop-i.i c.settle.new.self old (c.settle.ensures.counts ∙ ap counts_of is) ∙ c.loop-i.invariant.counts;
      so_far = c.in_ok-push.ensures.items ∙ (λ j. c.loop-i.invariant.so_far j ++ calls j ∷ [])
          ∙ sym (calls_of_states-more c.args.clients.now.items c.loop-i.i old (rw same_length at within));
    }
