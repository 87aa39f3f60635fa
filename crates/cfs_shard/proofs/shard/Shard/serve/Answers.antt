use Rattle.std.proofs.Common.{◌≡◌, ℕ, max, ◌∙◌, ◌+◌, ◌≤◌, ◌<◌, length, refl, sym, subst, ap, arith, length-append}
use Rattle.std.specs.FinMap.{len}
use Rattle.cfs_ids.specs.declared.ids.Stamp.{Stamp}
use Rattle.cfs_steps.specs.declared.entry.Entry.{Entry}
use Rattle.cfs_rules.specs.Homes.{IsOwnShard}
use Rattle.cfs_rules.specs.Places.{Shard, serve_shard, entry_by}
use Rattle.cfs_rules.specs.Facts.{CountsHold}
use Rattle.cfs_rules.proofs.Counts.{serve_shard-counts}
use Rattle.cfs_table.specs.Flat.{flat}
use Rattle.cfs_table.specs.Tables.{contents_of as table_of}
use Rattle.cfs_shard.specs.Bounds.{CountsWithin, IsKnown}
use Rattle.cfs_shard.specs.Shards.{contents_of}
use Rattle.cfs_shard.proofs.Known.{serve-known, none_made}
use Rattle.cfs_shard.proofs.Locking.{answer_under, moved_under, contents_under}
use Rattle.cfs_shard.proofs.Own.{serve-own}
use Rattle.cfs_shard.proofs.Within.{raised, serve-within, serve-few}
use Rattle.cfs_shard.proofs.shard.Shard.serve.Goals as goal

pub returns-in-Ok-clause-contents : goal.returns-in-Ok-clause-contents
returns-in-Ok-clause-contents c =
    let at : Stamp = record { number = c.number_of.result + 1; place = record { 0 = c.args.self.now.index } } in
    let number : c.number_of.result ≡ max c.args.last c.args.self.now.last = c.number_of.ensures ∙ c.later.ensures in
    let whole = contents_under (table_of c.args.self.now.table) (flat c.args.self.now.locks) at c.args.ask.now c.met-job.result c.met-job.ensures _ c.in-Ok.ensures.ok in
    subst (λ (n : ℕ). record (table_of c.change_unless.new.table) { locks = flat c.args.self.now.locks } ≡ (serve_shard (contents_of c.args.self.now) (record { number = n + 1; place = record { 0 = c.args.self.now.index } }) c.args.ask.now).contents) number whole

pub returns-in-Ok-clause-entry : goal.returns-in-Ok-clause-entry
returns-in-Ok-clause-entry c =
    let at : Stamp = record { number = c.number_of.result + 1; place = record { 0 = c.args.self.now.index } } in
    let number : c.number_of.result ≡ max c.args.last c.args.self.now.last = c.number_of.ensures ∙ c.later.ensures in
    let entry : Entry = record { actor = c.args.actor; number = c.number_of.result + 1; ask = c.in_ok-copy.field-0; answer = c.in_ok-told.told.answer; moved = c.in_ok-told.told.moved } in
    let answer = answer_under (table_of c.args.self.now.table) (flat c.args.self.now.locks) at c.args.ask.now c.met-job.result c.met-job.ensures _ c.in_ok-told.ensures.answer in
    let moved = moved_under (table_of c.args.self.now.table) (flat c.args.self.now.locks) at c.args.ask.now c.met-job.result c.met-job.ensures _ c.in_ok-told.ensures.moved in
    subst (λ (n : ℕ). entry ≡ entry_by c.args.actor (n + 1) c.args.ask.now (serve_shard (contents_of c.args.self.now) (record { number = n + 1; place = record { 0 = c.args.self.now.index } }) c.args.ask.now)) number
    (λ i. record { actor = c.args.actor; number = c.number_of.result + 1; ask = c.in_ok-copy.ensures i; answer = answer i; moved = moved i })

pub invariant_of-self-in-Ok-clause-counts : goal.invariant_of-self-in-Ok-clause-counts
invariant_of-self-in-Ok-clause-counts c =
    let longer : length c.args.self.now.log + 1 ≤ length c.push.new.self = omega (arith, simp length-append at (ap length c.in_ok-push.ensures.ok)) in
    let at : Stamp = record { number = c.number_of.result + 1; place = record { 0 = c.args.self.now.index } } in
    let before : Shard = contents_of c.args.self.now in
    let whole = contents_under (table_of c.args.self.now.table) (flat c.args.self.now.locks) at c.args.ask.now c.met-job.result c.met-job.ensures _ c.in-Ok.ensures.ok in
    subst (λ (s : Shard). CountsWithin (length c.push.new.self) s) (sym whole)
    (raised (length c.args.self.now.log + 1) (length c.push.new.self) (serve_shard before at c.args.ask.now).contents longer (serve-within (length c.args.self.now.log) before at c.args.ask.now c.args.self.now.counts))

pub invariant_of-self-in-Ok-clause-few : goal.invariant_of-self-in-Ok-clause-few
invariant_of-self-in-Ok-clause-few c =
    let longer : length c.args.self.now.log + 1 ≤ length c.push.new.self = omega (arith, simp length-append at (ap length c.in_ok-push.ensures.ok)) in
    let at : Stamp = record { number = c.number_of.result + 1; place = record { 0 = c.args.self.now.index } } in
    let before : Shard = contents_of c.args.self.now in
    let whole = contents_under (table_of c.args.self.now.table) (flat c.args.self.now.locks) at c.args.ask.now c.met-job.result c.met-job.ensures _ c.in-Ok.ensures.ok in
    subst (λ (s : Shard). len s.recs ≤ length c.push.new.self + 1) (sym whole)
    (let few = serve-few before at c.args.ask.now in let had = c.args.self.now.few in omega arith)

pub invariant_of-self-in-Ok-clause-own : goal.invariant_of-self-in-Ok-clause-own
invariant_of-self-in-Ok-clause-own c =
    let at : Stamp = record { number = c.number_of.result + 1; place = record { 0 = c.args.self.now.index } } in
    let whole = contents_under (table_of c.args.self.now.table) (flat c.args.self.now.locks) at c.args.ask.now c.met-job.result c.met-job.ensures _ c.in-Ok.ensures.ok in
    subst (IsOwnShard c.args.self.now.index) (sym whole) (serve-own c.args.self.now.index (contents_of c.args.self.now) at c.args.ask.now c.requires.here refl c.args.self.now.small c.args.self.now.own)

pub invariant_of-self-in-Ok-clause-known : goal.invariant_of-self-in-Ok-clause-known
invariant_of-self-in-Ok-clause-known c =
    let at : Stamp = record { number = c.number_of.result + 1; place = record { 0 = c.args.self.now.index } } in
    let later : c.args.self.now.last < at.number = omega arith in
    let whole = contents_under (table_of c.args.self.now.table) (flat c.args.self.now.locks) at c.args.ask.now c.met-job.result c.met-job.ensures _ c.in-Ok.ensures.ok in
    subst (IsKnown at.number) (sym whole) (serve-known c.args.self.now.last (contents_of c.args.self.now) at c.args.ask.now later c.args.self.now.known)

pub returns-in-Ok-clause-counts : goal.returns-in-Ok-clause-counts
returns-in-Ok-clause-counts c h =
    let at : Stamp = record { number = c.number_of.result + 1; place = record { 0 = c.args.self.now.index } } in
    let later : c.args.self.now.last < at.number = omega arith in
    let before : Shard = contents_of c.args.self.now in
    let whole = contents_under (table_of c.args.self.now.table) (flat c.args.self.now.locks) at c.args.ask.now c.met-job.result c.met-job.ensures _ c.in-Ok.ensures.ok in
    subst (λ (s : Shard). CountsHold s) (sym whole) (serve_shard-counts before at c.args.ask.now (none_made c.args.self.now.last before at later c.args.self.now.known) h)

pub returns-in-Err-clause-counts : goal.returns-in-Err-clause-counts
returns-in-Err-clause-counts c h = subst (λ (s : Shard). CountsHold (record s { locks = flat c.args.self.now.locks })) (sym (ap table_of c.in-Err.ensures.err)) h
