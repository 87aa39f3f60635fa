use Rattle.std.proofs.Common.{◌≡◌, ◌∙◌, length, refl, sym, ap}
use Rattle.next_ids.specs.declared.ids.PlaceNo.{PlaceNo}
use Rattle.next_ids.specs.declared.ids.Stamp.{Stamp}
use Rattle.next_rules.specs.Places.{serve_shard}
use Rattle.next_rules.proofs.Sums.{counts-from_sums}
use Rattle.next_contents.specs.Shown as held
use Rattle.next_shard.proofs.Kept.{Stands, served, grown, unchanged, folds}
use Rattle.next_shard.proofs.shard.Shard.serve.Goals as goal

pub returns-then-is_full-clause-counts : goal.returns-then-is_full-clause-counts
returns-then-is_full-clause-counts c = counts-from_sums (held.contents_of c.args.self.now.contents) c.args.self.now.sums

pub line_of-requires-clause-folds : goal.line_of-requires-clause-folds
line_of-requires-clause-folds c = folds (length c.args.self.now.journal.log) (held.contents_of c.args.self.now.contents) c.args.self.now.journal.short c.args.self.now.within c.args.self.now.sums

pub returns-in_err-line-clause-counts : goal.returns-in_err-line-clause-counts
returns-in_err-line-clause-counts c = counts-from_sums (held.contents_of c.args.self.now.contents) c.args.self.now.sums

pub returns-in_err-entry-clause-counts : goal.returns-in_err-entry-clause-counts
returns-in_err-entry-clause-counts c = counts-from_sums (held.contents_of c.args.self.now.contents) c.args.self.now.sums

pub make-requires-clause-folds : goal.make-requires-clause-folds
make-requires-clause-folds c = folds (length c.args.self.now.journal.log) (held.contents_of c.args.self.now.contents) c.args.self.now.journal.short c.args.self.now.within c.args.self.now.sums

pub invariant_of-self-in-Ok : goal.invariant_of-self-in-Ok
invariant_of-self-in-Ok c =
    let self = c.args.self.now in
    let before = held.contents_of self.contents in
    let at : Stamp = record { number = c.next_number.result; place = c.place.result } in
    let h : Stands (held.place_of self.contents).0 self.journal.last (length self.journal.log) before = record { small = self.small; own = self.own; known = self.known; sums = self.sums; within = self.within } in
    let after = c.in-Ok.ensures.ok ∙ ap (λ s. s.contents) c.in_ok-line.ensures.line in
    let k = served (held.place_of self.contents).0 self.journal.last (length self.journal.log) c.args.last before h at c.args.moment c.args.ask.now (ap (λ (p : PlaceNo). p.0) c.place.ensures) c.next_number.ensures.number
    (held.place_of c.make.new.contents).0 c.write.new.self.last (length c.write.new.self.log) (held.contents_of c.make.new.contents) (ap (λ (p : PlaceNo). p.0) c.in-Ok.ensures.place) c.in_ok-entry.ensures.last (grown self.journal.log c.write.new.self.log c.in_ok-entry.entry c.in_ok-entry.ensures.log) after in
    record { small = k.small; own = k.own; known = k.known; sums = k.sums; within = k.within }

pub invariant_of-self-in-Err : goal.invariant_of-self-in-Err
invariant_of-self-in-Err c =
    let self = c.args.self.now in
    let before = held.contents_of self.contents in
    let h : Stands (held.place_of self.contents).0 self.journal.last (length self.journal.log) before = record { small = self.small; own = self.own; known = self.known; sums = self.sums; within = self.within } in
    let back = c.take_back.ensures self.journal c.in_ok-entry.ensures.log (sym c.last-before.ensures) in
    let k = unchanged (held.place_of self.contents).0 self.journal.last (length self.journal.log) before h
    (held.place_of c.make.new.contents).0 c.take_back.new.self.last (length c.take_back.new.self.log) (held.contents_of c.make.new.contents) (ap (λ (p : PlaceNo). p.0) c.in-Err.ensures.place) (ap (λ j. j.last) back) (ap (λ j. length j.log) back) c.in-Err.ensures.err in
    record { small = k.small; own = k.own; known = k.known; sums = k.sums; within = k.within }

pub returns-in-Ok-clause-counts : goal.returns-in-Ok-clause-counts
returns-in-Ok-clause-counts c =
    let self = c.args.self.now in
    let before = held.contents_of self.contents in
    let at : Stamp = record { number = c.next_number.result; place = c.place.result } in
    let h : Stands (held.place_of self.contents).0 self.journal.last (length self.journal.log) before = record { small = self.small; own = self.own; known = self.known; sums = self.sums; within = self.within } in
    let after = c.in-Ok.ensures.ok ∙ ap (λ s. s.contents) c.in_ok-line.ensures.line in
    let k = served (held.place_of self.contents).0 self.journal.last (length self.journal.log) c.args.last before h at c.args.moment c.args.ask.now (ap (λ (p : PlaceNo). p.0) c.place.ensures) c.next_number.ensures.number
    (held.place_of c.make.new.contents).0 c.write.new.self.last (length c.write.new.self.log) (held.contents_of c.make.new.contents) (ap (λ (p : PlaceNo). p.0) c.in-Ok.ensures.place) c.in_ok-entry.ensures.last (grown self.journal.log c.write.new.self.log c.in_ok-entry.entry c.in_ok-entry.ensures.log) after in
    counts-from_sums (held.contents_of c.make.new.contents) k.sums

pub returns-in-Err-clause-counts : goal.returns-in-Err-clause-counts
returns-in-Err-clause-counts c =
    let self = c.args.self.now in
    let before = held.contents_of self.contents in
    let h : Stands (held.place_of self.contents).0 self.journal.last (length self.journal.log) before = record { small = self.small; own = self.own; known = self.known; sums = self.sums; within = self.within } in
    let back = c.take_back.ensures self.journal c.in_ok-entry.ensures.log (sym c.last-before.ensures) in
    let k = unchanged (held.place_of self.contents).0 self.journal.last (length self.journal.log) before h
    (held.place_of c.make.new.contents).0 c.take_back.new.self.last (length c.take_back.new.self.log) (held.contents_of c.make.new.contents) (ap (λ (p : PlaceNo). p.0) c.in-Err.ensures.place) (ap (λ j. j.last) back) (ap (λ j. length j.log) back) c.in-Err.ensures.err in
    counts-from_sums (held.contents_of c.make.new.contents) k.sums
