use Rattle.std.proofs.Common.{◌≡◌, ◌∙◌, ◌++◌, ℕ, List, [], ◌∷◌, sym, ap, subst, append_assoc}
use Rattle.std.specs.Prelude.{T}
use Rattle.std.specs.Ordering.{nat_cmp}
use Rattle.std.specs.FinMap.{entries, entries_sorted, is_sorted}
use Rattle.next_ids.specs.declared.ids.Client.{Client}
use Rattle.next_desk.specs.Entered.{clients, AreClients}
use Rattle.next_desk.proofs.Entered.{IsNext, next-first, next-push, sorted-rest}
use Rattle.next_desk.proofs.clients.set_of.Goals as goal

pub loop-number-init : goal.loop-number-init
loop-number-init c =
    let all : c.into_iter-number-iterator.result ≡ entries c.args.numbers.now = c.into_iter-number-iterator.ensures.into_iter_gives ∙ c.iter-number-items.ensures.rest in
    record {
      whole = ap (λ (set : List Client). set ++ clients c.into_iter-number-iterator.result) c.new-set.ensures ∙ ap clients all;
      low = subst AreClients (sym all) c.requires;
      sorted = subst (λ (es : List (ℕ × Unit {0})). T (is_sorted nat_cmp es)) (sym all) (entries_sorted c.args.numbers.now);
      next = subst (λ (set : List Client). IsNext set c.into_iter-number-iterator.result) (sym c.new-set.ensures) (next-first c.into_iter-number-iterator.result);
    }

pub loop-number-preserved : goal.loop-number-preserved
loop-number-preserved c =
    let step : c.loop-number.number-iterator ≡ (c.in-Some.number.now, tt) ∷ c.next.new.self = c.in-Some.ensures.steps in
    let next : Client = record { 0 = c.in-Some.number.now } in
    record {
      whole = ap (λ (set : List Client). set ++ clients c.next.new.self) c.in-Ok.ensures.ok ∙ append_assoc c.loop-number.set (next ∷ []) (clients c.next.new.self)
          ∙ ap (λ (es : List (ℕ × Unit {0})). c.loop-number.set ++ clients es) (sym step) ∙ c.loop-number.invariant.whole;
      low = (subst AreClients step c.loop-number.invariant.low).1;
      sorted = sorted-rest (c.in-Some.number.now, tt) c.next.new.self (subst (λ (es : List (ℕ × Unit {0})). T (is_sorted nat_cmp es)) step c.loop-number.invariant.sorted);
      next = subst (λ (set : List Client). IsNext set c.next.new.self) (sym c.in-Ok.ensures.ok)
          (next-push c.loop-number.set (c.in-Some.number.now, tt) c.next.new.self (subst (λ (es : List (ℕ × Unit {0})). T (is_sorted nat_cmp es)) step c.loop-number.invariant.sorted) (subst (IsNext c.loop-number.set) step c.loop-number.invariant.next));
    }
