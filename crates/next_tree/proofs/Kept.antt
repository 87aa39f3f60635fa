-- A namespace stays whole, and no node gets a second name, whether a move is made or finds no memory.
use Rattle.std.proofs.Common.{◌≡◌, sym, subst}
use Rattle.std.specs.Prelude.{Option, Result, Ok, Err, OnOk, OnErr}
use Rattle.next_ids.specs.declared.ids.Node.{Node}
use Rattle.next_ids.specs.declared.call.Call.{Call}
use Rattle.next_ids.specs.declared.time.Ts.{Ts}
use Rattle.next_ids.specs.Namespace.{Namespace, after, IsDefined, IsWhole}
use Rattle.next_laws_namespace.proofs.Rearranged.{IsKept}
use Rattle.next_laws_namespace.proofs.Whole.{kept-after}

pub kept-either : {A E : Type 0} (r : Result A E) (n m : Namespace) (call : Call) (made : Option Node) (ts : Ts) → IsDefined n call made → OnOk r (m ≡ after n call made ts) → OnErr r (m ≡ n) → IsWhole n → IsKept n m
kept-either (Ok a) n m call made ts h ok err whole = subst (IsKept n) (sym ok) (kept-after n call made ts h whole)
kept-either (Err e) n m call made ts h ok err whole = subst (IsKept n) (sym err) (whole, λ once. once)
