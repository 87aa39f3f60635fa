use Rattle.std.proofs.Common.{pos, negsuc, ℕ, ℤ, ◌+ℤ◌, ◌≤ℤ◌, ◌++◌, ◌<◌, List, length, length-append, arith, sym, refl, ◌≡◌}
use Rattle.std.proofs.lemmas.Int.{ints}
use Rattle.std.specs.Int.RustNames.{unsigned_abs}
use Rattle.next_ids.specs.declared.attributes.DirAttr.{DirAttr}
use Rattle.next_ids.specs.declared.attributes.Delta.{Delta}
use Rattle.next_ids.specs.Attributes.{children_after, subdirs_after, folded, CanFold}
use Rattle.next_ids.proofs.AttributeLemmas.{total-append, latest-append}
use Rattle.next_ids.proofs.attributes.any_cut_folds_alike.Goals as goal

-- a count that is none below 0 is the integer that it was read from
counted : (z : ℤ) → pos 0 ≤ℤ z → pos (unsigned_abs z) ≡ z
counted (pos n) h = refl
counted (negsuc n) h = grind (arith, ints)

-- the counts after a front and the rest
carried : (count : ℕ) (front rest all : ℤ) → all ≡ front +ℤ rest → pos 0 ≤ℤ (pos count +ℤ front) → pos (unsigned_abs (pos count +ℤ front)) +ℤ rest ≡ pos count +ℤ all
carried count front rest all e h = omega (arith, ints, counted (pos count +ℤ front) h)

children : (base : DirAttr) (front rest : List Delta) → CanFold base front → children_after (folded base front) rest ≡ children_after base (front ++ rest)
children base front rest may =
    carried base.children _ _ _ (total-append (λ d. d.children) front rest) may.1.0

subdirs : (base : DirAttr) (front rest : List Delta) → CanFold base front → subdirs_after (folded base front) rest ≡ subdirs_after base (front ++ rest)
subdirs base front rest may =
    carried base.subdirs _ _ _ (total-append (λ d. d.subdirs) front rest) may.2.0

pub returns-clause-same : goal.returns-clause-same
returns-clause-same c base front rest may all = λ i. record {
  children = unsigned_abs (children base front rest may i);
  subdirs = unsigned_abs (subdirs base front rest may i);
  time = sym (latest-append base.time front rest) i;
}

pub returns-clause-may : goal.returns-clause-may
returns-clause-may c base front rest may all =
    let few : length rest < 2147483648 = omega (arith, length-append front rest, all.0) in
    rw (children base front rest may, subdirs base front rest may) (few, all.1, all.2)
