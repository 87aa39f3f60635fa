-- Tests that are joined, and choices by them.
use Rattle.std.proofs.Common.{◌≡◌, Bool, true, false, cond, ◌&&◌, ◌||◌, refl}

pub and-left : (a b : Bool) → (a && b) ≡ true → a ≡ true
and-left true b h = refl
and-left false b h = h

pub and-right : (a b : Bool) → (a && b) ≡ true → b ≡ true
and-right true b h = h
and-right false b h = cc

pub and-both : (a b : Bool) → a ≡ true → b ≡ true → (a && b) ≡ true
and-both true b h k = k
and-both false b h k = h

-- the last of two refusals is passed
pub second-of : {A : Type 0} (a b : Bool) (x y z : A) → a ≡ false → b ≡ true → cond a x (cond b y z) ≡ y
second-of true b x y z h k = cc
second-of false true x y z h k = refl
second-of false false x y z h k = cc

-- and so is the last of three
pub third-of : {A : Type 0} (a b c : Bool) (x y z : A) → a ≡ false → b ≡ false → c ≡ true → cond (a || b) x (cond c y z) ≡ y
third-of true b c x y z h k l = cc
third-of false b c x y z h k l = second-of b c x y z k l
