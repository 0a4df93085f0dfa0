-- What the answer says, for who reads it.
use Rattle.std.proofs.Common.{Option, Some, None, ◌≡◌, refl, true, List, ◌++◌, ℕ, ◌-◌, ◌≤◌, arith, length, take, replicate, take_at, lt-ltb}
use Rattle.semantics.specs.Limits.{max_classes}
use Rattle.semantics.specs.Network.{Plot, Network}
use Rattle.semantics.specs.Solutions as model
use Rattle.semantics.specs.Solutions.{support, supports, nothing, believed, belief}
use Rattle.semantics.proofs.Lists.{length_by}
use Rattle.semantics.proofs.Beliefs.{believed_iff}
use Rattle.support.specs.Beliefs.{as_belief, to_belief, believed_below}

-- as many of the eight counts as a plot has classes are its supports
pub first-supports : (n : Network) (i : ℕ) (p : Plot)
    → take p.classes (supports n i p ++ replicate (max_classes - p.classes) 0) ≡ supports n i p
first-supports n i p =
    take_at (supports n i p) (replicate (max_classes - p.classes) 0) p.classes (length_by (support n i) p.classes)

-- what is believed is the same in the code and in the definitions
pub belief-back : (b : Option ℕ) → to_belief (as_belief b) ≡ b
belief-back None = refl
belief-back (Some c) = refl

pub belief-told : (b : model.Belief) → as_belief (to_belief b) ≡ b
belief-told nothing = refl
belief-told (believed c) = refl

-- what is believed by k counts at most is a class below k
pub belief-below : (ss : List ℕ) (k : ℕ) → length ss ≤ k → believed_below k (belief ss) ≡ true
belief-below ss k few = go (belief ss) refl
  where
    go : (b : model.Belief) → belief ss ≡ b → believed_below k b ≡ true
    go nothing e = refl
    go (believed c) e = lt-ltb c k (omega (arith, ((believed_iff ss c).0 e).0))
