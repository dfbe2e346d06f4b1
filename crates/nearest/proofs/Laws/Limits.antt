-- What is found is closer than the limit that the search began with.
use Prim.Native.Nat.{ℕ, ◌≤◌, ◌<◌}
use mathlib.Core.List.{List}
use mathlib.Core.Path.{◌≡◌, sym, ap, ◌∙◌}
use borrow.Author.Tests.{lt-ltb, le-ltb}
use Rattle.std.specs.Prelude.{Some, None}
use Rattle.nearest.specs.declared.best.Best.{Best}
use Rattle.nearest.specs.Best.{Kept, best_of, found_of}

module _ (ws : List ℕ) (limit : ℕ) (k : Kept) where
  pub found_near : {best : Best} → k.distance < limit → best ≡ best_of ws k → Some best ≡ found_of ws limit k
  unfolding found_of
  found_near h e = ap Some e ∙ sym (rw (lt-ltb k.distance limit h, found_of))

  pub found_none : limit ≤ k.distance → None ≡ found_of ws limit k
  unfolding found_of
  found_none h = sym (rw (le-ltb k.distance limit h, found_of))
