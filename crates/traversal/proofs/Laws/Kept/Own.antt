-- On sound tables an unsplit octant's samples are taken in the order, each with the octant's row.
use Prim.Native.Nat.{ℕ, ◌+◌, ◌≤◌}
use mathlib.Core.Bool.{false}
use mathlib.Core.List.{List, map}
use mathlib.Core.Path.{◌≡◌, sym, ap, ◌∙◌}
use native.Mathlib.Omega.{arith}
use lib.ListN.{length}
use Rattle.colour.specs.Channels.{Colour}
use Rattle.colour.specs.declared.Probe.{Probe}
use Rattle.model.specs.SampleSet.{Placed, splits, octants_of, octants}
use Rattle.model.specs.Layout.{current}
use Rattle.model.specs.Tables.{pair}
use Rattle.model.specs.Machine.{Machine}
use Rattle.model.specs.Sound.{Shows}
use Rattle.model.proofs.Tree.Splits.{order_leaf}
use Rattle.traversal.specs.Own.{own_rows}
use Rattle.traversal.proofs.Laws.Sound.Each.{All}
use Rattle.traversal.proofs.Laws.Sound.Shown.{Said}
use Rattle.traversal.proofs.Laws.Sound.Followed.{row_of}
use Rattle.traversal.proofs.Laws.Sound.Standing.{Standing, all_said, own_rows_lem, own_size, octants_some}
use Rattle.traversal.specs.Search.{Store, Searching, search_entering, own_search}
use Rattle.traversal.proofs.Laws.Kept.Labels.{label, labelled, labelled_leaf}
use Rattle.traversal.proofs.Laws.Kept.Folds.{Takes, measured}
use Rattle.traversal.proofs.Laws.Kept.Sorted.{Sorted, reached_sorted}

module _ {S : Type 0} (K : Store S) (T : Takes K) (ws os : List ℕ) (m : Machine) (shows : Shows current m (pair ws os)) (p : Probe) where
  abbrev b : ℕ
  b = m.set.settings.bucket

  abbrev n : ℕ
  n = length m.set.samples

  -- An octant of the tree that is searched: it stands there, and it and those below it may all be entered.
  pub record Stands (j : ℕ) (low : Colour) (xs : List Placed) (at : ℕ) (s : Searching S) : Type 0 where
    pub stands : Standing ws os m shows j low xs at s.visited
    pub room : s.entered + octants_of b j xs ≤ octants m.set

  -- A search of it, from s to t, that measures all its samples or leaves out only such as would change nothing.
  pub record Agrees (j : ℕ) (xs : List Placed) (at : ℕ) (s t : Searching S) : Type 0 where
    pub kept : t.kept ≡ measured K T p s.kept (labelled b j at xs)
    pub entered : t.entered ≤ s.entered + octants_of b j xs
    pub visited : t.visited ≤ s.visited + length xs

  -- Measuring an octant's own samples, by rising rows, is taking them one by one.
  abbrev pub Owns : Type 0
  Owns = (s : S) (at : ℕ) (ys : List Placed) → 1 ≤ length ys → Sorted 0 ys → All (Said ws (length m.set.samples)) ys
      → K.own s at (map row_of ys) ≡ measured K T p s (map (label at) ys)

  -- An unsplit octant.
  pub own_agrees : Owns → (j : ℕ) (low : Colour) (xs : List Placed) (at : ℕ) (s : Searching S) → Stands j low xs at s → splits b j xs ≡ false
      → Agrees j xs at s (own_search K ws os at (search_entering s))
  unfolding own_search search_entering
  own_agrees owns j low xs at s st e =
      let size : length (own_rows ws os at s.visited) ≡ length xs = own_size ws os m shows st.stands in
      record {
        kept =
            ap (K.own s.kept at) (own_rows_lem ws os m shows st.stands ∙ ap (map row_of) (order_leaf b j xs e))
            ∙ owns s.kept at xs st.stands.some (reached_sorted shows.valid.in_range st.stands.reached) (all_said ws os m shows st.stands.reached)
            ∙ ap (measured K T p s.kept) (sym (labelled_leaf b j at xs e));
        entered = omega (arith, octants_some b j xs st.stands.some);
        visited = omega (arith, size);
      }
