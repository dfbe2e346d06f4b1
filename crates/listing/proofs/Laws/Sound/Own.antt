-- On sound tables an octant that is gone through sample by sample lists its samples that are in the region, in the order.
use Prim.Native.Nat.{ℕ, ◌+◌, ◌^◌, ◌≤◌, ◌<◌}
use mathlib.Core.Bool.{Bool, true, false}
use mathlib.Core.List.{List, [], ◌++◌, map, map-append}
use mathlib.Core.Path.{◌≡◌, refl, sym, ap, ◌∙◌}
use native.Mathlib.Omega.{arith}
use lib.ListN.{length}
use lib.Pow.{pow_pos}
use Rattle.colour.specs.Channels.{Colour}
use Rattle.colour.specs.declared.Region.{Region}
use Rattle.colour.specs.Region.{holds, overlaps, inside}
use Rattle.colour.proofs.Laws.Extremes.{misses_all, inside_all}
use Rattle.model.specs.Lists.{keep}
use Rattle.model.specs.SampleSet.{Placed, splits, order_of, octants_of}
use Rattle.model.specs.Layout.{current}
use Rattle.model.specs.Tables.{pair}
use Rattle.model.specs.Queries.{tag_of, Counts, visit}
use Rattle.model.specs.Machine.{Machine}
use Rattle.model.specs.Sound.{Shows}
use Rattle.model.proofs.Kept.{keep_append}
use Rattle.model.proofs.Tree.Cubes.{Reached, lies}
use Rattle.listing.specs.Pass.{Tally, Visit, takes, tags_of, measured_after, visiting, tally_entering, own_samples}
use Rattle.traversal.specs.Own.{own_rows}
use Rattle.traversal.proofs.Laws.Sound.Each.{All, all_order, all_then, keep_refused}
use Rattle.traversal.proofs.Laws.Sound.Shown.{Said}
use Rattle.traversal.proofs.Laws.Sound.Standing.{Standing, all_said, all_lie, own_rows_lem, own_size, octants_some}
use Rattle.listing.proofs.Laws.Sound.Said.{takes_said, tags_said}
use Rattle.listing.proofs.Laws.Sound.Counted.{visit_inside, visit_leaf}

module _ (ws os : List ℕ) (m : Machine) (shows : Shows current m (pair ws os)) (R : Region) where
  abbrev b : ℕ
  b = m.set.settings.bucket

  abbrev n : ℕ
  n = length m.set.samples

  -- The tags of samples that are in the region.
  abbrev pub listed_of : List Placed → List ℕ
  listed_of ys = map tag_of (keep (λ x. holds R x.sample.colour) ys)

  pub listed_append : (ys zs : List Placed) → listed_of (ys ++ zs) ≡ listed_of ys ++ listed_of zs
  listed_append ys zs =
      let p : Placed → Bool = λ x. holds R x.sample.colour in
      ap (map tag_of) (keep_append p ys zs) ∙ map-append tag_of (keep p ys) (keep p zs)

  -- An octant of the tree that is visited with a tally: it overlaps, and there is room for it.
  pub record Stands (j : ℕ) (low : Colour) (xs : List Placed) (at : ℕ) (t : Tally) : Type 0 where
    pub stands : Standing ws os m shows j low xs at t.visited
    pub meets : overlaps R (2 ^ j) low ≡ true

  -- A visit of it that is document 01's. `past` and `next`: the rows entered are its own.
  pub record Agrees (j : ℕ) (low : Colour) (xs : List Placed) (at : ℕ) (t : Tally) (v : Visit) : Type 0 where
    pub tags : v.tags ≡ listed_of (order_of b j xs)
    pub entered : v.after.entered ≡ t.entered + (visit R b j low xs).entered
    pub measured : v.after.measured ≡ t.measured + (visit R b j low xs).measured
    pub past : at < v.after.next
    pub next : v.after.next ≤ at + octants_of b j xs
    pub visited : v.after.visited ≤ t.visited + length xs

  -- In an octant that does not overlap nothing is listed.
  pub none_listed : {j : ℕ} {low : Colour} {xs : List Placed} → Reached m.set j low xs → overlaps R (2 ^ j) low ≡ false
      → listed_of (order_of b j xs) ≡ []
  none_listed {j} {low} {xs} r e =
      ap (map tag_of)
      (keep_refused (λ x. holds R x.sample.colour) (order_of b j xs)
      (all_order (λ x. holds R x.sample.colour ≡ false) b j xs
      (all_then (λ x. lies (2 ^ j) low x ≡ true) (λ x. holds R x.sample.colour ≡ false)
      (λ x i. misses_all R (2 ^ j) low (pow_pos j) e x.sample.colour i) xs (all_lie ws os m shows r))))

  module _ (j : ℕ) (low : Colour) (xs : List Placed) (at : ℕ) (t : Tally) (st : Stands j low xs at t) where
    abbrev ys : List Placed
    ys = order_of b j xs

    -- Each is listed where it is in the region: it is measured, or all are.
    takes_right : (whole : Bool) → inside R (2 ^ j) low ≡ whole → All (λ x. takes ws R whole x.row ≡ holds R x.sample.colour) ys
    unfolding takes
    takes_right true e =
        all_order _ b j xs
        (all_then (λ x. lies (2 ^ j) low x ≡ true) _
        (λ x i. sym ((inside_all R (2 ^ j) low (pow_pos j)).0 e x.sample.colour i)) xs (all_lie ws os m shows st.stands.reached))
    takes_right false e = all_order _ b j xs (all_then (Said ws n) _ (takes_said ws n R) xs (all_said ws os m shows st.stands.reached))

    -- An octant that is gone through sample by sample.
    own_agrees : (whole : Bool) → inside R (2 ^ j) low ≡ whole → visit R b j low xs ≡ record { entered = 1; measured = elim whole [ true ↦ 0 | false ↦ length xs ] }
        → 1 ≤ octants_of b j xs → Agrees j low xs at t (own_samples ws os R whole at (tally_entering at t))
    unfolding own_samples visiting measured_after tally_entering
    own_agrees whole e c o =
        let size : length (own_rows ws os at t.visited) ≡ length xs = own_size ws os m shows st.stands in
        record {
          tags =
              ap (tags_of ws R whole) (own_rows_lem ws os m shows st.stands)
              ∙ tags_said ws n R whole ys (all_order (Said ws n) b j xs (all_said ws os m shows st.stands.reached)) (takes_right whole e);
          entered = omega (arith, ap (λ (x : Counts). x.entered) c);
          measured = measured_by whole (ap (λ (x : Counts). x.measured) c) size;
          past = omega arith;
          next = omega arith;
          visited = omega (arith, size);
        }
      where
        measured_by : (whole : Bool) → (visit R b j low xs).measured ≡ elim whole [ true ↦ 0 | false ↦ length xs ]
            → length (own_rows ws os at t.visited) ≡ length xs
            → (visiting whole (length (own_rows ws os at t.visited)) (tally_entering at t)).measured ≡ t.measured + (visit R b j low xs).measured
        measured_by true c d = omega (arith, c)
        measured_by false c d = omega (arith, c, d)

    -- It is gone through sample by sample where it is inside or not split.
    pub ended_agrees : (inside R (2 ^ j) low ≡ false → splits b j xs ≡ false)
        → Agrees j low xs at t (own_samples ws os R (inside R (2 ^ j) low) at (tally_entering at t))
    ended_agrees e = go (inside R (2 ^ j) low) refl
      where
        go : (whole : Bool) → inside R (2 ^ j) low ≡ whole → Agrees j low xs at t (own_samples ws os R (inside R (2 ^ j) low) at (tally_entering at t))
        go true i = rw i (own_agrees true i (visit_inside R b j low xs st.stands.some st.meets i) (octants_some b j xs st.stands.some))
        go false i = rw i (own_agrees false i (visit_leaf R b j low xs st.stands.some st.meets i (e i)) (octants_some b j xs st.stands.some))
