-- On sound tables a pass lists, enters and measures exactly what document 01 says ("Picks").
use Prim.Native.Nat.{ℕ, ◌^◌}
use mathlib.Core.Bool.{Bool, true, false, and-false}
use borrow.Author.Tests.{le-ltb}
use lib.Dec.{leb}
use mathlib.Core.List.{List, [], ◌∷◌, map}
use mathlib.Core.Path.{◌≡◌, refl, sym, ap, ◌∙◌}
use native.Mathlib.Omega.{arith}
use lib.ListN.{length}
use Rattle.colour.specs.declared.Region.{Region}
use Rattle.colour.specs.Colour.{black}
use Rattle.colour.specs.Octant.{depths}
use Rattle.colour.specs.Region.{holds, overlaps}
use Rattle.model.specs.Lists.{keep}
use Rattle.model.specs.SampleSet.{Placed, placed, order_of, octants_of, order, octants}
use Rattle.model.specs.Layout.{current}
use Rattle.model.specs.Tables.{pair}
use Rattle.model.specs.Queries.{tag_of, Counts, no_counts, listed, visit, counts}
use Rattle.model.specs.Machine.{Machine}
use Rattle.model.specs.Sound.{Shows}
use Rattle.std.proofs.lemmas.List.{nil_from_length}
use Rattle.model.proofs.Tree.Cubes.{Reached, whole}
use Rattle.model.proofs.Tree.Order.{order_of_length}
use Rattle.model.proofs.Tree.Octants.{no_octants}
use Rattle.words.specs.Rows.{octant_limit}
use Rattle.listing.specs.Pass.{Visit, enters, nothing, visit_of, no_tally, pass_of}
use Rattle.listing.proofs.Laws.Pass.Turns.{apart_from, goes_in}
use Rattle.traversal.proofs.Laws.Sound.Shown.{limit_shown}
use Rattle.traversal.proofs.Laws.Sound.Standing.{octants_some, root_stands}
use Rattle.listing.proofs.Laws.Sound.Counted.{visit_empty, visit_misses}
use Rattle.listing.proofs.Laws.Sound.Own.{none_listed, Agrees}
use Rattle.listing.proofs.Laws.Sound.Visited.{visit_agrees}

module _ (ws os : List ℕ) (m : Machine) (shows : Shows current m (pair ws os)) (R : Region) where
  -- What a pass comes to.
  pub record Passed (v : Visit) : Type 0 where
    pub tags : v.tags ≡ listed R m.set
    pub entered : v.after.entered ≡ (counts R m.set).entered
    pub measured : v.after.measured ≡ (counts R m.set).measured

  abbrev b : ℕ
  b = m.set.settings.bucket

  abbrev xs : List Placed
  xs = placed m.set

  -- The root is not entered: nothing is listed and nothing counted.
  root_passed : enters os R (2 ^ depths) black 0 no_tally ≡ false → listed R m.set ≡ [] → counts R m.set ≡ no_counts → Passed (pass_of ws os R)
  unfolding pass_of nothing no_tally no_counts
  root_passed e l c =
      rw (e, pass_of)
      (record { tags = sym l; entered = ap (λ (x : Counts). x.entered) (sym c); measured = ap (λ (x : Counts). x.measured) (sym c) })

  -- It is entered.
  root_visited : enters os R (2 ^ depths) black 0 no_tally ≡ true → Agrees ws os m shows R depths black xs 0 no_tally (visit_of ws os R depths 0 black no_tally) → Passed (pass_of ws os R)
  unfolding pass_of no_tally listed order counts
  root_visited e a =
      rw (e, pass_of) (record { tags = a.tags; entered = omega (arith, a.entered); measured = omega (arith, a.measured) })

  -- A set with no sample has no tree.
  no_samples : xs ≡ [] → (listed R m.set ≡ []) × (counts R m.set ≡ no_counts)
  unfolding listed order counts keep
  no_samples e = (
    ap (λ (zs : List Placed). map tag_of (keep (λ x. holds R x.sample.colour) zs)) (ap (order_of b depths) e ∙ nil_from_length (order_of b depths []) (order_of_length b depths [])),
    ap (visit R b depths black) e ∙ visit_empty R b depths black,
  )

  no_root : xs ≡ [] → enters os R (2 ^ depths) black 0 no_tally ≡ false
  unfolding enters octants
  no_root e =
      let none : octant_limit current os ≡ 0 = limit_shown ws os m shows ∙ ap (octants_of b depths) e ∙ no_octants b depths in
      rw (le-ltb 0 (octant_limit current os) (omega arith), and-false (leb no_tally.next 0), and-false (overlaps R (2 ^ depths) black))

  none_root : overlaps R (2 ^ depths) black ≡ false → listed R m.set ≡ []
  unfolding listed order
  none_root o = let root : Reached m.set depths black xs = whole in none_listed ws os m shows R root o

  pub pass_agrees : Passed (pass_of ws os R)
  unfolding counts no_tally
  pass_agrees = go xs refl (overlaps R (2 ^ depths) black) refl
    where
      go : (zs : List Placed) → xs ≡ zs → (q : Bool) → overlaps R (2 ^ depths) black ≡ q → Passed (pass_of ws os R)
      go [] e q o = let n = no_samples e in root_passed (no_root e) n.0 n.1
      go (z ∷ zs) e false o =
          root_passed (apart_from _ _ _ _ _ _ o) (none_root o) (visit_misses R b depths black xs o)
      go (z ∷ zs) e true o =
          let st = root_stands ws os m shows (omega (arith, ap length e)) in
          root_visited (goes_in _ _ _ _ _ _ o (omega arith) (omega (arith, octants_some b depths xs st.some, st.within, limit_shown ws os m shows)))
          (visit_agrees ws os m shows R depths black xs 0 no_tally (record { stands = st; meets = o }))
