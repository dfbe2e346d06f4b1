-- On sound tables a turn of a child measures all its samples, or leaves them out if none of them comes before what is kept.
use Prim.Native.Nat.{ℕ, suc, ◌+◌, ◌^◌, ◌≤◌, ◌<◌}
use mathlib.Core.Bool.{Bool, true, false}
use mathlib.Core.List.{List, [], ◌∷◌}
use mathlib.Core.Path.{◌≡◌, refl, sym, ap, ◌∙◌, subst}
use native.Mathlib.Omega.{arith}
use lib.ListN.{length}
use lib.Pow.{pow_pos}
use Rattle.colour.specs.Channels.{Colour}
use Rattle.colour.specs.declared.Probe.{Probe}
use Rattle.colour.specs.Colour.{distance}
use Rattle.colour.specs.Octant.{children, child_low}
use Rattle.colour.specs.Region.{closest}
use Rattle.colour.proofs.Laws.Extremes.{closest_colour}
use Rattle.model.specs.SampleSet.{Placed, part, splits, octants_of, octants}
use Rattle.model.specs.Layout.{current}
use Rattle.model.specs.Tables.{pair, child_row, row_or_none}
use Rattle.model.specs.Machine.{Machine}
use Rattle.model.specs.Sound.{Shows}
use Rattle.model.proofs.Tree.Cubes.{below, lies}
use Rattle.words.specs.Rows.{octant_limit}
use Rattle.traversal.specs.Children.{child_at}
use Rattle.traversal.proofs.Laws.Sound.Each.{all_then, all_both}
use Rattle.traversal.proofs.Laws.Sound.Shown.{limit_shown}
use Rattle.traversal.proofs.Laws.Sound.Standing.{child_row_lem, child_stands, all_lie, octants_some}
use Rattle.traversal.specs.Search.{Store, Searching, reaches, child_search, search_of}
use Rattle.traversal.proofs.Laws.Kept.Labels.{child_labels, labelled, labelled_none, labelled_all, labelled_within}
use Rattle.traversal.proofs.Laws.Kept.Folds.{Takes, measured, measured_skips}
use Rattle.traversal.proofs.Laws.Search.Entered.{reaches_none, reaches_farther, reaches_yes, child_barred, child_entered}
use Rattle.traversal.proofs.Laws.Kept.Own.{Stands, Agrees}

module _ {S : Type 0} (K : Store S) (T : Takes K) (ws os : List ℕ) (m : Machine) (shows : Shows current m (pair ws os)) (p : Probe) where
  abbrev b : ℕ
  b = m.set.settings.bucket

  abbrev n : ℕ
  n = length m.set.samples

  abbrev Standing : ℕ → Colour → List Placed → ℕ → Searching S → Type 0
  Standing = Stands K T ws os m shows p

  abbrev Agreeing : ℕ → List Placed → ℕ → Searching S → Searching S → Type 0
  Agreeing = Agrees K T ws os m shows p

  -- The children of a split octant of side 2 ^ suc j, with what a search of one below it comes to.
  module _ (j : ℕ) (low : Colour) (xs : List Placed) (at : ℕ) (s : Searching S) (st : Standing (suc j) low xs at s) (split : splits b (suc j) xs ≡ true)
      (ih : (l : Colour) (zs : List Placed) (row : ℕ) (u : Searching S) → Standing j l zs row u → Agreeing j zs row u (search_of K ws os p j row l u)) where
    abbrev kid : ℕ → List Placed
    kid k = part j k xs

    abbrev kid_row : ℕ → ℕ
    kid_row k = child_row b j at xs k

    abbrev kid_low : ℕ → Colour
    kid_low k = child_low (2 ^ j) k low

    abbrev word : ℕ → ℕ
    word k = child_at os at k

    abbrev limit : ℕ
    limit = octant_limit current os

    -- How far the closest colour of child k is.
    abbrev gap : ℕ → ℕ
    gap k = distance p (closest p.centre (2 ^ j) (kid_low k))

    abbrev turn : ℕ → Searching S → Searching S
    turn = child_search K os p (search_of K ws os p j) (2 ^ j) at low

    abbrev Adds : ℕ → Searching S → Searching S → Type 0
    Adds k u v = Agreeing j (kid k) (kid_row k) u v

    -- A child that is not entered adds nothing.
    adds_nothing : (k : ℕ) (u : Searching S) → measured K T p u.kept (child_labels b j at xs k) ≡ u.kept → Adds k u u
    adds_nothing k u e = record { kept = sym e; entered = omega arith; visited = omega arith }

    -- None of the samples of a child that does not come before what is kept does.
    none_closer : (k : ℕ) → k < children → (kept : S) → K.closer kept (gap k) (kid_row k) ≡ false
        → measured K T p kept (child_labels b j at xs k) ≡ kept
    none_closer k l kept e =
        measured_skips K T p kept (child_labels b j at xs k)
        (all_then _ _
        (λ y w. T.farther kept (gap k) (kid_row k) (distance p y.sample.sample.colour) y.octant e
        ((closest_colour p (2 ^ j) (kid_low k) (pow_pos j)).1 y.sample.sample.colour w.1) w.0.0) _
        (all_both _ _ _ (labelled_within b j (kid_row k) (kid k))
        (labelled_all (λ x. lies (2 ^ j) (kid_low k) x ≡ true) b j (kid_row k) (kid k) (all_lie ws os m shows (below k l st.stands.reached)))))

    -- A child that holds a sample stands in the tree.
    kid_stands : (k : ℕ) → k < children → (u : Searching S) → 1 ≤ length (kid k) → u.visited + length (kid k) ≤ n
        → u.entered + octants_of b j (kid k) ≤ octants m.set → Standing j (kid_low k) (kid k) (kid_row k) u
    kid_stands k l u g r o = record { stands = child_stands ws os m shows st.stands split k l u.visited g r; room = o }

    -- The bounds never keep it out.
    never_barred : (k : ℕ) (u : Searching S) → Standing j (kid_low k) (kid k) (kid_row k) u → word k ≡ kid_row k
        → K.closer u.kept (gap k) (kid_row k) ≡ true → reaches K limit (word k) (gap k) u ≡ true
    unfolding child_row
    never_barred k u d w e =
        let some : 1 ≤ octants_of b j (kid k) = octants_some b j (kid k) d.stands.some in
        let all : octant_limit current os ≡ octants m.set = limit_shown ws os m shows in
        rw w (reaches_yes K limit (kid_row k) (gap k) u (omega arith) (omega (arith, d.stands.within)) (omega (arith, d.room)) e)

    -- What a turn of child k comes to, whether or not it is entered.
    pub child_adds : (k : ℕ) → k < children → (u : Searching S) → u.visited + length (kid k) ≤ n → u.entered + octants_of b j (kid k) ≤ octants m.set
        → Adds k u (turn k u)
    unfolding row_or_none measured
    child_adds k l u r o = go (kid k) refl
      where
        none : kid k ≡ [] → Adds k u (turn k u)
        none e =
            let w : word k ≡ 0 = child_row_lem ws os m shows st.stands split k l ∙ ap (row_or_none (kid_row k)) e in
            subst (Adds k u) (sym (child_barred K os p (search_of K ws os p j) (2 ^ j) at low k u (reaches_none K limit (word k) (gap k) u w)))
            (adds_nothing k u (ap (measured K T p u.kept) (ap (labelled b j (kid_row k)) e ∙ labelled_none b j (kid_row k))))

        some : 1 ≤ length (kid k) → word k ≡ kid_row k → (q : Bool) → K.closer u.kept (gap k) (kid_row k) ≡ q → Adds k u (turn k u)
        some g w false e =
            let off : reaches K limit (word k) (gap k) u ≡ false = reaches_farther K limit (word k) (gap k) u (rw w e) in
            subst (Adds k u) (sym (child_barred K os p (search_of K ws os p j) (2 ^ j) at low k u off)) (adds_nothing k u (none_closer k l u.kept e))
        some g w true e =
            let d = kid_stands k l u g r o in
            subst (Adds k u) (sym (child_entered K os p (search_of K ws os p j) (2 ^ j) at low k u (never_barred k u d w e)))
            (subst (λ (row : ℕ). Adds k u (search_of K ws os p j row (kid_low k) u)) (sym w) (ih (kid_low k) (kid k) (kid_row k) u d))

        go : (zs : List Placed) → kid k ≡ zs → Adds k u (turn k u)
        go [] e = none e
        go (z ∷ zs) e =
            some (omega (arith, ap length e)) (child_row_lem ws os m shows st.stands split k l ∙ ap (row_or_none (kid_row k)) e)
            (K.closer u.kept (gap k) (kid_row k)) refl
