-- On any words at all a pass enters no more octants than the octant table counts and has, and visits no more samples than the sample table counts
-- and has: a hostile table costs no more than a full one.
use Prim.Native.Nat.{ℕ, zero, suc, ◌+◌, ◌-◌, ◌^◌, ◌≤◌, ◌<◌}
use mathlib.Core.Bool.{Bool, true, false, ◌&&◌, and-eq-true_iff}
use mathlib.Core.List.{List}
use mathlib.Core.Path.{◌≡◌, refl}
use native.Mathlib.Omega.{arith}
use borrow.Author.Tests.{leb-true, ltb-true}
use lib.Dec.{leb, ltb}
use lib.ListN.{length, length-append}
use Rattle.colour.specs.Channels.{Colour}
use Rattle.colour.specs.declared.Region.{Region}
use Rattle.colour.specs.Colour.{black}
use Rattle.colour.specs.Octant.{depths, children, child_low}
use Rattle.colour.specs.Region.{overlaps, inside}
use Rattle.model.specs.Layout.{current}
use Rattle.words.specs.Rows.{octant_limit, sample_budget}
use Rattle.listing.specs.Pass.{Tally, Visit, measured_after, visiting, tally_entering, own_samples, enters, nothing, and_then, visit_each, child_visit, ends, visit_of, no_tally, pass_of}
use Rattle.listing.specs.Steps.{TallyWithin}
use Rattle.traversal.specs.Own.{own_rows}
use Rattle.traversal.specs.Children.{child_at}
use Rattle.traversal.proofs.Laws.Rows.{own_few}
use Rattle.listing.proofs.Laws.Pass.Tags.{tags_few}

-- A visit that begins with tally t stays within them, and lists only what it visits.
pub record Bounded (budget limit : ℕ) (t : Tally) (v : Visit) : Type 0 where
  pub limits : TallyWithin budget limit v.after
  pub listed : t.visited + length v.tags ≤ v.after.visited

-- What `enters` says of a row.
pub enters_row : (os : List ℕ) (R : Region) (s : ℕ) (low : Colour) (row : ℕ) (t : Tally) → enters os R s low row t ≡ true
    → (overlaps R s low ≡ true) × ((t.next ≤ row) × (row < octant_limit current os))
unfolding enters
enters_row os R s low row t e =
    let o = (and-eq-true_iff (overlaps R s low) (leb t.next row && ltb row (octant_limit current os))).0 e in
    let r = (and-eq-true_iff (leb t.next row) (ltb row (octant_limit current os))).0 o.1 in
    (o.0, (leb-true _ _ r.0, ltb-true _ _ r.1))

module _ (budget limit : ℕ) where
  pub nothing_bounded : (t : Tally) → TallyWithin budget limit t → Bounded budget limit t (nothing t)
  unfolding nothing
  nothing_bounded t s = record { limits = s; listed = omega arith }

  then_bounded : (t : Tally) (v : Visit) (f : Tally → Visit) → Bounded budget limit t v → Bounded budget limit v.after (f v.after)
      → Bounded budget limit t (and_then v f)
  unfolding and_then
  then_bounded t v f h k =
      record { limits = k.limits; listed = omega (arith, h.listed, k.listed, length-append v.tags (f v.after).tags) }

  pub turns_bounded : (f : ℕ → Tally → Visit) → ((k : ℕ) (u : Tally) → TallyWithin budget limit u → Bounded budget limit u (f k u))
      → (n : ℕ) (t : Tally) → TallyWithin budget limit t → Bounded budget limit t (visit_each f n t)
  unfolding visit_each
  turns_bounded f h zero t s = nothing_bounded t s
  turns_bounded f h (suc n) t s =
      let b = turns_bounded f h n t s in
      then_bounded t (visit_each f n t) (f n) b (h n (visit_each f n t).after b.limits)

  -- An octant is entered in a row that is not passed yet.
  pub entering_within : (row : ℕ) (t : Tally) → t.next ≤ row → row < limit → TallyWithin budget limit t → TallyWithin budget limit (tally_entering row t)
  unfolding tally_entering
  entering_within row t p b s =
      record { entered = omega (arith, s.entered); next = omega arith; measured = s.measured; visited = s.visited }

  visiting_within : (whole : Bool) (n : ℕ) (t : Tally) → n ≤ budget - t.visited → TallyWithin budget limit t → TallyWithin budget limit (visiting whole n t)
  unfolding visiting measured_after
  visiting_within true n t f s = record { entered = s.entered; next = s.next; measured = omega (arith, s.measured); visited = omega (arith, s.visited) }
  visiting_within false n t f s = record { entered = s.entered; next = s.next; measured = omega (arith, s.measured); visited = omega (arith, s.visited) }

module _ (ws os : List ℕ) (R : Region) where
  abbrev budget : ℕ
  budget = sample_budget current ws

  abbrev limit : ℕ
  limit = octant_limit current os

  own_bounded : (whole : Bool) (row : ℕ) (t : Tally) → TallyWithin budget limit t → Bounded budget limit t (own_samples ws os R whole row t)
  unfolding own_samples visiting
  own_bounded whole row t s =
      record {
        limits = visiting_within budget limit whole (length (own_rows ws os row t.visited)) t (own_few ws os row t.visited) s;
        listed = omega (arith, tags_few ws R whole (own_rows ws os row t.visited));
      }

  -- From the tally before the octant was entered, which has visited as many.
  from_entering : (row : ℕ) (t : Tally) (v : Visit) → Bounded budget limit (tally_entering row t) v → Bounded budget limit t v
  unfolding tally_entering
  from_entering row t v h = record { limits = h.limits; listed = h.listed }

  pub child_bounded : (below : ℕ → Colour → Tally → Visit) (s row : ℕ) (low : Colour)
      → ((at : ℕ) (l : Colour) (u : Tally) → u.next ≤ at → at < limit → TallyWithin budget limit u → Bounded budget limit u (below at l u))
      → (k : ℕ) (u : Tally) → TallyWithin budget limit u → Bounded budget limit u (child_visit os R below s row low k u)
  unfolding child_visit
  child_bounded below s row low h k u limits = go (enters os R s (child_low s k low) (child_at os row k) u) refl
    where
      go : (r : Bool) → enters os R s (child_low s k low) (child_at os row k) u ≡ r
          → Bounded budget limit u (child_visit os R below s row low k u)
      go true e =
          let w = enters_row os R s (child_low s k low) (child_at os row k) u e in
          rw (e, child_visit) (h (child_at os row k) (child_low s k low) u w.1.0 w.1.1 limits)
      go false e = rw (e, child_visit) (nothing_bounded budget limit u limits)

  pub visit_bounded : (j row : ℕ) (low : Colour) (t : Tally) → t.next ≤ row → row < limit → TallyWithin budget limit t
      → Bounded budget limit t (visit_of ws os R j row low t)
  unfolding visit_of
  visit_bounded zero row low t p b s =
      from_entering row t _ (own_bounded (inside R (2 ^ zero) low) row (tally_entering row t) (entering_within budget limit row t p b s))
  visit_bounded (suc j) row low t p b s = go (ends ws os R (suc j) row low) refl (λ at l u. visit_bounded j at l u)
    where
      go : (r : Bool) → ends ws os R (suc j) row low ≡ r
          → ((at : ℕ) (l : Colour) (u : Tally) → u.next ≤ at → at < limit → TallyWithin budget limit u → Bounded budget limit u (visit_of ws os R j at l u))
          → Bounded budget limit t (visit_of ws os R (suc j) row low t)
      go true e ih =
          rw (e, visit_of)
          (from_entering row t _ (own_bounded (inside R (2 ^ suc j) low) row (tally_entering row t) (entering_within budget limit row t p b s)))
      go false e ih =
          rw (e, visit_of)
          (from_entering row t _
          (turns_bounded budget limit (child_visit os R (visit_of ws os R j) (2 ^ j) row low) (child_bounded (visit_of ws os R j) (2 ^ j) row low ih)
          children (tally_entering row t) (entering_within budget limit row t p b s)))

  pub no_tally_within : TallyWithin budget limit no_tally
  unfolding no_tally
  no_tally_within = record { entered = omega arith; next = omega arith; measured = omega arith; visited = omega arith }

  -- The whole pass.
  pub pass_bounded : Bounded budget limit no_tally (pass_of ws os R)
  unfolding pass_of
  pass_bounded = go (enters os R (2 ^ depths) black 0 no_tally) refl
    where
      go : (r : Bool) → enters os R (2 ^ depths) black 0 no_tally ≡ r → Bounded budget limit no_tally (pass_of ws os R)
      go true e =
          let w = enters_row os R (2 ^ depths) black 0 no_tally e in
          rw (e, pass_of) (visit_bounded depths 0 black no_tally w.1.0 w.1.1 no_tally_within)
      go false e = rw (e, pass_of) (nothing_bounded budget limit no_tally no_tally_within)
