-- From a pass to what became of a listing.
use Prim.Native.Nat.{ℕ, ◌+◌, ◌≤◌, ◌<◌}
use mathlib.Core.List.{List, ◌++◌}
use mathlib.Core.Path.{◌≡◌, sym, ap, ap₂, ◌∙◌}
use native.Mathlib.Nat.{zero-add}
use native.Mathlib.Omega.{arith}
use lib.ListN.{length, drop}
use lib.Seq.{sets, sets-eq}
use Rattle.colour.specs.declared.refusal.Refusal.TheVariants.{NoRoom}
use Rattle.model.specs.Queries.{Counts}
use Rattle.model.specs.Machine.{list_answer}
use Rattle.std.specs.Prelude.{Ok, Err}
use Rattle.listing.specs.declared.tally.Tally as Lent
use Rattle.listing.specs.Pass.{Tally, Visit, no_tally}
use Rattle.listing.specs.Steps.{tally_of, tally_in, Visited}
use Rattle.listing.specs.Answers.{listed_answer, counts_of, pass_answer}
use Rattle.listing.proofs.Laws.Answers.Answered.{pass_fits, pass_short}

-- What a pass with a fresh tally leaves.
module _ {v : Visit} {lent lent' : Lent.Tally} {listing listing' : List ℕ} (fresh : lent ≡ tally_of 0 no_tally) (d : Visited v lent listing lent' listing') where
  none_before : lent.listed ≡ 0
  none_before = ap (λ (t : Lent.Tally). t.listed) fresh

  counted_all : lent'.listed ≡ length v.tags
  counted_all = ap (λ (t : Lent.Tally). t.listed) d.tally ∙ ap (λ (n : ℕ). n + length v.tags) none_before ∙ zero-add (length v.tags)

  after : tally_in lent' ≡ v.after
  after = ap tally_in d.tally

  listing_is : length v.tags ≤ length listing → listing' ≡ v.tags ++ drop (length v.tags) listing
  listing_is h =
      d.tags
      ∙ ap (λ (n : ℕ). sets listing n v.tags) none_before
      ∙ sets-eq v.tags listing 0 (omega arith)
      ∙ ap (λ (n : ℕ). v.tags ++ drop n listing) (zero-add (length v.tags))

  pub listed_all : length v.tags ≤ length listing
      → listed_answer (Ok (record { listed = lent'.listed; entered = lent'.entered; measured = lent'.measured })) listing' ≡ pass_answer v listing
  unfolding listed_answer counts_of
  listed_all h =
      let counts : record { entered = lent'.entered; measured = lent'.measured } ≡ counts_of v = ap (λ (t : Tally). record { entered = t.entered; measured = t.measured }) after in
      rw (pass_fits v listing h)
      (ap₂ (λ (k : ℕ) (x : Counts). list_answer 0 k x listing') counted_all counts
      ∙ ap (list_answer 0 (length v.tags) (counts_of v)) (listing_is h))

-- A listing that is too short.
pub no_room : (v : Visit) (listing : List ℕ) → length listing < length v.tags → listed_answer (Err NoRoom) listing ≡ pass_answer v listing
unfolding listed_answer
no_room v listing h = sym (pass_short v listing h)
