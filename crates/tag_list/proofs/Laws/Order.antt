-- The tags of the order, by a box of all colours.
use Prim.Native.Nat.{ℕ, ◌^◌, ◌≤◌}
use mathlib.Core.Bool.{true}
use mathlib.Core.List.{List, ◌++◌, map}
use mathlib.Core.Path.{◌≡◌, refl, sym, ap, ◌∙◌}
use native.Mathlib.Omega.{arith}
use lib.ListN.{length, take, drop, length-map, length-append}
use lib.Seq.{take_at, length-take-le}
use lib.Pow.{pow_pos}
use Rattle.colour.specs.Channels.{Colour}
use Rattle.colour.specs.declared.Region.{Region}
use Rattle.colour.specs.declared.Region.TheVariants.{Box}
use Rattle.colour.specs.declared.refusal.Refusal.{Refusal}
use Rattle.colour.specs.Colour.{black}
use Rattle.colour.specs.Octant.{depths}
use Rattle.colour.specs.Region.{holds, inside}
use Rattle.colour.specs.Computes.{colour_computes}
use Rattle.colour.proofs.Laws.Extremes.{inside_all}
use Rattle.colour.proofs.Laws.Questions.{refusal_numbered}
use Rattle.model.specs.SampleSet.{placed, order}
use Rattle.model.specs.Layout.{sample_header, sample_width, sample_rows, current}
use Rattle.model.specs.Tables.{Tables, pair}
use Rattle.model.specs.Queries.{tag_of, listed}
use Rattle.model.specs.Machine.{Machine, Answer, list_answer, nearest_answer, plain, start_on}
use Rattle.model.specs.Sound.{Shows}
use Rattle.model.specs.Walklist.{walklist_start}
use Rattle.model.proofs.Tables.Unique.{samples_length, current_complete}
use Rattle.model.proofs.Tree.Order.{order_length}
use Rattle.std.specs.Prelude.{Result, Ok, Err}
use Rattle.listing.specs.declared.list.Counts.{Counts}
use Rattle.listing.specs.Pass.{Visit, pass_of}
use Rattle.listing.specs.Answers.{listed_answer, counts_of, pass_answer}
use Rattle.listing.proofs.Laws.Sound.Passed.{pass_agrees}
use Rattle.listing.proofs.Laws.Answers.Answered.{pass_fits}
use Rattle.tag_list.specs.Printed.{Fits}
use Rattle.model.proofs.Tree.Cubes.{Reached, whole, lies}
use Rattle.traversal.proofs.Laws.Sound.Each.{all_order, all_then, keep_passed}
use Rattle.traversal.proofs.Laws.Sound.Standing.{all_lie}

-- A colour with one code in each channel.
abbrev pub grey : ℕ → Colour
grey code = record { red = code; green = code; blue = code }

-- The box of all colours.
abbrev pub everything : Region
everything = Box (grey 0) (grey 65535)

everything_inside : inside everything (2 ^ depths) black ≡ true
unfolding colour_computes
everything_inside = refl

module _ (ws os : List ℕ) (m : Machine) (shows : Shows current m (pair ws os)) where
  pub all_listed : listed everything m.set ≡ map tag_of (order m.set)
  unfolding listed order
  all_listed =
      let root : Reached m.set depths black (placed m.set) = whole in
      ap (map tag_of)
      (keep_passed (λ x. holds everything x.sample.colour) (order m.set)
      (all_order (λ x. holds everything x.sample.colour ≡ true) m.set.settings.bucket depths (placed m.set)
      (all_then (λ x. lies (2 ^ depths) black x ≡ true) (λ x. holds everything x.sample.colour ≡ true)
      (λ x i. (inside_all everything (2 ^ depths) black (pow_pos depths)).0 everything_inside x.sample.colour i) (placed m.set) (all_lie ws os m shows root))))

-- The tags of the order stand first in a listing, n of them.
pub record Ordered (t : Tables) (listing : List ℕ) (n : ℕ) : Type 0 where
  pub within : n ≤ length listing
  pub few : n ≤ 512
  pub size : length (take n listing) ≡ n
  pub are : (m : Machine) → Shows current m t → take n listing ≡ map tag_of (order m.set)

-- What a pass over all colours left in a listing of 512 words.
module _ (t : Tables) (fits : Fits t) (R : Region) (all : R ≡ everything) (lent left : List ℕ) (long : length lent ≡ 512) where
  abbrev v : Visit
  v = pass_of t.samples t.octants R

  tags_are : (m : Machine) → Shows current m t → v.tags ≡ map tag_of (order m.set)
  tags_are m shows =
      (pass_agrees t.samples t.octants m shows R).tags
      ∙ ap (λ (r : Region). listed r m.set) all
      ∙ all_listed t.samples t.octants m shows

  tags_few : length v.tags ≤ 512
  unfolding Fits walklist_start start_on sample_header sample_width current sample_rows
  tags_few =
      let m = fits.0.machine in
      let shows = fits.0.shows in
      omega (arith, ap length (tags_are m shows), length-map (order m.set) tag_of, order_length m.set, shows.valid.rows_fit, samples_length current current_complete m t shows, fits.1)

  -- All were listed, question 13 being yes.
  answer : (r : Result Counts Refusal) → listed_answer r left ≡ pass_answer v lent
      → listed_answer r left ≡ list_answer 0 (length v.tags) (counts_of v) (v.tags ++ drop (length v.tags) lent)
  answer r e = e ∙ pass_fits v lent (omega (arith, tags_few))

  pub listed_ordered : (r : Result Counts Refusal) → listed_answer r left ≡ pass_answer v lent → (c : Counts) → r ≡ Ok c → Ordered t left c.listed
  unfolding listed_answer list_answer
  listed_ordered r e c is =
      let a = ap (λ (q : Result Counts Refusal). listed_answer q left) (sym is) ∙ answer r e in
      let size : c.listed ≡ length v.tags = ap (λ (z : Answer). z.listed) a in
      let words : left ≡ v.tags ++ drop (length v.tags) lent = ap (λ (z : Answer). z.listing) a in
      let within : c.listed ≤ length left = omega (arith, size, ap length words, length-append v.tags (drop (length v.tags) lent)) in
      record {
        within = within;
        few = omega (arith, size, tags_few);
        size = length-take-le c.listed left within;
        are = λ m shows. ap (take c.listed) words ∙ take_at v.tags (drop (length v.tags) lent) c.listed (sym size) ∙ tags_are m shows;
      }

  pub never_refused : (r : Result Counts Refusal) → listed_answer r left ≡ pass_answer v lent → (q : Refusal) → r ≡ Err q → ⊥
  unfolding listed_answer list_answer plain nearest_answer
  never_refused r e q is =
      let a = ap (λ (q : Result Counts Refusal). listed_answer q left) (sym is) ∙ answer r e in
      refusal_numbered q (ap (λ (z : Answer). z.number) a)
