-- Queries taken apart into codes (document 01, "Gestures").
use Rattle.std.specs.Prelude.{ℕ, Result, Ok, Err, Bool, true, false, ◌&&◌, List, [], ◌∷◌, leb, Float}
use Rattle.colour.specs.Channels.{Colour}
use Rattle.colour.specs.Channels.{PanelColour}
use Rattle.colour.specs.declared.Probe.{Probe}
use Rattle.colour.specs.declared.Query.{Query}
use Rattle.colour.specs.declared.Query.TheVariants as Q
use Rattle.colour.specs.declared.Region.TheVariants as R
use Rattle.colour.specs.declared.refusal.Refusal.{Refusal}
use Rattle.colour.specs.declared.refusal.Refusal.TheVariants.{OutOfRange}
use Rattle.colour.specs.declared.panel.Wanted.{Wanted}
use Rattle.colour.specs.declared.panel.Wanted.TheVariants as W
use Rattle.colour.specs.Colour.{code_in, each}
use Rattle.colour.specs.Probe.{probe}
use Rattle.colour.specs.Panel.{panel_good, radius_good, codes_of, code_of}
use Rattle.colour.specs.Question.{Question, asks}

-- A box needs low ≤ high in each channel, as codes.
unfoldable pub ordered : Colour → Colour → Bool
ordered lo hi = each (λ h. leb (code_in h lo) (code_in h hi))

-- A probe at a centre, and a radius in codes, or the refusal.
unfoldable pub sphere_if : Bool → PanelColour → Float → Result (Probe × ℕ) Refusal
sphere_if true c r = Ok (probe (codes_of c), code_of r)
sphere_if false c r = Err OutOfRange

-- Question 9: as under Gestures?
unfoldable pub query_good : Query → Bool
query_good (Q.Ball c r) = panel_good c && radius_good r
query_good (Q.Box lo hi) = (panel_good lo && panel_good hi) && ordered (codes_of lo) (codes_of hi)
query_good (Q.Nearest c r) = panel_good c && radius_good r

-- The questions that are put to the query itself.
unfoldable pub query_questions : Query → List Question
query_questions q = asks 9 (query_good q) ∷ []

-- What a query wants, in codes.
unfoldable pub in_codes : Query → Wanted
in_codes (Q.Ball c r) = W.Listed (R.Ball (probe (codes_of c)) (code_of r))
in_codes (Q.Box lo hi) = W.Listed (R.Box (codes_of lo) (codes_of hi))
in_codes (Q.Nearest c r) = W.Nearest (probe (codes_of c)) (code_of r)

-- A query taken apart.
unfoldable pub asked_of : Query → Result Wanted Refusal
asked_of q = elim (query_good q) [ true ↦ Ok (in_codes q) | false ↦ Err OutOfRange ]
