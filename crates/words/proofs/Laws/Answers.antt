-- What an answer says of a fact: yes where it holds, no where it does not or where a fact that it needs is refuted.
use mathlib.Core.Bool.{Bool, true, false, false≢true, not}
use mathlib.Core.Logic.{◌↔◌}
use mathlib.Core.Path.{◌≡◌, refl, sym, ◌∙◌}
use borrow.Author.Tests.{not-true}

pub says_yes : {Q : Type 0} → Q → (true ≡ true) ↔ Q
says_yes q = (λ e. q, λ e. refl)

pub says_no : {Q : Type 0} → (Q → ⊥) → (false ≡ true) ↔ Q
says_no never = (λ e. absurd (false≢true e), λ q. absurd (never q))

-- A test r of P was negated, and Q needs P.
pub refuted : {P Q : Type 0} (r : Bool) → not r ≡ true → (r ≡ true) ↔ P → (Q → P) → (false ≡ true) ↔ Q
refuted r off told needs = says_no (λ q. false≢true (sym (not-true r off) ∙ told.1 (needs q)))
