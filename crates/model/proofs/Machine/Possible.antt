-- The contracts can be met: on sound tables by the machine's own answer, on others by a refusal, and an accepted clear on any. So the whole-day theorem
-- is not empty: the machine's own day happened (`trace_happened`), whatever words the tables held before it.
use Prim.Native.Nat.{ℕ}
use mathlib.Core.Bool.{Bool, true, false, true≢false, and-eq-true_iff}
use mathlib.Core.List.{List, [], ◌∷◌}
use mathlib.Core.Path.{◌≡◌, refl, sym, ap, ◌∙◌, subst}
use native.Mathlib.Omega.{arith}
use borrow.Author.Tests.{leb-true}
use lib.Dec.{leb}
use lib.ListN.{length}
use Rattle.colour.specs.declared.Settings.{Settings}
use Rattle.colour.specs.declared.Query.{Query}
use Rattle.colour.specs.Question.{first_no}
use Rattle.model.specs.Layout.{current, sample_header, octant_header}
use Rattle.model.specs.Tables.{Tables}
use Rattle.model.specs.Machine.{Machine, Call, Clear, Change, Ask, lent, tables_of, with_set, plain, list_answer, nearest_answer, clear_questions, Outcome, step, next_state, start}
use Rattle.model.specs.Sound.{Shows, Sound, long_enough}
use Rattle.model.specs.Meets.{Meets, ClearMeets, TableMeets, Follows, Free, lists, may_give, own_reports}
use Rattle.model.specs.Trace.{Happened, played, machine_trace}
use Rattle.model.proofs.Tables.Unique.{shows_one, current_complete}
use Rattle.model.proofs.Machine.Valid.{step_valid, started_valid}
use Rattle.model.proofs.Machine.Day.{sound_long, clear_accepted, clear_refused, started}

-- On sound tables the machine's answer and tables meet the contract.
module _ (m : Machine) (t : Tables) (s : Shows current m t) where
  table_meets : (unsoundly : Type 0) (c : Call) → TableMeets unsoundly c t (step m c).answer (tables_of current (next_state m c))
  table_meets unsoundly c =
      record {
        short = λ e. absurd (true≢false (sym (sound_long m t s) ∙ e));
        unsound = λ _ n. absurd (n (record { machine = m; shows = s }));
        sound = λ m' s'.
            subst (λ (x : Machine). Follows x c (step m c).answer (tables_of current (next_state m c))) (shows_one current current_complete m m' t s s')
            (record { answer = refl; tables = refl });
      }

  clear_meets : (x : Settings) → ClearMeets x t (step m (Clear x)).answer (tables_of current (next_state m (Clear x)))
  unfolding lent next_state with_set
  clear_meets x =
      record {
        short = λ e. absurd (true≢false (sym (sound_long m t s) ∙ e));
        refused = λ _ n.
            record {
              answer = ap (λ (o : Outcome). o.answer) (clear_refused x m n);
              tables = ap (λ (o : Outcome). tables_of current (with_set m o.set)) (clear_refused x m n) ∙ sym s.words;
            };
        accepted = λ _ z. (
          ap (λ (o : Outcome). o.answer) (clear_accepted x m z),
          ap (λ (o : Outcome). tables_of current (with_set m o.set)) (clear_accepted x m z) ∙ ap (tables_of current) (sym (started x m t s)),
        );
      }

  pub machine_meets : (c : Call) → Meets c t (step m c).answer (tables_of current (next_state m c))
  unfolding Meets
  machine_meets (Clear x) = clear_meets x
  machine_meets (Change c) = table_meets _ (Change c)
  machine_meets (Ask q l) = table_meets _ (Ask q l)

-- A query that refuses on unsound tables keeps within what question 2 leaves it, if it may give the number.
pub nothing_reported : (q : Query) (l : List ℕ) (n : ℕ) → plain n l ≡ own_reports (lists q) l (plain n l)
unfolding own_reports plain nearest_answer list_answer
nothing_reported q l n = go (lists q) refl
  where
    go : (r : Bool) → lists q ≡ r → plain n l ≡ own_reports (lists q) l (plain n l)
    go true e = rw e
    go false e = rw e

pub refusing_free : (q : Query) (l : List ℕ) (t : Tables) (n : ℕ) → may_give q n ≡ true → Free q l t (plain n l) t
unfolding plain nearest_answer
refusing_free q l t n may =
    record {
      tables = refl;
      number = may;
      same_length = refl;
      room = omega arith;
      past = refl;
      refused = λ _. refl;
      reports = nothing_reported q l n;
    }

-- By 2.
pub refusing_is_free : (q : Query) (l : List ℕ) (t : Tables) → Free q l t (plain 2 l) t
unfolding may_give
refusing_is_free q l t = refusing_free q l t 2 refl

-- On tables that are too short, refusing by 1 meets every contract.
module _ (t : Tables) (e : long_enough current t ≡ false) where
  table_short : (unsoundly : Type 0) (c : Call) → TableMeets unsoundly c t (plain 1 (lent c)) t
  table_short unsoundly c =
      record {
        short = λ _. record { answer = refl; tables = refl };
        unsound = λ l. absurd (true≢false (sym l ∙ e));
        sound = λ m s. absurd (true≢false (sym (sound_long m t s) ∙ e));
      }

  pub short_meets : (c : Call) → Meets c t (plain 1 (lent c)) t
  unfolding Meets
  short_meets (Clear x) =
      record {
        short = λ _. record { answer = refl; tables = refl };
        refused = λ l. absurd (true≢false (sym l ∙ e));
        accepted = λ l. absurd (true≢false (sym l ∙ e));
      }
  short_meets (Change c) = table_short _ (Change c)
  short_meets (Ask q l) = table_short _ (Ask q l)

-- On unsound ones, refusing by 2 meets that of every call but clear, which does not ask.
module _ (t : Tables) (e : long_enough current t ≡ true) (n : Sound current t → ⊥) where
  table_unsound : (unsoundly : Type 0) (c : Call) → unsoundly → TableMeets unsoundly c t (plain 2 (lent c)) t
  table_unsound unsoundly c h =
      record {
        short = λ l. absurd (true≢false (sym e ∙ l));
        unsound = λ _ _. h;
        sound = λ m s. absurd (n (record { machine = m; shows = s }));
      }

  pub unsound_meets : (c : Call) → ((x : Settings) → c ≡ Clear x → ⊥) → Meets c t (plain 2 (lent c)) t
  unfolding Meets lent
  unsound_meets (Clear x) other = absurd (other x refl)
  unsound_meets (Change c) other = table_unsound _ (Change c) (record { answer = refl; tables = refl })
  unsound_meets (Ask q l) other = table_unsound _ (Ask q l) (refusing_is_free q l t)

-- The machine's own calls happen, one after the other, from tables that show it.
played_happened : (calls : List Call) (m : Machine) (t : Tables) → Shows current m t → Happened t (played m calls)
unfolding Happened played
played_happened [] m t s = tt
played_happened (c ∷ rest) m t s = (
  machine_meets m t s c,
  played_happened rest (next_state m c) (tables_of current (next_state m c)) (record { valid = step_valid m c s.valid; words = refl }),
)

-- The converse of the whole-day theorem: on any tables that are long enough, sound or not, an accepted clear and any calls after it happen as the
-- machine has them.
pub trace_happened : (s : Settings) (t : Tables) (calls : List Call) → long_enough current t ≡ true → first_no (clear_questions s) ≡ 0
    → Happened t (machine_trace s t calls)
unfolding Happened machine_trace Meets long_enough start
trace_happened s t calls long ok =
    let words = (and-eq-true_iff (leb (sample_header current) (length t.samples)) (leb (octant_header current) (length t.octants))).0 long in (
      record {
        short = λ e. absurd (true≢false (sym long ∙ e));
        refused = λ _ n. absurd (n ok);
        accepted = λ _ _. (refl, refl);
      },
      played_happened calls (start s t) (tables_of current (start s t))
          (record {
            valid = started_valid s (length t.samples) (length t.octants) (leb-true _ _ words.0) (leb-true _ _ words.1) ok;
            words = refl;
          }),
    )
