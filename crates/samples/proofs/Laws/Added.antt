-- An add on sound tables, question by question, and the tables of the set with the sample.
use Prim.Native.Nat.{ℕ, ◌+◌, ◌≤◌, ◌<◌}
use mathlib.Core.Bool.{true, false, not}
use mathlib.Core.List.{List, [], ◌∷◌, ◌++◌}
use mathlib.Core.Path.{◌≡◌, refl, sym, ap, ◌∙◌, subst}
use native.Mathlib.Numerals.{add-one}
use native.Mathlib.Omega.{arith}
use borrow.Author.Tests.{le-leb, lt-leb, lt-ltb, le-ltb}
use lib.Dec.{leb, ltb}
use lib.ListN.{length, get_or}
use Rattle.colour.specs.declared.Sample.{Sample}
use Rattle.colour.specs.declared.Settings.{Settings}
use Rattle.colour.specs.declared.refusal.Refusal.{Refusal}
use Rattle.colour.specs.declared.refusal.Refusal.TheVariants as R
use Rattle.colour.specs.Colour.{codes_fit}
use Rattle.colour.specs.Question.{asks, first_no}
use Rattle.colour.specs.Refusal.{refusal_number}
use Rattle.colour.proofs.Laws.Questions.{first_yes, first_no_lem, alone_yes, refusal_numbered}
use Rattle.model.specs.SampleSet.{octants}
use Rattle.model.specs.Layout.{current, sample_rows, octant_rows}
use Rattle.model.specs.Tables.{Tables, pair}
use Rattle.model.specs.Machine.{Machine, Change, Add, tables_of, plain, has_tag, with_samples, added, fit_questions, new_questions, questions, accepted}
use Rattle.model.specs.Sound.{Shows, Sound, CodesInRange}
use Rattle.model.specs.Meets.{Follows}
use Rattle.model.proofs.Machine.Samples.{both_range}
use Rattle.model.proofs.Machine.Valid.{row_unused}
use Rattle.words.specs.Rows.{sample_start, count_in, settings_in, samples_from, set_of, with_sample}
use Rattle.words.proofs.Laws.Layout.Put.{empty, put_length, put_snoc, put_back}
use Rattle.words.proofs.Laws.Layout.Samples.{samples_length}
use Rattle.octree.proofs.Laws.Tables.Check.{sample_length_lem, octant_length_lem, rest_zero}
use Rattle.samples.specs.Answers.{changed_answer}
use Rattle.std.specs.Prelude.{Ok, Err}
use Rattle.samples.specs.Rebuilding.{codes_asked, Rebuilt}
use Rattle.samples.specs.Steps.{FollowsAll, holding, Adding, row_of_tag, row_questions}
use Rattle.samples.proofs.Laws.Meets.{refused_follows, accepted_follows}
use Rattle.samples.proofs.Laws.Rebuilt.{rebuilt_as, rebuilt_room, rebuilt_over}
use Rattle.samples.proofs.Laws.Tags.{row_asked}
use Rattle.samples.proofs.Laws.Shown.{said, known_below, rows_octants, rows_tables}

-- The number of an add, by the first question that is answered with no.
module _ (m : Machine) (s : Sample) where
  abbrev more : List Sample
  more = m.set.samples ++ (s ∷ [])

  abbrev number : ℕ
  number = first_no (questions m (Change (Add s)))

  add_accepted : (t' : Tables) → number ≡ 0 → t' ≡ tables_of current (holding m more) → Follows m (Change (Add s)) (plain 0 []) t'
  unfolding accepted added
  add_accepted t' asked told = accepted_follows m (Add s) t' (with_samples m.set more) asked refl told

  says_4 : codes_fit s.colour ≡ false → number ≡ 4
  unfolding questions
  says_4 out = first_no_lem 4 (codes_fit s.colour) (new_questions m s) out

  module _ (codes : codes_fit s.colour ≡ true) where
    after_4 : number ≡ first_no (new_questions m s)
    unfolding questions
    after_4 = first_yes 4 (codes_fit s.colour) (new_questions m s) codes

    says_5 : has_tag s.tag m.set.samples ≡ true → number ≡ 5
    unfolding new_questions
    says_5 known = after_4 ∙ first_no_lem 5 (not (has_tag s.tag m.set.samples)) _ (ap not known)

    module _ (new : has_tag s.tag m.set.samples ≡ false) where
      abbrev rows : ℕ
      rows = sample_rows current m.sample_length

      after_5 : number ≡ first_no (fit_questions m (with_samples m.set more))
      unfolding new_questions added
      after_5 = after_4 ∙ first_yes 5 (not (has_tag s.tag m.set.samples)) _ (ap not new)

      says_6 : rows ≤ length m.set.samples → number ≡ 6
      unfolding fit_questions with_samples
      says_6 full = after_5 ∙ first_no_lem 6 (leb (length more) rows) _ (row_unused m.set.samples s rows ∙ le-ltb (length m.set.samples) rows full)

      module _ (row : length m.set.samples < rows) where
        abbrev fit : ℕ → ℕ → ℕ
        fit n room = first_no (asks 7 (leb n room) ∷ [])

        after_6 : number ≡ fit (octants (with_samples m.set more)) (octant_rows current m.octant_length)
        unfolding fit_questions with_samples
        after_6 = after_5 ∙ first_yes 6 (leb (length more) rows) _ (row_unused m.set.samples s rows ∙ lt-ltb (length m.set.samples) rows row)

        says_7 : octant_rows current m.octant_length < octants (with_samples m.set more) → number ≡ 7
        says_7 over = after_6 ∙ first_no_lem 7 _ [] (lt-leb _ _ over)

        says_0 : octants (with_samples m.set more) ≤ octant_rows current m.octant_length → number ≡ 0
        says_0 room = after_6 ∙ alone_yes 7 _ (le-leb _ _ room)

-- Refusals before the sample is put in its row: nothing has changed.
module _ (ws os : List ℕ) (s : Sample) where
  abbrev t : Tables
  t = pair ws os

  pub codes_refused : codes_fit s.colour ≡ false → FollowsAll (Add s) t (changed_answer (Err R.Code)) t
  unfolding changed_answer
  codes_refused out m shows = refused_follows m (Add s) t 4 (says_4 m s out) (λ z. omega (arith, z)) shows.words

  module _ (codes : codes_fit s.colour ≡ true) (n : ℕ) (counted : n ≡ count_in ws) (row : ℕ)
      (placed : row ≡ row_of_tag s.tag (samples_from current ws 0 n)) where
    known : (m : Machine) → Shows current m t → has_tag s.tag m.set.samples ≡ ltb row n
    known m shows = known_below ws os n counted m shows s.tag row placed

    pub tag_refused : row < n → FollowsAll (Add s) t (changed_answer (Err R.KnownTag)) t
    unfolding changed_answer
    tag_refused h m shows = refused_follows m (Add s) t 5 (says_5 m s codes (known m shows ∙ lt-ltb row n h)) (λ z. omega (arith, z)) shows.words

    module _ (new : n ≤ row) where
      pub row_refused : sample_rows current (length ws) ≤ n → FollowsAll (Add s) t (changed_answer (Err R.NoRow)) t
      unfolding changed_answer
      row_refused full m shows =
          let many : length m.set.samples ≡ n =
          ap length (sym (said ws os n counted m shows)) ∙ samples_length ws n 0 in
          refused_follows m (Add s) t 6
          (says_6 m s codes (known m shows ∙ le-ltb row n new) (omega (arith, many, full, ap (sample_rows current) (sample_length_lem ws os m shows))))
          (λ z. omega (arith, z)) shows.words

      -- Else it is left to put it in the row after the others.
      pub now_adding : Sound current t → n < sample_rows current (length ws) → Adding s n ws os
      now_adding sound left =
          record {
            sound = sound;
            counted = sym counted;
            codes = codes;
            new =
                ap (has_tag s.tag) (said ws os n counted sound.machine sound.shows)
                ∙ known sound.machine sound.shows
                ∙ le-ltb row n new;
            row = left;
          }

  -- So by what questions 5 and 6 come to for its tag.
  module _ (codes : codes_fit s.colour ≡ true) (n : ℕ) (counted : n ≡ count_in ws) where
    abbrev asked : ℕ
    asked = first_no (row_questions s.tag (samples_from current ws 0 n) (sample_rows current (length ws)))

    pub new_refused : (e : Refusal) → refusal_number e ≡ asked → FollowsAll (Add s) t (changed_answer (Err e)) t
    unfolding changed_answer
    new_refused e said =
        subst (λ (k : ℕ). FollowsAll (Add s) t (plain k []) t) (sym said)
        (row_asked s.tag n ws (sample_rows current (length ws)) (λ k. (k ≡ 0 → ⊥) → FollowsAll (Add s) t (plain k []) t)
        (λ known _. tag_refused codes n counted _ refl known)
        (λ new full _. row_refused codes n counted _ refl new full)
        (λ _ _ ne. absurd (ne refl))
        (λ z. refusal_numbered e (said ∙ z)))

    pub new_taken : 0 ≡ asked → Sound current t → Adding s n ws os
    new_taken said sound =
        row_asked s.tag n ws (sample_rows current (length ws)) (λ k. k ≡ 0 → Adding s n ws os)
        (λ _ z. absurd (omega (arith, z)))
        (λ _ _ z. absurd (omega (arith, z)))
        (λ new left _. now_adding codes n counted _ refl new sound left)
        (sym said)

-- The sample in its row, and a rebuild of one row more.
module _ (s : Sample) (n : ℕ) (ws os : List ℕ) (h : Adding s n ws os) (x : Settings) (settings : x ≡ settings_in current ws) where
  abbrev put : List ℕ
  put = with_sample current ws n s

  one_more : samples_from current put 0 (n + 1) ≡ samples_from current ws 0 n ++ (s ∷ [])
  one_more = ap (samples_from current put 0) (add-one n) ∙ put_snoc ws n s h.row

  module _ (m : Machine) (shows : Shows current m (pair ws os)) where
    these : samples_from current ws 0 n ≡ m.set.samples
    these = said ws os n (sym h.counted) m shows

    now_more : samples_from current put 0 (n + 1) ≡ more m s
    now_more = one_more ∙ ap (λ (xs : List Sample). xs ++ (s ∷ [])) these

    new_tag : has_tag s.tag m.set.samples ≡ false
    new_tag = ap (has_tag s.tag) (sym these) ∙ h.new

    row_left : length m.set.samples < sample_rows current m.sample_length
    row_left = omega (arith, ap length these, samples_length ws n 0, h.row, ap (sample_rows current) (sample_length_lem ws os m shows))

    abbrev octants_now : ℕ
    octants_now = octants (set_of current put x (n + 1))

    same_count : octants_now ≡ octants (with_samples m.set (more m s))
    same_count = rows_octants ws os m shows x settings put (n + 1) (more m s) now_more

    -- Its codes are in range.
    in_range_now : CodesInRange (samples_from current put 0 (n + 1))
    unfolding CodesInRange
    in_range_now = subst CodesInRange (sym now_more) (both_range m.set.samples (s ∷ []) shows.valid.in_range (h.codes, tt))

    -- The words from its row on were 0.
    zeros : (p : ℕ) → sample_start current n ≤ p → get_or ws p 0 ≡ 0
    zeros p l = rest_zero ws os m shows p (subst (λ (k : ℕ). sample_start current k ≤ p) (sym h.counted) l)

    abbrev same_rooms : octant_rows current (length os) ≡ octant_rows current m.octant_length
    same_rooms = ap (octant_rows current) (octant_length_lem ws os m shows)

  -- us are the words after the sample was put in, ws' and os' those after the rebuild.
  module _ (us : List ℕ) (is-put : us ≡ put) (r : ℕ) (ws' os' : List ℕ)
      (told : Rebuilt (codes_asked x (n + 1) (pair us os)) x (n + 1) (pair us os) r (pair ws' os')) where
    rebuilt : Rebuilt (codes_asked x (n + 1) (pair put os)) x (n + 1) (pair put os) r (pair ws' os')
    rebuilt = rebuilt_as x (n + 1) us put os r (pair ws' os') is-put told

    -- Where the tree fits, its tables are the machine's with the sample.
    pub sample_added : r ≡ 0 → FollowsAll (Add s) (pair ws os) (changed_answer (Ok tt)) (pair ws' os')
    unfolding changed_answer
    sample_added done m shows =
        add_accepted m s (pair ws' os')
        (says_0 m s h.codes (new_tag m shows) (row_left m shows)
        (omega (arith, same_count m shows, same_rooms m shows, rebuilt_room x (n + 1) put os r (pair ws' os') (in_range_now m shows) rebuilt done)))
        (rebuilt.accepted done
        ∙ rows_tables ws os m shows x settings put (n + 1) (more m s) (now_more m shows) (put_length ws n s))

    -- Where it does not, the row is emptied again.
    pub octants_refused : (vs : List ℕ) → vs ≡ with_sample current ws' n empty → (r ≡ 0 → ⊥)
        → FollowsAll (Add s) (pair ws os) (changed_answer (Err R.NoOctants)) (pair vs os')
    unfolding changed_answer
    octants_refused vs emptied ne m shows =
        refused_follows m (Add s) (pair vs os') 7
        (says_7 m s h.codes (new_tag m shows) (row_left m shows)
        (omega (arith, same_count m shows, same_rooms m shows, rebuilt_over x (n + 1) put os r (pair ws' os') (in_range_now m shows) rebuilt ne)))
        (λ z. omega (arith, z))
        (ap (λ (l : List ℕ). pair l os') emptied
        ∙ ap (λ (x : Tables). pair (with_sample current x.samples n empty) x.octants) (rebuilt.refused ne)
        ∙ ap (λ (l : List ℕ). pair l os) (put_back ws n s h.row (zeros m shows))
        ∙ shows.words)
