-- Load as a whole. Without a good header nothing changes. With one, lines are put in rows, the longest run of them that is a set
-- which fits is kept, its tables are built, and the load says why it ends there.
use Prim.Native.Nat.{ℕ, suc, ◌+◌, ◌-◌, ◌≤◌}
use mathlib.Core.List.{List, [], ◌∷◌, ◌++◌, append-nil}
use Rattle.std.specs.Prelude.{None, Some, Result, Err}
use mathlib.Core.Path.{◌≡◌, sym, ap, ap₂, ◌∙◌, subst, subst⁻¹}
use native.Mathlib.Nat.{zero-add, add-zero, add-suc}
use native.Mathlib.Omega.{arith}
use lib.ListN.{length, take}
use lib.Seq.{take-append-add}
use Rattle.colour.specs.declared.Sample.{Sample}
use Rattle.colour.specs.declared.Settings.{Settings}
use Rattle.colour.specs.declared.refusal.Refusal.{Refusal}
use Rattle.colour.specs.Question.{asks, first_no}
use Rattle.colour.specs.Refusal.{refusal_number}
use Rattle.colour.proofs.Laws.Questions.{first_no_lem, alone_yes}
use Rattle.std.specs.Option.{is_some}
use Rattle.sheet.specs.Sheet.{HeaderAnswer, read_header, line_start, line_count, lines_from, lines_by, lines_of}
use Rattle.sheet.proofs.Laws.Ranges.{lines_ranged}
use Rattle.sheet.proofs.Laws.Reading.Header.{formed}
use Rattle.model.specs.Layout.{current, sample_rows}
use Rattle.model.specs.Tables.{Tables, pair}
use Rattle.model.specs.Machine.{Machine, Change, Load, Outcome, load_answer, plain, nearest_answer, with_set, with_samples, questions, accepted, step, next_state, tables_of}
use Rattle.model.specs.Sound.{Shows, Sound, Distinct}
use Rattle.model.specs.Meets.{Follows}
use Rattle.model.proofs.Machine.Samples.{front_range, both_range}
use Rattle.model.proofs.Machine.Step.{step_accepted}
use Rattle.words.specs.Rows.{count_in, settings_in, samples_from}
use Rattle.words.proofs.Laws.Layout.Samples.{samples_length, samples_take}
use Rattle.octree.proofs.Laws.Tables.Check.{sample_length_lem, count_shown}
use Rattle.sheet.specs.Answers.{header_answer}
use Rattle.samples.specs.Answers.{loaded_answer, before_lines}
use Rattle.samples.specs.declared.answers.Stop.{Stop}
use Rattle.samples.specs.Rebuilding.{codes_asked, Rebuilt, Space}
use Rattle.samples.specs.Steps.{FollowsAll, Acceptable, Longest, LinesPut, Stopped, good_samples, stop_number}
use Rattle.samples.proofs.Laws.Meets.{refused_follows}
use Rattle.samples.proofs.Laws.Rebuilt.{rebuilt_acceptable}
use Rattle.samples.proofs.Laws.Shown.{said, rows_there, space_for, rows_tables, rows_acceptable, acceptable_octants}
use Rattle.samples.proofs.Laws.Loaded.Good.{good_few, good_range}
use Rattle.samples.proofs.Laws.Loaded.Left.{lines_length, lines_after}
use Rattle.samples.proofs.Laws.Loaded.Lines.{Fits, ended, load_stops}

-- The lines of a sheet with a good header are within it.
pub sheet_whole : (sheet : List ℕ) (lines : ℕ) → line_count sheet ≡ Some lines → line_start lines ≤ length sheet
sheet_whole sheet lines e = omega (arith, (formed sheet lines e).whole)

-- Question 11: without one nothing changes.
pub not_headed : (t : Tables) (sheet : List ℕ) (r : Refusal) → header_answer (Err r) ≡ read_header sheet
    → FollowsAll (Load sheet) t (loaded_answer (Err (before_lines r))) t
unfolding loaded_answer load_answer plain nearest_answer questions header_answer read_header
not_headed t sheet r told m shows =
    let no : None ≡ line_count sheet = ap (λ (a : HeaderAnswer). a.lines) told in
    let e : first_no (asks 11 (is_some (line_count sheet)) ∷ []) ≡ 11 = first_no_lem 11 (is_some (line_count sheet)) [] (rw (← no)) in
    let n : refusal_number r ≡ 11 = ap (λ (a : HeaderAnswer). a.number) told ∙ e in
    subst⁻¹ (λ (k : ℕ). Follows m (Change (Load sheet)) (load_answer k 0) t) n
    (refused_follows m (Load sheet) t 11 e (λ z. omega (arith, z)) shows.words)

-- Lines put after the first n rows.
module _ (n : ℕ) (ws sheet : List ℕ) (lines put : ℕ) (ws' : List ℕ) (told : LinesPut n ws sheet lines put ws') where
  -- The samples put.
  abbrev good : List Sample
  good = good_samples (sample_rows current (length ws) - n) (lines_from sheet 0 lines)

  -- There are rows for them, and lines.
  put_rows : n ≤ sample_rows current (length ws) → n + put ≤ sample_rows current (length ws)
  put_rows h = omega (arith, told.many, (good_few (sample_rows current (length ws) - n) (lines_from sheet 0 lines)).0)

  put_most : put ≤ lines
  put_most = omega (arith, told.many, (good_few (sample_rows current (length ws) - n) (lines_from sheet 0 lines)).1, lines_length sheet 0 lines)

  -- The first rows, and j more.
  rows_front : (j : ℕ) → j ≤ put → samples_from current ws' 0 (n + j) ≡ samples_from current ws 0 n ++ take j good
  rows_front j h =
      sym (samples_take ws' (n + j) (n + put) 0 (omega arith))
      ∙ ap (take (n + j)) told.rows
      ∙ ap (λ (k : ℕ). take (k + j) (samples_from current ws 0 n ++ good)) (sym (samples_length ws n 0))
      ∙ take-append-add (samples_from current ws 0 n) good j

  rows_kept : samples_from current ws' 0 n ≡ samples_from current ws 0 n
  rows_kept =
      ap (samples_from current ws' 0) (sym (add-zero n)) ∙ rows_front 0 (omega arith) ∙ append-nil (samples_from current ws 0 n)

-- What is known once lines are put on sound tables: x the settings, n the count, ws' the words after.
module _ (ws os sheet : List ℕ) (lines : ℕ) (x : Settings) (n put : ℕ) (ws' : List ℕ) (settings : x ≡ settings_in current ws) (counted : n ≡ count_in ws)
    (told : LinesPut n ws sheet lines put ws') where
  -- The good lines that find a row.
  abbrev lines_good : List Sample
  lines_good = good n ws sheet lines put ws' told

  module _ (m : Machine) (shows : Shows current m (pair ws os)) where
    -- The machine's samples, and the first j of those put.
    abbrev with_more : ℕ → List Sample
    with_more j = m.set.samples ++ take j lines_good

    these : samples_from current ws 0 n ≡ m.set.samples
    these = said ws os n counted m shows

    -- The rows that stood there are acceptable still.
    still_acceptable : Acceptable x ws' (length os) n
    unfolding with_samples with_set
    still_acceptable =
        let v = shows.valid in
        rows_acceptable ws os m shows x settings ws' n m.set.samples (rows_kept n ws sheet lines put ws' told ∙ these)
        v.tags_distinct v.in_range v.octants_fit

    -- The rows say the machine's samples and j more.
    more_said : (j : ℕ) → j ≤ put → samples_from current ws' 0 (n + j) ≡ with_more j
    more_said j h = rows_front n ws sheet lines put ws' told j h ∙ ap (λ (l : List Sample). l ++ take j lines_good) these

    -- They are acceptable exactly where those samples are a set which fits.
    more_fit : (j : ℕ) → j ≤ put → Acceptable x ws' (length os) (n + j) → Fits m (with_more j)
    more_fit j h a =
        record {
          tags_distinct = subst Distinct (more_said j h) a.tags_distinct;
          octants_fit = acceptable_octants ws os m shows x settings ws' (n + j) (with_more j) (more_said j h) a;
        }

    fit_more : (j : ℕ) → j ≤ put → Fits m (with_more j) → Acceptable x ws' (length os) (n + j)
    fit_more j h f =
        rows_acceptable ws os m shows x settings ws' (n + j) (with_more j) (more_said j h) f.tags_distinct
        (both_range m.set.samples (take j lines_good) shows.valid.in_range
        (front_range j lines_good (good_range (sample_rows current (length ws) - n) (lines_from sheet 0 lines) (lines_ranged sheet 0 lines))))
        f.octants_fit

    -- So the machine takes as many lines as are acceptable.
    machine_takes : line_count sheet ≡ Some lines → (j : ℕ) → j ≤ put → Acceptable x ws' (length os) (n + j)
        → ((j ≡ put → ⊥) → Acceptable x ws' (length os) (n + suc j) → ⊥)
        → step m (Change (Load sheet)) ≡ ended m (with_more j) j (lines_from sheet j (lines - j))
    unfolding questions accepted lines_of lines_by with_samples with_set
    machine_takes header j h a never =
        let room : sample_rows current (length ws) - n ≡ sample_rows current m.sample_length - length m.set.samples =
        ap₂ (λ (l k : ℕ). sample_rows current l - k) (sample_length_lem ws os m shows) (counted ∙ count_shown ws os m shows) in
        let few : j ≤ lines = omega (arith, h, put_most n ws sheet lines put ws' told) in
        step_accepted m (Change (Load sheet)) (alone_yes 11 (is_some (line_count sheet)) (rw header))
        ∙ rw header
        (load_stops m j (lines_from sheet 0 lines) m.set.samples 0 (sample_rows current (length ws) - n) room (omega (arith, h, told.many)) (more_fit j h a)
        (λ ne f. never (λ z. ne (z ∙ told.many)) (fit_more (suc j) (omega (arith, h, ne, told.many)) f))
        ∙ ap₂ (ended m (with_more j)) (zero-add j) (lines_after sheet j 0 lines few ∙ ap (λ (k : ℕ). lines_from sheet k (lines - j)) (zero-add j)))

  module _ (long : length ws' ≡ length ws) (header : line_count sheet ≡ Some lines) where
    -- What the calls after it ask: that of the longest run, of why it ends, and of the rebuilding.
    module _ (sound : Sound current (pair ws os)) where
      abbrev m₀ : Machine
      m₀ = sound.machine

      high_there : n + put ≤ sample_rows current (length ws')
      high_there =
          omega (arith, put_rows n ws sheet lines put ws' told (rows_there ws os sound n counted), ap (sample_rows current) long)

      pub asks_longest : (n ≤ n + put) × (n + put ≤ sample_rows current (length ws')) × Acceptable x ws' (length os) n
      asks_longest = (omega arith, high_there, still_acceptable m₀ sound.shows)

      module _ (kept : ℕ) (best : Longest x ws' (length os) n (n + put) kept) where
        pub asks_stopped : (kept ≤ sample_rows current (length ws')) × (kept - n ≤ kept) × (kept - n ≤ lines) × (line_start lines ≤ length sheet)
        asks_stopped = (
          omega (arith, high_there, best.most),
          omega arith,
          omega (arith, best.most, put_most n ws sheet lines put ws' told),
          sheet_whole sheet lines header,
        )

        pub asks_rebuild : (k : ℕ) → k ≤ kept → Space ws' os k 4096
        asks_rebuild k h = space_for ws os sound k ws' long (omega (arith, h, asks_stopped.0, ap (sample_rows current) long))

    -- A load that keeps the first rows that are acceptable, and says why it ends there, is the machine's.
    pub loads : (kept : ℕ) (r : Result ℕ Stop) (number : ℕ) (t' : Tables)
        → Longest x ws' (length os) n (n + put) kept → Stopped kept ws' sheet lines (kept - n) r
        → Rebuilt (codes_asked x kept (pair ws' os)) x kept (pair ws' os) number t' → FollowsAll (Load sheet) (pair ws os) (loaded_answer r) t'
    unfolding loaded_answer ended next_state
    loads kept r number t' best stopped rebuilt m shows =
        let j : ℕ = kept - n in
        let all : n + j ≡ kept = omega (arith, best.least) in
        let few : j ≤ put = omega (arith, best.most) in
        let zs : List Sample = with_more m shows j in
        let e : samples_from current ws' 0 kept ≡ zs = ap (samples_from current ws' 0) (sym all) ∙ more_said m shows j few in
        let takes : step m (Change (Load sheet)) ≡ ended m zs j (lines_from sheet j (lines - j)) =
        machine_takes m shows header j few (subst (Acceptable x ws' (length os)) (sym all) best.accepted)
        (λ ne a. best.ends (λ z. ne (omega (arith, all, z))) (subst (Acceptable x ws' (length os)) (add-suc n j ∙ ap suc all) a)) in
        record {
          answer =
              ap₂ load_answer
              (stopped.number
              ∙ ap₂ (λ (l : List Sample) (k : ℕ). stop_number l (sample_rows current k) (lines_from sheet j (lines - j))) e (long ∙ sample_length_lem ws os m shows))
              stopped.count
              ∙ ap (λ (o : Outcome). o.answer) (sym takes);
          tables =
              (rebuilt_acceptable x kept ws' os number t' best.accepted rebuilt).1
              ∙ rows_tables ws os m shows x settings ws' kept zs e long
              ∙ ap (λ (o : Outcome). tables_of current (with_set m o.set)) (sym takes);
        }
