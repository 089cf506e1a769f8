-- Versions noted filling by filling: where one has recovered, the words are each page's lowest and highest so far.
use Rattle.std.specs.Prelude.{ℕ, zero, suc, ◌+◌, ◌*◌, ◌≤◌, ◌<◌, ◌≡◌, refl, Bool, true, false, eqb, length}
use Rattle.std.proofs.Common.{add-one, arith, sym, ◌∙◌}
use Rattle.std.proofs.Math.Path.{ap, ap₂}
use mathlib.Core.List.{List, [], ◌∷◌}
use Rattle.std.proofs.Math.ListN.{get_or}
use borrow.Author.Tests.{eqb-true, eq-eqb, ne_eqb}
use Rattle.bounded.specs.Limits.{no_number, Widths}
use Rattle.bounded.specs.Choice.{on_eq, on_test}
use Rattle.bounded.specs.Below.{min_below, max_below, list_below}
use Rattle.bounded.specs.BelowLaws.{max_bound}
use Rattle.bounded.specs.Members.{count_more, count_stays}
use Rattle.bounded.specs.Passing.{list_exactly}
use Rattle.bounded.specs.Parts.{join_parts}
use Rattle.bounded.specs.PartsLaws.{join_parts_cong}
use Rattle.sizes.specs.declared.Sizes.{Sizes}
use Rattle.record.specs.Flash.{Flash}
use Rattle.upkeep.specs.Doubtful.{absent_in, fillings, filled_with, recovery_of, recovers, version_filled, recovering, lowest_filled, highest_filled, doubtful_words}
use Rattle.upkeep.proofs.laws.Doubtful.{version_below, low, high, low_is, high_is, low_word, high_word}
use Rattle.doubtful.specs.Versions.{lowest_noted, highest_noted, page_noted, versions_noted, filling_noted}

-- ---- the lowest, and how many pass

-- the lowest is at most what it begins with
min_most : (b : ℕ) (f : ℕ → ℕ) (n : ℕ) → min_below b n f ≤ b
unfolding min_below
min_most b f zero = omega arith
min_most b f (suc n) = let i = min_most b f n in omega arith

-- and is that, where every number is
min_same : (b : ℕ) (f : ℕ → ℕ) (n : ℕ) → ((k : ℕ) → k < n → f k ≡ b) → min_below b n f ≡ b
unfolding min_below
min_same b f zero same = refl
min_same b f (suc n) same =
    let i = min_same b f n (λ k h. same k (omega arith)) in let e = same n (omega arith) in omega arith

-- where none passes, each number fails
none_passes : (f : ℕ → Bool) (n : ℕ) → length (list_below n f) ≡ 0 → (k : ℕ) → k < n → f k ≡ false
none_passes f n e k h = on_test (f k) (λ y. absurd (let w = (list_exactly f n k).1 (h, y) in let b = w.1 in omega arith)) (λ y. y)

-- ---- fillings

module _ (widths : Widths) (sizes : Sizes) (f : Flash) (slots : List ℕ) where
  -- of the fillings below m, how many recover
  abbrev recovering_below : (m : ℕ) → ℕ
  recovering_below m = length (list_below m (recovers widths sizes f slots))

  -- and each page's lowest and highest version
  abbrev lowest_below : (m p : ℕ) → ℕ
  lowest_below m p = min_below no_number m (low widths sizes f slots p)

  abbrev highest_below : (m p : ℕ) → ℕ
  highest_below m p = max_below m (high widths sizes f slots p)

  abbrev ends_below : (m : ℕ) → List ℕ
  ends_below m = join_parts sizes.pages (λ p. lowest_below m p ∷ highest_below m p ∷ [])

  -- The fillings below m are noted: `count` of them recover, and where one does the words are the ends, else as they were.
  pub record FillingsNoted (before : List ℕ) (m count : ℕ) (out : List ℕ) : Type 0 where
    pub counted : count ≡ recovering_below m
    pub kept : count ≡ 0 → out ≡ before
    pub ends : ¬ (count ≡ 0) → out ≡ ends_below m

  pub noted_none : (out : List ℕ) → FillingsNoted out 0 0 out
  unfolding list_below
  noted_none out = record { counted = refl; kept = λ e. refl; ends = λ d. absurd (d refl) }

  -- of all fillings: what the call gives
  pub noted_every : (before : List ℕ) (m count : ℕ) (out : List ℕ) → m ≡ fillings slots → FillingsNoted before m count out → (count ≡ recovering widths sizes f slots) × ((count ≡ 0 → out ≡ before) × (¬ (count ≡ 0) → out ≡ doubtful_words widths sizes f slots))
  unfolding recovering doubtful_words lowest_filled highest_filled
  noted_every before m count out e n = (n.counted ∙ ap recovering_below e, (n.kept, λ d. n.ends d ∙ ap ends_below e))

  -- one filling more
  module _
      (before : List ℕ)
      (m count : ℕ)
      (out : List ℕ)
      (so_far : FillingsNoted before m count out)
      {found : Bool}
      (is_found : found ≡ recovers widths sizes f slots m)
      {left : List ℕ}
      (is_left : left ≡ filling_noted widths sizes f slots m (eqb count 0) out)
    where
      -- that does not recover: all is as it was
      module _ (none : found ≡ false) where
        fails : recovers widths sizes f slots m ≡ false
        fails = sym is_found ∙ none

        left_same : left ≡ out
        unfolding filling_noted
        left_same = is_left ∙ rw (filling_noted, fails)

        ends_same : ends_below m ≡ ends_below (m + 1)
        unfolding min_below max_below
        ends_same =
            join_parts_cong sizes.pages _ _ (λ p h. rw (add-one m, fails)
            (let b = min_most no_number (low widths sizes f slots p) m in
            ap₂ (λ (a b : ℕ). a ∷ b ∷ []) (omega arith) (omega arith)))

        pub noted_stays : {next : ℕ} → next ≡ count → FillingsNoted before (m + 1) next left
        noted_stays n = record {
          counted = n ∙ so_far.counted ∙ sym (count_stays (recovers widths sizes f slots) m fails) ∙ ap recovering_below (sym (add-one m));
          kept = λ e. left_same ∙ so_far.kept (sym n ∙ e);
          ends = λ d. left_same ∙ so_far.ends (λ z. d (n ∙ z)) ∙ ends_same;
        }

      -- that recovers: its versions are noted
      module _ (one : found ≡ true) where
        succeeds : recovers widths sizes f slots m ≡ true
        succeeds = sym is_found ∙ one

        abbrev recovery : List ℕ
        recovery = (recovery_of widths sizes (filled_with sizes.width f (absent_in slots m))).left

        page_noted_lem : (p : ℕ) → p < sizes.pages → page_noted (eqb count 0) recovery out p ≡ lowest_below (m + 1) p ∷ highest_below (m + 1) p ∷ []
        unfolding page_noted lowest_noted highest_noted min_below max_below recovers version_filled
        page_noted_lem p h =
            let v = version_below widths sizes (filled_with sizes.width f (absent_in slots m)) (eqb-true _ 0 succeeds) p h in
            let l = low_is widths sizes f slots p m succeeds in
            let g = high_is widths sizes f slots p m succeeds in
            on_eq count 0
            (λ z.
            let none = none_passes (recovers widths sizes f slots) m (sym so_far.counted ∙ z) in
            let a = min_same no_number (low widths sizes f slots p) m (λ k b. rw (none k b)) in
            let b = max_bound (high widths sizes f slots p) m 0 (λ k b. rw (none k b) (omega arith)) in
            rw (add-one m, eq-eqb count 0 z) (ap₂ (λ (a b : ℕ). a ∷ b ∷ []) (omega arith) (omega arith)))
            (λ d.
            let a = ap (λ (o : List ℕ). get_or o (2 * p) 0) (so_far.ends d) ∙ low_word sizes.pages (lowest_below m) (highest_below m) p h in
            let b = ap (λ (o : List ℕ). get_or o (2 * p + 1) 0) (so_far.ends d) ∙ high_word sizes.pages (lowest_below m) (highest_below m) p h in
            rw (add-one m, ne_eqb count 0 d) (ap₂ (λ (a b : ℕ). a ∷ b ∷ []) (omega arith) (omega arith)))

        pub noted_recovers : {next : ℕ} → next ≡ count + 1 → FillingsNoted before (m + 1) next left
        unfolding filling_noted versions_noted
        noted_recovers n = record {
          counted = let c = so_far.counted in let more = count_more (recovers widths sizes f slots) m succeeds in rw (add-one m) (omega arith);
          kept = λ e. absurd (omega arith);
          ends = λ d. is_left ∙ rw (filling_noted, succeeds) (join_parts_cong sizes.pages _ _ page_noted_lem);
        }
