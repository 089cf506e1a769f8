-- Versions noted page by page: two stores a page, and what a loop of them leaves.
use Rattle.std.specs.Prelude.{ℕ, zero, suc, ◌+◌, ◌*◌, ◌≤◌, ◌<◌, ◌≡◌, List, [], ◌∷◌, Bool, get_or, set, take, drop}
use Rattle.std.proofs.Math.Nat.{add-zero}
use Rattle.std.proofs.Common.{add-one, arith, sym, ◌∙◌, append_assoc, get_or-set_other}
use Rattle.std.proofs.Math.Path.{refl, ap, ap₂}
use Rattle.std.proofs.Math.ListN.{length}
use Rattle.std.proofs.lemmas.List.Edits.{sets-eq}
use Rattle.bounded.specs.Parts.{part, put_at, put_part}
use Rattle.bounded.specs.PartsLaws.{part_at, part_put_other}
use Rattle.bounded.specs.Fill.{filled, filled_length, filled_more, filled_all}
use Rattle.state.specs.State.{state_at}
use Rattle.doubtful.specs.Versions.{lowest_noted, highest_noted, page_noted, versions_noted}

-- a part that is not written yet is as it was
filled_rest : (w n : ℕ) (f : ℕ → List ℕ) (l : List ℕ) → length l ≡ w * n → ((k : ℕ) → length (f k) ≡ w) → (k : ℕ) → k ≤ n → (j : ℕ) → k ≤ j → part w j (filled w f k l) ≡ part w j l
unfolding filled
filled_rest w n f l size parts zero h j b = refl
filled_rest w n f l size parts (suc k) h j b =
    part_put_other w n k j (f k) (filled w f k l) (omega arith) (parts k) (filled_length w f l n size parts k (omega arith)) (λ e. omega arith)
    ∙ filled_rest w n f l size parts k (omega arith) j (omega arith)

-- two stores from 2p on write page p's words
two_stored : (l : List ℕ) (p a b : ℕ) → 2 * p + 2 ≤ length l → set (set l (2 * p) a) (2 * p + 1) b ≡ put_part 2 p (a ∷ b ∷ []) l
unfolding put_part put_at
two_stored l p a b h = rw (add-one (2 * p)) (sets-eq (a ∷ b ∷ []) l (2 * p) h ∙ append_assoc (take (2 * p) l) (a ∷ b ∷ []) (drop (2 * p + 2) l))

-- the words with the pages below n noted
abbrev pub noted_below : (first : Bool) → (state out : List ℕ) → (n : ℕ) → List ℕ
noted_below first state out n = filled 2 (page_noted first state out) n out

module _ (P : ℕ) (first : Bool) (state out : List ℕ) (size : length out ≡ 2 * P) where
  two_words : (p : ℕ) → length (page_noted first state out p) ≡ 2
  unfolding page_noted
  two_words p = refl

  pub noted_all : noted_below first state out P ≡ versions_noted P first state out
  unfolding versions_noted
  noted_all = filled_all 2 (page_noted first state out) out P size two_words

  module _ (p : ℕ) (inside : p < P) {l : List ℕ} (so_far : l ≡ noted_below first state out p) where
    -- page p's words are as they were
    word_kept : (j : ℕ) → j < 2 → get_or l (2 * p + j) 0 ≡ get_or out (2 * p + j) 0
    word_kept j h =
        sym (part_at 2 p l j 0 h)
        ∙ ap (λ (x : List ℕ). get_or (part 2 p x) j 0) so_far
        ∙ ap (λ (x : List ℕ). get_or x j 0) (filled_rest 2 P (page_noted first state out) out size two_words p (omega arith) p (omega arith))
        ∙ part_at 2 p out j 0 h

    -- and are stored one by one
    module _
        {version : ℕ}
        (is_version : version ≡ (state_at state p).committed)
        {low high : ℕ}
        (is_low : low ≡ lowest_noted first (get_or l (2 * p) 0) version)
        (is_high : high ≡ highest_noted first (get_or (set l (2 * p) low) (2 * p + 1) 0) version)
      where
        pub noted_more : set (set l (2 * p) low) (2 * p + 1) high ≡ noted_below first state out (p + 1)
        unfolding page_noted
        noted_more =
            let n = ap length so_far ∙ filled_length 2 (page_noted first state out) out P size two_words p (omega arith) in
            two_stored l p low high (omega arith)
            ∙ ap₂ (put_part 2 p) (ap₂ (λ (a b : ℕ). a ∷ b ∷ []) low_noted high_noted) so_far
            ∙ filled_more 2 (page_noted first state out) out p
          where
            low_noted : low ≡ lowest_noted first (get_or out (2 * p) 0) (state_at state p).committed
            low_noted = is_low ∙ ap₂ (lowest_noted first) (rw add-zero at (word_kept 0 (omega arith))) is_version

            high_noted : high ≡ highest_noted first (get_or out (2 * p + 1) 0) (state_at state p).committed
            high_noted = is_high ∙ ap₂ (highest_noted first) (get_or-set_other l (2 * p) (2 * p + 1) low 0 (λ e. omega arith) ∙ word_kept 1 (omega arith)) is_version
