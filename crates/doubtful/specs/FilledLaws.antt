-- The words of a filling: a loop that blanks the listed slots whose digits are 1.
use Rattle.std.specs.Prelude.{ℕ, suc, ◌+◌, ◌/◌, ◌%◌, ◌<◌, ◌≤◌, ◌≡◌, List, length, get_or, drop}
use Rattle.std.proofs.Common.{add-one, drop_of_length-le}
use Rattle.std.proofs.Math.Path.{refl}
use Rattle.std.proofs.Math.Seq.{drop-cons}
use Rattle.bounded.specs.Parts.{put_part}
use Rattle.sizes.specs.declared.Layout.TheVariants.{FiveWords}
use Rattle.record.specs.Slot.{encoded, blank_record}
use Rattle.upkeep.specs.Doubtful.{absent_in}
use Rattle.upkeep.proofs.laws.Fillings.{there, absent}
use Rattle.doubtful.specs.Filled.{blanked_words}

-- the words with the slots blank that stand from place i on, by these digits
unfoldable pub rest_blanked : (list : List ℕ) → (i digits : ℕ) → List ℕ → List ℕ
rest_blanked list i digits words = blanked_words words (absent_in (drop i list) digits)

module _ (list : List ℕ) where
  pub rest_all : (m : ℕ) (words : List ℕ) → rest_blanked list 0 m words ≡ blanked_words words (absent_in list m)
  unfolding rest_blanked
  rest_all m words = refl

  pub rest_none : (i digits : ℕ) (words : List ℕ) → length list ≤ i → rest_blanked list i digits words ≡ words
  unfolding rest_blanked absent_in blanked_words
  rest_none i digits words h = rw (drop_of_length-le list h)

  module _ (i digits : ℕ) (words : List ℕ) (inside : i < length list) where
    -- the place's digit is 0: what is left to do is the rest
    pub rest_stays : digits % 2 ≡ 0 → rest_blanked list i digits words ≡ rest_blanked list (i + 1) (digits / 2) words
    unfolding rest_blanked
    rest_stays e = rw (add-one i, drop-cons list i 0 inside, there (get_or list i 0) (drop (suc i) list) digits e)

    -- it is 1: the slot is blank, and the rest is left to do
    pub rest_blanks : ¬ (digits % 2 ≡ 0) → rest_blanked list i digits words ≡ rest_blanked list (i + 1) (digits / 2) (put_part 5 (get_or list i 0) (encoded FiveWords blank_record) words)
    unfolding rest_blanked blanked_words
    rest_blanks d = rw (add-one i, drop-cons list i 0 inside, absent (get_or list i 0) (drop (suc i) list) digits d)
