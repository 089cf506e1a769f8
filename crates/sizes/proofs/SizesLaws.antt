-- What the tests of sizes and lengths say, as facts.
use Rattle.std.specs.Prelude.{ℕ, ◌*◌, ◌≤◌, ◌≡◌, ◌↔◌, ◌⊎◌, List, true, ◌&&◌, eqb, length}
use Rattle.std.proofs.Common.{arith, le_trans, mul-le-mul_left, mul-le-mul_right, inl, inr}
use Rattle.std.proofs.Math.Bool.{Bool}
use Rattle.std.proofs.Math.Dec.{leb}
use borrow.Author.Tests.{leb-true, le-leb, eqb-true, eq-eqb}
use Rattle.bounded.specs.Limits.{max_pages, max_slots, Widths, two_widths}
use Rattle.bounded.specs.Choice.{both, both_left, both_right, disjoined, equal_test}
use Rattle.sizes.specs.declared.Layout.{Layout}
use Rattle.sizes.specs.declared.Layout.TheVariants.{FiveWords, FourWords}
use Rattle.sizes.specs.declared.Sizes.{Sizes}
use Rattle.sizes.specs.Sizes.{sizes_ok, stride_of, words_fit_in, words_fit, contents_fit, state_fits}
use Rattle.sizes.specs.SizesLaws.{SizesFacts}

module _ (widths : Widths) (sizes : Sizes) where
  pub sizes_facts : sizes_ok widths sizes ≡ true → SizesFacts sizes.pages sizes.slots × (widths sizes.width ≡ true)
  unfolding sizes_ok
  sizes_facts e =
      let P = sizes.pages in
      let S = sizes.slots in
      let last : Bool = leb S max_slots && widths sizes.width in
      let e1 = both_right (leb 1 P) (leb P max_pages && (leb P S && last)) e in
      let e2 = both_right (leb P max_pages) (leb P S && last) e1 in
      let e3 = both_right (leb P S) last e2 in (
        record {
          one_page = leb-true 1 P (both_left (leb 1 P) (leb P max_pages && (leb P S && last)) e);
          pages_most = leb-true P max_pages (both_left (leb P max_pages) (leb P S && last) e1);
          slots_least = leb-true P S (both_left (leb P S) last e2);
          slots_most = leb-true S max_slots (both_left (leb S max_slots) (widths sizes.width) e3);
        },
        both_right (leb S max_slots) (widths sizes.width) e3,
      )

  pub sizes_test : SizesFacts sizes.pages sizes.slots → widths sizes.width ≡ true → sizes_ok widths sizes ≡ true
  unfolding sizes_ok
  sizes_test s allowed =
      both (le-leb _ _ s.one_page) (both (le-leb _ _ s.pages_most) (both (le-leb _ _ s.slots_least) (both (le-leb _ _ s.slots_most) allowed)))

  pub sizes_exactly : (sizes_ok widths sizes ≡ true) ↔ (SizesFacts sizes.pages sizes.slots × (widths sizes.width ≡ true))
  sizes_exactly = (sizes_facts, λ f. sizes_test f.0 f.1)

-- ---- lengths

pub stride_most : (layout : Layout) → stride_of layout ≤ 5
stride_most FiveWords = omega arith
stride_most FourWords = omega arith

pub words_fit_in_lem : (layout : Layout) (S : ℕ) (words : List ℕ) → (words_fit_in layout S words ≡ true) ↔ (length words ≡ stride_of layout * S)
unfolding words_fit_in
words_fit_in_lem layout S words = (eqb-true (length words) (stride_of layout * S), eq-eqb (length words) (stride_of layout * S))

pub words_fit_exactly : (S : ℕ) (words : List ℕ) → (words_fit S words ≡ true) ↔ (length words ≡ 5 * S)
words_fit_exactly S words = words_fit_in_lem FiveWords S words

pub contents_fit_exactly : (w S : ℕ) (contents : List ℕ) → (contents_fit w S contents ≡ true) ↔ (length contents ≡ w * S)
unfolding contents_fit
contents_fit_exactly w S contents = (eqb-true (length contents) (w * S), eq-eqb (length contents) (w * S))

pub state_fits_exactly : (P : ℕ) (state : List ℕ) → (state_fits P state ≡ true) ↔ (length state ≡ 4 * P)
unfolding state_fits
state_fits_exactly P state = (eqb-true (length state) (4 * P), eq-eqb (length state) (4 * P))

-- a product of two 32-bit numbers fits 64 bits
pub words_product : (a b : ℕ) → a ≤ 4294967295 → b ≤ 4294967295 → a * b ≤ 18446744065119617025
words_product a b h l = le_trans (mul-le-mul_right b h) (mul-le-mul_left 4294967295 l)

-- ---- the two widths

-- "32 or 64 bytes per slot"
pub two_widths_exactly : (w : ℕ) → (two_widths w ≡ true) ↔ ((w ≡ 32) ⊎ (w ≡ 64))
unfolding two_widths
two_widths_exactly w = disjoined (eqb w 32) (eqb w 64) (equal_test w 32) (equal_test w 64)

-- so a slot's bytes fit into 64
pub width_most : (w : ℕ) → two_widths w ≡ true → w ≤ 64
width_most w e = by ((two_widths_exactly w).0 e)
  where
    by : (w ≡ 32) ⊎ (w ≡ 64) → w ≤ 64
    by (inl h) = omega arith
    by (inr h) = omega arith
