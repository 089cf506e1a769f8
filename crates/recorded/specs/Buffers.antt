-- Buffers of a function's own: they have room for every volume, and the front of one holds what is put into it.
use Rattle.std.specs.Prelude.{ℕ, ◌*◌, ◌-◌, ◌≤◌, ◌≡◌, List, true, length, take, drop, replicate}
use Rattle.std.proofs.Common.{arith, le_trans, mul-le-mul_left, mul-le-mul_right, ap, ◌∙◌, take_at}
use Rattle.std.proofs.lemmas.List.{length-replicate}
use borrow.Rule.Slice.PartMut.{put_mid}
use Rattle.bounded.specs.Limits.{two_widths}
use Rattle.bounded.specs.Fronts.{equal_lent}
use Rattle.sizes.specs.declared.Layout.TheVariants.{FiveWords}
use Rattle.sizes.specs.declared.Sizes.{Sizes}
use Rattle.sizes.proofs.SizesLaws.{width_most}
use Rattle.record.specs.Flash.{Flash, flash}
use Rattle.rules.specs.Volume.{Volume}
use Rattle.rules.specs.laws.Volume.{FitsIn}

-- as many of n zeros as are lent
pub lent_length : (k n : ℕ) → k ≤ n → length {A = ℕ} (take (k - 0) (drop 0 (replicate n 0))) ≡ k
lent_length k n h = ap length (equal_lent k n 0 h) ∙ length-replicate k 0

-- the longest buffers of a volume
pub contents_room : (sizes : Sizes) → two_widths sizes.width ≡ true → sizes.slots ≤ 1024 → sizes.width * sizes.slots ≤ 65536
contents_room sizes allowed most = le_trans (mul-le-mul_right sizes.slots (width_most _ allowed)) (mul-le-mul_left 64 most)

module _ (sizes : Sizes) (v : Volume) (fits : FitsIn FiveWords two_widths sizes v) where
  pub contents_most : length v.flash.contents ≤ 65536
  contents_most =
      let e = fits.flash_sized.contents_sized in
      let l = contents_room sizes fits.allowed fits.bounds.slots_most in
      omega arith

  pub state_most : length v.state ≤ 1024
  state_most =
      let e = fits.state_sized in
      let b = fits.bounds in
      omega arith

-- what is put into the front of a buffer, lent again
abbrev again : ℕ → (buffer left : List ℕ) → List ℕ
again k buffer left = take (k - 0) (drop 0 (put_mid 0 (k - 0) buffer left))

lent_again : (k : ℕ) (buffer left : List ℕ) → length left ≡ k → again k buffer left ≡ left
lent_again k buffer left e = take_at left (drop (k - 0) buffer) (k - 0) (omega arith)

-- a copy of a flash in the fronts of two buffers
pub copy_again :
    (f : Flash) (room more words contents : List ℕ) → flash words contents ≡ f
    → flash (again (length f.words) room words) (again (length f.contents) more contents) ≡ f
copy_again f room more words contents e =
    let words_again = lent_again _ room words (ap (λ (g : Flash). length g.words) e) in
    let contents_again = lent_again _ more contents (ap (λ (g : Flash). length g.contents) e) in
    rw (words_again, contents_again) e
